-- How GML spells the keys of a topology.
use Rattle.std.specs.Prelude.{ℕ, List, codes}
use Rattle.topo.specs.declared.keys.Key.{Key}
use Rattle.topo.specs.declared.keys.Key.TheVariants.{Directed, Node, Edge, Id, Address, Source, Target, Bandwidth, Latency, Queue, Loss}

abbrev pub key_name : Key → List ℕ
key_name Directed = codes "directed"
key_name Node = codes "node"
key_name Edge = codes "edge"
key_name Id = codes "id"
key_name Address = codes "address"
key_name Source = codes "source"
key_name Target = codes "target"
key_name Bandwidth = codes "bandwidth"
key_name Latency = codes "latency"
key_name Queue = codes "queue"
key_name Loss = codes "loss"
