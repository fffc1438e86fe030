-- Distilling keeps least latencies between edge nodes.
use Rattle.std.specs.Prelude.{ℕ, List, map}
use Rattle.mn_base.specs.Among.{Among}
use Rattle.topo.specs.TopologyView.{TopologyView}
use Rattle.topo.specs.Topologies.{IsTopology}
use Rattle.routes.specs.declared.graph.Arc.{Arc}
use Rattle.routes.specs.SameLatency.{HaveSameLatency}
use Rattle.topo.specs.Nodes.{edge_nodes_of}
use Rattle.distill.specs.declared.modes.Mode.{Mode}
use Rattle.distill.specs.declared.pipes.DistilledPipe.{DistilledPipe}
use Rattle.distill.specs.Mesh.{arcs_of}
use Rattle.distill.specs.Modes.{IsMode}
use Rattle.distill.specs.Distilled.{DistilledView, IsDistilled}

-- a pipe as an arc that weighs its latency in microseconds
abbrev pub arc_of_pipe : DistilledPipe → Arc
arc_of_pipe pipe = let params = pipe.params in record { from = pipe.from; to = pipe.to; weight = params.latency_us }

abbrev pub arcs_of_pipes : List DistilledPipe → List Arc
arcs_of_pipes pipes = map arc_of_pipe pipes

-- in every mode, between every two edge nodes
abbrev pub LatencyStays : Type 0
LatencyStays = (t : TopologyView) (mode : Mode) (tick_ns : ℕ) (d : DistilledView)
    → IsTopology t → IsMode mode → IsDistilled t mode tick_ns d
    → (a b : ℕ) → Among a (edge_nodes_of t.nodes) → Among b (edge_nodes_of t.nodes)
    → HaveSameLatency (arcs_of t.links) (arcs_of_pipes d.pipes) a b
