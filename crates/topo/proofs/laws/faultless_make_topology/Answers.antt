use Rattle.topo.proofs.Faultless.{faultless_make_topology}
use Rattle.topo.proofs.laws.faultless_make_topology.Goals as goal

pub returns : goal.returns
returns c = faultless_make_topology
