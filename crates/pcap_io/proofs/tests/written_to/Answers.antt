use Rattle.std.proofs.Common.{ap}
use Rattle.mn_edge.specs.declared.role.Role.TheVariants.{Out}
use Rattle.mn_edge.specs.StreamView.{StreamView}
use Rattle.pcap_io.proofs.tests.written_to.Goals as goal

-- no role of a new host is active
pub begin-requires : goal.begin-requires
begin-requires g c = ap (λ (stream : StreamView). stream.active) (c.in_ok-host.ensures.roles Out)
