-- `distill` reads one role and writes one.
use Rattle.std.proofs.Common.{[], codes, refl}
use Rattle.mn_edge.specs.declared.role.Role.TheVariants.{Topology, Screen}
use Rattle.mn_words.specs.Order.{DistillView}
use Rattle.modelnet.specs.declared.read_limits.ReadLimits.{ReadLimits}
use Rattle.modelnet.specs.declared.status.Status.{Status}
use Rattle.modelnet.specs.Roles.{input, output}
use Rattle.modelnet.specs.TheCommands.{topology_refuses, distill_command}
use Rattle.modelnet.proofs.DistillSound.{distill_is_sound}
use Rattle.modelnet.proofs.OneToOne.{IsOneToOne}

-- nothing is refused before the topology is read
nothing_refused : (order : DistillView) (status : Status) → topology_refuses order.mode [] status → ⊥
nothing_refused order status is = is

pub distill_is_one : (limits : ReadLimits) (order : DistillView)
    → IsOneToOne (distill_command limits order) (input Topology order.topology limits.topology) (output Screen (codes "-"))
distill_is_one limits order = record {
  inputs = refl;
  outputs = refl;
  accepts = nothing_refused order;
  apart = λ is. cc;
  sound = distill_is_sound limits order;
}
