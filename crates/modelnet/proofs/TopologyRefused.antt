-- What reading and distilling a topology refuse is what its commands refuse.
use Rattle.std.proofs.Common.{◌<◌, ℕ, List, [], ◌∷◌, refl, inl, inr}
use Rattle.mn_base.specs.declared.limits.TheConstants.{PIPES_MAX}
use Rattle.mn_base.specs.declared.refusal.Refusal.{Refusal}
use Rattle.mn_base.specs.declared.refusal.Refusal.TheVariants as refusal
use Rattle.mn_base.specs.Refused.{IfFault}
use Rattle.topo.specs.TopologyView.{TopologyView}
use Rattle.gml_reader.specs.declared.faults.GmlFault.{GmlFault}
use Rattle.gml_reader.specs.Texts.{Reads, IsFirstFault}
use Rattle.distill.specs.declared.modes.Mode.{Mode}
use Rattle.distill.specs.declared.pipes.TooManyPipes.{TooManyPipes}
use Rattle.distill.specs.PipeCount.{HasPipeCount}
use Rattle.modelnet.specs.Exact.{NoMemoryOrRefuses}
use Rattle.modelnet.specs.Statuses.{topology_refusal, pipes_refusal}
use Rattle.modelnet.specs.TheCommands.{topology_refuses}

pub topology_refused : (mode : Mode) (text : List ℕ) (refused : Refusal GmlFault) → IfFault refused (IsFirstFault text)
    → NoMemoryOrRefuses (topology_refuses mode) (text ∷ []) (topology_refusal refused)
topology_refused mode text refusal.NoMemory is = inl refl
topology_refused mode text (refusal.Fault fault) is = inr is

pub pipes_refused : (mode : Mode) (text : List ℕ) (topology : TopologyView) (refused : Refusal TooManyPipes) → Reads text topology
    → IfFault refused (λ f. HasPipeCount topology mode f.count × (PIPES_MAX < f.count))
    → NoMemoryOrRefuses (topology_refuses mode) (text ∷ []) (pipes_refusal refused)
pipes_refused mode text topology refusal.NoMemory reads is = inl refl
pipes_refused mode text topology (refusal.Fault fault) reads is =
    inr (record { topology = topology; reads = reads; count_is = is.0; too_many = is.1 })
