-- A weaker fact of a refusal's fault.
use Rattle.mn_base.specs.declared.refusal.Refusal.{Refusal}
use Rattle.mn_base.specs.declared.refusal.Refusal.TheVariants.{NoMemory, Fault}
use Rattle.mn_base.specs.Refused.{IfFault}

pub IfFault-weaker : {F : Type 0} (e : Refusal F) (P Q : F → Type 0) → ((f : F) → P f → Q f) → IfFault e P → IfFault e Q
IfFault-weaker NoMemory P Q weaker fact = tt
IfFault-weaker (Fault f) P Q weaker fact = weaker f fact
