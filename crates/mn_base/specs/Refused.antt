-- Refusals by their cause.
use Rattle.std.specs.Prelude.{◌≡◌, Result, Ok, Err}
use Rattle.mn_base.specs.declared.refusal.Refusal.{Refusal}
use Rattle.mn_base.specs.declared.refusal.Refusal.TheVariants as refusal
use Rattle.mn_base.specs.declared.refusal.Refusal.TheVariants.{Fault}

-- a fact of the fault; out of memory is free
abbrev pub IfFault : {F : Type 0} → Refusal F → (F → Type 0) → Type 0
IfFault refusal.NoMemory P = Unit {0}
IfFault (Fault f) P = P f

-- the answer is this value, or out of memory
abbrev pub Gives : {X F : Type 0} → X → Result X (Refusal F) → Type 0
Gives value (Ok given) = given ≡ value
Gives value (Err refusal.NoMemory) = Unit {0}
Gives value (Err (Fault f)) = ⊥

-- the answer is this fault, or out of memory
abbrev pub Refuses : {X F : Type 0} → F → Result X (Refusal F) → Type 0
Refuses fault (Ok given) = ⊥
Refuses fault (Err refusal.NoMemory) = Unit {0}
Refuses fault (Err (Fault f)) = f ≡ fault

-- out of memory stays, and a fault becomes one to which `image` maps it
abbrev pub MapsFault : {F G : Type 0} → (F → G → Type 0) → Refusal F → Refusal G → Type 0
MapsFault image refusal.NoMemory refusal.NoMemory = Unit {0}
MapsFault image refusal.NoMemory (Fault g) = ⊥
MapsFault image (Fault f) refusal.NoMemory = ⊥
MapsFault image (Fault f) (Fault g) = image f g
