-- One role of the real host: what it can tell, which is no bytes.
use Rattle.std.specs.Prelude.{ℕ, Bool, false, List, Option, None, Result, Ok, Err}
use Rattle.mn_edge.specs.declared.host.Failed.{Failed}
use Rattle.mn_edge.specs.Part.{Part, one_more}

-- what the real host tells of one role
pub record RealRoleView : Type 0 where
  pub name : Option (List ℕ)
  pub active : Bool
  pub faults : ℕ
  pub begins : ℕ

-- a role before any call
abbrev pub unused_role : RealRoleView
unused_role = record { name = None; active = false; faults = 0; begins = 0 }

-- a part of which no bytes are told
abbrev pub silent : RealRoleView → Part
silent role = record {
  left = None;
  written = None;
  name = role.name;
  active = role.active;
  faults = role.faults;
  begins = role.begins;
}

-- the count of faults after a call: one more where it failed, up to 2^64 - 1, and as it was where it didn't
abbrev pub faults_after : {T : Type 0} → ℕ → Result T Failed → ℕ
faults_after count (Ok _) = count
faults_after count (Err _) = one_more count
