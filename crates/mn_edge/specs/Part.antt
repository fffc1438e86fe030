-- The part of one role in a host, and what a call on that role does to it.
use Rattle.std.specs.Prelude.{◌≡◌, ℕ, ◌+◌, ◌-◌, ◌^◌, min, ◌≤◌, Bool, true, false, List, Option, Some}
use Rattle.std.specs.Io.KnownBytes.{prepend_known, append_known}
use Rattle.mn_base.specs.Causes.{Rose}

-- What a host says of one role. It may tell which bytes are left to read and which were written, or not (None).
pub record Part : Type 0 where
  pub left : Option (List ℕ)
  pub written : Option (List ℕ)
  -- that of the last begin that went well
  pub name : Option (List ℕ)
  pub active : Bool
  -- how many calls failed; it never falls
  pub faults : ℕ
  -- how many begins went well, up to 2^64 - 1
  pub begins : ℕ

-- one more, up to 2^64 - 1
abbrev pub one_more : ℕ → ℕ
one_more count = min (count + 1) (2 ^ 64 - 1)

-- the count of faults rose, and nothing else changed
pub record Fails (old new : Part) : Type 0 where
  pub rose : Rose old.faults new.faults
  pub later : old.faults ≤ new.faults
  pub same : new ≡ record old { faults = new.faults }

-- the role became active under that name, and was begun once more
pub record Begins (text : List ℕ) (old new : Part) : Type 0 where
  pub later : old.faults ≤ new.faults
  pub same : new ≡ record old { name = Some text; active = true; faults = new.faults; begins = one_more old.begins }

-- the bytes that were left lost these at their front
pub record Takes (bytes : List ℕ) (old new : Part) : Type 0 where
  pub later : old.faults ≤ new.faults
  pub taken : old.left ≡ prepend_known bytes new.left
  pub same : new ≡ record old { left = new.left; faults = new.faults }

-- the written bytes grew by these
pub record Adds (bytes : List ℕ) (old new : Part) : Type 0 where
  pub later : old.faults ≤ new.faults
  pub same : new ≡ record old { written = append_known old.written bytes; faults = new.faults }

-- the role became inactive
pub record Finishes (old new : Part) : Type 0 where
  pub later : old.faults ≤ new.faults
  pub same : new ≡ record old { active = false; faults = new.faults }
