-- What a command does to one role of a host: begin it under its name, read or write it whole, finish it.
use Rattle.std.specs.Prelude.{◌≡◌, ◌⊎◌, ◌<◌, ◌≤◌, ℕ, true, false, List, ◌++◌, length, Some, Result, Ok, Err}
use Rattle.std.specs.Io.KnownBytes.{prepend_known, append_known, IsAtEnd}
use Rattle.mn_base.specs.Causes.{Rose}
use Rattle.mn_edge.specs.declared.role.Role.{Role}
use Rattle.mn_edge.specs.Part.{Part, one_more}
use Rattle.modelnet.specs.declared.status.Status.{Status}
use Rattle.modelnet.specs.declared.status.Status.TheVariants.{NoMemory, ReadFault, WriteFault, TooLarge}

-- a role that a command reads: its name, and the most bytes that are read of it
pub record Input : Type 0 where
  pub role : Role
  pub name : List ℕ
  pub limit : ℕ

-- a role that a command writes, and its name
pub record Output : Type 0 where
  pub role : Role
  pub name : List ℕ

abbrev pub input : Role → List ℕ → ℕ → Input
input role name limit = record { role = role; name = name; limit = limit }

abbrev pub output : Role → List ℕ → Output
output role name = record { role = role; name = name }

-- nothing but the count of faults changed
pub record IsUntouched (old new : Part) : Type 0 where
  pub later : old.faults ≤ new.faults
  pub same : new ≡ record old { faults = new.faults }

-- the role was begun once, under this name, these bytes of it were taken, and it is still active
pub record IsReading (name bytes : List ℕ) (old new : Part) : Type 0 where
  pub later : old.faults ≤ new.faults
  pub taken : old.left ≡ prepend_known bytes new.left
  pub same : new ≡ record old { left = new.left; name = Some name; active = true; faults = new.faults; begins = one_more old.begins }

-- the role was begun once, under this name, all that was left of it were these bytes, which were read, and it was finished
pub record WasRead (name bytes : List ℕ) (old new : Part) : Type 0 where
  pub later : old.faults ≤ new.faults
  pub taken : old.left ≡ prepend_known bytes new.left
  pub ends : IsAtEnd new.left
  pub same : new ≡ record old { left = new.left; name = Some name; active = false; faults = new.faults; begins = one_more old.begins }

-- the role was begun once, under this name, its written bytes grew by these, and it is still active
pub record IsWriting (name bytes : List ℕ) (old new : Part) : Type 0 where
  pub later : old.faults ≤ new.faults
  pub same : new ≡ record old {
    written = append_known old.written bytes;
    name = Some name;
    active = true;
    faults = new.faults;
    begins = one_more old.begins;
  }

-- the role was begun once, under this name, its written bytes grew by these, and it was finished
pub record WasWritten (name text : List ℕ) (old new : Part) : Type 0 where
  pub later : old.faults ≤ new.faults
  pub same : new ≡ record old {
    written = append_known old.written text;
    name = Some name;
    active = false;
    faults = new.faults;
    begins = one_more old.begins;
  }

-- reading stopped after so many bytes at most: the role is untouched, or still active
pub record StopsReading (name : List ℕ) (limit : ℕ) (old new : Part) : Type 0 where
  pub bytes : List ℕ
  pub few : length bytes ≤ limit
  pub stands : IsUntouched old new ⊎ IsReading name bytes old new

-- more bytes than the limit were taken, and the role is still active
pub record ReadsTooMany (name : List ℕ) (limit : ℕ) (old new : Part) : Type 0 where
  pub bytes : List ℕ
  pub many : limit < length bytes
  pub stands : IsReading name bytes old new

-- writing stopped after a front of the text: the role is untouched, or still active
pub record StopsWriting (name text : List ℕ) (old new : Part) : Type 0 where
  pub front : List ℕ
  pub rest : List ℕ
  pub split : text ≡ front ++ rest
  pub stands : IsUntouched old new ⊎ IsWriting name front old new

-- reading stopped at a call that failed
abbrev pub IsReadFault : Input → Part → Part → Type 0
IsReadFault at old new = StopsReading at.name at.limit old new × Rose old.faults new.faults

-- more bytes than the limit came
abbrev pub IsTooLarge : Input → Part → Part → Type 0
IsTooLarge at old new = ReadsTooMany at.name at.limit old new

-- writing stopped at a call that failed, after a front of these bytes
abbrev pub IsWriteFault : Output → List ℕ → Part → Part → Type 0
IsWriteFault at bytes old new = StopsWriting at.name bytes old new × Rose old.faults new.faults

-- a whole input, by the answer
abbrev pub ReadsInput : Input → Part → Part → Result (List ℕ) Status → Type 0
ReadsInput at old new (Ok bytes) = WasRead at.name bytes old new × (length bytes ≤ at.limit)
ReadsInput at old new (Err NoMemory) = StopsReading at.name at.limit old new
ReadsInput at old new (Err (ReadFault role)) = (role ≡ at.role) × IsReadFault at old new
ReadsInput at old new (Err (TooLarge role)) = (role ≡ at.role) × IsTooLarge at old new
ReadsInput at old new (Err answer) = ⊥

-- a whole output of these bytes, by the answer
abbrev pub WritesOutput : Output → List ℕ → Part → Part → Result (Unit {0}) Status → Type 0
WritesOutput at bytes old new (Ok _) = WasWritten at.name bytes old new
WritesOutput at bytes old new (Err (WriteFault role)) = (role ≡ at.role) × IsWriteFault at bytes old new
WritesOutput at bytes old new (Err answer) = ⊥
