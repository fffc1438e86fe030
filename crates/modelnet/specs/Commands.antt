-- What a command is, and what stands after each of its answers: said once, for every command.
use Rattle.std.specs.Prelude.{◌≡◌, ◌≢◌, ◌⊎◌, ◌≤◌, ℕ, List, [], ◌∷◌, ◌++◌, length, map, Result, Ok, Err}
use Rattle.mn_edge.specs.declared.role.Role.{Role}
use Rattle.mn_edge.specs.Part.{Part}
use Rattle.core_loop.specs.TallyView.{TallyView}
use Rattle.modelnet.specs.declared.status.Status.{Status}
use Rattle.modelnet.specs.declared.status.Status.TheVariants.{Done, NoMemory, BadWords, ReadFault, WriteFault, TooLarge}
use Rattle.modelnet.specs.Roles.{Input, Output, WasRead, WasWritten, IsReadFault, IsTooLarge, IsWriteFault}

-- the parts of all roles of a host
abbrev pub Host : Type 0
Host = Role → Part

-- What a command is: the roles that it reads and those that it writes, each in the order in which it uses them; which answer
-- refuses the bytes of its first inputs, where it looks at them before it reads on; and, for the bytes of all its inputs, which
-- bytes it writes to its outputs and what it adds to the tally.
pub record Command : Type 1 where
  pub inputs : List Input
  pub outputs : List Output
  pub refuses : List (List ℕ) → Status → Type 0
  pub writes : List (List ℕ) → List (List ℕ) → Type 0
  pub adds : List (List ℕ) → TallyView → TallyView → Type 0

-- a command that runs no cores leaves the tally as it was
abbrev pub adds_nothing : List (List ℕ) → TallyView → TallyView → Type 0
adds_nothing read old new = new ≡ old

-- inputs with the bytes that were read of each, and outputs with the bytes that were written to each
abbrev pub ReadInputs : Type 0
ReadInputs = List (Input × List ℕ)

abbrev pub WrittenOutputs : Type 0
WrittenOutputs = List (Output × List ℕ)

abbrev pub inputs_of : ReadInputs → List Input
inputs_of reads = map (λ r. r.0) reads

abbrev pub bytes_read : ReadInputs → List (List ℕ)
bytes_read reads = map (λ r. r.1) reads

abbrev pub outputs_of : WrittenOutputs → List Output
outputs_of writes = map (λ w. w.0) writes

abbrev pub bytes_written : WrittenOutputs → List (List ℕ)
bytes_written writes = map (λ w. w.1) writes

-- none of the inputs has this role
abbrev pub ReadsNot : List Input → Role → Type 0
ReadsNot [] role = Unit {0}
ReadsNot (input ∷ inputs) role = (role ≢ input.role) × ReadsNot inputs role

-- none of the outputs has this role
abbrev pub WritesNot : List Output → Role → Type 0
WritesNot [] role = Unit {0}
WritesNot (output ∷ outputs) role = (role ≢ output.role) × WritesNot outputs role

-- each was begun once, under its name, read to its end within its limit, and finished
abbrev pub AreRead : ReadInputs → Host → Host → Type 0
AreRead [] old new = Unit {0}
AreRead (r ∷ reads) old new =
    WasRead r.0.name r.1 (old r.0.role) (new r.0.role) × (length r.1 ≤ r.0.limit) × AreRead reads old new

-- each was begun once, under its name, written whole and finished
abbrev pub AreWritten : WrittenOutputs → Host → Host → Type 0
AreWritten [] old new = Unit {0}
AreWritten (w ∷ writes) old new = WasWritten w.0.name w.1 (old w.0.role) (new w.0.role) × AreWritten writes old new

-- these roles were read and written whole and finished, and all others are as at entry
pub record Stands (reads : ReadInputs) (writes : WrittenOutputs) (old new : Host) : Type 0 where
  pub read : AreRead reads old new
  pub written : AreWritten writes old new
  pub others : (role : Role) → ReadsNot (inputs_of reads) role → WritesNot (outputs_of writes) role → new role ≡ old role

-- The host is stopped at a role: those before it were read and written whole and finished, it stands as `IsCut` says, and all
-- others are as at entry.
pub record StopsAt (reads : ReadInputs) (writes : WrittenOutputs) (at : Role) (IsCut : Part → Part → Type 0)
    (old new : Host) : Type 0 where
  pub read : AreRead reads old new
  pub written : AreWritten writes old new
  pub cut : IsCut (old at) (new at)
  pub others : (role : Role) → role ≢ at → ReadsNot (inputs_of reads) role → WritesNot (outputs_of writes) role → new role ≡ old role

-- nothing refuses the bytes so far, or those of fewer inputs
abbrev pub Passes : Command → List (List ℕ) → Type 0
Passes c bytes = (front back : List (List ℕ)) (status : Status) → bytes ≡ front ++ back → c.refuses front status → ⊥

-- nothing refuses the bytes of fewer inputs
abbrev pub FewerPass : Command → List (List ℕ) → Type 0
FewerPass c bytes = (front back : List (List ℕ)) (next : List ℕ) (status : Status) → bytes ≡ front ++ next ∷ back → c.refuses front status → ⊥

-- all inputs were read whole, all outputs hold what the command writes for them, and every other role is as at entry
pub record IsDone (c : Command) (old new : Host) : Type 0 where
  pub reads : ReadInputs
  pub writes : WrittenOutputs
  pub inputs : c.inputs ≡ inputs_of reads
  pub outputs : c.outputs ≡ outputs_of writes
  pub says : c.writes (bytes_read reads) (bytes_written writes)
  pub stands : Stands reads writes old new

-- the first inputs were read whole, and this answer refuses their bytes; no answer refuses those of fewer
pub record IsRefused (c : Command) (status : Status) (old new : Host) : Type 0 where
  pub reads : ReadInputs
  pub later : List Input
  pub inputs : c.inputs ≡ inputs_of reads ++ later
  pub fewer : FewerPass c (bytes_read reads)
  pub refused : c.refuses (bytes_read reads) status
  pub stands : Stands reads [] old new

-- the host is stopped at an input, and the bytes of those before it are accepted
pub record IsCutAtInput (c : Command) (role : Role) (IsCut : Input → Part → Part → Type 0) (old new : Host) : Type 0 where
  pub reads : ReadInputs
  pub at : Input
  pub later : List Input
  pub inputs : c.inputs ≡ inputs_of reads ++ at ∷ later
  pub role_is : role ≡ at.role
  pub passes : Passes c (bytes_read reads)
  pub stopped : StopsAt reads [] at.role (IsCut at) old new

-- all inputs were read whole, and the host is stopped at an output; the outputs before it hold what the command writes
pub record IsCutAtOutput (c : Command) (role : Role) (old new : Host) : Type 0 where
  pub reads : ReadInputs
  pub writes : WrittenOutputs
  pub at : Output
  pub bytes : List ℕ
  pub later : List Output
  pub later_bytes : List (List ℕ)
  pub inputs : c.inputs ≡ inputs_of reads
  pub outputs : c.outputs ≡ outputs_of writes ++ at ∷ later
  pub role_is : role ≡ at.role
  pub says : c.writes (bytes_read reads) (bytes_written writes ++ bytes ∷ later_bytes)
  pub stopped : StopsAt reads writes at.role (IsWriteFault at bytes) old new

-- A command, by its answer. After out of memory every role but its inputs is as at entry. The answers without a line here refuse
-- what was read.
abbrev pub Answered : Command → Host → Host → Status → Type 0
Answered c old new Done = IsDone c old new
Answered c old new NoMemory = (role : Role) → ReadsNot c.inputs role → new role ≡ old role
Answered c old new (BadWords fault) = ⊥
Answered c old new (ReadFault role) = IsCutAtInput c role IsReadFault old new
Answered c old new (TooLarge role) = IsCutAtInput c role IsTooLarge old new
Answered c old new (WriteFault role) = IsCutAtOutput c role old new
Answered c old new refusal = IsRefused c refusal old new

-- the answer of a command that was carried out to its end, or refused on the way
abbrev pub status_of : Result (Unit {0}) Status → Status
status_of (Ok done) = Done
status_of (Err refused) = refused

-- all inputs were read whole, and what the command adds for their bytes is in the tally
pub record HasCounted (c : Command) (old new : Host) (before after : TallyView) : Type 0 where
  pub reads : ReadInputs
  pub inputs : c.inputs ≡ inputs_of reads
  pub read : AreRead reads old new
  pub adds : c.adds (bytes_read reads) before after

-- the tally after a command, by its answer: where it isn't done, nothing may have been added
abbrev pub TallyAfter : Command → Host → Host → TallyView → TallyView → Status → Type 0
TallyAfter c old new before after Done = HasCounted c old new before after
TallyAfter c old new before after answer = (after ≡ before) ⊎ HasCounted c old new before after
