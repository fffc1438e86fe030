-- A command is carried out by halves: a front of its inputs is read first, and what it has made is written last.
use Rattle.std.proofs.Common.{◌≡◌, ◌≢◌, ◌<◌, ◌≤◌, ℕ, List, [], ◌∷◌, ◌++◌, length, map, refl, sym, ◌∙◌, ap, subst, arith, append_assoc}
use Rattle.std.proofs.lemmas.List.{length-append, length-map}
use Rattle.mn_edge.specs.declared.role.Role.{Role}
use Rattle.mn_edge.specs.Part.{Part}
use Rattle.modelnet.specs.declared.status.Status.{Status}
use Rattle.modelnet.specs.declared.status.Status.TheVariants.{Done, NoMemory, BadWords, ReadFault, WriteFault, TooLarge}
use Rattle.modelnet.specs.Roles.{Input, Output, WasRead, WasWritten, IsReadFault, IsTooLarge, IsWriteFault}
use Rattle.modelnet.specs.Commands.{Host, Command, ReadInputs, WrittenOutputs, inputs_of, bytes_read, outputs_of, bytes_written, ReadsNot, WritesNot, AreRead, AreWritten, Stands, StopsAt, Passes, FewerPass, IsDone, IsRefused, IsCutAtInput, IsCutAtOutput, Answered}
use Rattle.modelnet.specs.Progress.{HasJustRead, HasStopped}
use Rattle.modelnet.specs.Writing.{writing_command}
use Rattle.modelnet.proofs.OneAfterAnother.{reads_not_front}

-- ---- the first half

-- f reads the first inputs of c and writes nothing. What it refuses is refused by c, and c refuses no more before these are read.
pub record IsFrontOf (f c : Command) : Type 0 where
  pub later : List Input
  pub inputs : c.inputs ≡ f.inputs ++ later
  pub outputs : f.outputs ≡ []
  pub also : (bytes : List (List ℕ)) (status : Status) → f.refuses bytes status → c.refuses bytes status
  pub fewer : (bytes : List (List ℕ)) (status : Status) → length bytes < length f.inputs → c.refuses bytes status → f.refuses bytes status

-- as many bytes were read as inputs
as_many : (reads : ReadInputs) → length (bytes_read reads) ≡ length (inputs_of reads)
as_many reads = length-map reads (λ r. r.1) ∙ sym (length-map reads (λ r. r.0))

-- these are not all where one more is to be read
not_all : (inputs : List Input) (reads : ReadInputs) (at : Input) (later : List Input) → inputs ≡ inputs_of reads ++ at ∷ later
    → length (bytes_read reads) < length inputs
not_all inputs reads at later is =
    let size : length inputs ≡ length (inputs_of reads ++ at ∷ later) = ap length is in
    omega (arith, size, length-append (inputs_of reads) (at ∷ later), as_many reads)

no_more : (inputs : List Input) (reads : ReadInputs) (later : List Input) → inputs ≡ inputs_of reads ++ later
    → length (bytes_read reads) ≤ length inputs
no_more inputs reads later is =
    let size : length inputs ≡ length (inputs_of reads ++ later) = ap length is in
    omega (arith, size, length-append (inputs_of reads) later, as_many reads)

no_output : (writes : WrittenOutputs) (at : Output) (later : List Output) → [] ≡ outputs_of writes ++ at ∷ later → ⊥
no_output [] at later is = cc
no_output (w ∷ writes) at later is = cc

no_input : (reads : ReadInputs) (at : Input) (later : List Input) → [] ≡ inputs_of reads ++ at ∷ later → ⊥
no_input [] at later is = cc
no_input (r ∷ reads) at later is = cc

module _ (f c : Command) (is : IsFrontOf f c) where
  inputs_are : (reads : ReadInputs) (rest : List Input) → f.inputs ≡ inputs_of reads ++ rest → c.inputs ≡ inputs_of reads ++ (rest ++ is.later)
  inputs_are reads rest split =
      is.inputs ∙ ap (λ inputs. inputs ++ is.later) split ∙ append_assoc (inputs_of reads) rest is.later

  passes_in : (bytes : List (List ℕ)) → length bytes < length f.inputs → Passes f bytes → Passes c bytes
  passes_in bytes short passes front back status split refused =
      let size : length bytes ≡ length (front ++ back) = ap length split in
      passes front back status split (is.fewer front status (omega (arith, short, size, length-append front back)) refused)

  fewer_in : (bytes : List (List ℕ)) → length bytes ≤ length f.inputs → FewerPass f bytes → FewerPass c bytes
  fewer_in bytes short fewer front back next status split refused =
      let size : length bytes ≡ length (front ++ next ∷ back) = ap length split in
      fewer front back next status split
      (is.fewer front status (omega (arith, short, size, length-append front (next ∷ back))) refused)

  cut_in : (role : Role) (IsCut : Input → Part → Part → Type 0) (old new : Host) → IsCutAtInput f role IsCut old new
      → IsCutAtInput c role IsCut old new
  cut_in role IsCut old new a = record {
    reads = a.reads;
    at = a.at;
    later = a.later ++ is.later;
    inputs = inputs_are a.reads (a.at ∷ a.later) a.inputs;
    role_is = a.role_is;
    passes = passes_in (bytes_read a.reads) (not_all f.inputs a.reads a.at a.later a.inputs) a.passes;
    stopped = a.stopped;
  }

  refused_in : (status : Status) (old new : Host) → IsRefused f status old new → IsRefused c status old new
  refused_in status old new a = record {
    reads = a.reads;
    later = a.later ++ is.later;
    inputs = inputs_are a.reads a.later a.inputs;
    fewer = fewer_in (bytes_read a.reads) (no_more f.inputs a.reads a.later a.inputs) a.fewer;
    refused = is.also (bytes_read a.reads) status a.refused;
    stands = a.stands;
  }

  answered_in : (old new : Host) (status : Status) → status ≢ Done → Answered f old new status → Answered c old new status
  answered_in old new Done early a = absurd (early refl)
  answered_in old new NoMemory early a = λ role unread.
      a role (reads_not_front f.inputs is.later role (subst (λ inputs. ReadsNot inputs role) is.inputs unread))
  answered_in old new (BadWords fault) early a = absurd a
  answered_in old new (ReadFault role) early a = cut_in role IsReadFault old new a
  answered_in old new (TooLarge role) early a = cut_in role IsTooLarge old new a
  answered_in old new (WriteFault role) early a = absurd (no_output a.writes a.at a.later (sym is.outputs ∙ a.outputs))
  answered_in old new status early a = refused_in status old new a

  -- where f stops, c stops
  pub stops_in_front : (old new : Host) (status : Status) → HasStopped f old new status → HasStopped c old new status
  stops_in_front old new status stopped = record {
    early = stopped.early;
    answered = answered_in old new status stopped.early stopped.answered;
  }

  -- what f has read, c has read
  pub front_is_read : (reads : ReadInputs) (old new : Host) → HasJustRead f reads [] old new → HasJustRead c reads is.later old new
  front_is_read reads old new so = record {
    inputs = inputs_are reads [] so.inputs;
    fewer = fewer_in (bytes_read reads) (no_more f.inputs reads [] so.inputs) so.fewer;
    stands = so.stands;
  }

-- ---- the second half

-- no output is an input
abbrev pub AreApart : List Input → List Output → Type 0
AreApart inputs [] = Unit {0}
AreApart inputs (output ∷ outputs) = ReadsNot inputs output.role × AreApart inputs outputs

input_unwritten : (input : Input) (inputs : List Input) (outputs : List Output) → AreApart (input ∷ inputs) outputs
    → WritesNot outputs input.role
input_unwritten input inputs [] apart = tt
input_unwritten input inputs (o ∷ outputs) apart = (λ is. apart.0.0 (sym is), input_unwritten input inputs outputs apart.1)

fewer_apart : (input : Input) (inputs : List Input) (outputs : List Output) → AreApart (input ∷ inputs) outputs → AreApart inputs outputs
fewer_apart input inputs [] apart = tt
fewer_apart input inputs (o ∷ outputs) apart = (apart.0.1, fewer_apart input inputs outputs apart.1)

front_apart : (inputs : List Input) (outputs later : List Output) → AreApart inputs (outputs ++ later) → AreApart inputs outputs
front_apart inputs [] later apart = tt
front_apart inputs (o ∷ outputs) later apart = (apart.0, front_apart inputs outputs later apart.1)

next_apart : (inputs : List Input) (outputs : List Output) (at : Output) (later : List Output) → AreApart inputs (outputs ++ at ∷ later)
    → ReadsNot inputs at.role
next_apart inputs [] at later apart = apart.0
next_apart inputs (o ∷ outputs) at later apart = next_apart inputs outputs at later apart.1

writes_not_split : (outputs : List Output) (at : Output) (later : List Output) (role : Role) → WritesNot (outputs ++ at ∷ later) role
    → WritesNot outputs role × (role ≢ at.role)
writes_not_split [] at later role none = (tt, none.0)
writes_not_split (o ∷ outputs) at later role none =
    let rest = writes_not_split outputs at later role none.1 in ((none.0, rest.0), rest.1)

-- no role but outputs changed
abbrev OnlyOutputs : List Output → Host → Host → Type 0
OnlyOutputs outputs mid new = (role : Role) → WritesNot outputs role → new role ≡ mid role

-- inputs stay as they were read
pub stay_read : (reads : ReadInputs) (outputs : List Output) (old mid new : Host) → AreApart (inputs_of reads) outputs
    → OnlyOutputs outputs mid new → AreRead reads old mid → AreRead reads old new
stay_read [] outputs old mid new apart others are = tt
stay_read (r ∷ reads) outputs old mid new apart others are =
    let same : new r.0.role ≡ mid r.0.role = others r.0.role (input_unwritten r.0 (inputs_of reads) outputs apart) in (
      subst (λ part. WasRead r.0.name r.1 (old r.0.role) part) (sym same) are.0,
      are.1,
      stay_read reads outputs old mid new (fewer_apart r.0 (inputs_of reads) outputs apart) others are.2,
    )

-- outputs were as at entry before they were written
written_since : (inputs : List Input) (writes : WrittenOutputs) (old mid new : Host) → AreApart inputs (outputs_of writes)
    → ((role : Role) → ReadsNot inputs role → mid role ≡ old role) → AreWritten writes mid new → AreWritten writes old new
written_since inputs [] old mid new apart others are = tt
written_since inputs (w ∷ writes) old mid new apart others are = (
  subst (λ part. WasWritten w.0.name w.1 part (new w.0.role)) (others w.0.role apart.0) are.0,
  written_since inputs writes old mid new apart.1 others are.1,
)

-- what a command has read and made: these inputs were read whole, and these outputs are to be written with these bytes
pub record HasMade (c : Command) (reads : ReadInputs) (writes : WrittenOutputs) (old new : Host) : Type 0 where
  pub inputs : c.inputs ≡ inputs_of reads
  pub outputs : c.outputs ≡ outputs_of writes
  pub apart : AreApart (inputs_of reads) (outputs_of writes)
  pub says : c.writes (bytes_read reads) (bytes_written writes)
  pub stands : Stands reads [] old new

module _ (c : Command) (reads : ReadInputs) (writes : WrittenOutputs) (old mid new : Host) (made : HasMade c reads writes old mid) where
  unread_is_as_at_entry : (role : Role) → ReadsNot (inputs_of reads) role → mid role ≡ old role
  unread_is_as_at_entry role unread = made.stands.others role unread tt

  all_written : IsDone (writing_command writes) mid new → IsDone c old new
  all_written d =
      let untouched : OnlyOutputs (outputs_of writes) mid new =
      λ role unwritten. d.stands.others role (subst (λ is. ReadsNot is role) d.inputs tt)
      (subst (λ os. WritesNot os role) d.outputs unwritten) in
      record {
        reads = reads;
        writes = d.writes;
        inputs = made.inputs;
        outputs = made.outputs ∙ d.outputs;
        says = subst (c.writes (bytes_read reads)) (sym d.says) made.says;
        stands = record {
          read = stay_read reads (outputs_of writes) old mid new made.apart untouched made.stands.read;
          written = written_since (inputs_of reads) d.writes old mid new (subst (AreApart (inputs_of reads)) d.outputs made.apart)
              unread_is_as_at_entry d.stands.written;
          others = λ role unread unwritten.
              untouched role (subst (λ os. WritesNot os role) (sym d.outputs) unwritten) ∙ unread_is_as_at_entry role unread;
        };
      }

  cut_while_writing : (role : Role) → IsCutAtOutput (writing_command writes) role mid new → IsCutAtOutput c role old new
  cut_while_writing role a =
      let apart = subst (AreApart (inputs_of reads)) a.outputs made.apart in
      let at_unread = next_apart (inputs_of reads) (outputs_of a.writes) a.at a.later apart in
      let others : (other : Role) → other ≢ a.at.role → WritesNot (outputs_of a.writes) other → new other ≡ mid other =
      λ other not unwritten. a.stopped.others other not (subst (λ is. ReadsNot is other) a.inputs tt) unwritten in
      let untouched : OnlyOutputs (outputs_of writes) mid new =
      λ other unwritten.
      (let split = writes_not_split (outputs_of a.writes) a.at a.later other (subst (λ os. WritesNot os other) a.outputs unwritten) in
      others other split.1 split.0) in
      record {
        reads = reads;
        writes = a.writes;
        at = a.at;
        bytes = a.bytes;
        later = a.later;
        later_bytes = a.later_bytes;
        inputs = made.inputs;
        outputs = made.outputs ∙ a.outputs;
        role_is = a.role_is;
        says = subst (c.writes (bytes_read reads)) (sym a.says) made.says;
        stopped = record {
          read = stay_read reads (outputs_of writes) old mid new made.apart untouched made.stands.read;
          written = written_since (inputs_of reads) a.writes old mid new
              (front_apart (inputs_of reads) (outputs_of a.writes) (a.at ∷ a.later) apart) unread_is_as_at_entry a.stopped.written;
          cut = subst (λ part. IsWriteFault a.at a.bytes part (new a.at.role)) (unread_is_as_at_entry a.at.role at_unread) a.stopped.cut;
          others = λ other not unread unwritten. others other not unwritten ∙ unread_is_as_at_entry other unread;
        };
      }

  -- how the second half ends, the command ends
  pub ends_as_it_writes : (status : Status) → Answered (writing_command writes) mid new status → Answered c old new status
  ends_as_it_writes Done a = all_written a
  ends_as_it_writes NoMemory a = λ role unread.
      a role tt ∙ unread_is_as_at_entry role (subst (λ inputs. ReadsNot inputs role) made.inputs unread)
  ends_as_it_writes (BadWords fault) a = absurd a
  ends_as_it_writes (ReadFault role) a = absurd (no_input a.reads a.at a.later a.inputs)
  ends_as_it_writes (TooLarge role) a = absurd (no_input a.reads a.at a.later a.inputs)
  ends_as_it_writes (WriteFault role) a = cut_while_writing role a
  ends_as_it_writes status a = absurd a.refused
