-- One role after another: what stands after each call of a command, whatever command it is.
use Rattle.std.proofs.Common.{◌≡◌, ◌≢◌, ◌≤◌, ◌⊎◌, ℕ, List, [], ◌∷◌, ◌++◌, length, Ok, Err, refl, sym, ap, ◌∙◌, subst, inl, inr}
use Rattle.std.proofs.lemmas.List.{append-nil}
use Rattle.mn_edge.specs.declared.role.Role.{Role}
use Rattle.mn_edge.specs.Part.{Part}
use Rattle.modelnet.specs.declared.status.Status.{Status}
use Rattle.modelnet.specs.declared.status.Status.TheVariants.{Done, NoMemory, BadWords, BadTopology, BadTrace, BadPlan, ReadFault, WriteFault, TooLarge, BadJournal, BadMove, BadCapture}
use Rattle.modelnet.specs.Commands.{Host, Command, ReadInputs, WrittenOutputs, inputs_of, bytes_read, outputs_of, bytes_written, ReadsNot, WritesNot, AreRead, AreWritten, Stands, StopsAt, Passes, FewerPass, IsRefused, Answered}
use Rattle.modelnet.specs.Exact.{Accepts, IsSoundCommand, IsRefusal, NoMemoryOrRefuses}
use Rattle.modelnet.specs.Progress.{HasJustRead, HasRead, HasWritten}
use Rattle.modelnet.specs.Roles.{Input, Output, WasRead, WasWritten, IsReadFault, IsTooLarge, IsWriteFault, ReadsInput, WritesOutput}

-- a call on one role left every other as it was
abbrev pub Others : Role → Host → Host → Type 0
Others role mid new = (other : Role) → other ≢ role → new other ≡ mid other

-- lists that grow at their end

inputs_push : (reads : ReadInputs) (r : Input × List ℕ) (later : List Input)
    → inputs_of (reads ++ r ∷ []) ++ later ≡ inputs_of reads ++ r.0 ∷ later
inputs_push [] r later = refl
inputs_push (q ∷ reads) r later = ap (λ inputs. q.0 ∷ inputs) (inputs_push reads r later)

pub bytes_read_push : (reads : ReadInputs) (r : Input × List ℕ) → bytes_read (reads ++ r ∷ []) ≡ bytes_read reads ++ r.1 ∷ []
bytes_read_push [] r = refl
bytes_read_push (q ∷ reads) r = ap (λ bytes. q.1 ∷ bytes) (bytes_read_push reads r)

outputs_push : (writes : WrittenOutputs) (w : Output × List ℕ) (later : List Output)
    → outputs_of (writes ++ w ∷ []) ++ later ≡ outputs_of writes ++ w.0 ∷ later
outputs_push [] w later = refl
outputs_push (v ∷ writes) w later = ap (λ outputs. v.0 ∷ outputs) (outputs_push writes w later)

bytes_written_push : (writes : WrittenOutputs) (w : Output × List ℕ) (later : List (List ℕ))
    → bytes_written (writes ++ w ∷ []) ++ later ≡ bytes_written writes ++ w.1 ∷ later
bytes_written_push [] w later = refl
bytes_written_push (v ∷ writes) w later = ap (λ bytes. v.1 ∷ bytes) (bytes_written_push writes w later)

reads_not_push : (reads : ReadInputs) (r : Input × List ℕ) (role : Role) → ReadsNot (inputs_of (reads ++ r ∷ [])) role
    → ReadsNot (inputs_of reads) role × (role ≢ r.0.role)
reads_not_push [] r role none = (tt, none.0)
reads_not_push (q ∷ reads) r role none = let rest = reads_not_push reads r role none.1 in ((none.0, rest.0), rest.1)

writes_not_push : (writes : WrittenOutputs) (w : Output × List ℕ) (role : Role) → WritesNot (outputs_of (writes ++ w ∷ [])) role
    → WritesNot (outputs_of writes) role × (role ≢ w.0.role)
writes_not_push [] w role none = (tt, none.0)
writes_not_push (v ∷ writes) w role none = let rest = writes_not_push writes w role none.1 in ((none.0, rest.0), rest.1)

-- a role that no input has is no earlier input, and not the next
reads_not_split : (inputs : List Input) (at : Input) (later : List Input) (role : Role) → ReadsNot (inputs ++ at ∷ later) role
    → ReadsNot inputs role × (role ≢ at.role)
reads_not_split [] at later role none = (tt, none.0)
reads_not_split (i ∷ inputs) at later role none = let rest = reads_not_split inputs at later role none.1 in ((none.0, rest.0), rest.1)

pub reads_not_front : (inputs later : List Input) (role : Role) → ReadsNot (inputs ++ later) role → ReadsNot inputs role
reads_not_front [] later role none = tt
reads_not_front (i ∷ inputs) later role none = (none.0, reads_not_front inputs later role none.1)

-- a front of a list with one more is the whole list, or a front of the list without it
split_last : {X : Type 0} (xs : List X) (x : X) (front back : List X) → xs ++ x ∷ [] ≡ front ++ back
    → (front ≡ xs ++ x ∷ []) ⊎ ((mid : List X) × (xs ≡ front ++ mid))
split_last xs x [] back is = inr (xs, refl)
split_last [] x (y ∷ []) back is = let same : x ≡ y = cc in inl (ap (λ z. z ∷ []) (sym same))
split_last [] x (y ∷ z ∷ front) back is = absurd cc
split_last (w ∷ xs) x (y ∷ front) back is =
    let same : w ≡ y = cc in
    let rest : xs ++ x ∷ [] ≡ front ++ back = cc in
    elim (split_last xs x front back rest) [
      | inl whole ↦ inl (ap (λ z. z ∷ front) (sym same) ∙ ap (λ zs. w ∷ zs) whole)
      | inr part ↦ inr (part.0, ap (λ z. z ∷ xs) same ∙ ap (λ zs. y ∷ zs) part.1)
    ]

-- what stands before a call on another role stands after it

still_read : (reads : ReadInputs) (role : Role) (old mid new : Host) → ReadsNot (inputs_of reads) role → Others role mid new
    → AreRead reads old mid → AreRead reads old new
still_read [] role old mid new none others are = tt
still_read (r ∷ reads) role old mid new none others are =
    let same : new r.0.role ≡ mid r.0.role = others r.0.role (λ is. none.0 (sym is)) in (
      subst (λ part. WasRead r.0.name r.1 (old r.0.role) part)
          (sym same) are.0,
      are.1,
      still_read reads role old mid new none.1 others are.2,
    )

still_written : (writes : WrittenOutputs) (role : Role) (old mid new : Host) → WritesNot (outputs_of writes) role → Others role mid new
    → AreWritten writes old mid → AreWritten writes old new
still_written [] role old mid new none others are = tt
still_written (w ∷ writes) role old mid new none others are =
    let same : new w.0.role ≡ mid w.0.role = others w.0.role (λ is. none.0 (sym is)) in (
      subst (λ part. WasWritten w.0.name w.1 (old w.0.role) part)
          (sym same) are.0,
      still_written writes role old mid new none.1 others are.1,
    )

read_push : (reads : ReadInputs) (r : Input × List ℕ) (old new : Host) → AreRead reads old new
    → WasRead r.0.name r.1 (old r.0.role) (new r.0.role) → length r.1 ≤ r.0.limit → AreRead (reads ++ r ∷ []) old new
read_push [] r old new are read few = (read, few, tt)
read_push (q ∷ reads) r old new are read few = (are.0, are.1, read_push reads r old new are.2 read few)

written_push : (writes : WrittenOutputs) (w : Output × List ℕ) (old new : Host) → AreWritten writes old new
    → WasWritten w.0.name w.1 (old w.0.role) (new w.0.role) → AreWritten (writes ++ w ∷ []) old new
written_push [] w old new are written = (written, tt)
written_push (v ∷ writes) w old new are written = (are.0, written_push writes w old new are.1 written)

-- one more input was read whole
stands_read : (reads : ReadInputs) (r : Input × List ℕ) (old mid new : Host) → Stands reads [] old mid
    → ReadsNot (inputs_of reads) r.0.role → Others r.0.role mid new
    → WasRead r.0.name r.1 (mid r.0.role) (new r.0.role) → length r.1 ≤ r.0.limit → Stands (reads ++ r ∷ []) [] old new
stands_read reads r old mid new s none others read few =
    let first : mid r.0.role ≡ old r.0.role = s.others r.0.role none tt in
    record {
      read = read_push reads r old new (still_read reads r.0.role old mid new none others s.read)
          (subst (λ part. WasRead r.0.name r.1 part (new r.0.role)) first read) few;
      written = tt;
      others = λ role unread unwritten. let split = reads_not_push reads r role unread in others role split.1 ∙ s.others role split.0 tt;
    }

-- one more output was written whole
stands_written : (reads : ReadInputs) (writes : WrittenOutputs) (w : Output × List ℕ) (old mid new : Host) → Stands reads writes old mid
    → ReadsNot (inputs_of reads) w.0.role → WritesNot (outputs_of writes) w.0.role → Others w.0.role mid new
    → WasWritten w.0.name w.1 (mid w.0.role) (new w.0.role) → Stands reads (writes ++ w ∷ []) old new
stands_written reads writes w old mid new s unread unwritten others written =
    let first : mid w.0.role ≡ old w.0.role = s.others w.0.role unread unwritten in
    record {
      read = still_read reads w.0.role old mid new unread others s.read;
      written = written_push writes w old new (still_written writes w.0.role old mid new unwritten others s.written)
          (subst (λ part. WasWritten w.0.name w.1 part (new w.0.role)) first written);
      others = λ role r v. let split = writes_not_push writes w role v in others role split.1 ∙ s.others role r split.0;
    }

-- the next role is cut
stops_at : (reads : ReadInputs) (writes : WrittenOutputs) (at : Role) (IsCut : Part → Part → Type 0) (old mid new : Host)
    → Stands reads writes old mid
    → ReadsNot (inputs_of reads) at → WritesNot (outputs_of writes) at → Others at mid new → IsCut (mid at)
    (new at) → StopsAt reads writes at IsCut old new
stops_at reads writes at IsCut old mid new s unread unwritten others cut =
    let first : mid at ≡ old at = s.others at unread unwritten in
    record {
      read = still_read reads at old mid new unread others s.read;
      written = still_written writes at old mid new unwritten others s.written;
      cut = subst (λ part. IsCut part (new at)) first cut;
      others = λ role not r w. others role not ∙ s.others role r w;
    }

-- how a command comes further

nothing_passes : (c : Command) → Accepts c [] → Passes c []
nothing_passes c accepts [] back status is refused = accepts status refused
nothing_passes c accepts (x ∷ front) back status is refused = absurd cc

-- nothing was read yet, and nothing is refused before
pub has_begun : (c : Command) (host : Host) → Accepts c [] → HasRead c [] c.inputs host host
has_begun c host accepts = record {
  inputs = refl;
  passes = nothing_passes c accepts;
  stands = record { read = tt; written = tt; others = λ role r w. refl };
}

-- bytes that nothing refuses pass where those of fewer inputs do
passes_all : (c : Command) (bytes : List (List ℕ)) → FewerPass c bytes → Accepts c bytes → Passes c bytes
passes_all c bytes fewer fine front [] status is refused =
    fine status (subst (λ b. c.refuses b status) (sym (is ∙ append-nil front)) refused)
passes_all c bytes fewer fine front (next ∷ back) status is refused = fewer front back next status is refused

-- a list is no front of itself with an element more
no_longer : {X : Type 0} (xs : List X) (x : X) (ys : List X) → xs ≡ xs ++ x ∷ ys → ⊥
no_longer [] x ys is = cc
no_longer (z ∷ xs) x ys is =
    let rest : xs ≡ xs ++ x ∷ ys = cc in no_longer xs x ys rest

-- fewer bytes than those that pass and one more pass
fewer_push : (c : Command) (past : List (List ℕ)) (bytes : List ℕ) → Passes c past → FewerPass c (past ++ bytes ∷ [])
fewer_push c past bytes passes front back next status is refused =
    elim (split_last past bytes front (next ∷ back) is) [
      | inl whole ↦ no_longer front next back (whole ∙ is)
      | inr part ↦ passes front part.0 status part.1 refused
    ]

-- the next input was read whole
pub just_read : (c : Command) (reads : ReadInputs) (at : Input) (later : List Input) (bytes : List ℕ) (old mid new : Host)
    → HasRead c reads (at ∷ later) old mid
    → ReadsNot (inputs_of reads) at.role → ReadsInput at (mid at.role) (new at.role) (Ok bytes) → Others at.role mid new
    → HasJustRead c (reads ++ (at, bytes) ∷ []) later old new
just_read c reads at later bytes old mid new so none own others = record {
  inputs = so.inputs ∙ sym (inputs_push reads (at, bytes) later);
  fewer = subst (FewerPass c) (sym (bytes_read_push reads (at, bytes))) (fewer_push c (bytes_read reads) bytes so.passes);
  stands = stands_read reads (at, bytes) old mid new so.stands none others own.0 own.1;
}

-- nothing refuses what was read
pub accepted : (c : Command) (reads : ReadInputs) (later : List Input) (old new : Host) → HasJustRead c reads later old new
    → Accepts c (bytes_read reads) → HasRead c reads later old new
accepted c reads later old new so fine = record {
  inputs = so.inputs;
  passes = passes_all c (bytes_read reads) so.fewer fine;
  stands = so.stands;
}

-- the next input was read whole, and nothing refuses its bytes
pub has_read : (c : Command) (reads : ReadInputs) (at : Input) (later : List Input) (bytes : List ℕ) (old mid new : Host)
    → HasRead c reads (at ∷ later) old mid
    → ReadsNot (inputs_of reads) at.role → ReadsInput at (mid at.role) (new at.role) (Ok bytes) → Others at.role mid new
    → Accepts c (bytes_read reads ++ bytes ∷ []) → HasRead c (reads ++ (at, bytes) ∷ []) later old new
has_read c reads at later bytes old mid new so none own others fine =
    accepted c (reads ++ (at, bytes) ∷ []) later old new (just_read c reads at later bytes old mid new so none own others)
    (subst (Accepts c) (sym (bytes_read_push reads (at, bytes))) fine)

-- memory was refused while the next input is read, or after
no_memory_at : (c : Command) (reads : ReadInputs) (at : Input) (later : List Input) (old mid new : Host)
    → HasRead c reads (at ∷ later) old mid → Others at.role mid new → Answered c old new NoMemory
no_memory_at c reads at later old mid new so others role unread =
    let split = reads_not_split (inputs_of reads) at later role (subst (λ inputs. ReadsNot inputs role) so.inputs unread) in
    others role split.1 ∙ so.stands.others role split.0 tt

-- the next input can't be read whole
pub stops_reading : (c : Command) (reads : ReadInputs) (at : Input) (later : List Input) (status : Status) (old mid new : Host)
    → HasRead c reads (at ∷ later) old mid
    → ReadsNot (inputs_of reads) at.role → ReadsInput at (mid at.role) (new at.role)
    (Err status) → Others at.role mid new → Answered c old new status
stops_reading c reads at later NoMemory old mid new so none own others = no_memory_at c reads at later old mid new so others
stops_reading c reads at later (ReadFault role) old mid new so none own others = record {
  reads = reads;
  at = at;
  later = later;
  inputs = so.inputs;
  role_is = own.0;
  passes = so.passes;
  stopped = stops_at reads [] at.role (IsReadFault at) old mid new so.stands none tt others own.1;
}
stops_reading c reads at later (TooLarge role) old mid new so none own others = record {
  reads = reads;
  at = at;
  later = later;
  inputs = so.inputs;
  role_is = own.0;
  passes = so.passes;
  stopped = stops_at reads [] at.role (IsTooLarge at) old mid new so.stands none tt others own.1;
}
stops_reading c reads at later status old mid new so none own others = absurd own

-- what refuses bytes is a refusal
abbrev pub AreRefusals : Command → Type 0
AreRefusals c = (bytes : List (List ℕ)) (status : Status) → c.refuses bytes status → IsRefusal status

-- memory was refused after inputs were read
pub no_memory_after : (c : Command) (reads : ReadInputs) (later : List Input) (old new : Host) → HasJustRead c reads later old new
    → Answered c old new NoMemory
no_memory_after c reads later old new so role unread =
    so.stands.others role (reads_not_front (inputs_of reads) later role (subst (λ inputs. ReadsNot inputs role) so.inputs unread)) tt

-- what was read is refused
pub refused : (c : Command) (reads : ReadInputs) (later : List Input) (status : Status) (old new : Host) → AreRefusals c
    → HasJustRead c reads later old new → NoMemoryOrRefuses c.refuses (bytes_read reads) status → Answered c old new status
refused c reads later status old new refusals so (inl empty) =
    subst (Answered c old new) (sym empty) (no_memory_after c reads later old new so)
refused c reads later status old new refusals so (inr is) = by_kind status is (refusals (bytes_read reads) status is)
  where
    by_bytes : (answer : Status) → c.refuses (bytes_read reads) answer → IsRefused c answer old new
    by_bytes answer is = record {
      reads = reads;
      later = later;
      inputs = so.inputs;
      fewer = so.fewer;
      refused = is;
      stands = so.stands;
    }

    by_kind : (answer : Status) → c.refuses (bytes_read reads) answer → IsRefusal answer → Answered c old new answer
    by_kind Done is none_of = absurd none_of
    by_kind NoMemory is none_of = absurd none_of
    by_kind (BadWords fault) is none_of = absurd none_of
    by_kind (ReadFault role) is none_of = absurd none_of
    by_kind (WriteFault role) is none_of = absurd none_of
    by_kind (TooLarge role) is none_of = absurd none_of
    by_kind (BadTopology fault) is none_of = by_bytes (BadTopology fault) is
    by_kind (BadTrace fault) is none_of = by_bytes (BadTrace fault) is
    by_kind (BadPlan fault) is none_of = by_bytes (BadPlan fault) is
    by_kind (BadJournal fault) is none_of = by_bytes (BadJournal fault) is
    by_kind (BadMove number) is none_of = by_bytes (BadMove number) is
    by_kind (BadCapture fault) is none_of = by_bytes (BadCapture fault) is

-- the next input was read whole, and its bytes are refused
pub refuses : (c : Command) (reads : ReadInputs) (at : Input) (later : List Input) (bytes : List ℕ) (status : Status)
    (old mid new : Host) → IsSoundCommand c → HasRead c reads (at ∷ later) old mid
    → ReadsNot (inputs_of reads) at.role → ReadsInput at (mid at.role) (new at.role) (Ok bytes) → Others at.role mid new
    → NoMemoryOrRefuses c.refuses (bytes_read reads ++ bytes ∷ []) status → Answered c old new status
refuses c reads at later bytes status old mid new sound so none own others is =
    refused c (reads ++ (at, bytes) ∷ []) later status old new sound.refusals
    (just_read c reads at later bytes old mid new so none own others)
    (subst (λ b. NoMemoryOrRefuses c.refuses b status) (sym (bytes_read_push reads (at, bytes))) is)

-- all inputs were read whole, and these bytes are to be written
pub has_made : (c : Command) (reads : ReadInputs) (outs : List (List ℕ)) (old new : Host) → HasRead c reads [] old new
    → c.writes (bytes_read reads) outs → HasWritten c reads [] c.outputs outs old new
has_made c reads outs old new so says = record {
  inputs = so.inputs ∙ append-nil (inputs_of reads);
  outputs = refl;
  says = says;
  stands = so.stands;
}

-- the next output was written whole
pub has_written : (c : Command) (reads : ReadInputs) (writes : WrittenOutputs) (at : Output) (later : List Output) (bytes : List ℕ)
    (later_bytes : List (List ℕ)) (old mid new : Host)
    → HasWritten c reads writes (at ∷ later) (bytes ∷ later_bytes) old mid → ReadsNot (inputs_of reads) at.role → WritesNot
    (outputs_of writes) at.role
    → WasWritten at.name bytes (mid at.role) (new at.role) → Others at.role mid new → HasWritten c reads
    (writes ++ (at, bytes) ∷ []) later later_bytes old new
has_written c reads writes at later bytes later_bytes old mid new so unread unwritten own others = record {
  inputs = so.inputs;
  outputs = so.outputs ∙ sym (outputs_push writes (at, bytes) later);
  says = subst (c.writes (bytes_read reads)) (sym (bytes_written_push writes (at, bytes) later_bytes)) so.says;
  stands = stands_written reads writes (at, bytes) old mid new so.stands unread unwritten others own;
}

-- the next output can't be written whole
pub stops_writing : (c : Command) (reads : ReadInputs) (writes : WrittenOutputs) (at : Output) (later : List Output) (bytes : List ℕ)
    (later_bytes : List (List ℕ)) (status : Status) (old mid new : Host)
    → HasWritten c reads writes (at ∷ later) (bytes ∷ later_bytes) old mid → ReadsNot (inputs_of reads) at.role → WritesNot
    (outputs_of writes) at.role
    → WritesOutput at bytes (mid at.role) (new at.role) (Err status) → Others at.role mid new → Answered c old new status
stops_writing c reads writes at later bytes later_bytes (WriteFault role) old mid new so unread unwritten own others = record {
  reads = reads;
  writes = writes;
  at = at;
  bytes = bytes;
  later = later;
  later_bytes = later_bytes;
  inputs = so.inputs;
  outputs = so.outputs;
  role_is = own.0;
  says = so.says;
  stopped = stops_at reads writes at.role (IsWriteFault at bytes) old mid new so.stands unread unwritten others own.1;
}
stops_writing c reads writes at later bytes later_bytes status old mid new so unread unwritten own others = absurd own

-- all outputs were written whole
pub is_done : (c : Command) (reads : ReadInputs) (writes : WrittenOutputs) (old new : Host) → HasWritten c reads writes [] [] old new
    → Answered c old new Done
is_done c reads writes old new so = record {
  reads = reads;
  writes = writes;
  inputs = so.inputs;
  outputs = so.outputs ∙ append-nil (outputs_of writes);
  says = subst (c.writes (bytes_read reads)) (append-nil (bytes_written writes)) so.says;
  stands = so.stands;
}
