-- Each answer excludes the causes of the others, so that a cause has its answer, whatever command it is.
use Rattle.std.proofs.Common.{◌≡◌, ◌≤◌, ◌++◌, ℕ, List, [], ◌∷◌, length, Option, Some, None, refl, sym, ◌∙◌, ap, subst, inl, inr, arith}
use Rattle.std.proofs.lemmas.List.{length-append, append-nil}
use Rattle.std.specs.Io.KnownBytes.{prepend_known, IsAtEnd}
use Rattle.mn_edge.specs.declared.role.Role.{Role}
use Rattle.mn_edge.specs.Part.{Part}
use Rattle.modelnet.specs.declared.status.Status.{Status}
use Rattle.modelnet.specs.declared.status.Status.TheVariants.{Done, NoMemory, BadWords, BadTopology, BadTrace, BadPlan, ReadFault, WriteFault, TooLarge, BadJournal, BadMove, BadCapture}
use Rattle.modelnet.specs.Roles.{Input, WasRead, IsReading}
use Rattle.modelnet.specs.Commands.{Host, Command, ReadInputs, inputs_of, bytes_read, bytes_written, AreRead, Passes, FewerPass, IsRefused, Answered}
use Rattle.modelnet.specs.Exact.{IsQuiet, IsOrNoMemory, Accepts, MustAnswer, IsSoundCommand}

-- the bytes that were read to the end are all that was told
whole_bytes : (name bytes told : List ℕ) (old new : Part) → WasRead name bytes old new → old.left ≡ Some told → told ≡ bytes
whole_bytes name bytes told old new read is = go new.left refl read.ends
  where
    go : (left : Option (List ℕ)) → new.left ≡ left → IsAtEnd left → told ≡ bytes
    go None none ends =
        let nothing : Some told ≡ None = sym is ∙ read.taken ∙ ap (λ o. prepend_known bytes o) none in cc
    go (Some rest) some ends =
        let all : Some told ≡ Some (bytes ++ []) = sym is ∙ read.taken ∙ ap (λ o. prepend_known bytes o)
        (some ∙ ap (λ xs. Some xs) ends) in
        let same : told ≡ bytes ++ [] = cc in same ∙ append-nil bytes

-- the bytes that were taken are a front of all that was told
front_of_told : (name bytes told : List ℕ) (old new : Part) → IsReading name bytes old new → old.left ≡ Some told
    → length bytes ≤ length told
front_of_told name bytes told old new reads is = go new.left refl
  where
    go : (left : Option (List ℕ)) → new.left ≡ left → length bytes ≤ length told
    go None none =
        let nothing : Some told ≡ None = sym is ∙ reads.taken ∙ ap (λ o. prepend_known bytes o) none in absurd cc
    go (Some rest) some =
        let all : Some told ≡ Some (bytes ++ rest) = sym is ∙ reads.taken ∙ ap (λ o. prepend_known bytes o) some in
        let same : told ≡ bytes ++ rest = cc in
        rw same (omega (arith, length-append bytes rest))

-- one list after another, and one element first
push_append : {X : Type 0} (xs : List X) (x : X) (ys : List X) → (xs ++ x ∷ []) ++ ys ≡ xs ++ x ∷ ys
push_append [] x ys = refl
push_append (z ∷ xs) x ys = ap (λ zs. z ∷ zs) (push_append xs x ys)

-- where inputs were read whole and nothing refuses the bytes of fewer, those after them decide
read_whole : (c : Command) (old new : Host) (answer : Status) (past : List (List ℕ)) (reads : ReadInputs) (later : List Input)
    → AreRead reads old new → FewerPass c (past ++ bytes_read reads)
    → MustAnswer c old new (past ++ bytes_read reads) later answer → MustAnswer c old new past (inputs_of reads ++ later) answer
read_whole c old new answer past [] later read fewer must =
    subst (λ bytes. MustAnswer c old new bytes later answer) (append-nil past) must
read_whole c old new answer past (r ∷ reads) later read fewer must = (
  λ refusal refused. absurd (fewer past (bytes_read reads) r.1 refusal refl refused),
  λ accepts told is quiet.
      let same : told ≡ r.1 = whole_bytes r.0.name r.1 told (old r.0.role) (new r.0.role) read.0 is in
      let regroup : (past ++ r.1 ∷ []) ++ bytes_read reads ≡ past ++ r.1 ∷ bytes_read reads = push_append past r.1 (bytes_read reads) in
      let few : length r.1 ≤ r.0.limit = read.1 in
      let size : length told ≡ length r.1 = ap length same in (
        λ many. absurd (omega (arith, few, many, size)),
        λ within. subst (λ b. MustAnswer c old new (past ++ b ∷ []) (inputs_of reads ++ later) answer) (sym same)
            (read_whole c old new answer (past ++ r.1 ∷ []) reads later read.2
            (subst (FewerPass c) (sym regroup) fewer)
            (subst (λ bytes. MustAnswer c old new bytes later answer) (sym regroup) must)),
      ),
)

-- out of memory may stand for every answer
always_no_memory : (c : Command) (old new : Host) (past : List (List ℕ)) (inputs : List Input) → MustAnswer c old new past inputs NoMemory
always_no_memory c old new past [] = (λ refusal refused. inr refl, λ accepts quiet. inr refl)
always_no_memory c old new past (input ∷ inputs) = (
  λ refusal refused. inr refl,
  λ accepts told is quiet. (λ many. inr refl, λ within. always_no_memory c old new (past ++ told ∷ []) inputs),
)

-- the same for a whole command
whole_command : (c : Command) (old new : Host) (answer : Status) (reads : ReadInputs) (later : List Input) → c.inputs ≡ inputs_of reads ++ later
    → AreRead reads old new → FewerPass c (bytes_read reads) → MustAnswer c old new (bytes_read reads) later answer
    → MustAnswer c old new [] c.inputs answer
whole_command c old new answer reads later inputs read fewer must =
    subst (λ is. MustAnswer c old new [] is answer) (sym inputs) (read_whole c old new answer [] reads later read fewer must)

-- bytes of which none is refused have none that fewer are refused by, and aren't refused themselves
pass_fewer : (c : Command) (bytes : List (List ℕ)) → Passes c bytes → FewerPass c bytes
pass_fewer c bytes passes front back next status is refused = passes front (next ∷ back) status is refused

pass_all : (c : Command) (bytes : List (List ℕ)) → Passes c bytes → Accepts c bytes
pass_all c bytes passes status refused = passes bytes [] status (sym (append-nil bytes)) refused

-- what is written isn't refused
written_passes : (c : Command) → IsSoundCommand c → (bytes outs : List (List ℕ)) → c.writes bytes outs → Passes c bytes
written_passes c sound bytes outs says front back status is refused =
    sound.never_both front back outs status refused (subst (λ b. c.writes b outs) is says)

-- the answer refuses what was read, so no other does, whatever inputs are left
refusal_is_due : (c : Command) → IsSoundCommand c → (old new : Host) (bytes : List (List ℕ)) (later : List Input) (answer : Status) → c.refuses bytes answer
    → MustAnswer c old new bytes later answer
refusal_is_due c sound old new bytes [] answer refused = (
  λ refusal also. inl (sound.one_refusal bytes answer refusal refused also),
  λ accepts quiet. absurd (accepts answer refused),
)
refusal_is_due c sound old new bytes (input ∷ later) answer refused = (
  λ refusal also. inl (sound.one_refusal bytes answer refusal refused also),
  λ accepts told is quiet. absurd (accepts answer refused),
)

-- all inputs were read whole, and this is the end of a command that wrote or failed to write
at_the_end : (c : Command) → IsSoundCommand c → (old new : Host) (answer : Status) (reads : ReadInputs) (outs : List (List ℕ)) → c.inputs ≡ inputs_of reads
    → AreRead reads old new → c.writes (bytes_read reads) outs → (((role : Role) → IsQuiet role old new) → IsOrNoMemory Done answer)
    → MustAnswer c old new [] c.inputs answer
at_the_end c sound old new answer reads outs inputs read says last =
    let passes = written_passes c sound (bytes_read reads) outs says in
    whole_command c old new answer reads [] (inputs ∙ sym (append-nil (inputs_of reads))) read (pass_fewer c (bytes_read reads) passes) (
      λ refusal refused. absurd (pass_all c (bytes_read reads) passes refusal refused),
      λ accepts quiet. last quiet,
    )

-- the first inputs were read whole and are refused
at_a_refusal : (c : Command) → IsSoundCommand c → (old new : Host) (answer : Status) → IsRefused c answer old new
    → MustAnswer c old new [] c.inputs answer
at_a_refusal c sound old new answer a =
    whole_command c old new answer a.reads a.later a.inputs a.stands.read a.fewer
    (refusal_is_due c sound old new (bytes_read a.reads) a.later answer a.refused)

-- the answer of a command is the one that it has to be
pub must_answer : (c : Command) → IsSoundCommand c → (old new : Host) (answer : Status) → Answered c old new answer → MustAnswer c old new [] c.inputs answer
must_answer c sound old new Done a =
    at_the_end c sound old new Done a.reads (bytes_written a.writes) a.inputs a.stands.read a.says (λ quiet. inl refl)
must_answer c sound old new NoMemory a = always_no_memory c old new [] c.inputs
must_answer c sound old new (BadWords fault) a = absurd a
must_answer c sound old new (BadTopology fault) a = at_a_refusal c sound old new (BadTopology fault) a
must_answer c sound old new (BadTrace fault) a = at_a_refusal c sound old new (BadTrace fault) a
must_answer c sound old new (BadPlan fault) a = at_a_refusal c sound old new (BadPlan fault) a
must_answer c sound old new (BadJournal fault) a = at_a_refusal c sound old new (BadJournal fault) a
must_answer c sound old new (BadMove number) a = at_a_refusal c sound old new (BadMove number) a
must_answer c sound old new (BadCapture fault) a = at_a_refusal c sound old new (BadCapture fault) a
must_answer c sound old new (ReadFault role) a =
    whole_command c old new (ReadFault role) a.reads (a.at ∷ a.later) a.inputs a.stopped.read (pass_fewer c (bytes_read a.reads) a.passes) (
      λ refusal refused. absurd (pass_all c (bytes_read a.reads) a.passes refusal refused),
      λ accepts told is quiet. absurd (quiet a.stopped.cut.1),
    )
must_answer c sound old new (TooLarge role) a =
    whole_command c old new (TooLarge role) a.reads (a.at ∷ a.later) a.inputs a.stopped.read (pass_fewer c (bytes_read a.reads) a.passes) (
      λ refusal refused. absurd (pass_all c (bytes_read a.reads) a.passes refusal refused),
      λ accepts told is quiet.
          let many = a.stopped.cut in
          let front = front_of_told a.at.name many.bytes told (old a.at.role) (new a.at.role) many.stands is in (
            λ large. inl (ap (λ r. TooLarge r) a.role_is),
            λ within. absurd (omega (arith, front, many.many, within)),
          ),
    )
must_answer c sound old new (WriteFault role) a =
    at_the_end c sound old new (WriteFault role) a.reads (bytes_written a.writes ++ a.bytes ∷ a.later_bytes) a.inputs a.stopped.read a.says
    (λ quiet. absurd (quiet a.at.role a.stopped.cut.1))
