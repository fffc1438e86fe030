-- Each text says something or has a first fault, and what a reader may answer.
use Rattle.std.proofs.Common.{◌≡◌, ◌+◌, ◌==◌, ◌⊎◌, inl, inr, ⊎_elim, ℕ, Bool, true, false, List, [], ◌∷◌, length, take, drop, Option, Some, None, Result, Ok, Err, refl, sym, ap, ◌∙◌, subst, arith}
use Rattle.std.specs.Prelude.{IfOk, IfErr}
use Rattle.std.specs.Option.{option_map_or}
use Rattle.std.proofs.lemmas.Bool.{cases_Bool, cases_eq, ne_eqb, MatchBool-at_true}
use Rattle.mn_base.specs.declared.refusal.Refusal.{Refusal}
use Rattle.mn_base.specs.declared.refusal.Refusal.TheVariants as refusal
use Rattle.mn_base.specs.declared.refusal.Refusal.TheVariants.{Fault}
use Rattle.mn_base.specs.Refused.{IfFault, Gives, Refuses}
use Rattle.mn_base.specs.Lines.{lines_of, text_of_lines, first_line_fault}
use Rattle.changes.specs.declared.split.Change.{Change}
use Rattle.changes.specs.declared.faults.ChangesFault.{ChangesFault}
use Rattle.changes.specs.declared.faults.ChangesFault.TheVariants.{Head, Count}
use Rattle.changes.specs.Head.{directory_head}
use Rattle.changes.specs.Faults.{is_second, count_of, change_fault, fault_behind_head, changes_fault, ChangesFirst}
use Rattle.changes.specs.SplitView.{SplitView}
use Rattle.changes.specs.Splits.{AreChangeLines, IsSecond, IsOther, SplitsTo}
use Rattle.changes.proofs.NoFault.{no_lines, said_by}
use Rattle.changes.proofs.Readings.{second, count_fault, lines_fault, never_both, one_reading, one_fault}

abbrev Answered : List ℕ → ℕ → ℕ → Type 0
Answered text cores pipes =
    ((split : SplitView) × SplitsTo text cores pipes split) ⊎ ((fault : ChangesFault) × ChangesFirst text cores pipes fault)

-- the lines after the head line, if they are as many as it says
body_answered : (text : List ℕ) (cores pipes : ℕ) (head : List ℕ) (body : List (List ℕ)) (count : ℕ) → is_second text ≡ true
    → lines_of text ≡ head ∷ body → count_of cores pipes head ≡ Some count → length body ≡ pipes + count
    → changes_fault text cores pipes ≡ fault_behind_head pipes (head ∷ body) count → Answered text cores pipes
body_answered text cores pipes head body count is_of lines is same faults =
    go (first_line_fault (change_fault pipes) [] (drop pipes body)) refl
  where
    go : (o : Option ChangesFault) → first_line_fault (change_fault pipes) [] (drop pipes body) ≡ o → Answered text cores pipes
    go (Some fault) found = inr (fault, faults ∙ lines_fault pipes head body count same ∙ found)
    go None none =
        let said = said_by pipes [] (drop pipes body) [] (no_lines pipes) none in
        let split : SplitView =
        record { directory = text_of_lines (directory_head cores pipes ∷ take pipes body); changes = said.changes } in
        inl (split, rw is_of (second text cores pipes head body count split (record { lines = lines; says = is; whole = same }) said.are refl))

-- a text of the second version of these lines
second_answered : (text : List ℕ) (cores pipes : ℕ) (lines : List (List ℕ)) → is_second text ≡ true → lines_of text ≡ lines
    → Answered text cores pipes
second_answered text cores pipes [] is_of is = by_count (count_of cores pipes []) refl
  where
    by_count : (o : Option ℕ) → count_of cores pipes [] ≡ o → Answered text cores pipes
    by_count None none = inr (Head, rw (is_of, is, none) refl)
    by_count (Some count) found =
        let other : (0 == 1 + pipes + count) ≡ false = ne_eqb 0 (1 + pipes + count) (λ e. omega (arith, e)) in
        inr (Count, rw (is_of, is, found, other) refl)
second_answered text cores pipes (head ∷ body) is_of is = by_count (count_of cores pipes head) refl
  where
    by_count : (o : Option ℕ) → count_of cores pipes head ≡ o → Answered text cores pipes
    by_count None none = inr (Head, rw (is_of, is, none) refl)
    by_count (Some count) found =
        let faults : changes_fault text cores pipes ≡ fault_behind_head pipes (head ∷ body) count = rw (is_of, is, found) refl in
        ⊎_elim
        (λ same. body_answered text cores pipes head body count is_of is found same faults)
        (λ other. inr (Count, faults ∙ count_fault pipes head body count other))
        (cases_eq (length body) (pipes + count))

pub each_text : (text : List ℕ) (cores pipes : ℕ) → Answered text cores pipes
each_text text cores pipes =
    ⊎_elim
    (λ (yes : is_second text ≡ true). second_answered text cores pipes (lines_of text) yes refl)
    (λ (no : is_second text ≡ false).
    let split : SplitView = record { directory = text; changes = [] } in
    inl (split, rw no (let is : IsOther text split = record { directory = refl; changes = refl } in is)))
    (cases_Bool (is_second text))

-- ---- a text that says something may be answered by this alone
pub gives_split : (text : List ℕ) (cores pipes : ℕ) (result : Result SplitView (Refusal ChangesFault)) (split : SplitView)
    → IfOk result (SplitsTo text cores pipes) → IfErr result (λ e. IfFault e (ChangesFirst text cores pipes))
    → SplitsTo text cores pipes split → Gives split result
gives_split text cores pipes (Ok given) split found faults is = one_reading text cores pipes given split found is
gives_split text cores pipes (Err refusal.NoMemory) split found faults is = tt
gives_split text cores pipes (Err (Fault f)) split found faults is = never_both text cores pipes split f is faults

pub gives_fault : (text : List ℕ) (cores pipes : ℕ) (result : Result SplitView (Refusal ChangesFault)) (fault : ChangesFault)
    → IfOk result (SplitsTo text cores pipes) → IfErr result (λ e. IfFault e (ChangesFirst text cores pipes))
    → ChangesFirst text cores pipes fault → Refuses fault result
gives_fault text cores pipes (Ok given) fault found faults first = never_both text cores pipes given fault found first
gives_fault text cores pipes (Err refusal.NoMemory) fault found faults first = tt
gives_fault text cores pipes (Err (Fault f)) fault found faults first = one_fault text cores pipes f fault faults first
