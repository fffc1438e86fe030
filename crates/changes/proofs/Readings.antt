-- A text of the second version as a whole: what its head line says, and its first fault by the head line and the lines after it.
use Rattle.std.proofs.Common.{◌≡◌, ◌<◌, ◌≤◌, ◌+◌, ◌==◌, ◌⊎◌, inl, inr, ⊎_elim, ℕ, zero, suc, Bool, true, false, cond, not, ◌&&◌, nat_le, List, [], ◌∷◌, ◌++◌, length, take, drop, Option, Some, None, Result, Ok, Err, refl, sym, ap, ap₂, ◌∙◌, subst, arith, one-add, take-append-drop, length-drop, length-append, length-take-le, drop_at, take_at}
use Rattle.std.specs.Prelude.{MatchBool, option_and_then, IfOk}
use Rattle.std.proofs.lemmas.Bool.{and_parts, eqb-true, leb-true, eq-eqb, le-leb, ne_eqb, cases_eq, cases_Bool, MatchBool-at_true, MatchBool-at_false}
use Rattle.std.proofs.lemmas.List.{take_all}
use Rattle.std.specs.List.{AllZip}
use Rattle.mn_base.specs.declared.limits.TheConstants.{CHANGES_MAX}
use Rattle.mn_base.specs.declared.refusal.Refusal.{Refusal}
use Rattle.mn_base.specs.Lines.{lines_of, text_of_lines, first_line_fault}
use Rattle.mn_base.specs.Fields.{fields_of}
use Rattle.changes.specs.Head.{directory_head}
use Rattle.changes.specs.declared.split.Change.{Change}
use Rattle.changes.specs.declared.faults.ChangesFault.{ChangesFault}
use Rattle.changes.specs.declared.faults.ChangesFault.TheVariants.{Head, Count}
use Rattle.changes.specs.Changes.{change_of}
use Rattle.changes.specs.Faults.{is_second, second_head_labels, count_of_numbers, count_of, change_fault, fault_behind_head, changes_fault, ChangesFirst}
use Rattle.changes.specs.SplitView.{SplitView}
use Rattle.changes.specs.Splits.{SaysChange, AreChangeLines, IsSecond, IsOther, SplitsTo}
use Rattle.changes.proofs.NoFault.{no_lines, said_by, no_fault}

-- ---- the head line
pub record CountsAs (cores pipes count : ℕ) (line : List ℕ) : Type 0 where
  pub numbers : fields_of second_head_labels line ≡ Some (cores ∷ pipes ∷ count ∷ [])
  pub few : count ≤ CHANGES_MAX

numbers_counted : (cores pipes count : ℕ) (numbers : List ℕ) → count_of_numbers cores pipes numbers ≡ Some count
    → (numbers ≡ cores ∷ pipes ∷ count ∷ []) × (count ≤ CHANGES_MAX)
numbers_counted cores pipes count [] e = cc
numbers_counted cores pipes count (k ∷ []) e = cc
numbers_counted cores pipes count (k ∷ p ∷ []) e = cc
numbers_counted cores pipes count (k ∷ p ∷ c ∷ d ∷ more) e = cc
numbers_counted cores pipes count (k ∷ p ∷ c ∷ []) e =
    go ((k == cores) && (p == pipes) && nat_le c CHANGES_MAX) (λ passes. passes) e
  where
    go : (b : Bool) → (b ≡ true → ((k == cores) && (p == pipes) && nat_le c CHANGES_MAX) ≡ true) → cond b (Some c) None ≡ Some count
        → (k ∷ p ∷ c ∷ [] ≡ cores ∷ pipes ∷ count ∷ []) × (count ≤ CHANGES_MAX)
    go false passes e = cc
    go true passes e =
        let same : c ≡ count = cc in
        let tests = and_parts _ _ (passes refl) in
        let heads = and_parts _ _ tests.0 in
        let k_is : k ≡ cores = eqb-true k cores heads.0 in
        let p_is : p ≡ pipes = eqb-true p pipes heads.1 in
        let low : c ≤ CHANGES_MAX = leb-true c _ tests.1 in
        (cc, subst (λ n. n ≤ CHANGES_MAX) same low)

pub counted : (cores pipes count : ℕ) (line : List ℕ) → count_of cores pipes line ≡ Some count → CountsAs cores pipes count line
unfolding count_of
counted cores pipes count line e = go (fields_of second_head_labels line) refl e
  where
    go : (o : Option (List ℕ)) → fields_of second_head_labels line ≡ o → option_and_then (count_of_numbers cores pipes) o ≡ Some count
        → CountsAs cores pipes count line
    go None is e = cc
    go (Some numbers) is e =
        let parts = numbers_counted cores pipes count numbers e in
        record { numbers = is ∙ ap (λ (ns : List ℕ). Some ns) parts.0; few = parts.1 }

pub counts : (cores pipes count : ℕ) (line : List ℕ) → CountsAs cores pipes count line → count_of cores pipes line ≡ Some count
unfolding count_of
counts cores pipes count line is =
    rw (is.numbers, eq-eqb cores cores refl, eq-eqb pipes pipes refl, le-leb count _ is.few) refl

-- ---- the first fault by the head line
pub head_fault : (text : List ℕ) (cores pipes : ℕ) (head : List ℕ) (body : List (List ℕ)) → is_second text ≡ true
    → lines_of text ≡ head ∷ body → count_of cores pipes head ≡ None → changes_fault text cores pipes ≡ Some Head
head_fault text cores pipes head body second lines none = rw (second, lines, none) refl

pub fault_behind : (text : List ℕ) (cores pipes : ℕ) (head : List ℕ) (body : List (List ℕ)) (count : ℕ) → is_second text ≡ true
    → lines_of text ≡ head ∷ body → count_of cores pipes head ≡ Some count
    → changes_fault text cores pipes ≡ fault_behind_head pipes (head ∷ body) count
fault_behind text cores pipes head body count second lines is = rw (second, lines, is) refl

pub count_fault : (pipes : ℕ) (head : List ℕ) (body : List (List ℕ)) (count : ℕ) → (length body ≡ pipes + count → ⊥)
    → fault_behind_head pipes (head ∷ body) count ≡ Some Count
count_fault pipes head body count other =
    rw (ne_eqb (length (head ∷ body)) (1 + pipes + count) (λ same. other (omega (arith, same)))) refl

pub lines_fault : (pipes : ℕ) (head : List ℕ) (body : List (List ℕ)) (count : ℕ) → length body ≡ pipes + count
    → fault_behind_head pipes (head ∷ body) count ≡ first_line_fault (change_fault pipes) [] (drop pipes body)
lines_fault pipes head body count same =
    rw (eq-eqb (length (head ∷ body)) (1 + pipes + count) (omega (arith, same)), one-add) refl

-- ---- what the text says
-- a text has a head line of these cores and pipes and so many changes, and as many lines after it
pub record IsHeaded (text : List ℕ) (cores pipes : ℕ) (head : List ℕ) (body : List (List ℕ)) (count : ℕ) : Type 0 where
  pub lines : lines_of text ≡ head ∷ body
  pub says : count_of cores pipes head ≡ Some count
  pub whole : length body ≡ pipes + count

pub second : (text : List ℕ) (cores pipes : ℕ) (head : List ℕ) (body : List (List ℕ)) (count : ℕ) (split : SplitView)
    → IsHeaded text cores pipes head body count → AreChangeLines pipes (drop pipes body) split.changes
    → split.directory ≡ text_of_lines (directory_head cores pipes ∷ take pipes body)
    → IsSecond text cores pipes split
second text cores pipes head body count split headed are directory =
    let counts = counted cores pipes count head headed.says in
    let same = headed.whole in
    let left : length (drop pipes body) ≡ count = omega (arith, length-drop pipes body, same) in
    record {
      head = head;
      pipe_lines = take pipes body;
      change_lines = drop pipes body;
      lines = headed.lines ∙ ap (λ (ls : List (List ℕ)). head ∷ ls) (sym (take-append-drop pipes body));
      numbers = counts.numbers ∙ ap (λ n. Some (cores ∷ pipes ∷ n ∷ [])) (sym left);
      whole = length-take-le pipes body (omega (arith, same));
      few = subst (λ n. n ≤ CHANGES_MAX) (sym left) counts.few;
      changes = are;
      directory = directory;
    }

-- a text of the second version that says something has no fault
pub second_faultless : (text : List ℕ) (cores pipes : ℕ) (split : SplitView) → is_second text ≡ true
    → IsSecond text cores pipes split → changes_fault text cores pipes ≡ None
second_faultless text cores pipes split is_of is =
    fault_behind text cores pipes is.head (is.pipe_lines ++ is.change_lines) (length is.change_lines) is_of is.lines
    (counts cores pipes (length is.change_lines) is.head (record { numbers = is.numbers; few = is.few }))
    ∙ lines_fault pipes is.head (is.pipe_lines ++ is.change_lines) (length is.change_lines)
    (omega (arith, length-append is.pipe_lines is.change_lines, is.whole))
    ∙ ap (λ (ls : List (List ℕ)). first_line_fault (change_fault pipes) [] ls)
    (drop_at is.pipe_lines is.change_lines pipes is.whole)
    ∙ no_fault pipes [] [] is.change_lines split.changes tt is.changes.say is.changes.named is.changes.within is.changes.rise

-- ---- the laws
pub never_both : (text : List ℕ) (cores pipes : ℕ) (split : SplitView) (fault : ChangesFault) → SplitsTo text cores pipes split
    → ChangesFirst text cores pipes fault → ⊥
never_both text cores pipes split fault is first =
    ⊎_elim
    (λ (yes : is_second text ≡ true).
    let none : None ≡ Some fault =
    sym (second_faultless text cores pipes split yes
    (MatchBool-at_true (IsSecond text cores pipes split) (IsOther text split) yes is)) ∙ first in
    cc)
    (λ (no : is_second text ≡ false). let none : None ≡ Some fault = rw no at first in cc)
    (cases_Bool (is_second text))

said_once : (lines : List (List ℕ)) (xs ys : List Change) → AllZip SaysChange lines xs → AllZip SaysChange lines ys → xs ≡ ys
said_once [] [] [] a b = refl
said_once [] [] (y ∷ ys) a b = absurd b
said_once [] (x ∷ xs) ys a b = absurd a
said_once (l ∷ ls) [] ys a b = absurd a
said_once (l ∷ ls) (x ∷ xs) [] a b = absurd b
said_once (l ∷ ls) (x ∷ xs) (y ∷ ys) a b =
    let same : Some x ≡ Some y = sym a.0 ∙ b.0 in
    let heads : x ≡ y = cc in
    ap₂ (λ (z : Change) (zs : List Change). z ∷ zs) heads (said_once ls xs ys a.1 b.1)

one_split : (s t : SplitView) → s.directory ≡ t.directory → s.changes ≡ t.changes → s ≡ t
one_split s t directory changes =
    ap₂ (λ (d : List ℕ) (c : List Change). let v : SplitView = record { directory = d; changes = c } in v) directory changes

second_once : (text : List ℕ) (cores pipes : ℕ) (s t : SplitView) → IsSecond text cores pipes s → IsSecond text cores pipes t → s ≡ t
second_once text cores pipes s t a b =
    let bodies : a.pipe_lines ++ a.change_lines ≡ b.pipe_lines ++ b.change_lines = ap (drop 1) (sym a.lines ∙ b.lines) in
    let pipe_lines : a.pipe_lines ≡ b.pipe_lines =
    sym (take_at a.pipe_lines a.change_lines pipes a.whole)
    ∙ ap (take pipes) bodies ∙ take_at b.pipe_lines b.change_lines pipes b.whole in
    let change_lines : a.change_lines ≡ b.change_lines =
    sym (drop_at a.pipe_lines a.change_lines pipes a.whole)
    ∙ ap (drop pipes) bodies ∙ drop_at b.pipe_lines b.change_lines pipes b.whole in
    one_split s t
    (a.directory ∙ ap (λ (ls : List (List ℕ)). text_of_lines (directory_head cores pipes ∷ ls)) pipe_lines ∙ sym b.directory)
    (said_once b.change_lines s.changes t.changes
    (subst (λ (ls : List (List ℕ)). AllZip SaysChange ls s.changes) change_lines a.changes.say) b.changes.say)

pub one_reading : (text : List ℕ) (cores pipes : ℕ) (split other : SplitView) → SplitsTo text cores pipes split
    → SplitsTo text cores pipes other → split ≡ other
one_reading text cores pipes s t a b =
    ⊎_elim
    (λ (yes : is_second text ≡ true).
    second_once text cores pipes s t
    (MatchBool-at_true (IsSecond text cores pipes s) (IsOther text s) yes a)
    (MatchBool-at_true (IsSecond text cores pipes t) (IsOther text t) yes b))
    (λ (no : is_second text ≡ false).
    let x = MatchBool-at_false (IsSecond text cores pipes s) (IsOther text s) no a in
    let y = MatchBool-at_false (IsSecond text cores pipes t) (IsOther text t) no b in
    one_split s t (x.directory ∙ sym y.directory) (x.changes ∙ sym y.changes))
    (cases_Bool (is_second text))

pub one_fault : (text : List ℕ) (cores pipes : ℕ) (fault other : ChangesFault) → ChangesFirst text cores pipes fault
    → ChangesFirst text cores pipes other → fault ≡ other
one_fault text cores pipes fault other a b = let same : Some fault ≡ Some other = sym a ∙ b in cc

-- what was found of a text of the second version
pub found_second : (text : List ℕ) (cores pipes : ℕ) (result : Result SplitView (Refusal ChangesFault)) → is_second text ≡ true
    → IfOk result (IsSecond text cores pipes) → IfOk result (SplitsTo text cores pipes)
found_second text cores pipes (Ok split) begins found = rw begins found
found_second text cores pipes (Err e) begins found = tt

-- and of any other
pub found_other : (text : List ℕ) (cores pipes : ℕ) (split : SplitView) → is_second text ≡ false → IsOther text split
    → SplitsTo text cores pipes split
found_other text cores pipes split other found = rw other found
