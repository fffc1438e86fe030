-- A text is gone through beside the visits of a journal: what holds after each of them, and which fault is found where one doesn't follow.
use Rattle.std.proofs.Common.{◌≡◌, ◌≢◌, ◌==◌, ℕ, suc, ◌+◌, ◌≤◌, true, false, List, [], ◌∷◌, ◌++◌, length, map, Option, Some, None, refl, sym, ap, subst, ◌∙◌, arith, append_assoc, true≢false}
use Rattle.std.specs.Prelude.{IfSome, IfNone}
use Rattle.std.specs.List.{concat}
use Rattle.std.proofs.lemmas.Bool.{eqb-true}
use Rattle.std.proofs.lemmas.List.{append-nil, length_push, length-map}
use Rattle.std.proofs.lemmas.List.Folds.{concat-append}
use Rattle.mn_base.specs.declared.limits.TheConstants.{JOURNAL_BYTES_MAX}
use Rattle.mn_base.specs.declared.refusal.Refusal.{Refusal}
use Rattle.mn_base.specs.declared.refusal.Refusal.TheVariants as refusal
use Rattle.mn_base.specs.Refused.{IfFault}
use Rattle.journal.specs.declared.visit.Visit.{Visit}
use Rattle.journal.specs.SetupView.{SetupView}
use Rattle.journal.specs.Journal.{journal_of}
use Rattle.journal.specs.VisitsView.{VisitsView, GoesOnWith}
use Rattle.journal_check.specs.declared.fault.JournalFault.{JournalFault}
use Rattle.journal_check.specs.declared.fault.JournalFault.TheVariants.{Line}
use Rattle.journal_check.specs.Texts.{journal_head, visit_line, journal_lines, journal_out}
use Rattle.journal_check.specs.Faults.{JournalFirst, PartsAt}
use Rattle.journal_check.proofs.Answered.{fault_here, fault_at_end}
use Rattle.journal_check.proofs.JournalLines.{lines_fit, journal_lines-push}

-- the text begins with the lines of the visits made so far, and rest follows
pub record IsAt (S : SetupView) (text : List ℕ) (visits : VisitsView) (rest : List ℕ) (count : ℕ) : Type 0 where
  pub of_setup : visits.setup ≡ S
  pub so_far : text ≡ concat (journal_lines visits.made) ++ rest
  pub counted : count ≡ length visits.made

pub at_some : (o : Option Visit) (v : Visit) (P : Visit → Type 0) → o ≡ Some v → IfSome o P → P v
at_some o v P is h = subst (λ (x : Option Visit). IfSome x P) is h

pub at_none : (o : Option Visit) (P : Type 0) → o ≡ None → IfNone o P → P
at_none o P is h = subst (λ (x : Option Visit). IfNone x P) is h

pub none_left : (text : List ℕ) → (length text == 0) ≡ true → text ≡ []
none_left [] left = refl
none_left (b ∷ text) left =
    let none : suc (length text) ≡ 0 = eqb-true (length (b ∷ text)) 0 left in
    let nothing : ⊥ = omega (arith, none) in
    absurd nothing

pub some_left : (text : List ℕ) → (length text == 0) ≡ false → text ≢ []
some_left text left e = true≢false (sym (ap (λ (t : List ℕ). length t == 0) e) ∙ left)

-- the head line doesn't open the text
fault_at_head : (J : List Visit) (text : List ℕ) (fault : JournalFault) → PartsAt journal_head 0 text fault → JournalFirst J text fault
fault_at_head J text fault parts = fault_here (journal_lines J) [] (map visit_line J) journal_head text text fault refl refl parts

pub head_refused : (J : List Visit) (line text : List ℕ) (refusal : Refusal JournalFault) → line ≡ journal_head
    → IfFault refusal (PartsAt line 0 text) → IfFault refusal (JournalFirst J text)
head_refused J line text refusal.NoMemory is parts = tt
head_refused J line text (refusal.Fault f) is parts = fault_at_head J text f (subst (λ (l : List ℕ). PartsAt l 0 text f) is parts)

-- the head line opens the text
pub at_start : {S : SetupView} {text rest line : List ℕ} {visits : VisitsView} → visits.setup ≡ S → visits.made ≡ [] → line ≡ journal_head
    → text ≡ line ++ rest → IsAt S text visits rest 0
at_start {S} {text} {rest} {line} {visits} setup none is opens = record {
  of_setup = setup;
  so_far =
      opens ∙ ap (λ (l : List ℕ). l ++ rest) (is ∙ sym (append-nil journal_head))
      ∙ ap (λ (J : List Visit). concat (journal_lines J) ++ rest) (sym none);
  counted = ap length (sym none);
}

module _ {S : SetupView} {text : List ℕ} {visits : VisitsView} {rest : List ℕ} {count : ℕ} (at : IsAt S text visits rest count) where
  -- the line of the next visit doesn't open what is left of the text
  fault_at_visit : (v : Visit) (fault : JournalFault) → GoesOnWith visits.setup visits.made v → PartsAt (visit_line v) (1 + count) rest fault
      → JournalFirst (journal_of S) text fault
  fault_at_visit v fault goes_on parts =
      let long : length (journal_lines visits.made) ≡ suc (length visits.made) = ap suc (length-map visits.made visit_line) in
      let before : 1 + count ≡ length (journal_lines visits.made) = let e = at.counted in omega (arith, long, e) in
      let J_is : journal_of S ≡ visits.made ++ v ∷ goes_on.0 = ap journal_of (sym at.of_setup) ∙ goes_on.1 in
      fault_here (journal_lines (journal_of S)) (journal_lines visits.made) (map visit_line goes_on.0) (visit_line v) text rest fault
      (ap journal_lines J_is ∙ journal_lines-push visits.made goes_on.0 v) at.so_far
      (subst (λ (n : ℕ). PartsAt (visit_line v) n rest fault) before parts)

  pub visit_refused : (v : Visit) (line : List ℕ) (refusal : Refusal JournalFault) → GoesOnWith visits.setup visits.made v
      → line ≡ visit_line v → IfFault refusal (PartsAt line (1 + count) rest) → IfFault refusal (JournalFirst (journal_of S) text)
  visit_refused v line refusal.NoMemory goes_on is parts = tt
  visit_refused v line (refusal.Fault f) goes_on is parts =
      fault_at_visit v f goes_on (subst (λ (l : List ℕ). PartsAt l (1 + count) rest f) is parts)

  -- it opens it
  pub at_next : {next : VisitsView} (v : Visit) {line behind : List ℕ} → next.setup ≡ visits.setup → next.made ≡ visits.made ++ v ∷ []
      → line ≡ visit_line v → rest ≡ line ++ behind → IsAt S text next behind (count + 1)
  at_next {next} v {line} {behind} setup made is opens =
      let one_more : concat (journal_lines next.made) ≡ concat (journal_lines visits.made) ++ line =
      ap (λ (J : List Visit). concat (journal_lines J)) made ∙ ap concat (journal_lines-push visits.made [] v)
      ∙ concat-append (journal_lines visits.made) (visit_line v ∷ [])
      ∙ ap (λ (l : List ℕ). concat (journal_lines visits.made) ++ l) (append-nil (visit_line v) ∙ sym is) in
      record {
        of_setup = setup ∙ at.of_setup;
        so_far =
            at.so_far ∙ ap (λ (t : List ℕ). concat (journal_lines visits.made) ++ t) opens
            ∙ sym (append_assoc (concat (journal_lines visits.made)) line behind) ∙ ap (λ (t : List ℕ). t ++ behind) (sym one_more);
        counted = let e = at.counted in let long = ap length made ∙ length_push visits.made v in omega (arith, e, long);
      }

  -- there are no more lines than bytes
  pub at_few : length text ≤ JOURNAL_BYTES_MAX → 1 + count ≤ JOURNAL_BYTES_MAX
  at_few few = let fits = lines_fit visits.made text rest at.so_far in let e = at.counted in omega (arith, few, fits, e)

  -- all visits are made
  made_all : visits.made ≡ journal_of visits.setup → visits.made ≡ journal_of S
  made_all whole = whole ∙ ap journal_of at.of_setup

  pub at_end : visits.made ≡ journal_of visits.setup → rest ≡ [] → text ≡ journal_out (journal_of S)
  unfolding journal_out
  at_end whole none =
      at.so_far ∙ ap (λ (t : List ℕ). concat (journal_lines visits.made) ++ t) none ∙ append-nil (concat (journal_lines visits.made))
      ∙ ap (λ (J : List Visit). concat (journal_lines J)) (made_all whole)

  pub at_count : visits.made ≡ journal_of visits.setup → count ≡ length (journal_of S)
  at_count whole = at.counted ∙ ap length (made_all whole)

  -- and the text goes on
  pub fault_behind_all : visits.made ≡ journal_of visits.setup → rest ≢ [] → JournalFirst (journal_of S) text (Line (count + 2))
  fault_behind_all whole goes_on =
      let long : length (journal_lines (journal_of S)) ≡ suc (length (journal_of S)) = ap suc (length-map (journal_of S) visit_line) in
      let number : length (journal_lines (journal_of S)) + 1 ≡ count + 2 = let e = at_count whole in omega (arith, long, e) in
      let text_is : text ≡ concat (journal_lines (journal_of S)) ++ rest =
      at.so_far ∙ ap (λ (J : List Visit). concat (journal_lines J) ++ rest) (made_all whole) in
      subst (λ (n : ℕ). JournalFirst (journal_of S) text (Line n)) number
      (fault_at_end (journal_lines (journal_of S)) text rest text_is goes_on)
