-- Each text is that of the lines, or it has a first fault: line by line.
use Rattle.std.proofs.Common.{◌≡◌, ◌≢◌, ℕ, ◌+◌, List, [], ◌∷◌, ◌++◌, length, refl, sym, ap, ◌∙◌, ◌⊎◌, inl, inr, ⊎_elim, append_assoc, arith}
use Rattle.std.proofs.lemmas.List.{append-nil}
use Rattle.std.specs.List.{concat}
use Rattle.std.proofs.lemmas.Bool.{cases_eq}
use Rattle.journal_check.specs.declared.fault.JournalFault.{JournalFault}
use Rattle.journal_check.specs.declared.fault.JournalFault.TheVariants.{Line, Short}
use Rattle.journal_check.specs.Faults.{FirstFault, PartsAt}

abbrev Opens : List ℕ → List ℕ → Type 0
Opens line text = (rest : List ℕ) × (text ≡ line ++ rest)

opens_with_byte : (b c : ℕ) (line text : List ℕ) → Opens line text ⊎ (Opens line text → ⊥) → (c ≡ b) ⊎ (c ≡ b → ⊥)
    → Opens (b ∷ line) (c ∷ text) ⊎ (Opens (b ∷ line) (c ∷ text) → ⊥)
opens_with_byte b c line text (inl opens) (inl same) = inl (opens.0, let e = opens.1 in cc)
opens_with_byte b c line text (inr other) (inl same) = inr (λ opens. other (opens.0, let e = opens.1 in cc))
opens_with_byte b c line text decided (inr other) = inr (λ opens. other (let e = opens.1 in cc))

opens_or_not : (line text : List ℕ) → Opens line text ⊎ (Opens line text → ⊥)
opens_or_not [] text = inl (text, refl)
opens_or_not (b ∷ line) [] = inr (λ opens. let e = opens.1 in cc)
opens_or_not (b ∷ line) (c ∷ text) = opens_with_byte b c line text (opens_or_not line text) (cases_eq c b)

abbrev Answer : List (List ℕ) → List ℕ → Type 0
Answer lines text = (text ≡ concat lines) ⊎ ((fault : JournalFault) × FirstFault lines text fault)

-- a line in front of both
fault_behind : (line : List ℕ) (lines : List (List ℕ)) (text rest : List ℕ) → text ≡ line ++ rest
    → (fault : JournalFault) → FirstFault lines rest fault → (f : JournalFault) × FirstFault (line ∷ lines) text f
fault_behind line lines text rest is (Line n) d = (
  Line (n + 1),
  record {
    before = line ∷ d.before;
    ahead = d.ahead;
    rest = d.rest;
    lines_are = ap (λ (ls : List (List ℕ)). line ∷ ls) d.lines_are;
    text_is = is ∙ ap (λ (t : List ℕ). line ++ t) d.text_is ∙ sym (append_assoc line (concat d.before) d.rest);
    goes_on = d.goes_on;
    other = d.other;
    number = let e = d.number in omega arith;
  },
)
fault_behind line lines text rest is (Short n) d = (
  Short (n + 1),
  record {
    before = line ∷ d.before;
    ahead = d.ahead;
    lines_are = ap (λ (ls : List (List ℕ)). line ∷ ls) d.lines_are;
    text_is = is ∙ ap (λ (t : List ℕ). line ++ t) d.text_is;
    more = d.more;
    number = let e = d.number in omega arith;
  },
)

-- after some lines that stand in both, the next doesn't open the text
pub fault_here : (lines before ahead : List (List ℕ)) (line text rest : List ℕ) (fault : JournalFault)
    → lines ≡ before ++ line ∷ ahead → text ≡ concat before ++ rest → PartsAt line (length before) rest fault → FirstFault lines text fault
fault_here lines before ahead line text rest (Line n) lines_are text_is parts = record {
  before = before;
  ahead = line ∷ ahead;
  rest = rest;
  lines_are = lines_are;
  text_is = text_is;
  goes_on = parts.0;
  other = λ opens. parts.1 opens.0 opens.1;
  number = parts.2;
}
fault_here lines before ahead line text rest (Short n) lines_are text_is parts = record {
  before = before;
  ahead = line ∷ ahead;
  lines_are = lines_are;
  text_is = text_is ∙ ap (λ (t : List ℕ). concat before ++ t) parts.0 ∙ append-nil (concat before);
  more = λ e. cc;
  number = parts.1;
}

-- the text goes on after all lines
pub fault_at_end : (lines : List (List ℕ)) (text rest : List ℕ) → text ≡ concat lines ++ rest → rest ≢ []
    → FirstFault lines text (Line (length lines + 1))
fault_at_end lines text rest is goes_on = record {
  before = lines;
  ahead = [];
  rest = rest;
  lines_are = sym (append-nil lines);
  text_is = is;
  goes_on = goes_on;
  other = λ opens. opens;
  number = refl;
}

parted : (line : List ℕ) (lines : List (List ℕ)) (text : List ℕ) → (Opens line text → ⊥) → Answer (line ∷ lines) text
parted line lines [] other = inr (Short 0, fault_here (line ∷ lines) [] lines line [] [] (Short 0) refl refl (refl, refl))
parted line lines (b ∷ text) other =
    inr (Line 1, fault_here (line ∷ lines) [] lines line (b ∷ text) (b ∷ text) (Line 1) refl refl ((λ e. cc), (λ rest e. other (rest, e)), refl))

opened : (line : List ℕ) (lines : List (List ℕ)) (text : List ℕ) → ((t : List ℕ) → Answer lines t) → Opens line text
    → Answer (line ∷ lines) text
opened line lines text more opens =
    ⊎_elim (λ is. inl (opens.1 ∙ ap (λ (t : List ℕ). line ++ t) is)) (λ found. inr (fault_behind line lines text opens.0 opens.1 found.0 found.1))
    (more opens.0)

pub each_text : (lines : List (List ℕ)) (text : List ℕ) → Answer lines text
each_text [] [] = inl refl
each_text [] (b ∷ text) = inr (Line 1, fault_at_end [] (b ∷ text) (b ∷ text) refl (λ e. cc))
each_text (line ∷ lines) text = ⊎_elim (opened line lines text (λ t. each_text lines t)) (parted line lines text) (opens_or_not line text)
