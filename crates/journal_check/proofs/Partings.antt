-- Where a text parts from lines. There is one such place, since up to it both have the same lines.
use Rattle.std.proofs.Common.{◌≡◌, ◌≢◌, ℕ, suc, ◌+◌, List, [], ◌∷◌, ◌++◌, length, Result, Ok, Err, refl, sym, ap, subst, ◌∙◌, append_assoc}
use Rattle.std.specs.Result.{IfOk, IfErr}
use Rattle.std.specs.List.{concat}
use Rattle.std.proofs.lemmas.List.{append-nil, append_cancel_left}
use Rattle.mn_base.specs.declared.refusal.Refusal.{Refusal}
use Rattle.mn_base.specs.declared.refusal.Refusal.TheVariants as refusal
use Rattle.mn_base.specs.Refused.{IfFault, Gives, Refuses}
use Rattle.journal_check.specs.declared.fault.JournalFault.{JournalFault}
use Rattle.journal_check.specs.declared.fault.JournalFault.TheVariants.{Line, Short}
use Rattle.journal_check.specs.Faults.{OpensWith, DiffersAt, EndsAfter, FirstFault}

-- no line is empty, for each has a line feed
abbrev pub AreWhole : List (List ℕ) → Type 0
AreWhole [] = Unit {0}
AreWhole (line ∷ lines) = (line ≢ []) × AreWhole lines

pub whole_behind : (before ahead : List (List ℕ)) → AreWhole (before ++ ahead) → AreWhole ahead
whole_behind [] ahead whole = whole
whole_behind (line ∷ before) ahead whole = whole_behind before ahead whole.1

-- the text begins with some lines, and then none of those ahead opens what is left of it
pub record Parting (lines : List (List ℕ)) (text : List ℕ) : Type 0 where
  pub before : List (List ℕ)
  pub ahead : List (List ℕ)
  pub rest : List ℕ
  pub lines_are : lines ≡ before ++ ahead
  pub text_is : text ≡ concat before ++ rest
  pub other : OpensWith ahead rest → ⊥

-- a line that stands in both is part of what is before, for each of two such places
abbrev SameParting : (b c a d : List (List ℕ)) → (r s : List ℕ) → Type 0
SameParting b c a d r s = (length b ≡ length c) × (a ≡ d) × (r ≡ s)

same_parting : (b c a d : List (List ℕ)) (r s : List ℕ) → b ++ a ≡ c ++ d → concat b ++ r ≡ concat c ++ s
    → (OpensWith a r → ⊥) → (OpensWith d s → ⊥) → SameParting b c a d r s
same_parting [] [] a d r s lines text other others = (refl, lines, text)
same_parting [] (x ∷ c) a d r s lines text other others =
    absurd (other (subst (λ (ls : List (List ℕ)). OpensWith ls r) (sym lines) (concat c ++ s, text ∙ append_assoc x (concat c) s)))
same_parting (x ∷ b) [] a d r s lines text other others =
    absurd (others (subst (λ (ls : List (List ℕ)). OpensWith ls s) lines (concat b ++ r, sym text ∙ append_assoc x (concat b) r)))
same_parting (x ∷ b) (y ∷ c) a d r s lines text other others =
    let head : x ≡ y = cc in
    let tail : b ++ a ≡ c ++ d = cc in
    let behind : x ++ (concat b ++ r) ≡ x ++ (concat c ++ s) =
    sym (append_assoc x (concat b) r) ∙ text ∙ append_assoc y (concat c) s ∙ ap (λ (l : List ℕ). l ++ (concat c ++ s)) (sym head) in
    let more = same_parting b c a d r s tail (append_cancel_left x (concat b ++ r) (concat c ++ s) behind) other others in
    (ap suc more.0, more.1, more.2)

one_parting : (lines : List (List ℕ)) (text : List ℕ) (p q : Parting lines text)
    → SameParting p.before q.before p.ahead q.ahead p.rest q.rest
one_parting lines text p q =
    same_parting p.before q.before p.ahead q.ahead p.rest q.rest (sym p.lines_are ∙ q.lines_are) (sym p.text_is ∙ q.text_is) p.other q.other

-- the text of the lines parts from them at its end
at_end : (lines : List (List ℕ)) (text : List ℕ) → text ≡ concat lines → Parting lines text
at_end lines text is = record {
  before = lines;
  ahead = [];
  rest = [];
  lines_are = sym (append-nil lines);
  text_is = is ∙ sym (append-nil (concat lines));
  other = λ opens. opens;
}

at_other : (lines : List (List ℕ)) (text : List ℕ) (n : ℕ) → DiffersAt lines text n → Parting lines text
at_other lines text n d = record {
  before = d.before;
  ahead = d.ahead;
  rest = d.rest;
  lines_are = d.lines_are;
  text_is = d.text_is;
  other = d.other;
}

nothing_opens : (lines : List (List ℕ)) → AreWhole lines → OpensWith lines [] → ⊥
nothing_opens [] whole opens = opens
nothing_opens (line ∷ lines) whole opens = go line whole.0 opens.0 opens.1
  where
    go : (l : List ℕ) → l ≢ [] → (rest : List ℕ) → [] ≡ l ++ rest → ⊥
    go [] full rest e = full refl
    go (b ∷ l) full rest e = cc

at_short : (lines : List (List ℕ)) (text : List ℕ) (n : ℕ) → AreWhole lines → EndsAfter lines text n → Parting lines text
at_short lines text n whole e = record {
  before = e.before;
  ahead = e.ahead;
  rest = [];
  lines_are = e.lines_are;
  text_is = e.text_is ∙ sym (append-nil (concat e.before));
  other = nothing_opens e.ahead (whole_behind e.before e.ahead (subst AreWhole e.lines_are whole));
}

-- the text of the lines has no fault
pub no_fault : (lines : List (List ℕ)) (text : List ℕ) (fault : JournalFault) → AreWhole lines → text ≡ concat lines
    → FirstFault lines text fault → ⊥
unfolding at_end at_other at_short
no_fault lines text (Line n) whole is d =
    let same = one_parting lines text (at_end lines text is) (at_other lines text n d) in
    d.goes_on (sym same.2)
no_fault lines text (Short n) whole is e =
    let same = one_parting lines text (at_end lines text is) (at_short lines text n whole e) in
    e.more (sym same.1)

-- a text has one first fault at most
pub one_fault : (lines : List (List ℕ)) (text : List ℕ) (fault other : JournalFault) → AreWhole lines → FirstFault lines text fault
    → FirstFault lines text other → fault ≡ other
unfolding at_other at_short
one_fault lines text (Line n) (Line m) whole d e =
    let same = one_parting lines text (at_other lines text n d) (at_other lines text m e) in
    ap (λ (k : ℕ). Line k) (d.number ∙ ap (λ (k : ℕ). k + 1) same.0 ∙ sym e.number)
one_fault lines text (Line n) (Short m) whole d e =
    absurd (d.goes_on (one_parting lines text (at_other lines text n d) (at_short lines text m whole e)).2)
one_fault lines text (Short n) (Line m) whole d e =
    absurd (e.goes_on (sym (one_parting lines text (at_short lines text n whole d) (at_other lines text m e)).2))
one_fault lines text (Short n) (Short m) whole d e =
    let same = one_parting lines text (at_short lines text n whole d) (at_short lines text m whole e) in
    ap (λ (k : ℕ). Short k) (d.number ∙ same.0 ∙ sym e.number)

-- where it was found that a text is that of the lines, or its first fault, the answer is the only one
pub gives_count : (lines : List (List ℕ)) (text : List ℕ) (count : ℕ) (result : Result ℕ (Refusal JournalFault)) → AreWhole lines
    → IfOk result (λ n. n ≡ count) → IfErr result (λ refusal. IfFault refusal (FirstFault lines text)) → text ≡ concat lines
    → Gives count result
gives_count lines text count (Ok n) whole counted fault is = counted
gives_count lines text count (Err refusal.NoMemory) whole counted fault is = tt
gives_count lines text count (Err (refusal.Fault f)) whole counted fault is = no_fault lines text f whole is fault

pub gives_fault : (lines : List (List ℕ)) (text : List ℕ) (fault : JournalFault) (result : Result ℕ (Refusal JournalFault)) → AreWhole lines
    → IfOk result (λ _. text ≡ concat lines) → IfErr result (λ refusal. IfFault refusal (FirstFault lines text)) → FirstFault lines text fault
    → Refuses fault result
gives_fault lines text fault (Ok n) whole right told has = no_fault lines text fault whole right has
gives_fault lines text fault (Err refusal.NoMemory) whole right told has = tt
gives_fault lines text fault (Err (refusal.Fault f)) whole right told has = one_fault lines text f fault whole told has
