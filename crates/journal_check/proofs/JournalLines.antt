-- The lines of a journal, one by one.
use Rattle.std.proofs.Common.{◌≡◌, ◌≢◌, ℕ, ◌+◌, ◌≤◌, List, [], ◌∷◌, ◌++◌, length, map, codes, refl, ap, ◌∙◌, arith}
use Rattle.std.specs.List.{concat, flat_map}
use Rattle.std.proofs.lemmas.List.{length-append, map-append, length-map}
use Rattle.journal.specs.declared.visit.Visit.{Visit}
use Rattle.journal_check.specs.Texts.{whole_line, journal_head, visit_words, visit_line, journal_lines}
use Rattle.journal_check.proofs.Partings.{AreWhole}

line_ends : (words : List ℕ) → whole_line words ≢ []
line_ends [] e = cc
line_ends (b ∷ words) e = cc

visit_lines-whole : (visits : List Visit) → AreWhole (map visit_line visits)
visit_lines-whole [] = tt
visit_lines-whole (v ∷ visits) = (line_ends (visit_words v), visit_lines-whole visits)

pub journal_lines-whole : (visits : List Visit) → AreWhole (journal_lines visits)
journal_lines-whole visits = (line_ends (codes "modelnet journal 1"), visit_lines-whole visits)

-- each line has a byte at least
lines_len : (lines : List (List ℕ)) → AreWhole lines → length lines ≤ length (concat lines)
lines_len [] whole = omega arith
lines_len ([] ∷ lines) whole = absurd (whole.0 refl)
lines_len ((b ∷ l) ∷ lines) whole =
    let more = lines_len lines whole.1 in
    let e = length-append (b ∷ l) (concat lines) in
    omega arith

pub lines_fit : (visits : List Visit) (text rest : List ℕ) → text ≡ concat (journal_lines visits) ++ rest
    → 1 + length visits ≤ length text
lines_fit visits text rest is =
    let few = lines_len (journal_lines visits) (journal_lines-whole visits) in
    let count = length-map visits visit_line in
    let e = ap length is ∙ length-append (concat (journal_lines visits)) rest in
    omega arith

-- the lines of one visit more
pub journal_lines-push : (visits more : List Visit) (v : Visit)
    → journal_lines (visits ++ v ∷ more) ≡ journal_lines visits ++ visit_line v ∷ map visit_line more
journal_lines-push visits more v = ap (λ (ls : List (List ℕ)). journal_head ∷ ls) (map-append visit_line visits (v ∷ more))

-- the lines joined, one after the other
concat_map : (visits : List Visit) → concat (map visit_line visits) ≡ flat_map visit_line visits
concat_map [] = refl
concat_map (v ∷ visits) = ap (λ (t : List ℕ). visit_line v ++ t) (concat_map visits)

pub lines_joined : (visits : List Visit) → concat (journal_lines visits) ≡ journal_head ++ flat_map visit_line visits
lines_joined visits = ap (λ (t : List ℕ). journal_head ++ t) (concat_map visits)
