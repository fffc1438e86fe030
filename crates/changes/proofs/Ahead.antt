-- What is left of a text after its first lines.
use Rattle.std.proofs.Common.{◌≡◌, ◌<◌, ◌+◌, ℕ, zero, suc, List, [], ◌∷◌, ◌++◌, length, take, drop, refl, sym, ap, ◌∙◌, arith, length-drop, drop-drop, take-add, append_assoc}
use Rattle.mn_base.specs.Lines.{lines_of, text_of_lines}

-- where a line is left, a byte is
pub byte_left : (text rest : List ℕ) (done : ℕ) → lines_of rest ≡ drop done (lines_of text) → done < length (lines_of text) → 0 < length rest
byte_left text [] done ahead more =
    let none : 0 ≡ length (drop done (lines_of text)) = ap length ahead in
    absurd (omega (arith, length-drop done (lines_of text)))
byte_left text (b ∷ rest) done ahead more = omega arith

-- the line that is left first, and those after it
pub one_line_more : (lines ls : List (List ℕ)) (line : List ℕ) (done : ℕ) → line ∷ ls ≡ drop done lines → ls ≡ drop (done + 1) lines
one_line_more lines ls line done ahead = ap (drop 1) ahead ∙ drop-drop 1 done lines

-- ---- lines that were copied
take_next : (lines ls : List (List ℕ)) (line : List ℕ) (done : ℕ) → line ∷ ls ≡ drop done lines
    → take (done + 1) lines ≡ take done lines ++ line ∷ []
take_next lines ls line done ahead = take-add done 1 lines ∙ ap (λ (l : List (List ℕ)). take done lines ++ take 1 l) (sym ahead)

pub text_of_lines-append : (ls bs : List (List ℕ)) → text_of_lines (ls ++ bs) ≡ text_of_lines ls ++ text_of_lines bs
text_of_lines-append [] bs = refl
text_of_lines-append (line ∷ ls) bs =
    ap (λ (l : List ℕ). line ++ 10 ∷ l) (text_of_lines-append ls bs)
    ∙ sym (append_assoc line (10 ∷ text_of_lines ls) (text_of_lines bs))

pub copied_more : (old to : List ℕ) (lines ls : List (List ℕ)) (line : List ℕ) (done : ℕ) → line ∷ ls ≡ drop done lines
    → to ≡ old ++ text_of_lines (take done lines)
    → (to ++ line) ++ 10 ∷ [] ≡ old ++ text_of_lines (take (done + 1) lines)
copied_more old to lines ls line done ahead copied =
    ap (λ (l : List ℕ). (l ++ line) ++ 10 ∷ []) copied
    ∙ append_assoc (old ++ text_of_lines (take done lines)) line (10 ∷ [])
    ∙ append_assoc old (text_of_lines (take done lines)) (line ++ 10 ∷ [])
    ∙ ap (λ (l : List ℕ). old ++ l)
    (sym (ap text_of_lines (take_next lines ls line done ahead) ∙ text_of_lines-append (take done lines) (line ∷ [])))
