-- Lines of pipes that are printed one by one, and owners that are looked at one by one.
use Rattle.std.proofs.Common.{◌≡◌, ◌<◌, ◌+◌, ℕ, zero, suc, List, [], ◌∷◌, ◌++◌, length, take, get_or, map, Option, Some, None, refl, sym, ap, ◌∙◌, arith, append_assoc, length-take-le, get_or-take}
use Rattle.std.proofs.lemmas.List.{get_or-map, length-map}
use Rattle.mn_base.specs.Lines.{text_of_lines}
use Rattle.mn_base.specs.Fields.{line_of_fields}
use Rattle.changes.proofs.Ahead.{text_of_lines-append}
use Rattle.ownership.specs.declared.faults.AssignFault.TheVariants.{Missing}
use Rattle.ownership.specs.Texts.{pipe_labels, pipe_lines}
use Rattle.ownership.specs.Owners.{IsFree, Misses}

pipe_lines-push : (q : ℕ) (cores : List ℕ) (core : ℕ)
    → pipe_lines q (cores ++ core ∷ []) ≡ pipe_lines q cores ++ line_of_fields pipe_labels ((q + length cores) ∷ core ∷ []) ∷ []
pipe_lines-push q [] core = ap (λ n. line_of_fields pipe_labels (n ∷ core ∷ []) ∷ []) (let same : q ≡ q + 0 = omega arith in same)
pipe_lines-push q (c ∷ cs) core =
    ap (λ (ls : List (List ℕ)). line_of_fields pipe_labels (q ∷ c ∷ []) ∷ ls)
    (pipe_lines-push (q + 1) cs core
    ∙ ap (λ n. pipe_lines (q + 1) cs ++ line_of_fields pipe_labels (n ∷ core ∷ []) ∷ [])
    (let same : q + 1 + length cs ≡ q + suc (length cs) = omega arith in same))

take-next : (xs : List ℕ) (n : ℕ) → n < length xs → take (n + 1) xs ≡ take n xs ++ get_or xs n 0 ∷ []
take-next [] n within = absurd (omega arith)
take-next (x ∷ xs) zero within = refl
take-next (x ∷ xs) (suc n) within =
    ap (λ k. take k (x ∷ xs)) (let same : suc n + 1 ≡ suc (n + 1) = omega arith in same)
    ∙ ap (λ (ys : List ℕ). x ∷ ys) (take-next xs n (omega arith))

-- the line of one pipe more
pub lines_next : (owners : List ℕ) (n core : ℕ) → n < length owners → core ≡ get_or owners n 0
    → text_of_lines (pipe_lines 0 (take (n + 1) owners))
    ≡ text_of_lines (pipe_lines 0 (take n owners)) ++ (line_of_fields pipe_labels (n ∷ core ∷ []) ++ 10 ∷ [])
lines_next owners n core within is =
    ap (λ (cs : List ℕ). text_of_lines (pipe_lines 0 cs)) (take-next owners n within)
    ∙ ap text_of_lines (pipe_lines-push 0 (take n owners) (get_or owners n 0))
    ∙ text_of_lines-append (pipe_lines 0 (take n owners)) (line_of_fields pipe_labels ((0 + length (take n owners)) ∷ get_or owners n 0 ∷ []) ∷ [])
    ∙ ap (λ k. text_of_lines (pipe_lines 0 (take n owners)) ++ (line_of_fields pipe_labels (k ∷ get_or owners n 0 ∷ []) ++ 10 ∷ []))
    (let len : length (take n owners) ≡ n = length-take-le n owners (omega (arith, within)) in
    let same : 0 + length (take n owners) ≡ n = omega (arith, len) in same)
    ∙ ap (λ k. text_of_lines (pipe_lines 0 (take n owners)) ++ (line_of_fields pipe_labels (n ∷ k ∷ []) ++ 10 ∷ [])) (sym is)

pub printed_next : (old now new owners : List ℕ) (n core : ℕ) → n < length owners → core ≡ get_or owners n 0
    → now ≡ old ++ text_of_lines (pipe_lines 0 (take n owners)) → new ≡ now ++ (line_of_fields pipe_labels (n ∷ core ∷ []) ++ 10 ∷ [])
    → new ≡ old ++ text_of_lines (pipe_lines 0 (take (n + 1) owners))
printed_next old now new owners n core within is before written =
    written
    ∙ ap (λ (l : List ℕ). l ++ (line_of_fields pipe_labels (n ∷ core ∷ []) ++ 10 ∷ [])) before
    ∙ append_assoc old (text_of_lines (pipe_lines 0 (take n owners))) (line_of_fields pipe_labels (n ∷ core ∷ []) ++ 10 ∷ [])
    ∙ ap (λ (l : List ℕ). old ++ l) (sym (lines_next owners n core within is))

-- ---- owners
take-next-option : (xs : List (Option ℕ)) (n : ℕ) (d : Option ℕ) → n < length xs → take (n + 1) xs ≡ take n xs ++ get_or xs n d ∷ []
take-next-option [] n d within = absurd (omega arith)
take-next-option (x ∷ xs) zero d within = refl
take-next-option (x ∷ xs) (suc n) d within =
    ap (λ k. take k (x ∷ xs)) (let same : suc n + 1 ≡ suc (n + 1) = omega arith in same)
    ∙ ap (λ (ys : List (Option ℕ)). x ∷ ys) (take-next-option xs n d (omega arith))

map-push : (xs : List ℕ) (x : ℕ) → map (λ core. Some core) (xs ++ x ∷ []) ≡ map (λ core. Some core) xs ++ Some x ∷ []
map-push [] x = refl
map-push (y ∷ ys) x = ap (λ (zs : List (Option ℕ)). Some y ∷ zs) (map-push ys x)

pub one_owned : (owners : List (Option ℕ)) (cores : List ℕ) (n core : ℕ) (d : Option ℕ)
    → map (λ core. Some core) cores ≡ take n owners → n < length owners → get_or owners n d ≡ Some core
    → map (λ core. Some core) (cores ++ core ∷ []) ≡ take (n + 1) owners
one_owned owners cores n core d same within is =
    map-push cores core
    ∙ ap (λ (xs : List (Option ℕ)). xs ++ Some core ∷ []) same
    ∙ ap (λ (x : Option ℕ). take n owners ++ x ∷ []) (sym is)
    ∙ sym (take-next-option owners n d within)

-- the first pipe without an owner
pub misses_here : (owners : List (Option ℕ)) (cores : List ℕ) (n : ℕ) → map (λ core. Some core) cores ≡ take n owners
    → n < length owners → IsFree owners n → Misses owners (Missing n)
misses_here owners cores n same within free = record {
  pipe = n;
  is = refl;
  within = within;
  free = free;
  least = λ k low is_free.
      let len : length (map (λ (core : ℕ). Some core) cores) ≡ length (take n owners) = ap length same in
      let long : k < length cores =
      omega (arith, len, low, length-take-le n owners (omega (arith, within)), length-map cores (λ (core : ℕ). Some core)) in
      let here : Some (get_or cores k 0) ≡ None =
      sym (get_or-map (λ (core : ℕ). Some core) cores k 0 None long)
      ∙ ap (λ (xs : List (Option ℕ)). get_or xs k None) same
      ∙ get_or-take n owners k None low
      ∙ is_free in
      cc;
}
