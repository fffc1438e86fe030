-- Lists that rise in some order, and that two of them with the same members are one.
use Rattle.std.proofs.Common.{◌≡◌, ◌≢◌, ◌⊎◌, ℕ, suc, ◌<◌, false, eqb, List, [], ◌∷◌, length, map, get_or, AllPairs, refl, sym, ap, ◌∙◌, subst, inl, inr, arith, true≢false, ⊎_elim}
use Rattle.std.specs.List.Sorted.{IsPermutation, IsSortedByKey}
use Rattle.std.specs.Cmp.{IsTotalOrder, nat_cmp_is}
use Rattle.std.specs.declared.cmp.Ordering.{Ordering}
use Rattle.std.specs.Ordering.{nat_cmp, is_lt, ordering_then}
use Rattle.std.specs.declared.cmp.Ordering.TheVariants.{Less, Equal}
use Rattle.std.proofs.lemmas.Bool.{cases_eq, cases_order, ne_eqb}
use Rattle.std.proofs.lemmas.Bool.Decides.{Decides-eqb}
use Rattle.std.proofs.lemmas.Cmp.{nat_cmp_total, on_total, then_total}
use Rattle.std.proofs.lemmas.List.{get_or-map, length-map}
use Rattle.std.proofs.lemmas.List.MinMax.{ranks_by}
use Rattle.std.proofs.lemmas.List.Sorted.{sorted_far, IsPermutation-map}
use Rattle.std.proofs.lemmas.Map.Keys.{IsDistinct-IsPermutation}
use Rattle.std.proofs.lemmas.Map.Made.{IsDistinct-from_AllPairs, AllPairs-from_IsDistinct}
use Rattle.mn_base.specs.Among.{Among}
use Rattle.mn_base.proofs.Members.{contains-from_among}

-- the members of one list are members of the other
abbrev pub Within : {X : Type 0} → List X → List X → Type 0
Within {X} xs ys = (z : X) → Among z xs → Among z ys

module _ {X : Type 0} (R : X → X → Type 0) where
  -- the first is before each of the others
  pub before-rest : (x : X) (xs : List X) → AllPairs R (x ∷ xs) → (z : X) → Among z xs → R x z
  before-rest x xs ordered z among =
      let at = contains-from_among z xs among in
      let within : at.0 < length xs = at.1 in
      subst (R x) at.2 (ordered 0 (suc at.0) z (omega arith) (omega arith))

  pub rest-ordered : (x : X) (xs : List X) → AllPairs R (x ∷ xs) → AllPairs R xs
  rest-ordered x xs ordered i j d lt within = ordered (suc i) (suc j) d (omega arith) (omega arith)

module _ {X : Type 0} (R : X → X → Type 0) (never_both : (a b : X) → R a b → R b a → ⊥) where
  -- both lists begin with the same
  same_first : (x y : X) (xs ys : List X) → AllPairs R (x ∷ xs) → AllPairs R (y ∷ ys)
      → Within (x ∷ xs) (y ∷ ys) → Within (y ∷ ys) (x ∷ xs) → x ≡ y
  same_first x y xs ys up_xs up_ys there back =
      ⊎_elim
      (λ (same : y ≡ x). sym same)
      (λ (later : Among x ys).
      ⊎_elim
      (λ (same : x ≡ y). same)
      (λ (also : Among y xs). absurd (never_both x y (before-rest R x xs up_xs y also) (before-rest R y ys up_ys x later)))
      (back y (inl refl)))
      (there x (inl refl))

  -- and so their rests have the same members
  within_rest : (x y : X) (xs ys : List X) → x ≡ y → AllPairs R (x ∷ xs) → Within (x ∷ xs) (y ∷ ys) → Within xs ys
  within_rest x y xs ys first up there z among =
      ⊎_elim
      (λ (same : y ≡ z).
      let before : R x z = before-rest R x xs up z among in
      let itself : R z z = subst (λ (w : X). R w z) (first ∙ same) before in
      absurd (never_both z z itself itself))
      (λ (rest : Among z ys). rest)
      (there z (inr among))

  pub same_list : (xs ys : List X) → AllPairs R xs → AllPairs R ys → Within xs ys → Within ys xs → xs ≡ ys
  same_list [] [] up_xs up_ys there back = refl
  same_list [] (y ∷ ys) up_xs up_ys there back = absurd (back y (inl refl))
  same_list (x ∷ xs) [] up_xs up_ys there back = absurd (there x (inl refl))
  same_list (x ∷ xs) (y ∷ ys) up_xs up_ys there back =
      let first = same_first x y xs ys up_xs up_ys there back in
      let rest =
      same_list xs ys (rest-ordered R x xs up_xs) (rest-ordered R y ys up_ys)
      (within_rest x y xs ys first up_xs there)
      (within_rest y x ys xs (sym first) up_ys back) in
      ap (λ (z : X). z ∷ xs) first ∙ ap (λ (zs : List X). y ∷ zs) rest

-- two that a sort by (tick, packet) doesn't exchange, and whose packets differ, are in order
pub in_order : (t p u q : ℕ) → is_lt (ordering_then (nat_cmp u t) (nat_cmp q p)) ≡ false → p ≢ q → (t < u) ⊎ ((t ≡ u) × (p < q))
in_order t p u q kept differ =
    ⊎_elim
    (λ (same : t ≡ u).
    let ties = rw (← nat_cmp_is u t Equal (sym same)) at kept in
    ⊎_elim
    (λ (alike : p ≡ q). absurd (differ alike))
    (λ (other : (p < q) ⊎ (q < p)).
    ⊎_elim
    (λ (before : p < q). inr (same, before))
    (λ (behind : q < p). absurd (true≢false (rw (← nat_cmp_is q p Less behind) at ties)))
    other)
    (cases_order p q))
    (λ (other : (t < u) ⊎ (u < t)).
    ⊎_elim
    (λ (before : t < u). inl before)
    (λ (behind : u < t). absurd (true≢false (rw (← nat_cmp_is u t Less behind) at kept)))
    other)
    (cases_order t u)

abbrev pub pair_cmp : ℕ × ℕ → ℕ × ℕ → Ordering
pair_cmp x y = ordering_then (nat_cmp x.0 y.0) (nat_cmp x.1 y.1)

pub pair_total : IsTotalOrder pair_cmp
pair_total = then_total (on_total (λ (p : ℕ × ℕ). p.0) nat_cmp_total) (on_total (λ (p : ℕ × ℕ). p.1) nat_cmp_total)

-- equality of numbers, as a test, reads the same from both sides
pub eqb-flip : (m n : ℕ) → eqb m n ≡ eqb n m
eqb-flip m n =
    ⊎_elim
    (λ (same : m ≡ n). ap (λ k. eqb k n) same ∙ ap (λ k. eqb n k) (sym same))
    (λ (other : m ≡ n → ⊥). ne_eqb m n other ∙ sym (ne_eqb n m (λ same. other (sym same))))
    (cases_eq m n)

-- numbers that differ do so in whatever order the elements are put
pub permuted-differ : {X : Type 0} (number : X → ℕ) (xs ys : List X) → AllPairs (λ m n. m ≢ n) (map number xs) → IsPermutation xs ys
    → AllPairs (λ a b. number a ≢ number b) ys
permuted-differ number xs ys differ moved i j d lt within same =
    let distinct =
    IsDistinct-IsPermutation eqb eqb-flip (map number xs) (map number ys) (IsPermutation-map number xs ys moved)
    (IsDistinct-from_AllPairs Decides-eqb (map number xs) differ) in
    let at_i : get_or (map number ys) i 0 ≡ number (get_or ys i d) = get_or-map number ys i d 0 (omega arith) in
    let at_j : get_or (map number ys) j 0 ≡ number (get_or ys j d) = get_or-map number ys j d 0 within in
    AllPairs-from_IsDistinct Decides-eqb (map number ys) distinct i j 0 lt (omega (arith, length-map ys number)) (at_i ∙ same ∙ sym at_j)

-- sorted by (tick, packet), elements whose packets differ rise strictly
pub sorted-in_order : {X : Type 0} (tick packet : X → ℕ) (ys : List X) → IsSortedByKey (λ y. (tick y, packet y)) pair_cmp ys
    → AllPairs (λ a b. packet a ≢ packet b) ys
    → AllPairs (λ a b. (tick a < tick b) ⊎ ((tick a ≡ tick b) × (packet a < packet b))) ys
sorted-in_order {X} tick packet ys sorted differ i j d lt within =
    in_order _ _ _ _
    (sorted_far (λ a b. is_lt (pair_cmp (key a) (key b))) (ranks_by pair_total key) ys sorted i j d (omega arith) within)
    (differ i j d lt within)
  where
    key : X → ℕ × ℕ
    key y = (tick y, packet y)
