-- Lists joined from pieces, and lists with the same members.
use Rattle.std.proofs.Common.{◌≡◌, ◌≢◌, ◌⊎◌, ℕ, zero, suc, ◌+◌, ◌<◌, List, [], ◌∷◌, ◌++◌, length, map, filter_map, get_or, take, Option, Some, None, slice_get, slice_index_or, All, AllPairs, refl, sym, ap, ◌∙◌, subst, inl, inr, arith, true≢false, ⊎_elim}
use Rattle.std.specs.List.{flat_map, cons_option, range_with_len}
use Rattle.std.specs.List.Sorted.{IsPermutation, IsSortedByKey}
use Rattle.std.specs.Ordering.{nat_cmp, is_lt}
use Rattle.std.specs.Cmp.{nat_cmp_is}
use Rattle.std.specs.declared.cmp.Ordering.TheVariants.{Less}
use Rattle.std.proofs.lemmas.Bool.{cases_order}
use Rattle.std.proofs.lemmas.Cmp.{nat_cmp_total}
use Rattle.std.proofs.lemmas.List.{get_or-map, length-map, take_more, append-nil}
use Rattle.std.proofs.lemmas.Grind.{flat_map-append}
use Rattle.std.proofs.lemmas.List.FromFn.{get_or-range_with_len, length-range_with_len}
use Rattle.std.proofs.lemmas.List.Kept.{AllPairs-cons}
use Rattle.std.proofs.lemmas.List.MinMax.{ranks_by}
use Rattle.std.proofs.lemmas.List.Sorted.{sorted_far, IsPermutation-refl, IsPermutation-sym, IsPermutation-cons, IsPermutation-trans, IsPermutation-middle}
use Rattle.mn_base.specs.Among.{Among}
use Rattle.mn_base.proofs.Members.{Among-append, Among-index, Among-from-map, Among-from-filter_map, index_of, SplitAt, split_at}
use Rattle.pipe.proofs.HeldOrder.{among-permuted}
use Rattle.parcel.proofs.Lookaheads.{Among-from-flat_map}
use Rattle.parcel.proofs.InOrder.{Within, before-rest, rest-ordered, permuted-differ}

-- numbers that differ from element to element differ as a list
pub differ-map : {X : Type 0} (number : X → ℕ) (xs : List X) → AllPairs (λ a b. number a ≢ number b) xs
    → AllPairs (λ m n. m ≢ n) (map number xs)
differ-map number [] differ i j d lt within same = absurd (omega arith)
differ-map number (x ∷ xs) differ i j d lt within same =
    let long : length (map number (x ∷ xs)) ≡ length (x ∷ xs) = length-map (x ∷ xs) number in
    let in_all : j < length (x ∷ xs) = omega (arith, long, within) in
    let at_i : get_or (map number (x ∷ xs)) i d ≡ number (get_or (x ∷ xs) i x) = get_or-map number (x ∷ xs) i x d (omega arith) in
    let at_j : get_or (map number (x ∷ xs)) j d ≡ number (get_or (x ∷ xs) j x) = get_or-map number (x ∷ xs) j x d in_all in
    differ i j x lt in_all (sym at_i ∙ same ∙ at_j)

-- two lists with the same members, none of them twice, are permutations of one another
pub same-permuted : {X : Type 0} (number : X → ℕ) (xs ys : List X) → AllPairs (λ a b. number a ≢ number b) xs
    → AllPairs (λ a b. number a ≢ number b) ys → Within xs ys → Within ys xs → IsPermutation xs ys
same-permuted number [] [] differ_xs differ_ys there back = IsPermutation-refl []
same-permuted number [] (y ∷ ys) differ_xs differ_ys there back = absurd (back y (inl refl))
same-permuted {X} number (x ∷ xs) ys differ_xs differ_ys there back =
    IsPermutation-trans (x ∷ xs) (x ∷ rest) ys
    (IsPermutation-cons x xs rest
    (same-permuted number xs rest (rest-ordered Differ x xs differ_xs) (rest-ordered Differ x rest differ) there_rest back_rest))
    (IsPermutation-sym ys (x ∷ rest) moved)
  where
    Differ : X → X → Type 0
    Differ a b = number a ≢ number b

    s : SplitAt x ys
    s = split_at x ys (there x (inl refl))

    rest : List X
    rest = s.front ++ s.rest

    moved : IsPermutation ys (x ∷ rest)
    moved = subst (λ l. IsPermutation l (x ∷ rest)) (sym s.is) (IsPermutation-middle s.front x s.rest)

    differ : AllPairs Differ (x ∷ rest)
    differ = permuted-differ number ys (x ∷ rest) (differ-map number ys differ_ys) moved

    there_rest : Within xs rest
    there_rest z among =
        ⊎_elim
        (λ (same : x ≡ z). absurd (before-rest Differ x xs differ_xs z among (ap number same)))
        (λ (in_rest : Among z rest). in_rest)
        (among-permuted z ys (x ∷ rest) moved (there z (inr among)))

    back_rest : Within rest xs
    back_rest z among =
        ⊎_elim
        (λ (same : x ≡ z). absurd (before-rest Differ x rest differ z among (ap number same)))
        (λ (in_rest : Among z xs). in_rest)
        (back z (among-permuted z (x ∷ rest) ys (IsPermutation-sym ys (x ∷ rest) moved) (inr among)))

-- sorted by numbers that differ, elements rise
pub sorted-rises : {X : Type 0} (number : X → ℕ) (xs : List X) → IsSortedByKey number nat_cmp xs
    → AllPairs (λ a b. number a ≢ number b) xs → AllPairs (λ a b. number a < number b) xs
sorted-rises {X} number xs sorted differ i j d lt within =
    let kept = sorted_far (λ a b. is_lt (nat_cmp (number a) (number b))) (ranks_by nat_cmp_total number) xs sorted i j d (omega arith) within in
    ⊎_elim
    (λ (same : number (get_or xs i d) ≡ number (get_or xs j d)). absurd (differ i j d lt within same))
    (λ (other : (number (get_or xs i d) < number (get_or xs j d)) ⊎ (number (get_or xs j d) < number (get_or xs i d))).
    ⊎_elim
    (λ (before : number (get_or xs i d) < number (get_or xs j d)). before)
    (λ (behind : number (get_or xs j d) < number (get_or xs i d)).
    absurd (true≢false (rw (← nat_cmp_is (number (get_or xs j d)) (number (get_or xs i d)) Less behind) at kept)))
    other)
    (cases_order (number (get_or xs i d)) (number (get_or xs j d)))

-- what holds of each member holds by place
pub All-from_each : {X : Type 0} (P : X → Type 0) (xs : List X) → ((z : X) → Among z xs → P z) → All P xs
All-from_each P xs each i d within = each (slice_index_or xs i d) (Among-index xs i d within)

-- two lists joined, where it holds within each and across
pub AllPairs-join : {X : Type 0} (R : X → X → Type 0) (xs ys : List X) → AllPairs R xs → AllPairs R ys
    → ((x y : X) → Among x xs → Among y ys → R x y) → AllPairs R (xs ++ ys)
AllPairs-join R [] ys up_xs up_ys across = up_ys
AllPairs-join {X} R (x ∷ xs) ys up_xs up_ys across =
    AllPairs-cons R x (xs ++ ys)
    (All-from_each (R x) (xs ++ ys) (λ z among.
    ⊎_elim (λ (h : Among z xs). before-rest R x xs up_xs z h) (λ (h : Among z ys). across x z (inl refl) h) (Among-append z xs ys among)))
    (AllPairs-join R xs ys (rest-ordered R x xs up_xs) up_ys (λ a b h k. across a b (inr h) k))

-- a member stands at an index
pub get_of : {X : Type 0} (x : X) (xs : List X) → Among x xs → (i : ℕ) × (slice_get xs i ≡ Some x)
get_of x [] among = absurd among
get_of x (y ∷ ys) (inl same) = (0, ap Some same)
get_of x (y ∷ ys) (inr among) = let found = get_of x ys among in (suc found.0, found.1)

-- below the length something stands
pub get-below : {X : Type 0} (xs : List X) (i : ℕ) → i < length xs → (x : X) × (slice_get xs i ≡ Some x)
get-below [] i below = absurd (omega arith)
get-below (x ∷ xs) zero below = (x, refl)
get-below (x ∷ xs) (suc i) below = get-below xs i (omega arith)

-- pieces, each with numbers of its own home, joined
pub pieces-differ : {P X : Type 0} (number : X → ℕ) (home : ℕ → ℕ) (piece : P → List X) (first : ℕ) (ps : List P)
    → ((i : ℕ) (p : P) → slice_get ps i ≡ Some p → AllPairs (λ a b. number a ≢ number b) (piece p))
    → ((i : ℕ) (p : P) → slice_get ps i ≡ Some p → (x : X) → Among x (piece p) → home (number x) ≡ first + i)
    → AllPairs (λ a b. number a ≢ number b) (flat_map piece ps)
pieces-differ number home piece first [] within at_home = λ i j d lt inside. absurd (omega arith)
pieces-differ {P} {X} number home piece first (p ∷ ps) within at_home =
    AllPairs-join (λ a b. number a ≢ number b) (piece p) (flat_map piece ps) (within 0 p refl)
    (pieces-differ number home piece (first + 1) ps (λ i q at. within (suc i) q at)
    (λ i q at x among. let here : home (number x) ≡ first + suc i = at_home (suc i) q at x among in omega (arith, here)))
    (λ a b h k same.
    let from = Among-from-flat_map piece b ps k in
    let at = get_of from.0 ps from.1 in
    let one : home (number a) ≡ first + 0 = at_home 0 p refl a h in
    let other : home (number b) ≡ first + suc at.0 = at_home (suc at.0) from.0 at.1 b from.2 in
    let alike : home (number a) ≡ home (number b) = ap home same in
    omega (arith, one, other, alike))

-- what is chosen from a list keeps the order of its numbers
pub chosen-ordered : {X Y : Type 0} (R : ℕ → ℕ → Type 0) (f : X → Option Y) (m : X → ℕ) (n : Y → ℕ)
    → ((x : X) (y : Y) → f x ≡ Some y → n y ≡ m x) → (xs : List X) → AllPairs (λ a b. R (m a) (m b)) xs
    → AllPairs (λ a b. R (n a) (n b)) (filter_map f xs)
chosen-ordered R f m n keeps [] up = λ i j d lt within. absurd (omega arith)
chosen-ordered {X} {Y} R f m n keeps (x ∷ xs) up =
    go (f x) refl (chosen-ordered R f m n keeps xs (rest-ordered (λ a b. R (m a) (m b)) x xs up))
  where
    go : (o : Option Y) → f x ≡ o → AllPairs (λ a b. R (n a) (n b)) (filter_map f xs)
        → AllPairs (λ a b. R (n a) (n b)) (cons_option o (filter_map f xs))
    go None at rest = rest
    go (Some y) at rest =
        AllPairs-cons (λ a b. R (n a) (n b)) y (filter_map f xs)
        (All-from_each (λ b. R (n y) (n b)) (filter_map f xs) (λ z among.
        let from = Among-from-filter_map f z xs among in
        let before : R (m x) (m from.0) = before-rest (λ a b. R (m a) (m b)) x xs up from.0 from.1 in
        subst (λ k. R (n y) k) (sym (keeps from.0 z from.2)) (subst (λ k. R k (m from.0)) (sym (keeps x y at)) before)))
        rest

-- a mapped list keeps the order of its numbers
pub mapped-ordered : {X Y : Type 0} (R : ℕ → ℕ → Type 0) (f : X → Y) (m : X → ℕ) (n : Y → ℕ) → ((x : X) → n (f x) ≡ m x)
    → (xs : List X) → AllPairs (λ a b. R (m a) (m b)) xs → AllPairs (λ a b. R (n a) (n b)) (map f xs)
mapped-ordered R f m n keeps [] up = λ i j d lt within. absurd (omega arith)
mapped-ordered {X} {Y} R f m n keeps (x ∷ xs) up =
    AllPairs-cons (λ a b. R (n a) (n b)) (f x) (map f xs)
    (All-from_each (λ b. R (n (f x)) (n b)) (map f xs) (λ z among.
    let from = Among-from-map f z xs among in
    let before : R (m x) (m from.0) = before-rest (λ a b. R (m a) (m b)) x xs up from.0 from.1 in
    subst (λ k. R (n (f x)) k) (sym (keeps from.0) ∙ ap n from.2) (subst (λ k. R k (m from.0)) (sym (keeps x)) before)))
    (mapped-ordered R f m n keeps xs (rest-ordered (λ a b. R (m a) (m b)) x xs up))

-- the numbers of a range rise
pub range-rises : (a n : ℕ) → AllPairs (λ p q. p < q) (range_with_len a n)
range-rises a n i j d lt within =
    let long : length (range_with_len a n) ≡ n = length-range_with_len a n in
    let in_range : j < n = omega (arith, long, within) in
    let at_i : get_or (range_with_len a n) i d ≡ a + i = get_or-range_with_len a n i d (omega arith) in
    let at_j : get_or (range_with_len a n) j d ≡ a + j = get_or-range_with_len a n j d in_range in
    omega (arith, at_i, at_j, lt)

pub range-below : (a n v : ℕ) → Among v (range_with_len a n) → v < a + n
range-below a n v among =
    let s = index_of v (range_with_len a n) among in
    let long : length (range_with_len a n) ≡ n = length-range_with_len a n in
    let within : s.index < length (range_with_len a n) = s.within in
    let at : get_or (range_with_len a n) s.index 0 ≡ a + s.index = get_or-range_with_len a n s.index 0 (omega (arith, long, within)) in
    let here : get_or (range_with_len a n) s.index 0 ≡ v = s.here 0 in
    omega (arith, long, within, at, here)

-- one piece more
pub pieces-more : {P X : Type 0} (piece : P → List X) (ps : List P) (i : ℕ) (p : P) → i < length ps → p ≡ get_or ps i p
    → flat_map piece (take (i + 1) ps) ≡ flat_map piece (take i ps) ++ piece p
pieces-more piece ps i p below here =
    ap (flat_map piece) (take_more ps i p below ∙ ap (λ q. take i ps ++ q ∷ []) (sym here))
    ∙ flat_map-append piece (take i ps) (p ∷ [])
    ∙ ap (λ xs. flat_map piece (take i ps) ++ xs) (append-nil (piece p))
