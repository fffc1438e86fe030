-- Lists whose members differ, how many members they have, and how many a test keeps.
use Rattle.std.proofs.Common.{◌≡◌, ◌≢◌, ◌⊎◌, inl, inr, ⊎_elim, suc, ◌+◌, Bool, true, false, cond, List, [], ◌∷◌, ◌++◌, length, map, filter, slice_index_or, AllPairs, refl, sym, ap, ◌∙◌, subst, arith}
use Rattle.std.proofs.lemmas.List.Kept.{AllPairs-cons}
use Rattle.std.specs.Prelude.{◌↔◌}
use Rattle.mn_base.specs.Among.{Among}
use Rattle.mn_base.proofs.Members.{Among-append, Among-append-left, Among-append-right, Among-from-map, Among-from-filter, Among-index, SplitAt, split_at}
use Rattle.parcel.proofs.InOrder.{before-rest, rest-ordered}

-- each member differs from all after it
abbrev pub AllDiffer : {X : Type 0} → List X → Type 0
AllDiffer [] = Unit {0}
AllDiffer {X} (x ∷ xs) = ((y : X) → Among y xs → x ≢ y) × AllDiffer xs

pub differ-from : {X : Type 0} (xs : List X) → AllPairs (λ x y. x ≢ y) xs → AllDiffer xs
differ-from [] d = tt
differ-from {X} (x ∷ xs) d =
    (before-rest (λ (a b : X). a ≢ b) x xs d, differ-from xs (rest-ordered (λ (a b : X). a ≢ b) x xs d))

pub pairs-from : {X : Type 0} (xs : List X) → AllDiffer xs → AllPairs (λ x y. x ≢ y) xs
pairs-from [] d = λ i j e lt within. absurd (omega arith)
pairs-from {X} (x ∷ xs) d =
    AllPairs-cons (λ (a b : X). a ≢ b) x xs (λ i e within. d.0 (slice_index_or xs i e) (Among-index xs i e within)) (pairs-from xs d.1)

-- what a function keeps apart still differs
pub differ-map : {X Y : Type 0} (f : X → Y) (xs : List X) → ((x y : X) → Among x xs → Among y xs → f x ≡ f y → x ≡ y)
    → AllDiffer xs → AllDiffer (map f xs)
differ-map f [] one d = tt
differ-map {X} {Y} f (x ∷ xs) one d = (head, differ-map f xs (λ y z a b. one y z (inr a) (inr b)) d.1)
  where
    head : (y : Y) → Among y (map f xs) → f x ≢ y
    head y a e = let m = Among-from-map f y xs a in d.0 m.0 m.1 (one x m.0 (inl refl) (inr m.1) (e ∙ sym m.2))

pub differ-filter : {X : Type 0} (p : X → Bool) (xs : List X) → AllDiffer xs → AllDiffer (filter p xs)
differ-filter p [] d = tt
differ-filter {X} p (x ∷ xs) d = go (p x) (differ-filter p xs d.1)
  where
    go : (b : Bool) → AllDiffer (filter p xs) → AllDiffer (cond b (x ∷ filter p xs) (filter p xs))
    go true rest = ((λ y a. d.0 y (Among-from-filter p y xs a).0), rest)
    go false rest = rest

-- one more that isn't among them, after them
pub differ-push : {X : Type 0} (xs : List X) (y : X) → AllDiffer xs → (Among y xs → ⊥) → AllDiffer (xs ++ y ∷ [])
differ-push [] y d fresh = ((λ z a. absurd a), tt)
differ-push {X} (x ∷ xs) y d fresh = (head, differ-push xs y d.1 (λ a. fresh (inr a)))
  where
    head : (z : X) → Among z (xs ++ y ∷ []) → x ≢ z
    head z a e = ⊎_elim (λ b. d.0 z b e) (λ b. ⊎_elim (λ s. fresh (inl (e ∙ sym s))) (λ none. none) b) (Among-append z xs (y ∷ []) a)

-- without a member the others differ, from it too
differ-without : {X : Type 0} (front : List X) (x : X) (rest : List X) → AllDiffer (front ++ x ∷ rest)
    → AllDiffer (front ++ rest) × ((z : X) → Among z (front ++ rest) → x ≢ z)
differ-without [] x rest d = (d.1, d.0)
differ-without {X} (f ∷ front) x rest d = go (differ-without front x rest d.1)
  where
    more : (y : X) → Among y (front ++ rest) → Among y (front ++ x ∷ rest)
    more y a = ⊎_elim (λ b. Among-append-left y front (x ∷ rest) b) (λ b. Among-append-right y front (x ∷ rest) (inr b)) (Among-append y front rest a)

    go : AllDiffer (front ++ rest) × ((z : X) → Among z (front ++ rest) → x ≢ z)
        → AllDiffer (f ∷ (front ++ rest)) × ((z : X) → Among z (f ∷ (front ++ rest)) → x ≢ z)
    go w = (((λ y a. d.0 y (more y a)), w.0), other)
      where
        other : (z : X) → Among z (f ∷ (front ++ rest)) → x ≢ z
        other z (inl e) same = d.0 x (Among-append-right x front (x ∷ rest) (inl refl)) (e ∙ sym same)
        other z (inr a) same = w.1 z a same

length-split : {X : Type 0} (front : List X) (x : X) (rest : List X) → length (front ++ x ∷ rest) ≡ suc (length (front ++ rest))
length-split [] x rest = refl
length-split (f ∷ front) x rest = ap suc (length-split front x rest)

-- lists whose members differ and are the same are equally long
pub same-count : {X : Type 0} (xs ys : List X) → AllDiffer xs → AllDiffer ys → ((z : X) → Among z xs ↔ Among z ys) → length xs ≡ length ys
same-count [] [] d e m = refl
same-count [] (y ∷ ys) d e m = absurd ((m y).1 (inl refl))
same-count {X} (x ∷ xs) ys d e m = ap suc (same-count xs (s.front ++ s.rest) d.1 w.0 (λ z. (there z, back z)))
    ∙ sym (length-split s.front x s.rest) ∙ ap length (sym s.is)
  where
    s : SplitAt x ys
    s = split_at x ys ((m x).0 (inl refl))

    w : AllDiffer (s.front ++ s.rest) × ((z : X) → Among z (s.front ++ s.rest) → x ≢ z)
    w = differ-without s.front x s.rest (subst AllDiffer s.is e)

    there : (z : X) → Among z xs → Among z (s.front ++ s.rest)
    there z a = go (Among-append z s.front (x ∷ s.rest) (subst (Among z) s.is ((m z).0 (inr a))))
      where
        go : Among z s.front ⊎ Among z (x ∷ s.rest) → Among z (s.front ++ s.rest)
        go (inl f) = Among-append-left z s.front s.rest f
        go (inr (inl same)) = absurd (d.0 z a same)
        go (inr (inr r)) = Among-append-right z s.front s.rest r

    back : (z : X) → Among z (s.front ++ s.rest) → Among z xs
    back z a = go ((m z).1 (subst (Among z) (sym s.is) (⊎_elim (λ f. Among-append-left z s.front (x ∷ s.rest) f)
        (λ r. Among-append-right z s.front (x ∷ s.rest) (inr r)) (Among-append z s.front s.rest a))))
      where
        go : Among z (x ∷ xs) → Among z xs
        go (inl same) = absurd (w.1 z a same)
        go (inr b) = b

-- ---- how many a test keeps

count-cons : {X : Type 0} (p : X → Bool) (x : X) (xs : List X) → length (filter p (x ∷ xs)) ≡ cond (p x) 1 0 + length (filter p xs)
count-cons {X} p x xs = go (p x)
  where
    go : (b : Bool) → length (cond b (x ∷ filter p xs) (filter p xs)) ≡ cond b 1 0 + length (filter p xs)
    go true = omega arith
    go false = omega arith

-- what one test keeps is what two others keep, each by itself
pub count-plus : {X : Type 0} (p q r : X → Bool) (xs : List X)
    → ((x : X) → Among x xs → cond (p x) 1 0 ≡ cond (q x) 1 0 + cond (r x) 1 0)
    → length (filter p xs) ≡ length (filter q xs) + length (filter r xs)
count-plus p q r [] each = refl
count-plus p q r (x ∷ xs) each =
    let rest : length (filter p xs) ≡ length (filter q xs) + length (filter r xs) = count-plus p q r xs (λ y a. each y (inr a)) in
    let one : cond (p x) 1 0 ≡ cond (q x) 1 0 + cond (r x) 1 0 = each x (inl refl) in
    let a = count-cons p x xs in let b = count-cons q x xs in let c = count-cons r x xs in
    omega (arith, rest, one, a, b, c)

-- tests that agree keep the same
pub filter-same : {X : Type 0} (p q : X → Bool) (xs : List X) → ((x : X) → Among x xs → p x ≡ q x) → filter p xs ≡ filter q xs
filter-same p q [] each = refl
filter-same p q (x ∷ xs) each =
    ap (λ (b : Bool). cond b (x ∷ filter p xs) (filter p xs)) (each x (inl refl))
    ∙ ap (λ (l : List _). cond (q x) (x ∷ l) l) (filter-same p q xs (λ y a. each y (inr a)))
