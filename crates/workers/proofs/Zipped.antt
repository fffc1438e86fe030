-- Two lists of one length, of which a relation holds element by element.
use Rattle.std.proofs.Common.{◌≡◌, ℕ, zero, suc, ◌+◌, ◌<◌, List, [], ◌∷◌, ◌++◌, length, map, take, drop, Some, refl, ap, ◌∙◌, subst, arith}
use Rattle.std.proofs.Math.Seq.{take-append_seam}
use Rattle.std.specs.Prelude.{All, slice_get, slice_index_or, slice_set}
use Rattle.std.specs.List.{AllZip}
use Rattle.std.proofs.lemmas.List.Elements.{All-nil, All-cons, All-head, All-tail, AllWithin-more_set}

-- of a list and itself
pub AllZip-same : {X : Type 0} (R : X → X → Type 0) (xs : List X) → ((x : X) → R x x) → AllZip R xs xs
AllZip-same R [] same = tt
AllZip-same R (x ∷ xs) same = (same x, AllZip-same R xs same)

-- over a list between
pub AllZip-over : {X Y Z : Type 0} (Q : X → Y → Type 0) (R : Y → Z → Type 0) (P : X → Z → Type 0) (xs : List X) (ys : List Y) (zs : List Z)
    → ((x : X) (y : Y) (z : Z) → Q x y → R y z → P x z) → AllZip Q xs ys → AllZip R ys zs → AllZip P xs zs
AllZip-over Q R P [] [] [] over a b = tt
AllZip-over Q R P [] [] (z ∷ zs) over a b = elim b [ ]
AllZip-over Q R P [] (y ∷ ys) zs over a b = elim a [ ]
AllZip-over Q R P (x ∷ xs) [] zs over a b = elim a [ ]
AllZip-over Q R P (x ∷ xs) (y ∷ ys) [] over a b = elim b [ ]
AllZip-over Q R P (x ∷ xs) (y ∷ ys) (z ∷ zs) over a b = (over x y z a.0 b.0, AllZip-over Q R P xs ys zs over a.1 b.1)

-- what holds of each element of the second list
pub All-from_zip : {X Y : Type 0} (R : X → Y → Type 0) (P : Y → Type 0) (xs : List X) (ys : List Y) → ((x : X) (y : Y) → R x y → P y)
    → AllZip R xs ys → All P ys
All-from_zip R P [] [] says z = All-nil P
All-from_zip R P [] (y ∷ ys) says z = elim z [ ]
All-from_zip R P (x ∷ xs) [] says z = elim z [ ]
All-from_zip R P (x ∷ xs) (y ∷ ys) says z = All-cons P y ys (says x y z.0) (All-from_zip R P xs ys says z.1)

-- one element of the second list is put in place of another
pub AllZip-set : {X Y : Type 0} (R : X → Y → Type 0) (xs : List X) (ys : List Y) (i : ℕ) (d y : Y) → i < length ys → AllZip R xs ys
    → ((x : X) → R x (slice_index_or ys i d) → R x y) → AllZip R xs (slice_set ys i y)
AllZip-set R [] [] i d y within a stays = absurd (omega (arith, within))
AllZip-set R [] (z ∷ ys) i d y within a stays = elim a [ ]
AllZip-set R (x ∷ xs) [] i d y within a stays = elim a [ ]
AllZip-set R (x ∷ xs) (z ∷ ys) zero d y within a stays = (stays x a.0, a.1)
AllZip-set R (x ∷ xs) (z ∷ ys) (suc i) d y within a stays =
    (a.0, AllZip-set R xs ys i d y (let e : i < length ys = omega (arith, within) in e) a.1 stays)

-- what holds of the elements before it, and of it, holds of one element more
pub All-set_more : {X : Type 0} (P : X → Type 0) (xs : List X) (at : ℕ) (y : X) → at < length xs
    → ((k : ℕ) (d : X) → k < at → P (slice_index_or xs k d)) → P y
    → (k : ℕ) (d : X) → k < at + 1 → P (slice_index_or (slice_set xs at y) k d)
All-set_more P xs at y within before this = λ k d below.
    AllWithin-more_set xs at y within P (λ j e low under. before j e under) this k d (omega arith) below

-- what stands beside an element of the second list
pub zip-at : {X Y : Type 0} (R : X → Y → Type 0) (xs : List X) (ys : List Y) (i : ℕ) (y : Y) → AllZip R xs ys → slice_get ys i ≡ Some y
    → (x : X) × (slice_get xs i ≡ Some x) × R x y
zip-at R [] [] i y a e = cc
zip-at R [] (z ∷ ys) i y a e = elim a [ ]
zip-at R (x ∷ xs) [] i y a e = elim a [ ]
zip-at {Y = Y} R (x ∷ xs) (z ∷ ys) zero y a e = (x, refl, subst (λ (v : Y). R x v) (let both : z ≡ y = cc in both) a.0)
zip-at R (x ∷ xs) (z ∷ ys) (suc i) y a e = zip-at R xs ys i y a.1 e

-- a fact of all, at one of them
pub All-at : {X : Type 0} (P : X → Type 0) (xs : List X) (i : ℕ) (x : X) → All P xs → slice_get xs i ≡ Some x → P x
All-at P [] i x a e = cc
All-at {X = X} P (y ∷ xs) zero x a e = subst (λ (v : X). P v) (let both : y ≡ x = cc in both) (All-head P y xs a)
All-at P (y ∷ xs) (suc i) x a e = All-at P xs i x (All-tail P y xs a) e

-- what an element of a list that was mapped comes from
pub map-at : {X Y : Type 0} (f : X → Y) (xs : List X) (i : ℕ) (y : Y) → slice_get (map f xs) i ≡ Some y
    → (x : X) × (slice_get xs i ≡ Some x) × (f x ≡ y)
map-at f [] i y e = cc
map-at f (x ∷ xs) zero y e = (x, refl, let both : f x ≡ y = cc in both)
map-at f (x ∷ xs) (suc i) y e = map-at f xs i y e

-- a vector whose elements were lent and written is what was written
pub written-back : {X : Type 0} (len : ℕ) (old new : List X) → length new ≡ length old → len ≡ length old
    → take len (new ++ drop (length new) old) ≡ new
written-back {X = X} len old new same is =
    ap (λ (n : ℕ). take n (new ++ drop (length new) old)) (let e : len ≡ length new = omega (arith, same, is) in e)
    ∙ take-append_seam new (drop (length new) old)
