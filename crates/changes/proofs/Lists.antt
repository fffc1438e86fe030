-- Lists with one element more.
use Rattle.std.proofs.Common.{◌≡◌, ◌<◌, ℕ, zero, suc, List, [], ◌∷◌, ◌++◌, length, All, AllPairs, arith, refl, ap}
use Rattle.std.specs.List.{AllZip}
use Rattle.std.proofs.lemmas.List.Elements.{All-push}
use Rattle.std.proofs.lemmas.List.Kept.{AllPairs-cons}

pub AllPairs-push : {X : Type 0} (R : X → X → Type 0) (xs : List X) (y : X) → AllPairs R xs → All (λ x. R x y) xs
    → AllPairs R (xs ++ y ∷ [])
AllPairs-push R [] y pairs all = λ i j d lt within. absurd (omega arith)
AllPairs-push R (x ∷ xs) y pairs all =
    AllPairs-cons R x (xs ++ y ∷ [])
    (All-push (R x) xs y (λ k d within. pairs 0 (suc k) d (omega arith) (omega arith)) (all 0 x (omega arith)))
    (AllPairs-push R xs y (λ i j d lt within. pairs (suc i) (suc j) d (omega arith) (omega arith)) (λ k d within. all (suc k) d (omega arith)))

pub AllZip-push : {X Y : Type 0} (R : X → Y → Type 0) (xs : List X) (ys : List Y) (x : X) (y : Y) → AllZip R xs ys → R x y
    → AllZip R (xs ++ x ∷ []) (ys ++ y ∷ [])
AllZip-push R [] [] x y all r = (r, tt)
AllZip-push R [] (v ∷ ys) x y all r = absurd all
AllZip-push R (u ∷ xs) [] x y all r = absurd all
AllZip-push R (u ∷ xs) (v ∷ ys) x y all r = (all.0, AllZip-push R xs ys x y all.1 r)

pub AllZip-length : {X Y : Type 0} (R : X → Y → Type 0) (xs : List X) (ys : List Y) → AllZip R xs ys → length xs ≡ length ys
AllZip-length R [] [] all = refl
AllZip-length R [] (v ∷ ys) all = absurd all
AllZip-length R (u ∷ xs) [] all = absurd all
AllZip-length R (u ∷ xs) (v ∷ ys) all = ap suc (AllZip-length R xs ys all.1)
