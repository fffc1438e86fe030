-- Lists of things with numbers: what a search for a number finds, and how many there can be.
use Rattle.std.proofs.Common.{◌≡◌, ◌≢◌, ℕ, suc, ◌<◌, ◌≤◌, true, false, eqb, List, [], ◌∷◌, length, map, IfSome, find, All, AllPairs, arith, ⊎_elim}
use Rattle.std.proofs.lemmas.Bool.{false≢true}
use Rattle.std.proofs.lemmas.Bool.Decides.{eqb_tells, Decides-eqb}
use Rattle.std.proofs.lemmas.List.{length-map}
use Rattle.std.proofs.lemmas.List.Elements.{All-map}
use Rattle.std.proofs.lemmas.List.Kept.{AllPairs-cons}
use Rattle.std.proofs.lemmas.Map.Made.{IsDistinct-from_AllPairs}
use Rattle.std.proofs.lemmas.Map.Steps.{length-le_from_distinct_below}
use Rattle.std.specs.List.{list_any}

-- what a search for a key finds has that key, and whatever holds of all
pub found : {X : Type 0} (key : X → ℕ) (P : X → Type 0) (xs : List X) (n : ℕ) → All P xs → IfSome (find (λ x. eqb (key x) n) xs) (λ x. P x × (key x ≡ n))
found key P [] n all = tt
found {X} key P (x ∷ xs) n all =
    ⊎_elim
    (λ (same : (eqb (key x) n ≡ true) × (key x ≡ n)). rw same.0 (all 0 x (omega arith), same.1))
    (λ (other : (eqb (key x) n ≡ false) × (key x ≢ n)). rw other.0 (found key P xs n (λ i d within. all (suc i) d (omega arith))))
    (eqb_tells (key x) n)

-- keys that differ pair by pair are different numbers
pub apart-map : {X : Type 0} (key : X → ℕ) (xs : List X) → AllPairs (λ a b. key a ≢ key b) xs → AllPairs (λ m n. m ≢ n) (map key xs)
apart-map key [] apart = λ i j d lt within. absurd (omega arith)
apart-map key (x ∷ xs) apart =
    AllPairs-cons (λ m n. m ≢ n) (key x) (map key xs)
    (All-map (λ n. key x ≢ n) key xs (λ i d within. apart 0 (suc i) d (omega arith) (omega arith)))
    (apart-map key xs (λ i j d lt within. apart (suc i) (suc j) d (omega arith) (omega arith)))

below-from_any : (xs : List ℕ) (n q : ℕ) → All (λ x. x < n) xs → list_any (eqb q) xs ≡ true → q < n
below-from_any [] n q all any = absurd (false≢true any)
below-from_any (x ∷ xs) n q all any =
    ⊎_elim
    (λ (same : (eqb q x ≡ true) × (q ≡ x)). let below : x < n = all 0 x (omega arith) in omega (arith, same.1))
    (λ (other : (eqb q x ≡ false) × (q ≢ x)). below-from_any xs n q (λ i d within. all (suc i) d (omega arith)) (rw other.0 at any))
    (eqb_tells q x)

-- different numbers below n are at most n
pub length-le-different : {X : Type 0} (key : X → ℕ) (xs : List X) (n : ℕ) → AllPairs (λ a b. key a ≢ key b) xs → All (λ x. key x < n) xs → length xs ≤ n
length-le-different key xs n apart below =
    let most : length (map key xs) ≤ n =
    length-le_from_distinct_below (map key xs) n
    (IsDistinct-from_AllPairs Decides-eqb (map key xs) (apart-map key xs apart))
    (λ q. below-from_any (map key xs) n q (All-map (λ k. k < n) key xs below)) in
    omega (arith, length-map xs key)
