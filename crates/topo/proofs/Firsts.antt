-- First faults and first places, item by item.
use Rattle.std.proofs.Common.{◌≡◌, ◌<◌, ◌+◌, ℕ, zero, suc, Bool, true, false, cond, List, [], ◌∷◌, ◌++◌, ◌||◌, length, drop, get_or, refl, sym, ◌∙◌, ap, arith, Option, Some, None, is_some, add-zero}
use Rattle.std.proofs.lemmas.List.{drop_more}
use Rattle.std.proofs.lemmas.Iterator.Adapters.{position_from-zero}
use Rattle.std.specs.List.{list_any, position, position_from}
use Rattle.std.specs.Option.{option_or}
use Rattle.topo.specs.Faults.{first_fault}

first_fault_more : {X F : Type 0} (fault : ℕ → X → Option F) (xs : List X) (i : ℕ) (d : X) → i < length xs
    → first_fault fault i (drop i xs) ≡ option_or (fault i (get_or xs i d)) (first_fault fault (i + 1) (drop (i + 1) xs))
first_fault_more fault xs i d within = ap (first_fault fault i) (drop_more xs i d within)

-- the item that is looked at has a fault
pub first_fault_here : {X F : Type 0} (fault : ℕ → X → Option F) (xs : List X) (i : ℕ) (d : X) (f : F) (whole : Option F) → i < length xs
    → whole ≡ first_fault fault i (drop i xs) → Some f ≡ fault i (get_or xs i d) → whole ≡ Some f
first_fault_here fault xs i d f whole within so_far here =
    so_far ∙ first_fault_more fault xs i d within ∙ ap (λ o. option_or o (first_fault fault (i + 1) (drop (i + 1) xs))) (sym here)

-- it has none
pub first_fault_later : {X F : Type 0} (fault : ℕ → X → Option F) (xs : List X) (i : ℕ) (d : X) (whole : Option F) → i < length xs
    → whole ≡ first_fault fault i (drop i xs) → None ≡ fault i (get_or xs i d) → whole ≡ first_fault fault (i + 1) (drop (i + 1) xs)
first_fault_later fault xs i d whole within so_far here =
    so_far ∙ first_fault_more fault xs i d within ∙ ap (λ o. option_or o (first_fault fault (i + 1) (drop (i + 1) xs))) (sym here)

-- neither of two
pub none_of_or : {F : Type 0} (a b : Option F) → option_or a b ≡ None → (a ≡ None) × (b ≡ None)
none_of_or None b e = (refl, e)
none_of_or (Some x) b e = cc

-- where there is no first fault, no item has one
pub first_fault-None : {X F : Type 0} (fault : ℕ → X → Option F) (n : ℕ) (xs : List X) (i : ℕ) (d : X) → first_fault fault n xs ≡ None
    → i < length xs → fault (n + i) (get_or xs i d) ≡ None
first_fault-None fault n [] i d e within = absurd (omega arith)
first_fault-None fault n (x ∷ xs) zero d e within = rw add-zero (none_of_or _ _ e).0
first_fault-None {X} {F} fault n (x ∷ xs) (suc i) d e within =
    let here : n + suc i ≡ (n + 1) + i = omega arith in
    rw here (first_fault-None fault (n + 1) xs i d (none_of_or _ _ e).1 (omega arith))

at_cond : (b : Bool) (i : ℕ) (p q r : Option ℕ) → p ≡ option_or q r → cond b (Some i) p ≡ option_or (cond b (Some i) q) r
at_cond true i p q r e = refl
at_cond false i p q r e = e

position_from_push : {X : Type 0} (p : X → Bool) (i : ℕ) (xs : List X) (y : X)
    → position_from p i (xs ++ y ∷ []) ≡ option_or (position_from p i xs) (cond (p y) (Some (i + length xs)) None)
position_from_push p i [] y = rw add-zero refl
position_from_push p i (x ∷ xs) y =
    let here : i + suc (length xs) ≡ (i + 1) + length xs = omega arith in
    rw here (at_cond (p x) i _ _ _ (position_from_push p (i + 1) xs y))

-- the first place in a list that was pushed to
pub position_push : {X : Type 0} (p : X → Bool) (xs : List X) (y : X)
    → position p (xs ++ y ∷ []) ≡ option_or (position p xs) (cond (p y) (Some (length xs)) None)
position_push p xs y =
    let here : 0 + length xs ≡ length xs = omega arith in
    position_from-zero p (xs ++ y ∷ []) ∙ position_from_push p 0 xs y
    ∙ ap (λ n. option_or (position_from p 0 xs) (cond (p y) (Some n) None)) here
    ∙ ap (λ o. option_or o (cond (p y) (Some (length xs)) None)) (sym (position_from-zero p xs))

is_some_of_cond : (b : Bool) (i : ℕ) (o : Option ℕ) (c : Bool) → is_some o ≡ c → is_some (cond b (Some i) o) ≡ (b || c)
is_some_of_cond true i o c e = refl
is_some_of_cond false i o c e = e

is_some-position_from : {X : Type 0} (p : X → Bool) (i : ℕ) (xs : List X) → is_some (position_from p i xs) ≡ list_any p xs
is_some-position_from p i [] = refl
is_some-position_from p i (x ∷ xs) = is_some_of_cond (p x) i _ _ (is_some-position_from p (i + 1) xs)

-- there is a first place exactly where some element passes
pub is_some-position : {X : Type 0} (p : X → Bool) (xs : List X) → is_some (position p xs) ≡ list_any p xs
is_some-position p xs = ap is_some (position_from-zero p xs) ∙ is_some-position_from p 0 xs
