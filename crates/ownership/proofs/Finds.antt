-- What searches find: among numbers, the least that passes; among owners, the one of a pipe.
use Rattle.std.proofs.Common.{◌≡◌, ◌≢◌, ◌<◌, ◌≤◌, ◌+◌, ◌==◌, ⊎_elim, ℕ, zero, suc, Bool, true, false, cond, ◌||◌, List, [], ◌∷◌, ◌++◌, length, get_or, set, All, Option, Some, None, find, is_some, option_map, refl, sym, ap, ap₂, ◌∙◌, subst, arith, length-set, true≢false}
use Rattle.std.specs.List.{range_with_len}
use Rattle.std.specs.Option.{option_or}
use Rattle.std.proofs.lemmas.Bool.{cases_eq, or_parts, eqb-true, eqb-false, eq-eqb, ne_eqb}
use Rattle.std.proofs.lemmas.List.{get_or-set_same, get_or-set_other}
use Rattle.std.proofs.lemmas.List.Elements.{All-cons, All-nil}
use Rattle.mn_base.specs.Among.{Among}
use Rattle.mn_base.proofs.Members.{list_any-true, Among-find}
use Rattle.ownership.specs.Owned.{Owned, is_owned}
use Rattle.ownership.specs.Owners.{has_owner, AreOwners}

-- ---- numbers
find_from : (p : ℕ → Bool) (a n q : ℕ) → a ≤ q → q < a + n → p q ≡ true → ((k : ℕ) → a ≤ k → k < q → p k ≡ false)
    → find p (range_with_len a n) ≡ Some q
find_from p a zero q low high passes others = absurd (omega arith)
find_from p a (suc n) q low high passes others =
    ⊎_elim
    (λ (same : a ≡ q). let here : p a ≡ true = ap p same ∙ passes in rw here (ap (λ (n : ℕ). Some n) same))
    (λ (other : a ≡ q → ⊥).
    let before : p a ≡ false = others a (omega arith) (omega (arith, other)) in
    rw before (find_from p (a + 1) n q (omega (arith, other)) (omega arith) passes (λ k up down. others k (omega arith) down)))
    (cases_eq a q)

-- the least of all numbers below n that passes
pub find_least : (p : ℕ → Bool) (n q : ℕ) → q < n → p q ≡ true → ((k : ℕ) → k < q → p k ≡ false)
    → find p (range_with_len 0 n) ≡ Some q
find_least p n q within passes others = find_from p 0 n q (omega arith) (omega arith) passes (λ k up down. others k down)

none_from : (p : ℕ → Bool) (a n : ℕ) → ((k : ℕ) → a ≤ k → k < a + n → p k ≡ false) → find p (range_with_len a n) ≡ None
none_from p a zero others = refl
none_from p a (suc n) others =
    rw (others a (omega arith) (omega arith)) (none_from p (a + 1) n (λ k up down. others k (omega arith) (omega arith)))

pub find_no : (p : ℕ → Bool) (n : ℕ) → ((k : ℕ) → k < n → p k ≡ false) → find p (range_with_len 0 n) ≡ None
find_no p n others = none_from p 0 n (λ k up down. others k (omega arith))

each_from : (p : ℕ → Bool) (a n : ℕ) → find p (range_with_len a n) ≡ None → (k : ℕ) → a ≤ k → k < a + n → p k ≡ false
each_from p a zero none k up down = absurd (omega arith)
each_from p a (suc n) none k up down = go (p a) refl none (each_from p (a + 1) n)
  where
    go : (b : Bool) → p a ≡ b → cond b (Some a) (find p (range_with_len (a + 1) n)) ≡ None
        → (find p (range_with_len (a + 1) n) ≡ None → (j : ℕ) → a + 1 ≤ j → j < a + 1 + n → p j ≡ false) → p k ≡ false
    go true is e later = cc
    go false is e later =
        ⊎_elim
        (λ (same : a ≡ k). ap p (sym same) ∙ is)
        (λ (other : a ≡ k → ⊥). later e k (omega (arith, other)) (omega arith))
        (cases_eq a k)

-- where none is found, none passes
pub none_passes : (p : ℕ → Bool) (n : ℕ) → find p (range_with_len 0 n) ≡ None → (k : ℕ) → k < n → p k ≡ false
none_passes p n none k within = each_from p 0 n none k (omega arith) (omega arith)

-- ---- owners
-- a pipe is owned if and only if its owner is found
pub is_owned-find : (owned : List Owned) (q : ℕ) → is_owned owned q ≡ is_some (find (λ o. o.pipe == q) owned)
is_owned-find [] q = refl
is_owned-find (o ∷ os) q = go (o.pipe == q) (is_owned-find os q)
  where
    go : (b : Bool) → is_owned os q ≡ is_some (find (λ p. p.pipe == q) os)
        → (b || is_owned os q) ≡ is_some (cond b (Some o) (find (λ p. p.pipe == q) os))
    go true later = refl
    go false later = later

find-push : (p : Owned → Bool) (owned : List Owned) (o : Owned)
    → find p (owned ++ o ∷ []) ≡ option_or (find p owned) (cond (p o) (Some o) None)
find-push p [] o = refl
find-push p (x ∷ xs) o = go (p x) (find-push p xs o)
  where
    go : (b : Bool) → find p (xs ++ o ∷ []) ≡ option_or (find p xs) (cond (p o) (Some o) None)
        → cond b (Some x) (find p (xs ++ o ∷ [])) ≡ option_or (cond b (Some x) (find p xs)) (cond (p o) (Some o) None)
    go true later = refl
    go false later = later

pub is_owned-push : (owned : List Owned) (o : Owned) (q : ℕ) → is_owned (owned ++ o ∷ []) q ≡ (is_owned owned q || o.pipe == q)
is_owned-push [] o q = go (o.pipe == q)
  where
    go : (b : Bool) → (b || false) ≡ b
    go true = refl
    go false = refl
is_owned-push (x ∷ xs) o q = go (x.pipe == q) (is_owned-push xs o q)
  where
    go : (b : Bool) → is_owned (xs ++ o ∷ []) q ≡ (is_owned xs q || o.pipe == q)
        → (b || is_owned (xs ++ o ∷ []) q) ≡ (b || is_owned xs q || o.pipe == q)
    go true later = refl
    go false later = later

-- a pipe that isn't owned is none of those that are
pub each_other : (owned : List Owned) (q : ℕ) → is_owned owned q ≡ false → All (λ o. o.pipe ≢ q) owned
each_other [] q none = All-nil (λ o. o.pipe ≢ q)
each_other (o ∷ os) q none =
    let parts = or_parts (o.pipe == q) (is_owned os q) none in
    All-cons (λ p. p.pipe ≢ q) o os (eqb-false o.pipe q parts.0) (each_other os q parts.1)

pub not_owned : (owned : List Owned) (q : ℕ) → All (λ o. o.pipe ≢ q) owned → is_owned owned q ≡ false
not_owned [] q others = refl
not_owned (o ∷ os) q others =
    rw (ne_eqb o.pipe q (others 0 o (omega arith))) (not_owned os q (λ k d within. others (suc k) d (omega arith)))

-- an owner that stands among them is of an owned pipe
pub owned_among : (owned : List Owned) (o : Owned) → Among o owned → is_owned owned o.pipe ≡ true
owned_among owned o there = list_any-true (λ p. p.pipe == o.pipe) o owned there (eq-eqb o.pipe o.pipe refl)

-- ---- owners by the numbers of the pipes
some-map : (o : Option Owned) → is_some (option_map (λ p. p.core) o) ≡ is_some o
some-map None = refl
some-map (Some o) = refl

pub has_owner_is : (pipes : ℕ) (owned : List Owned) (owners : List (Option ℕ)) → AreOwners pipes owned owners → (q : ℕ) → q < pipes
    → has_owner owners q ≡ is_owned owned q
has_owner_is pipes owned owners are q within =
    ap is_some (are.are q within) ∙ some-map (find (λ o. o.pipe == q) owned) ∙ sym (is_owned-find owned q)

pub none_owned : (pipes : ℕ) → (owners : List (Option ℕ)) → length owners ≡ pipes
    → ((q : ℕ) → get_or owners q None ≡ None) → AreOwners pipes [] owners
none_owned pipes owners len none = record { len = len; are = λ q within. none q }

none_found : (o : Option Owned) → is_some o ≡ false → o ≡ None
none_found None none = refl
none_found (Some o) none = absurd (true≢false none)

-- one owner more
pub owners_more : (pipes : ℕ) (owned : List Owned) (owners : List (Option ℕ)) (o : Owned) → AreOwners pipes owned owners
    → o.pipe < pipes → is_owned owned o.pipe ≡ false → AreOwners pipes (owned ++ o ∷ []) (set owners o.pipe (Some o.core))
owners_more pipes owned owners o are within free = record {
  len = length-set owners o.pipe (Some o.core) ∙ are.len;
  are = λ q low. ⊎_elim (at_pipe q) (elsewhere q low) (cases_eq q o.pipe);
}
  where
    inside : o.pipe < length owners
    inside = let len = are.len in omega arith

    none : find (λ p. p.pipe == o.pipe) owned ≡ None
    none = none_found (find (λ p. p.pipe == o.pipe) owned) (sym (is_owned-find owned o.pipe) ∙ free)

    at_pipe : (q : ℕ) → q ≡ o.pipe
        → get_or (set owners o.pipe (Some o.core)) q None ≡ option_map (λ p. p.core) (find (λ p. p.pipe == q) (owned ++ o ∷ []))
    at_pipe q same =
        subst
        (λ n. get_or (set owners o.pipe (Some o.core)) n None ≡ option_map (λ p. p.core) (find (λ p. p.pipe == n) (owned ++ o ∷ [])))
        (sym same)
        (get_or-set_same owners o.pipe (Some o.core) None inside
        ∙ sym
        (ap (option_map (λ p. p.core))
        (find-push (λ p. p.pipe == o.pipe) owned o
        ∙ ap (λ (x : Option Owned). option_or x (cond (o.pipe == o.pipe) (Some o) None)) none
        ∙ ap (λ (b : Bool). cond b (Some o) None) (eq-eqb o.pipe o.pipe refl))))

    or_none : (x : Option Owned) → option_or x None ≡ x
    or_none None = refl
    or_none (Some x) = refl

    elsewhere : (q : ℕ) → q < pipes → (q ≡ o.pipe → ⊥)
        → get_or (set owners o.pipe (Some o.core)) q None ≡ option_map (λ p. p.core) (find (λ p. p.pipe == q) (owned ++ o ∷ []))
    elsewhere q low other =
        get_or-set_other owners o.pipe q (Some o.core) None other
        ∙ are.are q low
        ∙ sym
        (ap (option_map (λ p. p.core))
        (find-push (λ p. p.pipe == q) owned o
        ∙ ap (λ (b : Bool). option_or (find (λ p. p.pipe == q) owned) (cond b (Some o) None)) (ne_eqb o.pipe q (λ e. other (sym e)))
        ∙ or_none (find (λ p. p.pipe == q) owned)))

-- an owner that is found stands among them
pub found_among : (owned : List Owned) (q core : ℕ) → option_map (λ o. o.core) (find (λ o. o.pipe == q) owned) ≡ Some core
    → Among (record { pipe = q; core = core }) owned
found_among owned q core found = go (find (λ o. o.pipe == q) owned) refl found
  where
    go : (x : Option Owned) → find (λ o. o.pipe == q) owned ≡ x → option_map (λ o. o.core) x ≡ Some core
        → Among (record { pipe = q; core = core }) owned
    go None is e = cc
    go (Some o) is e =
        let there = Among-find (λ p. p.pipe == q) o owned is in
        let pipe : o.pipe ≡ q = eqb-true o.pipe q there.1 in
        let owner : o.core ≡ core = cc in
        let same : o ≡ record { pipe = q; core = core } =
        ap₂ (λ (p c : ℕ). let r : Owned = record { pipe = p; core = c } in r) pipe owner in
        subst (λ (r : Owned). Among r owned) same there.0
