-- First uses: of each ordered pair of nodes the first binding. One binding more comes after them, or its nodes were used before.
use Rattle.std.proofs.Common.{◌≡◌, ◌<◌, ◌≤◌, ◌+◌, ◌==◌, ⊎_elim, ℕ, suc, Bool, true, false, cond, not, ◌||◌, List, [], ◌∷◌, ◌++◌, length, get_or, filter, All, refl, sym, ap, ◌∙◌, arith}
use Rattle.std.specs.Prelude.{Result, Ok, Err}
use Rattle.std.specs.List.{list_any, position_or_len}
use Rattle.std.proofs.lemmas.Bool.{cases_Bool, and_parts, and_from, eqb-true, eq-eqb, or_left, or_right, false_from_ne_true, true≢false, false≢true, not_from_false, not_from_true}
use Rattle.std.proofs.lemmas.List.{append-nil}
use Rattle.std.proofs.lemmas.List.Elements.{All-cons, All-nil, filter-append, filter_map-append}
use Rattle.mn_base.specs.declared.causes.Unbound.{Unbound}
use Rattle.plan.specs.Binding.{Binding}
use Rattle.plan.specs.Plans.{joins, has_ends, bound, bounds, first_uses, uses_of, route_index}
use Rattle.plan.specs.Router.{with_use}
use Rattle.plan.specs.Answers.{uses_after}

-- ---- nodes of bindings
pub joined_ends : (s d : ℕ) (b : Binding) → joins s d b ≡ true → (b.source ≡ s) × (b.destination ≡ d)
joined_ends s d b e = let parts = and_parts (b.source == s) (b.destination == d) e in (eqb-true b.source s parts.0, eqb-true b.destination d parts.1)

pub ends_joined : (s d : ℕ) (b : Binding) → b.source ≡ s → b.destination ≡ d → joins s d b ≡ true
ends_joined s d b e f = and_from (b.source == s) (b.destination == d) (eq-eqb b.source s e) (eq-eqb b.destination d f)

own_ends : (b : Binding) → has_ends b b ≡ true
own_ends b = ends_joined b.source b.destination b refl refl

ends_back : (b c : Binding) → has_ends b c ≡ true → has_ends c b ≡ true
ends_back b c e = let ends = joined_ends b.source b.destination c e in ends_joined c.source c.destination b (sym ends.0) (sym ends.1)

ends_on : (b c d : Binding) → has_ends b c ≡ true → has_ends c d ≡ true → has_ends b d ≡ true
ends_on b c d e f =
    let ends = joined_ends b.source b.destination c e in
    let more = joined_ends c.source c.destination d f in
    ends_joined b.source b.destination d (more.0 ∙ ends.0) (more.1 ∙ ends.1)

apart_back : (b c : Binding) → has_ends b c ≡ false → has_ends c b ≡ false
apart_back b c e = false_from_ne_true (has_ends c b) (λ f. true≢false (sym (ends_back c b f) ∙ e))

-- ---- a filter that keeps all that pass
any-filter : {X : Type 0} (p q : X → Bool) (xs : List X) → ((x : X) → p x ≡ true → q x ≡ true) → list_any p (filter q xs) ≡ list_any p xs
any-filter p q [] keeps = refl
any-filter {X} p q (x ∷ xs) keeps = go (q x) refl (any-filter p q xs keeps)
  where
    go : (b : Bool) → q x ≡ b → list_any p (filter q xs) ≡ list_any p xs
        → list_any p (cond b (x ∷ filter q xs) (filter q xs)) ≡ (p x || list_any p xs)
    go true e later = ap (λ (a : Bool). p x || a) later
    go false e later =
        let fails : p x ≡ false = false_from_ne_true (p x) (λ passes. true≢false (sym (keeps x passes) ∙ e)) in
        later ∙ sym (ap (λ (a : Bool). a || list_any p xs) fails)

not_others : (b c : Binding) → has_ends c b ≡ false → (d : Binding) → has_ends b d ≡ true → not (has_ends c d) ≡ true
not_others b c apart d e =
    not_from_false (has_ends c d)
    (false_from_ne_true (has_ends c d) (λ f. true≢false (sym (ends_on c d b f (ends_back b d e)) ∙ apart)))

-- ---- one binding more
first_uses-push : (bs : List Binding) (b : Binding) → first_uses (bs ++ b ∷ []) ≡ with_use (first_uses bs) b
first_uses-push [] b = refl
first_uses-push (c ∷ bs) b =
    ap (λ (us : List Binding). c ∷ filter (λ d. not (has_ends c d)) us) (first_uses-push bs b)
    ∙ go (has_ends b c) refl (list_any (has_ends b) (first_uses bs)) refl
  where
    kept : List Binding
    kept = filter (λ d. not (has_ends c d)) (first_uses bs)

    last : (t : Bool) → not (has_ends c b) ≡ t → filter (λ d. not (has_ends c d)) (b ∷ []) ≡ cond t (b ∷ []) []
    last t e = ap (λ (a : Bool). cond a (b ∷ []) []) e

    pushed : filter (λ d. not (has_ends c d)) (first_uses bs ++ b ∷ []) ≡ kept ++ filter (λ d. not (has_ends c d)) (b ∷ [])
    pushed = filter-append (λ d. not (has_ends c d)) (first_uses bs) (b ∷ [])

    go : (x : Bool) → has_ends b c ≡ x → (y : Bool) → list_any (has_ends b) (first_uses bs) ≡ y
        → (c ∷ filter (λ d. not (has_ends c d)) (cond (list_any (has_ends b) (first_uses bs)) (first_uses bs) (first_uses bs ++ b ∷ [])))
        ≡ cond (has_ends b c || list_any (has_ends b) kept) (c ∷ kept) ((c ∷ kept) ++ b ∷ [])
    go true e true f = rw (e, f) refl
    go true e false f =
        let gone : not (has_ends c b) ≡ false = not_from_true (has_ends c b) (ends_back b c e) in
        rw (e, f) (ap (λ (us : List Binding). c ∷ us) (pushed ∙ ap (λ (us : List Binding). kept ++ us) (last false gone) ∙ append-nil kept))
    go false e true f =
        let same : list_any (has_ends b) kept ≡ true =
        any-filter (has_ends b) (λ d. not (has_ends c d)) (first_uses bs) (not_others b c (apart_back b c e)) ∙ f in
        rw (e, f, same) refl
    go false e false f =
        let same : list_any (has_ends b) kept ≡ false =
        any-filter (has_ends b) (λ d. not (has_ends c d)) (first_uses bs) (not_others b c (apart_back b c e)) ∙ f in
        let stays : not (has_ends c b) ≡ true = not_from_false (has_ends c b) (apart_back b c e) in
        rw (e, f, same) (ap (λ (us : List Binding). c ∷ us) (pushed ∙ ap (λ (us : List Binding). kept ++ us) (last true stays)))

-- the uses after one binding more
pub uses-push : (bindings : List (Result Binding Unbound)) (binding : Result Binding Unbound)
    → uses_of (bindings ++ binding ∷ []) ≡ uses_after (uses_of bindings) binding
uses-push bindings (Ok b) = ap first_uses (filter_map-append bound bindings (Ok b ∷ [])) ∙ first_uses-push (bounds bindings) b
uses-push bindings (Err cause) = ap first_uses (filter_map-append bound bindings (Err cause ∷ []) ∙ append-nil (bounds bindings))

-- every binding's nodes are used
pub each_used : (bs : List Binding) → All (λ b. list_any (has_ends b) (first_uses bs) ≡ true) bs
each_used [] = All-nil (λ (b : Binding). list_any (has_ends b) [] ≡ true)
each_used (c ∷ bs) =
    All-cons (λ b. list_any (has_ends b) (first_uses (c ∷ bs)) ≡ true) c bs (or_left (has_ends c c) _ (own_ends c))
    (λ k d within. later (get_or bs k d) (each_used bs k d within))
  where
    later : (b : Binding) → list_any (has_ends b) (first_uses bs) ≡ true → list_any (has_ends b) (first_uses (c ∷ bs)) ≡ true
    later b used =
        ⊎_elim
        (λ (same : has_ends b c ≡ true). or_left (has_ends b c) _ same)
        (λ (apart : has_ends b c ≡ false).
        or_right (has_ends b c) _
        (any-filter (has_ends b) (λ d. not (has_ends c d)) (first_uses bs) (not_others b c (apart_back b c apart)) ∙ used))
        (cases_Bool (has_ends b c))

-- ---- places
pub place_below : {X : Type 0} (p : X → Bool) (xs : List X) → list_any p xs ≡ true → position_or_len p xs < length xs
place_below p [] e = absurd (false≢true e)
place_below {X} p (x ∷ xs) e = go (p x) e (place_below p xs)
  where
    go : (b : Bool) → (b || list_any p xs) ≡ true → (list_any p xs ≡ true → position_or_len p xs < length xs)
        → cond (not b) (1 + position_or_len p xs) 0 < suc (length xs)
    go true e later = omega arith
    go false e later = let below = later e in omega (arith, below)

pub place_stays : {X : Type 0} (p : X → Bool) (xs : List X) (y : X) → list_any p xs ≡ true
    → position_or_len p (xs ++ y ∷ []) ≡ position_or_len p xs
place_stays p [] y e = absurd (false≢true e)
place_stays {X} p (x ∷ xs) y e = go (p x) e (place_stays p xs y)
  where
    go : (b : Bool) → (b || list_any p xs) ≡ true
        → (list_any p xs ≡ true → position_or_len p (xs ++ y ∷ []) ≡ position_or_len p xs)
        → cond (not b) (1 + position_or_len p (xs ++ y ∷ [])) 0 ≡ cond (not b) (1 + position_or_len p xs) 0
    go true e later = refl
    go false e later = ap (λ (n : ℕ). 1 + n) (later e)

pub place_new : {X : Type 0} (p : X → Bool) (xs : List X) (y : X) → list_any p xs ≡ false → p y ≡ true
    → position_or_len p (xs ++ y ∷ []) ≡ length xs
place_new p [] y none here = rw here refl
place_new {X} p (x ∷ xs) y none here = go (p x) none (place_new p xs y)
  where
    go : (b : Bool) → (b || list_any p xs) ≡ false
        → (list_any p xs ≡ false → p y ≡ true → position_or_len p (xs ++ y ∷ []) ≡ length xs)
        → cond (not b) (1 + position_or_len p (xs ++ y ∷ [])) 0 ≡ suc (length xs)
    go true none later = absurd (true≢false none)
    go false none later = let same = later none here in omega (arith, same)

pub any_push : {X : Type 0} (p : X → Bool) (xs : List X) (y : X) → list_any p (xs ++ y ∷ []) ≡ (list_any p xs || p y)
any_push p [] y = or_false (p y)
  where
    or_false : (b : Bool) → (b || false) ≡ b
    or_false true = refl
    or_false false = refl
any_push {X} p (x ∷ xs) y = go (p x) (any_push p xs y)
  where
    go : (b : Bool) → list_any p (xs ++ y ∷ []) ≡ (list_any p xs || p y) → (b || list_any p (xs ++ y ∷ [])) ≡ ((b || list_any p xs) || p y)
    go true later = refl
    go false later = later

-- a binding's route keeps its index when a use is added
pub index_stays : (uses : List Binding) (binding : Result Binding Unbound) (b : Binding) → list_any (has_ends b) uses ≡ true
    → route_index (uses_after uses binding) b ≡ route_index uses b
index_stays uses (Err cause) b used = refl
index_stays uses (Ok c) b used = go (list_any (has_ends c) uses)
  where
    go : (x : Bool) → position_or_len (has_ends b) (cond x uses (uses ++ c ∷ [])) ≡ position_or_len (has_ends b) uses
    go true = refl
    go false = place_stays (has_ends b) uses c used

-- ---- how many there are
filter_few : {X : Type 0} (p : X → Bool) (xs : List X) → length (filter p xs) ≤ length xs
filter_few p [] = omega arith
filter_few {X} p (x ∷ xs) = go (p x) (filter_few p xs)
  where
    go : (b : Bool) → length (filter p xs) ≤ length xs → length (cond b (x ∷ filter p xs) (filter p xs)) ≤ suc (length xs)
    go true few = omega (arith, few)
    go false few = omega (arith, few)

first_uses_few : (bs : List Binding) → length (first_uses bs) ≤ length bs
first_uses_few [] = omega arith
first_uses_few (b ∷ bs) = omega (arith, filter_few (λ c. not (has_ends b c)) (first_uses bs), first_uses_few bs)

bounds_few : (bindings : List (Result Binding Unbound)) → length (bounds bindings) ≤ length bindings
bounds_few [] = omega arith
bounds_few (Ok b ∷ bindings) = omega (arith, bounds_few bindings)
bounds_few (Err cause ∷ bindings) = omega (arith, bounds_few bindings)

pub uses_few : (bindings : List (Result Binding Unbound)) → length (uses_of bindings) ≤ length bindings
uses_few bindings = omega (arith, first_uses_few (bounds bindings), bounds_few bindings)
