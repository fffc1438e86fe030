-- Membership by recursion: what stands in a list that is joined, mapped, filtered or reversed, where a member splits its
-- list, and at which index it stands.
use Rattle.std.proofs.Common.{◌≡◌, ◌⊎◌, inl, inr, ⊎_elim, ℕ, zero, suc, ◌<◌, Bool, true, false, cond, List, [], ◌∷◌, ◌++◌, length, map, filter, reverse, filter_map, find, Option, Some, None, slice_index_or, All, AllPairs, Contains, refl, sym, ap, ◌∙◌, subst, arith, true≢false, append_assoc}
use Rattle.std.proofs.lemmas.Bool.{cases_order}
use Rattle.std.proofs.lemmas.List.{reverse-append}
use Rattle.std.specs.Prelude.{◌||◌}
use Rattle.std.specs.List.{cons_option, list_any}
use Rattle.mn_base.specs.Among.{Among}

pub Among-append-left : {X : Type 0} (x : X) (xs ys : List X) → Among x xs → Among x (xs ++ ys)
Among-append-left x [] ys there = absurd there
Among-append-left x (z ∷ xs) ys there =
    elim there [ inl here ↦ inl here | inr later ↦ inr (Among-append-left x xs ys later) ]

pub Among-append-right : {X : Type 0} (x : X) (xs ys : List X) → Among x ys → Among x (xs ++ ys)
Among-append-right x [] ys there = there
Among-append-right x (z ∷ xs) ys there = inr (Among-append-right x xs ys there)

pub Among-append : {X : Type 0} (x : X) (xs ys : List X) → Among x (xs ++ ys) → Among x xs ⊎ Among x ys
Among-append x [] ys there = inr there
Among-append x (z ∷ xs) ys there =
    elim there [
      | inl here ↦ inl (inl here)
      | inr later ↦ elim (Among-append x xs ys later) [ inl front ↦ inl (inr front) | inr back ↦ inr back ]
    ]

-- the last of a list that was pushed to
pub Among-last : {X : Type 0} (x : X) (xs : List X) → Among x (xs ++ x ∷ [])
Among-last x xs = Among-append-right x xs (x ∷ []) (inl refl)

pub Among-map : {X Y : Type 0} (f : X → Y) (x : X) (xs : List X) → Among x xs → Among (f x) (map f xs)
Among-map f x [] there = absurd there
Among-map f x (z ∷ xs) there =
    elim there [ inl here ↦ inl (ap f here) | inr later ↦ inr (Among-map f x xs later) ]

-- what stands in a mapped list comes from a member
pub Among-from-map : {X Y : Type 0} (f : X → Y) (y : Y) (xs : List X) → Among y (map f xs) → (x : X) × Among x xs × (f x ≡ y)
Among-from-map f y [] there = absurd there
Among-from-map f y (z ∷ xs) there =
    elim there [
      | inl here ↦ (z, inl refl, here)
      | inr later ↦ let found = Among-from-map f y xs later in (found.0, inr found.1, found.2)
    ]

pub Among-filter : {X : Type 0} (p : X → Bool) (x : X) (xs : List X) → Among x xs → p x ≡ true → Among x (filter p xs)
Among-filter p x [] there passes = absurd there
Among-filter {X} p x (z ∷ xs) there passes =
    elim there [
      | inl here ↦ subst (λ b. Among x (cond b (z ∷ filter p xs) (filter p xs))) (sym (ap p here ∙ passes)) (inl here)
      | inr later ↦ kept (p z) (Among-filter p x xs later passes)
    ]
  where
    kept : (b : Bool) → Among x (filter p xs) → Among x (cond b (z ∷ filter p xs) (filter p xs))
    kept true there = inr there
    kept false there = there

pub Among-from-filter : {X : Type 0} (p : X → Bool) (x : X) (xs : List X) → Among x (filter p xs) → Among x xs × (p x ≡ true)
Among-from-filter p x [] there = absurd there
Among-from-filter {X} p x (z ∷ xs) there = split (p z) refl (λ later. Among-from-filter p x xs later) there
  where
    split : (b : Bool) → p z ≡ b → (Among x (filter p xs) → Among x xs × (p x ≡ true)) → Among x (cond b (z ∷ filter p xs) (filter p xs))
        → Among x (z ∷ xs) × (p x ≡ true)
    split true passes rest there =
        elim there [
          | inl here ↦ (inl here, ap p (sym here) ∙ passes)
          | inr later ↦ let found = rest later in (inr found.0, found.1)
        ]
    split false passes rest there = let found = rest there in (inr found.0, found.1)

pub Among-push : {X : Type 0} (x : X) (xs : List X) (y : X) → Among x (xs ++ y ∷ []) → Among x xs ⊎ (y ≡ x)
Among-push x [] y (inl e) = inr e
Among-push x [] y (inr h) = absurd h
Among-push x (z ∷ xs) y (inl e) = inl (inl e)
Among-push x (z ∷ xs) y (inr h) = ⊎_elim (λ l. inl (inr l)) (λ r. inr r) (Among-push x xs y h)

pub Among-reverse : {X : Type 0} (x : X) (xs : List X) → Among x (reverse xs) → Among x xs
Among-reverse x [] h = absurd h
Among-reverse x (y ∷ xs) h =
    ⊎_elim (λ l. inr (Among-reverse x xs l)) (λ e. inl e) (Among-push x (reverse xs) y (subst (Among x) (reverse-append (y ∷ []) xs) h))

pub Among-filter_map : {X Y : Type 0} (f : X → Option Y) (x : X) (y : Y) (xs : List X) → Among x xs → f x ≡ Some y
    → Among y (filter_map f xs)
Among-filter_map f x y [] h e = absurd h
Among-filter_map f x y (z ∷ xs) h e = go (f z) refl h (λ l. Among-filter_map f x y xs l e)
  where
    go : (o : Option _) → f z ≡ o → (z ≡ x) ⊎ Among x xs → (Among x xs → Among y (filter_map f xs))
        → Among y (cons_option o (filter_map f xs))
    go None t (inl same) rest = let n : None ≡ Some y = sym t ∙ ap f same ∙ e in cc
    go None t (inr later) rest = rest later
    go (Some w) t (inl same) rest = let n : Some w ≡ Some y = sym t ∙ ap f same ∙ e in inl cc
    go (Some w) t (inr later) rest = inr (rest later)

pub Among-from-filter_map : {X Y : Type 0} (f : X → Option Y) (y : Y) (xs : List X) → Among y (filter_map f xs)
    → (x : X) × Among x xs × (f x ≡ Some y)
Among-from-filter_map f y [] h = absurd h
Among-from-filter_map f y (z ∷ xs) h = go (f z) refl h (Among-from-filter_map f y xs)
  where
    go : (o : Option _) → f z ≡ o → Among y (cons_option o (filter_map f xs))
        → (Among y (filter_map f xs) → (x : _) × Among x xs × (f x ≡ Some y)) → (x : _) × ((z ≡ x) ⊎ Among x xs) × (f x ≡ Some y)
    go None t later rest = let s = rest later in (s.0, inr s.1, s.2)
    go (Some w) t (inl same) rest = (z, inl refl, t ∙ ap Some same)
    go (Some w) t (inr later) rest = let s = rest later in (s.0, inr s.1, s.2)

-- what `find` gives stands in the list and passes
pub Among-find : {X : Type 0} (p : X → Bool) (x : X) (xs : List X) → find p xs ≡ Some x → Among x xs × (p x ≡ true)
Among-find p x [] e = cc
Among-find p x (y ∷ xs) e = go (p y) refl e (Among-find p x xs)
  where
    go : (b : Bool) → p y ≡ b → cond b (Some y) (find p xs) ≡ Some x → (find p xs ≡ Some x → Among x xs × (p x ≡ true))
        → ((y ≡ x) ⊎ Among x xs) × (p x ≡ true)
    go true t f rest = let same : y ≡ x = cc in (inl same, ap p (sym same) ∙ t)
    go false t f rest = let s = rest f in (inr s.0, s.1)

-- and it gives one where one passes
pub find-some : {X : Type 0} (p : X → Bool) (x : X) (xs : List X) → Among x xs → p x ≡ true → (y : X) × (find p xs ≡ Some y)
find-some p x [] h e = absurd h
find-some p x (z ∷ xs) h e = go (p z) refl h (λ l. find-some p x xs l e)
  where
    go : (b : Bool) → p z ≡ b → (z ≡ x) ⊎ Among x xs → (Among x xs → (y : _) × (find p xs ≡ Some y))
        → (y : _) × (cond b (Some z) (find p xs) ≡ Some y)
    go true t m rest = (z, refl)
    go false t (inl same) rest = absurd (true≢false (sym e ∙ ap p (sym same) ∙ t))
    go false t (inr later) rest = rest later

-- none, where none passes
pub find-none : {X : Type 0} (p : X → Bool) (xs : List X) → ((x : X) → Among x xs → p x ≡ false) → find p xs ≡ None
find-none p [] none = refl
find-none p (x ∷ xs) none =
    ap (λ (b : Bool). cond b (Some x) (find p xs)) (none x (inl refl)) ∙ find-none p xs (λ y h. none y (inr h))

-- the first that passes, where none in front of it does
pub find-behind : {X : Type 0} (p : X → Bool) (xs : List X) (x : X) (ys : List X) → ((y : X) → Among y xs → p y ≡ false) → p x ≡ true
    → find p (xs ++ x ∷ ys) ≡ Some x
find-behind p [] x ys none e = ap (λ (b : Bool). cond b (Some x) (find p ys)) e
find-behind p (z ∷ xs) x ys none e =
    ap (λ (b : Bool). cond b (Some z) (find p (xs ++ x ∷ ys))) (none z (inl refl)) ∙ find-behind p xs x ys (λ y h. none y (inr h)) e

pub reverse-split : {X : Type 0} (front : List X) (x : X) (rest : List X) → reverse (front ++ x ∷ rest) ≡ reverse rest ++ x ∷ reverse front
reverse-split front x rest =
    reverse-append front (x ∷ rest)
    ∙ ap (λ l. l ++ reverse front) (reverse-append (x ∷ []) rest)
    ∙ append_assoc (reverse rest) (x ∷ []) (reverse front)

pub list_any-true : {X : Type 0} (p : X → Bool) (x : X) (xs : List X) → Among x xs → p x ≡ true → list_any p xs ≡ true
list_any-true p x [] h e = absurd h
list_any-true p x (y ∷ xs) h e = go (p y) refl h (λ l. list_any-true p x xs l e)
  where
    go : (b : Bool) → p y ≡ b → (y ≡ x) ⊎ Among x xs → (Among x xs → list_any p xs ≡ true) → (b || list_any p xs) ≡ true
    go true t m rest = refl
    go false t (inl same) rest = absurd (true≢false (sym e ∙ ap p (sym same) ∙ t))
    go false t (inr later) rest = rest later

pub Among-from-list_any : {X : Type 0} (p : X → Bool) (xs : List X) → list_any p xs ≡ true → (x : X) × Among x xs × (p x ≡ true)
Among-from-list_any p [] e = absurd (true≢false (sym e))
Among-from-list_any p (y ∷ xs) e = go (p y) refl e (Among-from-list_any p xs)
  where
    go : (b : Bool) → p y ≡ b → (b || list_any p xs) ≡ true → (list_any p xs ≡ true → (x : _) × Among x xs × (p x ≡ true))
        → (x : _) × ((y ≡ x) ⊎ Among x xs) × (p x ≡ true)
    go true t f rest = (y, inl refl, t)
    go false t f rest = let s = rest f in (s.0, inr s.1, s.2)

-- a list, split at one of its members
pub record SplitAt {X : Type 0} (x : X) (xs : List X) : Type 0 where
  pub front : List X
  pub rest : List X
  pub is : xs ≡ front ++ x ∷ rest

pub split_at : {X : Type 0} (x : X) (xs : List X) → Among x xs → SplitAt x xs
split_at x [] h = absurd h
split_at x (y ∷ xs) (inl e) = record { front = []; rest = xs; is = ap (λ z. z ∷ xs) e }
split_at x (y ∷ xs) (inr h) =
    let s = split_at x xs h in record { front = y ∷ s.front; rest = s.rest; is = ap (λ l. y ∷ l) s.is }

-- a list with x pushed after splits at x, or as the list did
pub split_push : {X : Type 0} (xs : List X) (x : X) (front rest : List X) (v : X) → xs ++ x ∷ [] ≡ front ++ v ∷ rest
    → ((front ≡ xs) × (v ≡ x)) ⊎ ((end : List X) × (xs ≡ front ++ v ∷ end))
split_push [] x [] rest v e = inl (refl, cc)
split_push [] x (y ∷ []) rest v e = cc
split_push [] x (y ∷ z ∷ front) rest v e = cc
split_push (w ∷ xs) x [] rest v e = inr (xs, cc)
split_push (w ∷ xs) x (y ∷ front) rest v e =
    let tails : xs ++ x ∷ [] ≡ front ++ v ∷ rest = cc in
    let heads : w ≡ y = cc in
    ⊎_elim (λ new. inl (cc, new.1)) (λ old. inr (old.0, cc)) (split_push xs x front rest v tails)

pub Among-index : {X : Type 0} (xs : List X) (i : ℕ) (d : X) → i < length xs → Among (slice_index_or xs i d) xs
Among-index [] i d within = absurd (omega arith)
Among-index (x ∷ xs) zero d within = inl refl
Among-index (x ∷ xs) (suc i) d within = inr (Among-index xs i d (omega arith))

-- where a member stands
pub record IndexOf {X : Type 0} (x : X) (xs : List X) : Type 0 where
  pub index : ℕ
  pub within : index < length xs
  pub here : (d : X) → slice_index_or xs index d ≡ x

pub index_of : {X : Type 0} (x : X) (xs : List X) → Among x xs → IndexOf x xs
index_of x [] h = absurd h
index_of x (y ∷ xs) (inl e) = record { index = 0; within = omega arith; here = λ d. e }
index_of x (y ∷ xs) (inr h) =
    let s = index_of x xs h in
    let w : s.index < length xs = s.within in
    record { index = suc s.index; within = omega arith; here = s.here }

pub All-Among : {X : Type 0} (P : X → Type 0) (x : X) (xs : List X) → All P xs → Among x xs → P x
All-Among P x xs all h = let s = index_of x xs h in subst P (s.here x) (all s.index x s.within)

-- of two members one is the other, or they stand in one order or the other
pub AllPairs-Among : {X : Type 0} (R : X → X → Type 0) (x y : X) (xs : List X) → AllPairs R xs → Among x xs → Among y xs
    → (x ≡ y) ⊎ (R x y ⊎ R y x)
AllPairs-Among {X} R x y xs all h k = go (cases_order s.index t.index)
  where
    s : IndexOf x xs
    s = index_of x xs h

    t : IndexOf y xs
    t = index_of y xs k

    go : (s.index ≡ t.index) ⊎ ((s.index < t.index) ⊎ (t.index < s.index)) → (x ≡ y) ⊎ (R x y ⊎ R y x)
    go (inl same) = inl (sym (s.here x) ∙ ap (λ i. slice_index_or xs i x) same ∙ t.here x)
    go (inr (inl before)) =
        let at_y = subst (λ (z : X). R (slice_index_or xs s.index x) z) (t.here x) (all s.index t.index x before t.within) in
        inr (inl (subst (λ (z : X). R z y) (s.here x) at_y))
    go (inr (inr after)) =
        let at_x = subst (λ (z : X). R (slice_index_or xs t.index x) z) (s.here x) (all t.index s.index x after s.within) in
        inr (inr (subst (λ (z : X). R z x) (t.here x) at_x))

-- membership by recursion and by index
pub contains-from_among : {X : Type 0} (z : X) (xs : List X) → Among z xs → Contains xs z
contains-from_among z [] among = absurd among
contains-from_among z (x ∷ xs) (inl same) = (0, omega arith, same)
contains-from_among z (x ∷ xs) (inr among) =
    let rest = contains-from_among z xs among in
    let within : rest.0 < length xs = rest.1 in
    (suc rest.0, omega arith, rest.2)

pub among-from_contains : {X : Type 0} (z : X) (xs : List X) → Contains xs z → Among z xs
among-from_contains z xs contains = subst (λ w. Among w xs) contains.2 (Among-index xs contains.0 z contains.1)
