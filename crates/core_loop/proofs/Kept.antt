-- What a filter keeps of a list.
use Rattle.std.proofs.Common.{◌≡◌, Bool, true, false, cond, List, [], ◌∷◌, ◌++◌, filter, append-nil, inl, inr, refl, sym, ap, ◌∙◌}
use Rattle.std.proofs.lemmas.Bool.{true≢false}
use Rattle.std.proofs.lemmas.List.Elements.{filter-append}
use Rattle.mn_base.specs.Among.{Among}
use Rattle.mn_base.proofs.Members.{Among-from-filter}

pub filter-none : {X : Type 0} (p : X → Bool) (xs : List X) → ((x : X) → Among x xs → p x ≡ false) → filter p xs ≡ []
filter-none p [] none = refl
filter-none {X} p (x ∷ xs) none =
    ap (λ (b : Bool). cond b (x ∷ filter p xs) (filter p xs)) (none x (inl refl)) ∙ filter-none p xs (λ y a. none y (inr a))

-- items that aren't kept, after the others, change nothing
pub filter-skip : {X : Type 0} (p : X → Bool) (xs ys : List X) → ((y : X) → Among y ys → p y ≡ false) → filter p (xs ++ ys) ≡ filter p xs
filter-skip {X} p xs ys none =
    filter-append p xs ys ∙ ap (λ (l : List X). filter p xs ++ l) (filter-none p ys none) ∙ append-nil (filter p xs)

-- one that is kept comes after the others
pub filter-last : {X : Type 0} (p : X → Bool) (xs : List X) (y : X) → p y ≡ true → filter p (xs ++ y ∷ []) ≡ filter p xs ++ y ∷ []
filter-last {X} p xs y kept =
    filter-append p xs (y ∷ [])
    ∙ ap (λ (l : List X). filter p xs ++ l) (ap (λ (b : Bool). cond b (y ∷ []) []) kept)

-- of what is kept already, a second filter keeps what it would keep anyway
pub filter-through : {X : Type 0} (p q : X → Bool) (xs : List X) → ((x : X) → Among x xs → p x ≡ true → q x ≡ true)
    → filter p (filter q xs) ≡ filter p xs
filter-through p q [] all = refl
filter-through {X} p q (x ∷ xs) all = go (q x) refl (p x) refl (filter-through p q xs (λ y a. all y (inr a)))
  where
    go : (b : Bool) → q x ≡ b → (c : Bool) → p x ≡ c → filter p (filter q xs) ≡ filter p xs → filter p (filter q (x ∷ xs)) ≡ filter p (x ∷ xs)
    go true e c f rest =
        ap (λ (b : Bool). filter p (cond b (x ∷ filter q xs) (filter q xs))) e
        ∙ ap (λ (l : List X). cond (p x) (x ∷ l) l) rest
    go false e true f rest = absurd (true≢false (sym (all x (inl refl) f) ∙ e))
    go false e false f rest =
        ap (λ (b : Bool). filter p (cond b (x ∷ filter q xs) (filter q xs))) e
        ∙ rest
        ∙ sym (ap (λ (b : Bool). cond b (x ∷ filter p xs) (filter p xs)) f)

-- and nothing of what it would not
pub filter-drops : {X : Type 0} (p q : X → Bool) (xs : List X) → ((x : X) → Among x xs → p x ≡ true → q x ≡ false)
    → filter p (filter q xs) ≡ []
filter-drops {X} p q xs none = filter-none p (filter q xs) each
  where
    each : (x : X) → Among x (filter q xs) → p x ≡ false
    each x a = go (p x) refl
      where
        f : Among x xs × (q x ≡ true)
        f = Among-from-filter q x xs a

        go : (b : Bool) → p x ≡ b → p x ≡ false
        go false e = e
        go true e = absurd (true≢false (sym f.1 ∙ none x f.0 e))
