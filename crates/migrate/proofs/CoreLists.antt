-- Lists that grow by one element.
use Rattle.std.proofs.Common.{◌≡◌, ◌⊎◌, inl, inr, ℕ, zero, suc, ◌+◌, ◌<◌, ◌≤◌, List, [], ◌∷◌, ◌++◌, length, Some, slice_get, refl, sym, ap, ◌∙◌, subst, arith}
use Rattle.std.proofs.lemmas.Bool.{cases_lt}
use Rattle.std.proofs.lemmas.List.{length_push}
use Rattle.std.proofs.lemmas.Option.{slice_get_within}

pub get-early : {X : Type 0} (xs : List X) (x : X) (i : ℕ) → i < length xs → slice_get (xs ++ x ∷ []) i ≡ slice_get xs i
get-early [] x i l = absurd (omega (arith, l))
get-early (y ∷ ys) x zero l = refl
get-early (y ∷ ys) x (suc i) l = get-early ys x i (omega (arith, l))

pub get-last : {X : Type 0} (xs : List X) (x : X) → slice_get (xs ++ x ∷ []) (length xs) ≡ Some x
get-last [] x = refl
get-last (y ∷ ys) x = get-last ys x

-- as many elements as were pushed, each of the one at its index
pub record AreOf {X Y : Type 0} (f : ℕ → X → Y) (xs : List X) (many : ℕ) (ys : List Y) : Type 0 where
  pub count : length ys ≡ many
  pub each : (i : ℕ) (x : X) → i < many → slice_get xs i ≡ Some x → slice_get ys i ≡ Some (f i x)

pub of-none : {X Y : Type 0} (f : ℕ → X → Y) (xs : List X) (ys : List Y) → ys ≡ [] → AreOf f xs 0 ys
of-none f xs ys e = record { count = ap length e; each = λ i x l. absurd (omega (arith, l)) }

pub of-more : {X Y : Type 0} (f : ℕ → X → Y) (xs : List X) (many : ℕ) (ys new : List Y) (y : Y) → AreOf f xs many ys
    → new ≡ ys ++ y ∷ [] → ((x : X) → slice_get xs many ≡ Some x → y ≡ f many x) → AreOf f xs (many + 1) new
of-more f xs many ys new y a is here = record {
  count = ap length is ∙ length_push ys y ∙ ap (λ (n : ℕ). n + 1) a.count;
  each = each;
}
  where
    each : (i : ℕ) (x : _) → i < many + 1 → slice_get xs i ≡ Some x → slice_get new i ≡ Some (f i x)
    each i x l e = ap (λ ms. slice_get ms i) is ∙ go (cases_lt i many)
      where
        go : (i < many) ⊎ (many ≤ i) → slice_get (ys ++ y ∷ []) i ≡ Some (f i x)
        go (inl low) = get-early ys y i (omega (arith, low, a.count)) ∙ a.each i x low e
        go (inr high) =
            let same : many ≡ i = omega (arith, l, high) in
            subst (λ (k : ℕ). slice_get (ys ++ y ∷ []) k ≡ Some (f k x)) same
            (ap (slice_get (ys ++ y ∷ [])) (sym a.count) ∙ get-last ys y
            ∙ ap Some (here x (ap (slice_get xs) same ∙ e)))

pub of-whole : {X Y : Type 0} (f : ℕ → X → Y) (xs : List X) (many : ℕ) (ys : List Y) → length xs ≤ many → AreOf f xs many ys
    → (i : ℕ) (x : X) → slice_get xs i ≡ Some x → slice_get ys i ≡ Some (f i x)
of-whole f xs many ys all a i x e = a.each i x (let l = slice_get_within xs i x e in omega (arith, l, all)) e
