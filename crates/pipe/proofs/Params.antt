-- How the parameters of a tick follow the list of changes.
use Rattle.std.proofs.Common.{◌≡◌, ℕ, zero, suc, ◌+◌, ◌<◌, ◌≤◌, Bool, true, false, nat_le, max, List, [], ◌∷◌, length, get_or, drop, refl, subst, ap, sym, ◌∙◌, arith, add-one, add-zero, if◌then◌else◌}
use Rattle.std.specs.List.{All, AllPairs}
use Rattle.std.proofs.Math.Seq.{drop-cons}
use Rattle.std.proofs.lemmas.Bool.{le-leb, lt-leb}
use Rattle.std.proofs.lemmas.List.{get_or-drop, get_or_default, length-drop}
use Rattle.std.proofs.lemmas.List.Elements.{All-head, All-tail}
use Rattle.mn_base.specs.declared.params.PipeParams.{PipeParams}
use Rattle.pipe.specs.Params.{last_params, greatest}

-- a list with other first parameters has a greater greatest value at most by those
pub greatest-first : (f : PipeParams → ℕ) (p q : PipeParams) (changes : List (ℕ × PipeParams))
    → greatest f p changes ≤ max (f p) (greatest f q changes)
greatest-first f p q [] = omega arith
greatest-first f p q (c ∷ changes) = omega arith

-- the parameters of a tick are among those of which the greatest is taken
pub greatest-last : (f : PipeParams → ℕ) (tick : ℕ) (first : PipeParams) (changes : List (ℕ × PipeParams))
    → f (last_params tick first changes) ≤ greatest f first changes
greatest-last f tick first [] = omega arith
greatest-last f tick first (c ∷ changes) = go (nat_le c.0 tick) (λ p. greatest-last f tick p changes)
  where
    go : (b : Bool) → ((p : PipeParams) → f (last_params tick p changes) ≤ greatest f p changes)
        → f (last_params tick (if b then c.1 else first) changes) ≤ max (f first) (greatest f c.1 changes)
    go true rest = omega (arith, rest c.1)
    go false rest = omega (arith, rest first, greatest-first f first c.1 changes)

-- what bounds f everywhere bounds its greatest value
pub greatest-most : (f : PipeParams → ℕ) (most : ℕ) → ((p : PipeParams) → f p ≤ most)
    → (first : PipeParams) (changes : List (ℕ × PipeParams)) → greatest f first changes ≤ most
greatest-most f most each first [] = each first
greatest-most f most each first (c ∷ changes) = omega (arith, each first, greatest-most f most each c.1 changes)

-- changes that are all ahead of a tick don't count at it
pub last_params-ahead : (tick : ℕ) (first : PipeParams) (changes : List (ℕ × PipeParams))
    → All (λ c. tick < c.0) changes → last_params tick first changes ≡ first
last_params-ahead tick first [] ahead = refl
last_params-ahead tick first (c ∷ changes) ahead =
    let late : tick < c.0 = All-head (λ (d : ℕ × PipeParams). tick < d.0) c changes ahead in
    rw (lt-leb c.0 tick late) (last_params-ahead tick first changes (All-tail (λ (d : ℕ × PipeParams). tick < d.0) c changes ahead))

-- where ticks rise and the change at an index is ahead of a tick, so are all from there on
pub all-ahead : (tick : ℕ) (changes : List (ℕ × PipeParams)) (n : ℕ) (d : ℕ × PipeParams) → AllPairs (λ b c. b.0 < c.0) changes
    → (n < length changes → tick < (get_or changes n d).0) → All (λ c. tick < c.0) (drop n changes)
all-ahead tick changes n d rising next k e within =
    rw (get_or-drop n changes k e) (go k (omega (arith, length-drop n changes)))
  where
    here : n < length changes → tick < (get_or changes n e).0
    here inside = subst (λ (c : ℕ × PipeParams). tick < c.0) (get_or_default changes n d e inside) (next inside)

    go : (j : ℕ) → n + j < length changes → tick < (get_or changes (n + j) e).0
    go zero inside = rw add-zero (here (omega arith))
    go (suc j) inside =
        let first : tick < (get_or changes n e).0 = here (omega arith) in
        let later : (get_or changes n e).0 < (get_or changes (n + suc j) e).0 = rising n (n + suc j) e (omega arith) inside in
        omega arith

-- the change at an index counts at each tick from its own on
pub last_params-reached : (tick : ℕ) (first : PipeParams) (changes : List (ℕ × PipeParams)) (n : ℕ) (d e : ℕ × PipeParams)
    → n < length changes
    → (get_or changes n d).0 ≤ tick → last_params tick (get_or changes n e).1 (drop (n + 1) changes) ≡ last_params tick first (drop n changes)
last_params-reached tick first changes n d e within early =
    let here : (get_or changes n e).0 ≤ tick = subst (λ (c : ℕ × PipeParams). c.0 ≤ tick) (get_or_default changes n d e within) early in
    head (get_or changes n e) (drop (n + 1) changes) here
    ∙ ap (λ k. last_params tick first (get_or changes n e ∷ drop k changes)) (add-one n)
    ∙ ap (last_params tick first) (sym (drop-cons changes n e within))
  where
    head : (c : ℕ × PipeParams) (cs : List (ℕ × PipeParams)) → c.0 ≤ tick → last_params tick c.1 cs ≡ last_params tick first (c ∷ cs)
    head c cs early = rw (le-leb c.0 tick early) refl

-- where all changes but the ones before an index are ahead, the parameters are those in force
pub last_params-in_force : (tick : ℕ) (params : PipeParams) (changes : List (ℕ × PipeParams)) (n : ℕ) (d : ℕ × PipeParams)
    → AllPairs (λ b c. b.0 < c.0) changes → (n < length changes → tick < (get_or changes n d).0)
    → last_params tick params (drop n changes) ≡ params
last_params-in_force tick params changes n d rising next =
    last_params-ahead tick params (drop n changes) (all-ahead tick changes n d rising next)
