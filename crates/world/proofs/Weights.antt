-- A world gets on: with each turn that moves, the windows, posts and takes of its cores are more, and there are no more than so many.
use Rattle.std.proofs.Common.{◌≡◌, ◌≢◌, ◌⊎◌, inl, inr, ⊎_elim, ℕ, zero, suc, ◌+◌, ◌*◌, ◌<◌, ◌≤◌, ◌==◌, Bool, true, false, cond, List, [], ◌∷◌, length, get_or, Option, Some, None, sum_by, All, refl, sym, ap, ◌∙◌, subst, arith, eqb-true, eq-eqb}
use Rattle.std.specs.Prelude.{slice_get}
use Rattle.std.specs.List.{range_with_len}
use Rattle.std.proofs.lemmas.Bool.{cases_eq, cases_lt, ne_eqb, true≢false}
use Rattle.std.proofs.lemmas.Option.{slice_get_within, slice_get-get_or}
use Rattle.std.proofs.lemmas.List.FromFn.{length-range_with_len, get_or-range_with_len}
use Rattle.std.proofs.lemmas.List.Sums.{sum_by-cons, sum_by-le, sum_by-le-sum_by}
use Rattle.mn_base.specs.Among.{Among}
use Rattle.mn_base.proofs.Members.{Among-index}
use Rattle.journal.specs.SetupView.{SetupView}
use Rattle.parcel.specs.Windows.{window_count}
use Rattle.core_loop.specs.CoreView.{CoreView, windows_of, posted_of, taken_of, IsOtherCore}
use Rattle.core_loop.specs.WorldState.{IsNumber, IsInStep}
use Rattle.core_loop.specs.Turns.{NoCountFalls, HasMoved}
use Rattle.world.specs.WorldView.{WorldView, IsWorld, IsCoreOf}
use Rattle.world.specs.Worlds.{Turned}
use Rattle.world.specs.Steps.{trades_with, steps_of, total_steps, most_steps}

-- ---- sums

-- a sum is less where one of its terms is, and no other is more
sum-strict : {X : Type 0} (f g : X → ℕ) (xs : List X) (x : X) → Among x xs → ((y : X) → f y ≤ g y) → f x < g x → sum_by f xs < sum_by g xs
sum-strict f g [] x a all less = absurd a
sum-strict f g (y ∷ xs) x (inl same) all less =
    let here : f y < g y = subst (λ z. f z < g z) (sym same) less in
    let rest = sum_by-le-sum_by f g xs all in
    omega (arith, here, rest, sum_by-cons f y xs, sum_by-cons g y xs)
sum-strict f g (y ∷ xs) x (inr a) all less =
    let rest = sum-strict f g xs x a all less in
    let here = all y in
    omega (arith, here, rest, sum_by-cons f y xs, sum_by-cons g y xs)

-- lists with the same elements at each index are one
same-lists : {X : Type 0} (xs ys : List X) → ((j : ℕ) → slice_get ys j ≡ slice_get xs j) → ys ≡ xs
same-lists [] [] same = refl
same-lists [] (y ∷ ys) same = let e = same 0 in cc
same-lists (x ∷ xs) [] same = let e = same 0 in cc
same-lists (x ∷ xs) (y ∷ ys) same =
    let here : Some y ≡ Some x = same 0 in
    let one : y ≡ x = cc in
    ap (λ z. z ∷ ys) one ∙ ap (λ l. x ∷ l) (same-lists xs ys (λ j. same (suc j)))

-- the sums of two lists that differ in one element
sum-one : {X : Type 0} (f : X → ℕ) (xs ys : List X) (i : ℕ) (c d : X) → slice_get xs i ≡ Some c → slice_get ys i ≡ Some d
    → ((j : ℕ) → j ≢ i → slice_get ys j ≡ slice_get xs j) → sum_by f ys + f c ≡ sum_by f xs + f d
sum-one f [] ys i c d a b same = cc
sum-one f (x ∷ xs) [] i c d a b same = cc
sum-one f (x ∷ xs) (y ∷ ys) zero c d a b same =
    let at_c : x ≡ c = cc in
    let at_d : y ≡ d = cc in
    let rest : ys ≡ xs = same-lists xs ys (λ j. same (suc j) (λ e. omega (arith, e))) in
    omega (arith, ap f at_c, ap f at_d, ap (sum_by f) rest, sum_by-cons f x xs, sum_by-cons f y ys)
sum-one f (x ∷ xs) (y ∷ ys) (suc i) c d a b same =
    let first : Some y ≡ Some x = same 0 (λ e. omega (arith, e)) in
    let one : y ≡ x = cc in
    let rest = sum-one f xs ys i c d a b (λ j ne. same (suc j) (λ e. ne (omega (arith, e)))) in
    omega (arith, ap f one, rest, sum_by-cons f x xs, sum_by-cons f y ys)

-- a number below the end of a range is in it
in-range : (k o : ℕ) → o < k → Among o (range_with_len 0 k)
in-range k o l =
    subst (λ n. Among n (range_with_len 0 k)) (get_or-range_with_len 0 k o 0 l ∙ (let e : 0 + o ≡ o = omega arith in e))
    (Among-index (range_with_len 0 k) o 0 (let n = length-range_with_len 0 k in omega (arith, l, n)))

-- ---- one core

module _ (c d : CoreView) (r : NoCountFalls c d) where
  trades-rise : (o : ℕ) → trades_with c o ≤ trades_with d o
  trades-rise o = go (o == c.number) refl
    where
      turned : (o == d.number) ≡ (o == c.number)
      turned = ap (λ (k : ℕ). o == k) r.number

      go : (b : Bool) → (o == c.number) ≡ b → trades_with c o ≤ trades_with d o
      go true e =
          let zero_c : trades_with c o ≡ 0 = ap (λ (x : Bool). cond x 0 (posted_of c o + taken_of c o)) e in
          omega (arith, zero_c)
      go false e =
          let at_c : trades_with c o ≡ posted_of c o + taken_of c o = ap (λ (x : Bool). cond x 0 (posted_of c o + taken_of c o)) e in
          let at_d : trades_with d o ≡ posted_of d o + taken_of d o = ap (λ (x : Bool). cond x 0 (posted_of d o + taken_of d o)) (turned ∙ e) in
          let p = r.posts o in let t = r.takes o in
          omega (arith, at_c, at_d, p, t)

  same-range : sum_by (trades_with d) (range_with_len 0 d.setup.cores) ≡ sum_by (trades_with d) (range_with_len 0 c.setup.cores)
  same-range = ap (λ (S : SetupView). sum_by (trades_with d) (range_with_len 0 S.cores)) r.setup

  pub steps-rise : steps_of c ≤ steps_of d
  steps-rise =
      let w = r.windows in
      let s = sum_by-le-sum_by (trades_with c) (trades_with d) (range_with_len 0 c.setup.cores) trades-rise in
      let e = same-range in
      omega (arith, w, s, e)

  trades-more : (o : ℕ) → IsOtherCore c o → (posted_of c o < posted_of d o) ⊎ (taken_of c o < taken_of d o) → steps_of c < steps_of d
  trades-more o other more =
      let test : (o == c.number) ≡ false = ne_eqb o c.number other.1 in
      let at_c : trades_with c o ≡ posted_of c o + taken_of c o = ap (λ (x : Bool). cond x 0 (posted_of c o + taken_of c o)) test in
      let at_d : trades_with d o ≡ posted_of d o + taken_of d o =
      ap (λ (x : Bool). cond x 0 (posted_of d o + taken_of d o)) (ap (λ (k : ℕ). o == k) r.number ∙ test) in
      let p = r.posts o in let t = r.takes o in
      let less : trades_with c o < trades_with d o = ⊎_elim (λ m. omega (arith, at_c, at_d, p, t, m)) (λ m. omega (arith, at_c, at_d, p, t, m)) more in
      let s = sum-strict (trades_with c) (trades_with d) (range_with_len 0 c.setup.cores) o (in-range c.setup.cores o other.0) trades-rise less in
      let w = r.windows in
      let e = same-range in
      omega (arith, w, s, e)

  pub steps-move : HasMoved c d → steps_of c < steps_of d
  steps-move (inl m) =
      let s = sum_by-le-sum_by (trades_with c) (trades_with d) (range_with_len 0 c.setup.cores) trades-rise in
      let e = same-range in
      omega (arith, m, s, e)
  steps-move (inr (inl m)) = trades-more m.0 m.1 (inl m.2)
  steps-move (inr (inr m)) = trades-more m.0 m.1 (inr m.2)

  -- where no step is made, the counts are the same
  pub same-windows : steps_of d ≤ steps_of c → windows_of d ≡ windows_of c
  same-windows l = go (cases_lt (windows_of c) (windows_of d))
    where
      go : (windows_of c < windows_of d) ⊎ (windows_of d ≤ windows_of c) → windows_of d ≡ windows_of c
      go (inl m) = let s = steps-move (inl m) in absurd (omega (arith, s, l))
      go (inr m) = let w = r.windows in omega (arith, m, w)

  pub same-posts : steps_of d ≤ steps_of c → (o : ℕ) → IsOtherCore c o → posted_of d o ≡ posted_of c o
  same-posts l o other = go (cases_lt (posted_of c o) (posted_of d o))
    where
      go : (posted_of c o < posted_of d o) ⊎ (posted_of d o ≤ posted_of c o) → posted_of d o ≡ posted_of c o
      go (inl m) = let s = steps-move (inr (inl (o, other, m))) in absurd (omega (arith, s, l))
      go (inr m) = let w = r.posts o in omega (arith, m, w)

  pub same-takes : steps_of d ≤ steps_of c → (o : ℕ) → IsOtherCore c o → taken_of d o ≡ taken_of c o
  same-takes l o other = go (cases_lt (taken_of c o) (taken_of d o))
    where
      go : (taken_of c o < taken_of d o) ⊎ (taken_of d o ≤ taken_of c o) → taken_of d o ≡ taken_of c o
      go (inl m) = let s = steps-move (inr (inr (o, other, m))) in absurd (omega (arith, s, l))
      go (inr m) = let w = r.takes o in omega (arith, m, w)

-- a core makes no more steps than so many
steps-few : (c : CoreView) → IsInStep c → steps_of c ≤ window_count c.setup + c.setup.cores * (2 * (window_count c.setup + 1))
steps-few c s =
    let w : windows_of c ≤ window_count c.setup = s.within in
    let n = length-range_with_len 0 c.setup.cores in
    let l : sum_by (trades_with c) (range_with_len 0 c.setup.cores) ≤ length (range_with_len 0 c.setup.cores) * (2 * (window_count c.setup + 1)) =
    sum_by-le (trades_with c) (2 * (window_count c.setup + 1)) (range_with_len 0 c.setup.cores) few in
    let m : length (range_with_len 0 c.setup.cores) * (2 * (window_count c.setup + 1)) ≡ c.setup.cores * (2 * (window_count c.setup + 1)) =
    ap (λ (k : ℕ). k * (2 * (window_count c.setup + 1))) n in
    omega (arith, w, l, m)
  where
    few : All (λ o. trades_with c o ≤ 2 * (window_count c.setup + 1)) (range_with_len 0 c.setup.cores)
    few i e within = at (get_or (range_with_len 0 c.setup.cores) i e)
        (let n = length-range_with_len 0 c.setup.cores in
        let g = get_or-range_with_len 0 c.setup.cores i e (omega (arith, within, n)) in
        omega (arith, within, n, g))
      where
        number : (k : ℕ) → IsNumber (windows_of c) k → k ≤ window_count c.setup + 1
        number k (inl m) = let w : windows_of c ≤ window_count c.setup = s.within in omega (arith, m, w)
        number k (inr m) = let w : windows_of c ≤ window_count c.setup = s.within in omega (arith, m, w)

        at : (o : ℕ) → o < c.setup.cores → trades_with c o ≤ 2 * (window_count c.setup + 1)
        at o l = go (cases_eq o c.number)
          where
            go : (o ≡ c.number) ⊎ (o ≢ c.number) → trades_with c o ≤ 2 * (window_count c.setup + 1)
            go (inl same) =
                let none : trades_with c o ≡ 0 = ap (λ (x : Bool). cond x 0 (posted_of c o + taken_of c o)) (eq-eqb o c.number same) in
                omega (arith, none)
            go (inr other) =
                let is : trades_with c o ≡ posted_of c o + taken_of c o =
                ap (λ (x : Bool). cond x 0 (posted_of c o + taken_of c o)) (ne_eqb o c.number other) in
                let p = number (posted_of c o) (s.posted o (l, other)) in
                let t = number (taken_of c o) (s.taken o (l, other)) in
                omega (arith, is, p, t)

-- ---- the world

module _ (core : ℕ) (w x : WorldView) (t : Turned core w x) (c d : CoreView) (here : IsCoreOf w core c) (there : IsCoreOf x core d) where
  one : total_steps x + steps_of c ≡ total_steps w + steps_of d
  one = sum-one steps_of w.cores x.cores core c d here there t.others

  -- with a turn the steps are no fewer
  pub total-turned : total_steps w ≤ total_steps x
  total-turned = let e = one in let l = steps-rise c d (t.rises c d here there) in omega (arith, e, l)

  -- and more if the core has moved
  pub total-moves : HasMoved c d → total_steps w < total_steps x
  total-moves m = let e = one in let l = steps-move c d (t.rises c d here there) m in omega (arith, e, l)

  -- and if they aren't more, the core has made none
  pub total-same : total_steps x ≤ total_steps w → steps_of d ≤ steps_of c
  total-same l = let e = one in omega (arith, e, l)

-- a world makes no more steps than so many
pub total-most : (w : WorldView) → IsWorld w → w.failed ≡ false → total_steps w ≤ most_steps w.setup
total-most w is works =
    let l = sum_by-le steps_of (window_count w.setup + w.setup.cores * (2 * (window_count w.setup + 1))) w.cores few in
    let m : length w.cores * (window_count w.setup + w.setup.cores * (2 * (window_count w.setup + 1))) ≡ most_steps w.setup =
    ap (λ (k : ℕ). k * (window_count w.setup + w.setup.cores * (2 * (window_count w.setup + 1)))) is.one_a_core in
    omega (arith, l, m)
  where
    few : All (λ c. steps_of c ≤ window_count w.setup + w.setup.cores * (2 * (window_count w.setup + 1))) w.cores
    few i e within =
        let c = get_or w.cores i e in
        let here = slice_get-get_or w.cores i e within in
        subst (λ (S : SetupView). steps_of c ≤ window_count S + S.cores * (2 * (window_count S + 1))) (is.setups i c here)
        (steps-few c (is.in_step works i c here))
