-- Each turn takes one pipe that has no owner, so after as many turns as there are pipes each has one.
use Rattle.std.proofs.Common.{◌≡◌, ◌≢◌, ◌<◌, ◌≤◌, ◌+◌, ◌%◌, ◌==◌, ⊎_elim, ℕ, zero, suc, Bool, true, false, cond, not, ◌&&◌, ◌||◌, List, [], ◌∷◌, ◌++◌, length, All, AllPairs, Option, Some, None, find, refl, sym, ap, ◌∙◌, subst, arith, mod-lt}
use Rattle.std.specs.List.{range_with_len}
use Rattle.std.specs.Option.{option_or}
use Rattle.std.proofs.lemmas.Bool.{cases_eq, and_parts, not-true, not-false, not_from_false, not_from_true, ne_eqb, eq-eqb, or_right}
use Rattle.std.proofs.lemmas.List.Elements.{All-push, All-nil}
use Rattle.changes.proofs.Lists.{AllPairs-push}
use Rattle.distill.specs.Distilled.{DistilledView}
use Rattle.ownership.specs.Assignment.{Owned, is_owned, has_end, is_in_set, nearest, least_unowned, pipe_of_turn, owned_after, assigned, owner_in}
use Rattle.ownership.specs.Laws.{OwnsEachOnce}
use Rattle.ownership.proofs.Finds.{none_passes, is_owned-push, each_other}
use Rattle.ownership.proofs.Readings.{owner_there}
use Rattle.ownership.proofs.TurnSteps.{after_taken}

-- how many of n numbers from a on pass
count_from : (ℕ → Bool) → ℕ → ℕ → ℕ
count_from p a zero = 0
count_from p a (suc n) = cond (p a) (suc (count_from p (a + 1) n)) (count_from p (a + 1) n)

count_same : (p q : ℕ → Bool) (a n : ℕ) → ((k : ℕ) → a ≤ k → p k ≡ q k) → count_from p a n ≡ count_from q a n
unfolding count_from
count_same p q a zero same = refl
count_same p q a (suc n) same =
    rw (same a (omega arith), count_same p q (a + 1) n (λ k up. same k (omega (arith, up)))) refl

-- one number that passes no more
count_less : (p q : ℕ → Bool) (a n k : ℕ) → a ≤ k → k < a + n → p k ≡ true → q k ≡ false → ((j : ℕ) → (j ≡ k → ⊥) → p j ≡ q j)
    → count_from p a n ≡ suc (count_from q a n)
unfolding count_from
count_less p q a zero k low high was is same = absurd (omega (arith, low, high))
count_less p q a (suc n) k low high was is same =
    ⊎_elim
    (λ (here : a ≡ k).
    let first : p a ≡ true = ap p here ∙ was in
    let second : q a ≡ false = ap q here ∙ is in
    rw (first, second) (ap suc (count_same p q (a + 1) n (λ j up. same j (λ (e : j ≡ k). omega (arith, e, here, up))))))
    (λ (away : a ≡ k → ⊥).
    let later : count_from p (a + 1) n ≡ suc (count_from q (a + 1) n) =
    count_less p q (a + 1) n k (omega (arith, away, low)) (omega (arith, high)) was is same in
    rw (same a away, later) (go (q a)))
    (cases_eq a k)
  where
    go : (b : Bool) → cond b (suc (suc (count_from q (a + 1) n))) (suc (count_from q (a + 1) n))
        ≡ suc (cond b (suc (count_from q (a + 1) n)) (count_from q (a + 1) n))
    go true = refl
    go false = refl

count_none : (p : ℕ → Bool) (a n : ℕ) → ((k : ℕ) → a ≤ k → k < a + n → p k ≡ false) → count_from p a n ≡ 0
unfolding count_from
count_none p a zero none = refl
count_none p a (suc n) none =
    rw (none a (omega arith) (omega arith)) (count_none p (a + 1) n (λ k up down. none k (omega (arith, up)) (omega (arith, down))))

none_counted : (p : ℕ → Bool) (a n : ℕ) → count_from p a n ≡ 0 → (k : ℕ) → a ≤ k → k < a + n → p k ≡ false
unfolding count_from
none_counted p a zero none k up down = absurd (omega (arith, up, down))
none_counted p a (suc n) none k up down = go (p a) refl none (none_counted p (a + 1) n)
  where
    go : (b : Bool) → p a ≡ b → cond b (suc (count_from p (a + 1) n)) (count_from p (a + 1) n) ≡ 0
        → (count_from p (a + 1) n ≡ 0 → (j : ℕ) → a + 1 ≤ j → j < a + 1 + n → p j ≡ false) → p k ≡ false
    go true is e later = absurd (omega (arith, e))
    go false is e later =
        ⊎_elim
        (λ (same : a ≡ k). ap p (sym same) ∙ is)
        (λ (other : a ≡ k → ⊥). later e k (omega (arith, other, up)) (omega (arith, down)))
        (cases_eq a k)

count_all : (p : ℕ → Bool) (a n : ℕ) → ((k : ℕ) → p k ≡ true) → count_from p a n ≡ n
unfolding count_from
count_all p a zero all = refl
count_all p a (suc n) all = rw (all a) (ap suc (count_all p (a + 1) n all))

-- what is found passes, and is one of the numbers
found_from : (p : ℕ → Bool) (a n q : ℕ) → find p (range_with_len a n) ≡ Some q → (q < a + n) × (p q ≡ true)
found_from p a zero q e = cc
found_from p a (suc n) q e = go (p a) refl e (found_from p (a + 1) n q)
  where
    go : (b : Bool) → p a ≡ b → cond b (Some a) (find p (range_with_len (a + 1) n)) ≡ Some q
        → (find p (range_with_len (a + 1) n) ≡ Some q → (q < a + 1 + n) × (p q ≡ true)) → (q < a + suc n) × (p q ≡ true)
    go true is e later = let same : a ≡ q = cc in (omega (arith, same), ap p (sym same) ∙ is)
    go false is e later = let rest = later e in let low : q < a + 1 + n = rest.0 in (omega (arith, low), rest.1)

-- the pipe of a turn is one that has no owner
pub turn_pipe : (d : DistilledView) (cores : ℕ) (owned : List Owned) (core q : ℕ) → pipe_of_turn d cores owned core ≡ Some q
    → (q < length d.pipes) × (is_owned owned q ≡ false)
turn_pipe d cores owned core q is = go (nearest d cores owned core) refl is
  where
    go : (o : Option ℕ) → nearest d cores owned core ≡ o → option_or o (least_unowned d owned) ≡ Some q
        → (q < length d.pipes) × (is_owned owned q ≡ false)
    go None near e =
        let found = found_from (λ k. not (is_owned owned k)) 0 (length d.pipes) q e in
        let low : q < 0 + length d.pipes = found.0 in
        (omega (arith, low), not-true (is_owned owned q) found.1)
    go (Some k) near e =
        let same : k ≡ q = cc in
        let found =
        found_from (λ j. not (is_owned owned j) && has_end d.pipes (is_in_set d cores owned core) j) 0 (length d.pipes) q
        (near ∙ ap (λ (n : ℕ). Some n) same) in
        let low : q < 0 + length d.pipes = found.0 in
        (omega (arith, low), not-true (is_owned owned q) (and_parts _ _ found.1).0)

none_left_to_take : (d : DistilledView) (cores : ℕ) (owned : List Owned) (core : ℕ) → pipe_of_turn d cores owned core ≡ None
    → least_unowned d owned ≡ None
none_left_to_take d cores owned core is = go (nearest d cores owned core) is
  where
    go : (o : Option ℕ) → option_or o (least_unowned d owned) ≡ None → least_unowned d owned ≡ None
    go None e = e
    go (Some k) e = cc

-- what holds after r turns
record OwnsSoFar (d : DistilledView) (cores r : ℕ) (owned : List Owned) : Type 0 where
  pipes_are : All (λ o. o.pipe < length d.pipes) owned
  cores_are : All (λ o. o.core < cores) owned
  once : AllPairs (λ o p. o.pipe ≢ p.pipe) owned
  left : count_from (λ q. not (is_owned owned q)) 0 (length d.pipes) + r ≡ length d.pipes

one_turn : (d : DistilledView) (cores r : ℕ) (owned : List Owned) → 1 ≤ cores → r < length d.pipes → OwnsSoFar d cores r owned
    → (next : List Owned) → ((q : ℕ) → pipe_of_turn d cores owned (r % cores) ≡ Some q → next ≡ owned ++ record { pipe = q; core = r % cores } ∷ [])
    → OwnsSoFar d cores (r + 1) next
one_turn d cores r owned some low so_far next taken = go (pipe_of_turn d cores owned (r % cores)) refl
  where
    or_false : (b : Bool) → (b || false) ≡ b
    or_false true = refl
    or_false false = refl

    go : (o : Option ℕ) → pipe_of_turn d cores owned (r % cores) ≡ o → OwnsSoFar d cores (r + 1) next
    go None is =
        let all : count_from (λ q. not (is_owned owned q)) 0 (length d.pipes) ≡ 0 =
        count_none (λ q. not (is_owned owned q)) 0 (length d.pipes)
        (λ k up down. none_passes (λ q. not (is_owned owned q)) (length d.pipes) (none_left_to_take d cores owned (r % cores) is) k (omega (arith, down))) in
        absurd (let left = so_far.left in omega (arith, left, all, low))
    go (Some q) is =
        let o : Owned = record { pipe = q; core = r % cores } in
        let free = turn_pipe d cores owned (r % cores) q is in
        let below : q < length d.pipes = free.0 in
        let fewer : count_from (λ k. not (is_owned owned k)) 0 (length d.pipes)
        ≡ suc (count_from (λ k. not (is_owned (owned ++ record { pipe = q; core = r % cores } ∷ []) k)) 0 (length d.pipes)) =
        count_less (λ k. not (is_owned owned k)) (λ k. not (is_owned (owned ++ record { pipe = q; core = r % cores } ∷ []) k)) 0 (length d.pipes) q
        (omega arith) (omega (arith, below)) (not_from_false (is_owned owned q) free.1)
        (not_from_true _ (is_owned-push owned (record { pipe = q; core = r % cores }) q ∙ or_right (is_owned owned q) (q == q) (eq-eqb q q refl)))
        (λ j other.
        ap not
        (sym (is_owned-push owned (record { pipe = q; core = r % cores }) j
        ∙ ap (λ (b : Bool). is_owned owned j || b) (ne_eqb q j (λ e. other (sym e)))
        ∙ or_false (is_owned owned j)))) in
        subst (OwnsSoFar d cores (r + 1)) (sym (taken q is))
        (record {
          pipes_are = All-push (λ p. p.pipe < length d.pipes) owned (record { pipe = q; core = r % cores }) so_far.pipes_are below;
          cores_are = All-push (λ p. p.core < cores) owned (record { pipe = q; core = r % cores }) so_far.cores_are (mod-lt r some);
          once = AllPairs-push (λ p s. p.pipe ≢ s.pipe) owned (record { pipe = q; core = r % cores }) so_far.once (each_other owned q free.1);
          left = (let left = so_far.left in omega (arith, left, fewer));
        })

owns_so_far : (d : DistilledView) (cores r : ℕ) → 1 ≤ cores → r ≤ length d.pipes → OwnsSoFar d cores r (owned_after d cores r)
unfolding owned_after
owns_so_far d cores zero some low = record {
  pipes_are = All-nil (λ p. p.pipe < length d.pipes);
  cores_are = All-nil (λ p. p.core < cores);
  once = λ i j e lt within. absurd (omega arith);
  left = (let all : count_from (λ q. not (is_owned [] q)) 0 (length d.pipes) ≡ length d.pipes =
      count_all (λ q. not (is_owned [] q)) 0 (length d.pipes) (λ k. refl) in omega (arith, all));
}
owns_so_far d cores (suc r) some low =
    subst (λ n. OwnsSoFar d cores n (owned_after d cores (suc r))) (let next : r + 1 ≡ suc r = omega arith in next)
    (one_turn d cores r (owned_after d cores r) some (omega (arith, low)) (owns_so_far d cores r some (omega (arith, low)))
    (owned_after d cores (suc r)) (λ q is. after_taken d cores (owned_after d cores r) (r % cores) q is))

pub one_owner : (d : DistilledView) (cores : ℕ) → 1 ≤ cores → OwnsEachOnce (length d.pipes) cores (assigned d cores)
one_owner d cores some =
    let so_far = owns_so_far d cores (length d.pipes) some (omega arith) in
    record {
      pipes_are = so_far.pipes_are;
      cores_are = so_far.cores_are;
      once = so_far.once;
      each = λ q low. (
        owner_in (assigned d cores) q,
        owner_there (assigned d cores) q
            (not-false (is_owned (assigned d cores) q)
            (none_counted (λ k. not (is_owned (assigned d cores) k)) 0 (length d.pipes)
            (let left = so_far.left in omega (arith, left)) q (omega arith) (omega (arith, low)))),
      );
    }
