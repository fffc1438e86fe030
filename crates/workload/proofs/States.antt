-- States of a stream, and draws, one after the other.
use Rattle.std.proofs.Common.{◌≡◌, ℕ, zero, suc, ◌+◌, ap, sym, ◌∙◌, refl, arith, add-zero}
use Rattle.mn_base.specs.Draws.{state_after, choice_at, state_at, draw_at}

-- no draw was made yet
pub no_draw : (x : ℕ) → x ≡ state_at x 0
unfolding state_at
no_draw x = refl

-- after one draw
pub one_draw : (x s : ℕ) → s ≡ state_after x → s ≡ state_at x 1
unfolding state_at
one_draw x s is = is

-- one draw more
pub next_state : (x s s' n : ℕ) → s ≡ state_at x n → s' ≡ state_after s → s' ≡ state_at x (n + 1)
unfolding state_at
next_state x s s' n at is =
    let more : suc n ≡ n + 1 = omega arith in
    is ∙ ap state_after at ∙ ap (λ m. state_at x m) more

-- the answer of draw n, by the state after it
pub the_draw : (x s n choices answer : ℕ) → s ≡ state_at x (n + 1) → answer ≡ choice_at s choices → answer ≡ draw_at x n choices
the_draw x s n choices answer at is = is ∙ ap (λ t. choice_at t choices) at

-- a draws and then b draws are a + b draws
pub state_at-sum : (x a b : ℕ) → state_at (state_at x a) b ≡ state_at x (a + b)
unfolding state_at
state_at-sum x a zero = ap (λ n. state_at x n) (sym (add-zero a))
state_at-sum x a (suc b) =
    let more : suc (a + b) ≡ a + suc b = omega arith in
    ap state_after (state_at-sum x a b) ∙ ap (λ n. state_at x n) more

-- b draws after a draws, as a loop makes them
pub later_state : (x s s' a b n : ℕ) → s ≡ state_at x a → s' ≡ state_at s b → n ≡ a + b → s' ≡ state_at x n
later_state x s s' a b n at is sum =
    is ∙ ap (λ t. state_at t b) at ∙ state_at-sum x a b ∙ ap (λ m. state_at x m) (sym sum)
