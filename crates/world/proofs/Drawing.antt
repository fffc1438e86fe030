-- An order that is drawn, core by core.
use Rattle.std.proofs.Common.{◌≡◌, ℕ, ◌+◌, List, [], ◌∷◌, ◌++◌, map, suc, refl, sym, ap, ◌∙◌, arith}
use Rattle.std.proofs.lemmas.List.FromFn.{map-range_with_len_more}
use Rattle.mn_base.specs.Draws.{state_after, choice_at, state_at, draw_at}
use Rattle.world.specs.Orders.{drawn_order}

-- one draw more
pub order-more : (number turns cores : ℕ) → drawn_order number (turns + 1) cores ≡ drawn_order number turns cores ++ draw_at number turns cores ∷ []
order-more number turns cores = map-range_with_len_more (λ n. draw_at number n cores) 0 turns turns (omega arith)

-- the state after one draw more
pub state-more : (number turns : ℕ) → state_at number (turns + 1) ≡ state_after (state_at number turns)
unfolding state_at
state-more number turns = ap (state_at number) (let e : turns + 1 ≡ suc turns = omega arith in e)

pub state-none : (number : ℕ) → state_at number 0 ≡ number
unfolding state_at
state-none number = refl
