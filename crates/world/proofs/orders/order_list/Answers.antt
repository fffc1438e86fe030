use Rattle.std.proofs.Common.{◌≡◌, ◌<◌, ℕ, ◌+◌, List, [], ◌∷◌, ◌++◌, All, refl, sym, ap, ◌∙◌, subst, arith}
use Rattle.std.proofs.lemmas.List.Elements.{All-nil, All-push}
use Rattle.mn_base.specs.Draws.{state_after, choice_at, state_at}
use Rattle.world.specs.Orders.{drawn_order}
use Rattle.world.proofs.Drawing.{order-more, state-more, state-none}
use Rattle.world.proofs.orders.order_list.Goals as goal

pub loop-turn-init : goal.loop-turn-init
loop-turn-init c = record {
  order_is = c.in_ok-order.ensures.items;
  below = subst (All (λ (core : ℕ). core < c.args.cores)) (sym c.in_ok-order.ensures.items) (All-nil (λ (core : ℕ). core < c.args.cores));
  state_is = c.new-draws.ensures.state ∙ sym (state-none c.args.number);
}

pub loop-turn-preserved : goal.loop-turn-preserved
loop-turn-preserved c =
    let state = c.draw.ensures.state ∙ ap state_after c.loop-turn.invariant.state_is ∙ sym (state-more c.args.number c.loop-turn._turn) in
    record {
      order_is =
          c.in_ok-push.ensures.items
          ∙ ap (λ (xs : List ℕ). xs ++ c.draw.result ∷ []) c.loop-turn.invariant.order_is
          ∙ ap (λ (x : ℕ). drawn_order c.args.number c.loop-turn._turn c.args.cores ++ x ∷ [])
          (c.draw.ensures.value ∙ ap (λ (s : ℕ). choice_at s c.args.cores) state)
          ∙ sym (order-more c.args.number c.loop-turn._turn c.args.cores);
      below = subst (All (λ (core : ℕ). core < c.args.cores)) (sym c.in_ok-push.ensures.items)
          (All-push (λ (core : ℕ). core < c.args.cores) c.loop-turn.order.items c.draw.result c.loop-turn.invariant.below c.draw.ensures.below);
      state_is = state;
    }

pub returns : goal.returns
returns c =
    let all : c.loop-turn._turn ≡ c.args.turns = omega (arith, c.loop-turn-test.false, c.loop-turn.auto._turn-end) in
    record {
      order = c.loop-turn.invariant.order_is ∙ ap (λ (n : ℕ). drawn_order c.args.number n c.args.cores) all;
      below = c.loop-turn.invariant.below;
    }
