use Rattle.std.proofs.Common.{◌≡◌, ℕ, ◌+◌, List, take, get_or, true, false, sym, ap, ◌∙◌, subst}
use Rattle.std.proofs.lemmas.List.{take_more}
use Rattle.world.specs.WorldView.{WorldView, IsWorld}
use Rattle.world.specs.Worlds.{TurnedBy}
use Rattle.world.proofs.InOrder.{turned-more, world-still-then}
use Rattle.world.proofs.whole.World.run_order.Goals as goal

pub loop-core-preserved : goal.loop-core-preserved
loop-core-preserved c =
    let order = c.args.order.now in
    let index = c.loop-core.core-index in
    let first = c.args.self.now in
    let now = c.turn-turn.new.self in
    let is : IsWorld now = subst IsWorld c.self-in-loop-core.view_is c.self-in-loop-core.invariant in
    let works : now.failed ≡ false = ap (λ (w : WorldView). w.failed) (sym c.self-in-loop-core.view_is) ∙ c.if-self-2.false in
    record {
      setup = c.turn-turn.ensures.setup ∙ c.loop-core.invariant.setup;
      turned = subst (λ (l : List ℕ). TurnedBy l first now) (sym (take_more order index 0 c.loop-core-test.true))
          (turned-more (take index order) (get_or order index 0) first c.loop-core.self now c.loop-core.invariant.turned
          (record {
            turned = c.turn-turn.ensures.turned (λ e. (let f : true ≡ false = sym (c.turn-turn.ensures.failed e) ∙ works in let q : ⊥ = cc in q));
            is_world = is;
            works = works;
            stands = c.turn-turn.ensures.stands;
          }));
      stands = world-still-then first c.loop-core.self now c.loop-core.invariant.works c.loop-core.invariant.stands
          c.turn-turn.ensures.stands;
      works = works;
    }
