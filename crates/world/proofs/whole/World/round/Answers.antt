use Rattle.std.proofs.Common.{◌≡◌, ℕ, ◌+◌, ◌<◌, Bool, true, false, refl, sym, ap, ◌∙◌, subst, arith}
use Rattle.journal.specs.SetupView.{SetupView}
use Rattle.core_loop.specs.declared.turn.Turn.TheVariants.{NoMemory}
use Rattle.world.specs.WorldView.{WorldView, IsWorld}
use Rattle.world.proofs.Weights.{total-most}
use Rattle.world.proofs.Rounds.{RoundSoFar, round-more, round-matches}
use Rattle.world.proofs.whole.World.round.Goals as goal

pub loop-core-preserved : goal.loop-core-preserved
loop-core-preserved c =
    let first = c.args.self.now in
    let was = c.loop-core.self in
    let now = c.turn-turn.new.self in
    let is : IsWorld now = subst IsWorld c.self-in-loop-core.view_is c.self-in-loop-core.invariant in
    let works : now.failed ≡ false = ap (λ (w : WorldView). w.failed) (sym c.self-in-loop-core.view_is) ∙ c.if-self.false in
    let cores = ap (λ (S : SetupView). S.cores) (c.behind-self.view_is ∙ c.parts.ensures.same) in
    let own = ap (λ (w : WorldView). w.setup.cores) c.self.view_is in
    let same = ap (λ (S : SetupView). S.cores) c.loop-core.invariant.setup in
    let named : c.loop-core.core < was.setup.cores = omega (arith, c.loop-core-test.true, cores, own, same) in
    subst (λ (all : Bool). RoundSoFar first now (c.loop-core.core + 1) all) (sym c.still_done-all_done.ensures)
    (round-more first was now c.loop-core.core c.loop-core.all_done c.turn-turn.result c.loop-core.invariant
    (record {
      setup = c.turn-turn.ensures.setup;
      stands = c.turn-turn.ensures.stands;
      turned = c.turn-turn.ensures.turned (λ e. (let f : true ≡ false = sym (c.turn-turn.ensures.failed e) ∙ works in let q : ⊥ = cc in q));
      moved = c.turn-turn.ensures.moved;
      waits = c.turn-turn.ensures.waits;
      same = c.turn-turn.ensures.same;
      posts = c.turn-turn.ensures.posts;
      takes = c.turn-turn.ensures.takes;
      done = c.turn-turn.ensures.done;
    })
    is works named (λ e. (let f : true ≡ false = sym (c.turn-turn.ensures.failed e) ∙ works in let q : ⊥ = cc in q)))

pub returns-clause-rises : goal.returns-clause-rises
returns-clause-rises c =
    let cores = ap (λ (S : SetupView). S.cores) (c.behind-self.view_is ∙ c.parts.ensures.same) in
    let own = ap (λ (w : WorldView). w.setup.cores) c.self.view_is in
    let same = ap (λ (S : SetupView). S.cores) c.loop-core.invariant.setup in
    round-matches c.args.self.now c.loop-core.self c.loop-core.core c.loop-core.all_done c.loop-core.invariant
    (omega (arith, c.loop-core-test.false, c.loop-core.auto.core-end, cores, own, same))

pub returns-clause-few : goal.returns-clause-few
returns-clause-few c = total-most c.loop-core.self c.loop-core.invariant.is_world c.loop-core.invariant.works
