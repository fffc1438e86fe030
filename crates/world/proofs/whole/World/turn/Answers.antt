use Rattle.std.proofs.Common.{◌≡◌, ◌≢◌, ℕ, ◌<◌, true, false, length, slice_get, refl, sym, ap, ◌∙◌, subst, arith}
use Rattle.std.proofs.Math.ListN.{set}
use Rattle.parcel.specs.PlainBoxesView.{PlainBoxesView, HasParcel, HasNoParcel, box_at}
use Rattle.core_loop.specs.declared.turn.Turn.TheVariants.{Moved}
use Rattle.core_loop.specs.CoreView.{CoreView}
use Rattle.core_loop.specs.Turns.{HasMoved, OwesPost, OwesTake, Owes, IsCoreDone, IfWaiting, MayFail}
use Rattle.world.specs.WorldView.{WorldView, IsCoreOf}
use Rattle.world.specs.Worlds.{WorldStillStands, Turned}
use Rattle.world.proofs.OneTurn.{world_then}
use Rattle.world.proofs.TurnSays.{CoreTurned, found-core, says-stands, says-turned, says-moved, says-waits, says-same, says-posts, says-takes, says-done, says-may-fail, says-others, says-world}
use Rattle.world.proofs.whole.World.turn.Goals as goal
use Rattle.world.proofs.whole.World.turn.Goals.{After-turn-turn}

-- the world before the turn, as its fields have it
abbrev before : After-turn-turn → WorldView
before c = record {
  setup = c.self.inside.setup.now;
  cores = c.self.inside.cores.items;
  boxes = c.self.inside.boxes;
  failed = c.self.inside.failed;
}

-- the core that is turned is that of its number
abbrev here : (c : After-turn-turn) → IsCoreOf (before c) c.args.core c.index_mut.result.now
here c =
    let cores : c.self.inside.setup.now.cores ≡ c.args.self.now.setup.cores = ap (λ (w : WorldView). w.setup.cores) c.self.view_is in
    let each : length c.self.inside.cores.items ≡ c.self.inside.setup.now.cores = c.self.invariant.one_a_core in
    let least : c.args.core < c.args.self.now.setup.cores = c.requires.core in
    found-core c.self.inside.cores.items c.args.core c.index_mut.result.now (omega (arith, cores, each, least)) c.index_mut.ensures.value

-- what its turn says, from the boxes that serve it
abbrev told : (c : After-turn-turn)
    → CoreTurned c.index_mut.result.now c.turn-turn.new.self (record c.self.inside.boxes { core = c.args.core }) c.turn-turn.new.ports
    c.turn-turn.result
told c =
    subst (λ (p : PlainBoxesView). CoreTurned c.index_mut.result.now c.turn-turn.new.self p c.turn-turn.new.ports c.turn-turn.result)
    c.serve.ensures.serves
    (record {
      keeps = c.turn-turn.ensures.keeps;
      stand = c.turn-turn.ensures.stand;
      rises = c.turn-turn.ensures.rises;
      stands = c.turn-turn.ensures.stands;
      in_step = c.turn-turn.ensures.in_step;
      moved = c.turn-turn.ensures.moved;
      not_done = c.turn-turn.ensures.not_done;
      waits = c.turn-turn.ensures.waits;
      same = c.turn-turn.ensures.same;
      posts = c.turn-turn.ensures.posts;
      takes = c.turn-turn.ensures.takes;
      done = c.turn-turn.ensures.done;
      ended = c.turn-turn.ensures.ended;
      no_memory = c.turn-turn.ensures.no_memory;
      may_fail = c.turn-turn.ensures.may_fail;
    })

pub invariant_of-self : goal.invariant_of-self
invariant_of-self c =
    let t = (goal.at.invariant_of-self c).After-turn-turn in
    says-world (before t) c.args.core c.index_mut.result.now c.turn-turn.new.self c.turn-turn.new.ports c.turn-turn.result c.self.invariant
    (here t) (told t) true (λ e. absurd (let q : ⊥ = cc in q))

pub invariant_of-self-in_default : goal.invariant_of-self-in_default
invariant_of-self-in_default c =
    let t = (goal.at.invariant_of-self-in_default c).After-turn-turn in
    says-world (before t) c.args.core c.index_mut.result.now c.turn-turn.new.self c.turn-turn.new.ports c.turn-turn.result c.self.invariant
    (here t) (told t) c.self.inside.failed (λ e. (e, c.in_default.not-NoMemory))

pub returns : goal.returns
returns c =
    let t = (goal.at.returns c).After-turn-turn in
    let core = c.args.core in
    let turn = c.turn-turn.result in
    let failed = c.self.inside.failed in
    let after = world_then (before t) core c.turn-turn.new.self c.turn-turn.new.ports failed in
    let view = c.self.view_is in
    let is = c.self.invariant in
    record {
      setup = ap (λ (w : WorldView). w.setup) view;
      stands = subst (λ (w : WorldView). WorldStillStands w after) view
          (says-stands (before t) core _ c.turn-turn.new.self c.turn-turn.new.ports turn is (here t) (told t) failed c.in_default.not-NoMemory);
      turned = λ memory. subst (λ (w : WorldView). Turned core w after) view
          (says-turned (before t) core _ c.turn-turn.new.self c.turn-turn.new.ports turn is (here t) (told t) failed memory);
      moved = subst (λ (w : WorldView). turn ≡ Moved → (b e : CoreView) → IsCoreOf w core b → IsCoreOf after core e
          → HasMoved b e × (IsCoreDone e → ⊥)) view
          (says-moved (before t) core _ c.turn-turn.new.self c.turn-turn.new.ports turn is (here t) (told t) failed);
      waits = subst (λ (w : WorldView). IfWaiting turn (λ on. (b : CoreView) → IsCoreOf w core b → Owes b on)) view
          (says-waits (before t) core _ c.turn-turn.new.self c.turn-turn.new.ports turn is (here t) (told t));
      same = subst (λ (w : WorldView). IfWaiting turn (λ on. after.cores ≡ w.cores)) view
          (says-same (before t) core _ c.turn-turn.new.self c.turn-turn.new.ports turn is (here t) (told t));
      posts = subst (λ (w : WorldView).
          IfWaiting turn (λ on. (b : CoreView) (other : ℕ) → IsCoreOf w core b → OwesPost b other → HasParcel (box_at w.boxes core other))) view
          (says-posts (before t) core _ c.turn-turn.new.self c.turn-turn.new.ports turn is (here t) (told t));
      takes = subst (λ (w : WorldView).
          IfWaiting turn (λ on. (b : CoreView) (other : ℕ) → IsCoreOf w core b → OwesTake b other → HasNoParcel (box_at w.boxes other core))) view
          (says-takes (before t) core _ c.turn-turn.new.self c.turn-turn.new.ports turn is (here t) (told t));
      done = says-done (before t) core _ c.turn-turn.new.self c.turn-turn.new.ports turn is (here t) (told t) failed;
      failed = λ e. absurd (c.in_default.not-NoMemory e);
      works = λ _. ap (λ (w : WorldView). w.failed) view;
      may_fail = λ e. absurd (c.in_default.not-NoMemory e);
      others = subst (λ (w : WorldView). (other : ℕ) → other ≢ core → slice_get after.cores other ≡ slice_get w.cores other) view
          (says-others (before t) core _ c.turn-turn.new.self c.turn-turn.new.ports turn is (here t) (told t));
    }

pub returns-in-NoMemory-clause-may_fail : goal.returns-in-NoMemory-clause-may_fail
returns-in-NoMemory-clause-may_fail c =
    let t = (goal.at.returns-in-NoMemory-clause-may_fail c).After-turn-turn in
    let core = c.args.core in
    let after = world_then (before t) core c.turn-turn.new.self c.turn-turn.new.ports true in
    λ _. subst (λ (w : WorldView). (b e : CoreView) → IsCoreOf w core b → IsCoreOf after core e → MayFail b e) c.self.view_is
    (says-may-fail (before t) core _ c.turn-turn.new.self c.turn-turn.new.ports c.turn-turn.result c.self.invariant (here t) (told t) true
    c.in-NoMemory.is)

pub returns-in-NoMemory-clause-others : goal.returns-in-NoMemory-clause-others
returns-in-NoMemory-clause-others c =
    let t = (goal.at.returns-in-NoMemory-clause-others c).After-turn-turn in
    let core = c.args.core in
    subst (λ (w : WorldView). (other : ℕ) → other ≢ core → slice_get (set c.self.inside.cores.items core c.turn-turn.new.self) other ≡ slice_get w.cores other)
    c.self.view_is
    (says-others (before t) core _ c.turn-turn.new.self c.turn-turn.new.ports c.turn-turn.result c.self.invariant (here t) (told t))
