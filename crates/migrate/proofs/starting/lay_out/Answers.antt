use Rattle.std.proofs.Common.{◌≡◌, ◌+◌, ◌<◌, ℕ, [], length, slice_index_or, rules, refl, ap, ◌∙◌, subst, arith}
use Rattle.std.proofs.lemmas.List.{length_push}
use Rattle.std.proofs.lemmas.Iterator.Adapters.{YieldsList-from_vec}
use Rattle.std.proofs.lemmas.Iterator.Consumers.{YieldsList-turn, YieldsList-end}
use Rattle.journal.specs.SetupView.{SetupView}
use Rattle.journal.specs.IsPipe.{IsPipe}
use Rattle.journal.proofs.VisitsTo.{pipe-at}
use Rattle.parcel.specs.Owners.{owner_of}
use Rattle.migrate.specs.Running.{ChangesAt}
use Rattle.migrate.specs.Starting.{PutsPipe, AreLaidOut}
use Rattle.migrate.proofs.Started.{laid-more, same-more, laid-none, same-none, owner-is}
use Rattle.migrate.proofs.starting.lay_out.Goals as goal
use Rattle.migrate.proofs.starting.lay_out.Goals.{In-Some, After-index}

pub loop-pipe-init : goal.loop-pipe-init
loop-pipe-init c = record {
  laid = laid-none c.args.setup.now c.args.shelves.now.items c.requires.empty;
  same = same-none c.args.shelves.now.items;
  met = refl;
}

-- the pipe that is put is the setup's of this number
next : (c : In-Some)
    → (c.loop-pipe.number < length c.args.setup.now.pipes) × IsPipe c.args.setup.now [] c.loop-pipe.number c.in-Some.pipe
next c =
    let turn =
    YieldsList-turn (YieldsList-from_vec c.in_ok-pipe-items.pipe-items.items (search rules) (search rules)) c.loop-pipe.yielded _
    c.loop-pipe.yielded_by _ c.next.new.self c.in-Some.pipe c.in-Some.is c.next.ensures.steps in
    let here : length c.loop-pipe.yielded < length c.args.setup.now.pipes = omega (arith, turn.0, c.in_ok-pipe-items.ensures.count) in
    let pipe : IsPipe c.args.setup.now [] (length c.loop-pipe.yielded) c.in-Some.pipe =
    pipe-at c.in_ok-pipe-items.ensures (length c.loop-pipe.yielded) c.in-Some.pipe here turn.1 in
    let met = c.loop-pipe.invariant.met in
    (omega (arith, here, met), subst (λ (k : ℕ). IsPipe c.args.setup.now [] k c.in-Some.pipe) met pipe)

pub index-requires : goal.index-requires
index-requires c =
    let here = (next (goal.at.index-requires c).In-Some).0 in
    let owners = ap (λ (s : SetupView). s.owners) (c.parts.view_is ∙ c.parts-parts.ensures.same) in
    let long : length c.parts.inside.owners.items ≡ length c.args.setup.now.owners = ap length owners in
    omega (arith, here, long, c.parts-parts.ensures.kept.one_owner, c.parts.inside.owners.ok.0)

-- and the core that is read is its owner
owner : (c : After-index) → c.loop-pipe.number < length c.args.setup.now.pipes
    → (c.index.result.now < c.args.setup.now.cores) × (c.index.result.now ≡ owner_of c.args.setup.now c.loop-pipe.number)
owner c here =
    let owners = ap (λ (s : SetupView). s.owners) (c.parts.view_is ∙ c.parts-parts.ensures.same) in
    let kept = c.parts-parts.ensures.kept in
    let inside : c.loop-pipe.number < length c.args.setup.now.owners = omega (arith, here, kept.one_owner) in
    let owned : slice_index_or c.args.setup.now.owners c.loop-pipe.number 0 < c.args.setup.now.cores =
    kept.owners c.loop-pipe.number 0 inside in
    let is =
    owner-is c.args.setup.now c.parts.inside.owners.items c.loop-pipe.number c.index.result.now owners inside c.index.ensures in
    (omega (arith, owned, is), is)

pub put_pipe-requires : goal.put_pipe-requires
put_pipe-requires c =
    let at = goal.at.put_pipe-requires c in
    let owned = (owner at.After-index (next at.In-Some).0).0 in
    omega (arith, owned, c.loop-pipe.invariant.same.as_many, c.requires.one_a_core)

pub overflow_add-number : goal.overflow_add-number
overflow_add-number c =
    let here = (next (goal.at.overflow_add-number c).In-Some).0 in
    let most = c.parts-parts.ensures.kept.pipes_most in
    omega (arith, here, most)

pub loop-pipe-preserved : goal.loop-pipe-preserved
loop-pipe-preserved c =
    let at = goal.at.loop-pipe-preserved c in
    let pipe = next at.In-Some in
    let changes =
    subst (λ (o : ℕ). ChangesAt o (PutsPipe c.loop-pipe.number c.in-Some.pipe) c.loop-pipe.shelves.items c.put_pipe.new.shelves.items)
    (owner at.After-index pipe.0).1 c.in_ok-put_pipe.ensures in
    record {
      laid = laid-more c.args.setup.now c.loop-pipe.number c.in-Some.pipe c.loop-pipe.shelves.items c.put_pipe.new.shelves.items changes
          pipe.1 c.loop-pipe.invariant.laid;
      same = same-more c.args.setup.now c.loop-pipe.number c.in-Some.pipe c.loop-pipe.shelves.items c.put_pipe.new.shelves.items changes
          c.args.shelves.now.items c.loop-pipe.invariant.same;
      met = length_push c.loop-pipe.yielded c.in-Some.pipe ∙ ap (λ (n : ℕ). n + 1) c.loop-pipe.invariant.met;
    }

pub returns-clause-laid : goal.returns-clause-laid
returns-clause-laid c =
    let ended =
    YieldsList-end (YieldsList-from_vec c.in_ok-pipe-items.pipe-items.items (search rules) (search rules)) c.loop-pipe.yielded _
    c.loop-pipe.yielded_by _ c.next.new.self c.in-None.is c.next.ensures.steps in
    let done : c.loop-pipe.number ≡ length c.args.setup.now.pipes =
    omega (arith, ended.1, c.loop-pipe.invariant.met, c.in_ok-pipe-items.ensures.count) in
    subst (λ (n : ℕ). AreLaidOut c.args.setup.now n c.loop-pipe.shelves.items) done c.loop-pipe.invariant.laid

pub returns-clause-same : goal.returns-clause-same
returns-clause-same c = c.loop-pipe.invariant.same
