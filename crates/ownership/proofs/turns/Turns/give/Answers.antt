use Rattle.std.proofs.Common.{◌≡◌, ◌<◌, ◌%◌, List, ℕ, Option, Some, length, length-set, sym, ap, subst, refl, ◌∙◌, arith, mod-lt}
use Rattle.distill.specs.Distilled.{DistilledView}
use Rattle.ownership.specs.Assignment.{owned_after}
use Rattle.ownership.specs.Turning.{IsRowOf, AddsNode}
use Rattle.ownership.proofs.EachOnce.{turn_pipe}
use Rattle.ownership.proofs.TurnSteps.{owned_next, after_taken}
use Rattle.ownership.proofs.Places.{on_ok, pipe_at, ends_at, row_below, reach_size}
use Rattle.ownership.proofs.Giving.{gave, as_next}
use Rattle.ownership.proofs.turns.Turns.give.Goals as goal

pub bounds-pipes-pipe : goal.bounds-pipes-pipe
bounds-pipes-pipe c =
    let low = (turn_pipe c.args.distilled.now c.args.cores _ _ c.args.pipe c.requires.pipe).0 in
    let len : length c.pipes.result.now ≡ length c.args.distilled.now.pipes = ap length c.pipes.ensures.lent in
    omega (arith, low, len)

pub index_mut-requires : goal.index_mut-requires
index_mut-requires c =
    let low = (turn_pipe c.args.distilled.now c.args.cores _ _ c.args.pipe c.requires.pipe).0 in
    omega (arith, low, c.requires.before.owners.len, c.args.self.now.owners.ok.0)

pub row-requires : goal.row-requires
row-requires c =
    subst (λ (d : DistilledView). c.index-pipes-pipe.result.from < d.nodes) (sym c.requires.incidence)
    (ends_at c.args.distilled.now c.pipes.result.now c.args.pipe c.index-pipes-pipe.result c.pipes.ensures.lent c.pipes.ensures.valid
    (turn_pipe c.args.distilled.now c.args.cores _ _ c.args.pipe c.requires.pipe).0 c.index-pipes-pipe.is).from

pub add_node-requires-clause-node : goal.add_node-requires-clause-node
add_node-requires-clause-node c =
    let ends = ends_at c.args.distilled.now c.pipes.result.now c.args.pipe c.index-pipes-pipe.result c.pipes.ensures.lent c.pipes.ensures.valid
    (turn_pipe c.args.distilled.now c.args.cores _ _ c.args.pipe c.requires.pipe).0 c.index-pipes-pipe.is in
    let size = reach_size c.args.distilled.now c.args.cores _ _ c.args.self.now (c.args.turn % c.args.cores) c.index_mut-reach.result.now
    c.requires.before (mod-lt c.args.turn c.requires.some_core) c.index_mut-reach.ensures.value in
    omega (arith, ends.from, size)

pub add_node-requires-clause-row : goal.add_node-requires-clause-row
add_node-requires-clause-row c =
    row_below c.args.distilled.now c.args.incidence.now c.index-pipes-pipe.result.from c.row.result.now c.deref.result.now c.requires.incidence
    c.row.ensures
    (ap length c.deref.ensures.value ∙ length-set c.args.self.now.owners.items c.args.pipe (Some (c.args.turn % c.args.cores))
    ∙ c.requires.before.owners.len)

pub row-requires-2 : goal.row-requires-2
row-requires-2 c =
    subst (λ (d : DistilledView). c.index-pipes-pipe.result.to < d.nodes) (sym c.requires.incidence)
    (ends_at c.args.distilled.now c.pipes.result.now c.args.pipe c.index-pipes-pipe.result c.pipes.ensures.lent c.pipes.ensures.valid
    (turn_pipe c.args.distilled.now c.args.cores _ _ c.args.pipe c.requires.pipe).0 c.index-pipes-pipe.is).to

pub add_node-requires-2-clause-node : goal.add_node-requires-2-clause-node
add_node-requires-2-clause-node c =
    let ends = ends_at c.args.distilled.now c.pipes.result.now c.args.pipe c.index-pipes-pipe.result c.pipes.ensures.lent c.pipes.ensures.valid
    (turn_pipe c.args.distilled.now c.args.cores _ _ c.args.pipe c.requires.pipe).0 c.index-pipes-pipe.is in
    let size = reach_size c.args.distilled.now c.args.cores _ _ c.args.self.now (c.args.turn % c.args.cores) c.index_mut-reach.result.now
    c.requires.before (mod-lt c.args.turn c.requires.some_core) c.index_mut-reach.ensures.value in
    omega (arith, ends.to, size, c.in_ok-add_node.ensures.size)

pub add_node-requires-2-clause-row : goal.add_node-requires-2-clause-row
add_node-requires-2-clause-row c =
    row_below c.args.distilled.now c.args.incidence.now c.index-pipes-pipe.result.to c.row-2.result.now c.deref-2.result.now c.requires.incidence
    c.row-2.ensures
    (ap length c.deref-2.ensures.value ∙ length-set c.args.self.now.owners.items c.args.pipe (Some (c.args.turn % c.args.cores))
    ∙ c.requires.before.owners.len)

pub returns : goal.returns
returns c =
    on_ok c.add_node-2.result _ _ c.add_node-2.ensures
    (λ added.
    as_next c.args.distilled.now c.args.cores _ _ _
    ((owned_next c.args.distilled.now c.args.cores c.args.turn
    ∙ after_taken c.args.distilled.now c.args.cores (owned_after c.args.distilled.now c.args.cores c.args.turn)
    (c.args.turn % c.args.cores) c.args.pipe c.requires.pipe))
    (gave c.args.distilled.now c.args.cores (owned_after c.args.distilled.now c.args.cores c.args.turn) c.args.self.now _
    (c.args.turn % c.args.cores) c.args.pipe
    (record {
      low = mod-lt c.args.turn c.requires.some_core;
      turn = c.requires.pipe;
      holds = c.requires.before;
      ends = c.index-pipes-pipe.result;
      ends_are =
          pipe_at c.args.distilled.now c.pipes.result.now c.args.pipe c.index-pipes-pipe.result c.pipes.ensures.lent
          (turn_pipe c.args.distilled.now c.args.cores _ _ c.args.pipe c.requires.pipe).0 c.index-pipes-pipe.is;
      from_row = c.row.result.now;
      from_is = subst (λ (d : DistilledView). IsRowOf d.pipes c.index-pipes-pipe.result.from c.row.result.now) c.requires.incidence c.row.ensures;
      to_row = c.row-2.result.now;
      to_is = subst (λ (d : DistilledView). IsRowOf d.pipes c.index-pipes-pipe.result.to c.row-2.result.now) c.requires.incidence c.row-2.ensures;
      old = c.index_mut-reach.result.now;
      reach_is = c.index_mut-reach.ensures.value;
      mid = c.add_node.new.self;
      first =
          subst
          (λ (os : List (Option ℕ)). AddsNode c.index-pipes-pipe.result.from c.row.result.now os c.index_mut-reach.result.now c.add_node.new.self)
          c.deref.ensures.value c.in_ok-add_node.ensures;
      new = c.add_node-2.new.self;
      second =
          subst (λ (os : List (Option ℕ)). AddsNode c.index-pipes-pipe.result.to c.row-2.result.now os c.add_node.new.self c.add_node-2.new.self)
          c.deref-2.ensures.value added;
      owners = refl;
      reaches = refl;
      least = refl;
    })))
