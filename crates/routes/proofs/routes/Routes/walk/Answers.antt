use Rattle.std.proofs.Common.{refl, sym, ◌∙◌, arith}
use Rattle.std.proofs.lemmas.Bool.{true≢false}
use Rattle.std.proofs.lemmas.Option.{none-some}
use Rattle.routes.specs.Table.{label_of}
use Rattle.routes.proofs.Lists.{label_read}
use Rattle.routes.proofs.NoNodeTwice.{no_arc_twice, arcs_named, short}
use Rattle.routes.proofs.Table.{no_walk}
use Rattle.routes.proofs.Way.{starts, goes, node_place, next_below, goes_on, reads, reads_own, walk_written}
use Rattle.routes.proofs.routes.Routes.walk.Goals as goal

pub returns-in_default-clause-none : goal.returns-in_default-clause-none
returns-in_default-clause-none c =
    let own = reads_own (reads c.index.result.now c.self.invariant c.self.view_is c.requires c.index.ensures) in
    rw (← c.self.view_is) (
      λ _. no_walk
          c.self.inside.graph.now.arcs
          c.self.inside.destination
          (label_of c.self.inside.labels.items)
          c.self.invariant.table
          c.args.source
          (own ∙ c.in_default.is),
      λ _. refl,
    )

pub loop-step-init : goal.loop-step-init
loop-step-init c =
    let own = reads_own (reads c.index.result.now c.self.invariant c.self.view_is c.requires c.index.ensures) in
    rw c.new-walk.ensures.items (starts c.in-Some.first (own ∙ c.in-Some.is))

pub index-requires-in-loop-step : goal.index-requires-in-loop-step
index-requires-in-loop-step c =
    let low = node_place (goes c.self.invariant c.loop-step.invariant c.loop-step-test.true) in
    omega (arith, c.self.inside.labels.ok)

-- before the last step the node has a label
pub unreachable-requires : goal.unreachable-requires
unreachable-requires c =
    let step = goes c.self.invariant c.loop-step.invariant c.loop-step-test.true in
    none-some
    c.loop-step.invariant.own
    (sym
    (label_read
    c.self.inside.labels.items
    c.loop-step.node
    c.index-in-loop-step.result.now
    (node_place step)
    c.index-in-loop-step.ensures
    ∙ c.in_default-index.is)
    ∙ c.loop-step.invariant.has)

pub arc-node-requires : goal.arc-node-requires
arc-node-requires c =
    let step = goes c.self.invariant c.loop-step.invariant c.loop-step-test.true in
    next_below
    step
    c.in-Some-index.label
    (label_read
    c.self.inside.labels.items
    c.loop-step.node
    c.index-in-loop-step.result.now
    (node_place step)
    c.index-in-loop-step.ensures
    ∙ c.in-Some-index.is)

pub loop-step-preserved : goal.loop-step-preserved
loop-step-preserved c =
    let step = goes c.self.invariant c.loop-step.invariant c.loop-step-test.true in
    rw (c.in_ok-push.ensures.items, c.arc-node.ensures)
    (goes_on
    step
    c.in-Some-index.label
    (label_read
    c.self.inside.labels.items
    c.loop-step.node
    c.index-in-loop-step.result.now
    (node_place step)
    c.index-in-loop-step.ensures
    ∙ c.in-Some-index.is))

-- what is written at the end is the least walk
pub returns-clause-walk : goal.returns-clause-walk
returns-clause-walk c =
    (walk_written
    c.in-Some.first
    (reads c.index.result.now c.self.invariant c.self.view_is c.requires c.index.ensures)
    c.in-Some.is
    c.loop-step.invariant
    c.loop-step-test.false).walk

pub returns-clause-least : goal.returns-clause-least
returns-clause-least c =
    (walk_written
    c.in-Some.first
    (reads c.index.result.now c.self.invariant c.self.view_is c.requires c.index.ensures)
    c.in-Some.is
    c.loop-step.invariant
    c.loop-step-test.false).least

pub returns-clause-none : goal.returns-clause-none
returns-clause-none c = (
  λ never. absurd (true≢false never),
  λ no. absurd (no c.loop-step.walk.items (returns-clause-walk c)),
)

pub returns-clause-short : goal.returns-clause-short
returns-clause-short c =
    short
    c.args.self.now.graph.arcs
    c.args.self.now.destination
    c.args.self.now.graph.nodes
    c.args.source
    c.loop-step.walk.items
    (rw (← c.self.view_is) c.self.invariant.limits.arcs)
    c.requires
    (walk_written
    c.in-Some.first
    (reads c.index.result.now c.self.invariant c.self.view_is c.requires c.index.ensures)
    c.in-Some.is
    c.loop-step.invariant
    c.loop-step-test.false)

pub returns-clause-named : goal.returns-clause-named
returns-clause-named c =
    arcs_named
    c.args.self.now.graph.arcs
    c.args.source
    c.args.self.now.destination
    c.loop-step.walk.items
    (returns-clause-walk c)

pub returns-clause-distinct : goal.returns-clause-distinct
returns-clause-distinct c =
    no_arc_twice
    c.args.self.now.graph.arcs
    c.args.self.now.destination
    c.args.source
    c.loop-step.walk.items
    (walk_written
    c.in-Some.first
    (reads c.index.result.now c.self.invariant c.self.view_is c.requires c.index.ensures)
    c.in-Some.is
    c.loop-step.invariant
    c.loop-step-test.false)
