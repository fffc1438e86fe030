use Rattle.std.proofs.Common.{sym, subst}
use Rattle.deadline_heap.specs.Canonical.{HasNoneOf}
use Rattle.deadline_heap.proofs.Merging.{fresh_near, fresh_far}
use Rattle.deadline_heap.proofs.Inserts.{apart_near, apart_far, placed_near, placed_far, members_near, members_far}
use Rattle.deadline_heap.proofs.heap.Heap.insert.Goals as goal

pub insert-requires-clause-fresh : goal.insert-requires-clause-fresh
insert-requires-clause-fresh c = fresh_near c.args.due.packet c.self.inside.wheel.visits c.self.inside.later
    (subst (HasNoneOf c.args.due.packet) (sym c.self.view_is) c.requires)

pub insert-requires-else-covers : goal.insert-requires-else-covers
insert-requires-else-covers c = fresh_far c.args.due.packet c.self.inside.wheel.visits c.self.inside.later
    (subst (HasNoneOf c.args.due.packet) (sym c.self.view_is) c.requires)

pub invariant_of-self : goal.invariant_of-self
invariant_of-self c = apart_near _ c.args.due c.self.inside.wheel.visits _ c.self.inside.later
    (subst (HasNoneOf c.args.due.packet) (sym c.self.view_is) c.requires) c.self.invariant c.insert.ensures.ok c.insert.ensures.err

pub invariant_of-self-else-covers : goal.invariant_of-self-else-covers
invariant_of-self-else-covers c = apart_far _ c.args.due c.self.inside.wheel.visits c.self.inside.later _
    (subst (HasNoneOf c.args.due.packet) (sym c.self.view_is) c.requires) c.self.invariant c.insert-else-covers.ensures.ok
    c.insert-else-covers.ensures.err

pub returns-then-covers-clause-placed : goal.returns-then-covers-clause-placed
returns-then-covers-clause-placed c =
    placed_near _ c.args.due c.self.inside.wheel.visits _ c.self.inside.later c.args.self.now c.self.view_is c.requires c.self.invariant
    c.insert.ensures.ok

pub returns-then-covers-clause-members : goal.returns-then-covers-clause-members
returns-then-covers-clause-members c =
    members_near _ c.args.due c.self.inside.wheel.visits _ c.self.inside.later c.args.self.now c.self.view_is c.requires c.self.invariant
    c.insert.ensures.ok

pub returns-else-covers-clause-placed : goal.returns-else-covers-clause-placed
returns-else-covers-clause-placed c =
    placed_far _ c.args.due c.self.inside.wheel.visits c.self.inside.later _ c.args.self.now c.self.view_is c.requires c.self.invariant
    c.insert-else-covers.ensures.ok

pub returns-else-covers-clause-members : goal.returns-else-covers-clause-members
returns-else-covers-clause-members c =
    members_far _ c.args.due c.self.inside.wheel.visits c.self.inside.later _ c.args.self.now c.self.view_is c.requires c.self.invariant
    c.insert-else-covers.ensures.ok
