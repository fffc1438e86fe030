use Rattle.ownership.proofs.Taking.{none_from, not_none, none_gone, owned_gone, least_taken, none_taken_out}
use Rattle.ownership.proofs.near.NearPipes.take_unowned.Goals as goal

pub owned-init : goal.owned-init
owned-init c = none_gone c.args.owners.now c.args.self.now

pub owned-smaller : goal.owned-smaller
owned-smaller c = c.in-Some.ensures.fewer

pub bounds-owners-pipe : goal.bounds-owners-pipe
bounds-owners-pipe c = c.requires c.in-Some.pipe (c.owned.invariant.left c.in-Some.pipe c.in-Some.ensures.there)

pub returns-then-is_none : goal.returns-then-is_none
returns-then-is_none c =
    least_taken c.args.owners.now c.args.self.now c.owned.self c.pop.new.self c.in-Some.pipe c.owned.invariant c.in-Some.ensures
    (none_from _ c.is_none.result c.is_none.ensures c.if-is_none.true)

pub owned-preserved : goal.owned-preserved
owned-preserved c =
    owned_gone c.args.owners.now c.args.self.now c.owned.self c.pop.new.self c.in-Some.pipe c.owned.invariant c.in-Some.ensures
    (not_none _ c.is_none.result c.is_none.ensures c.if-is_none.false)

pub returns : goal.returns
returns c = none_taken_out c.args.owners.now c.args.self.now c.owned.self c.pop.new.self c.owned.invariant c.in_default.ensures
