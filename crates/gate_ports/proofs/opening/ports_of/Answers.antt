use Rattle.std.proofs.Common.{rules, ◌++◌, List, [], ◌∷◌, length, sym, subst, arith}
use Rattle.gate_ports.specs.GatePortsView.{GatePortsView, EachAt}
use Rattle.gate_ports.specs.Building.{Stays, HasLanesOf}
use Rattle.gate_ports.proofs.Joining.{has_lanes_more, are_joined, stays_at}
use Rattle.gate_ports.proofs.opening.ports_of.Goals as goal
use Rattle.gate_ports.proofs.opening.ports_of.Goals.{In_ok-push}

-- the rows that are taken out are the rows of that core
sends : (c : In_ok-push) → Stays c.args.senders.now (length c.loop-core.all.items) c.replace-to_others.result
sends c =
    stays_at c.args.senders.now c.loop-core.senders c.loop-core.core _ c.index-senders-core.result c.replace-to_others.result
    c.loop-core.invariant.4 c.loop-core.invariant.2 (omega (arith, c.loop-core-test.true, c.loop-core.auto.senders))
    c.replace-to_others.ensures.value

receives : (c : In_ok-push) → Stays c.args.receivers.now (length c.loop-core.all.items) c.replace-from_others.result
receives c =
    stays_at c.args.receivers.now c.loop-core.receivers c.loop-core.core _ c.index-receivers-core.result c.replace-from_others.result
    c.loop-core.invariant.5 c.loop-core.invariant.2
    (omega (arith, c.loop-core-test.true, c.loop-core.auto.receivers, c.requires.cores, c.requires.same))
    c.replace-from_others.ensures.value

-- the ports of one more core have its lanes
more : (c : In_ok-push) → EachAt (HasLanesOf c.args.senders.now c.args.receivers.now) (c.loop-core.all.items ++ c.of.result ∷ [])
more c =
    has_lanes_more c.args.senders.now c.args.receivers.now c.loop-core.all.items c.replace-to_others.result c.replace-from_others.result
    c.of.result (sends c) (receives c) c.of.ensures.lanes c.loop-core.invariant.6

pub loop-core-preserved : goal.loop-core-preserved
loop-core-preserved c = (
  search rules,
  search rules,
  search rules,
  search rules,
  search rules,
  search rules,
  subst (λ (l : List GatePortsView). EachAt (HasLanesOf c.args.senders.now c.args.receivers.now) l) (sym c.in_ok-push.ensures.items) (more c),
)

pub returns-clause-one_lane : goal.returns-clause-one_lane
returns-clause-one_lane c =
    are_joined c.args.senders.now c.args.receivers.now c.loop-core.all.items
    (omega (arith, c.loop-core.invariant.2, c.loop-core-test.false, c.loop-core.auto.core-end))
    (omega (arith, c.loop-core.invariant.2, c.loop-core-test.false, c.loop-core.auto.core-end, c.requires.cores, c.requires.same))
    c.requires.one_lane c.loop-core.invariant.6
