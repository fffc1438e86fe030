use Rattle.std.proofs.Common.{drop, sym, subst}
use Rattle.pipe.specs.HeldVisits.{HasNone}
use Rattle.pipe.proofs.HeldOrder.{added-once, added-among}
use Rattle.pipe.proofs.due_visits.DueVisits.add.Goals as goal

pub invariant_of-self-2 : goal.invariant_of-self-2
invariant_of-self-2 c = record {
  within = c.self.invariant.within;
  rising = c.self.invariant.rising;
  heap = c.in_ok-push.ensures.heap_order c.self.invariant.heap;
  once =
      added-once c.self.inside.firsts.items c.self.inside.next c.self.inside.laters.data.items c.push.new.self.data.items _
      c.self.invariant.once
      (subst (λ held. HasNone held c.args.next.due.packet) (sym c.self.view_is) c.requires) c.in_ok-push.ensures.permutation;
}

pub returns-clause-added : goal.returns-clause-added
returns-clause-added c =
    rw (← c.self.view_is)
    (added-among (drop c.self.inside.next c.self.inside.firsts.items) c.self.inside.laters.data.items c.push.new.self.data.items _
    c.in_ok-push.ensures.permutation)
