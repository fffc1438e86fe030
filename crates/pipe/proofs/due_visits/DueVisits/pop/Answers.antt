use Rattle.std.proofs.Common.{◌<◌, nat_lt, length, ap, ◌∙◌, arith}
use Rattle.pipe.proofs.HeldOrder.{AreHeld, TakesEarly, TakesLate, early-once, early-takes, late-once, late-takes, early-ahead, late-ahead, early-parts, top-same, read-first, read-top, read-no_top}
use Rattle.pipe.proofs.due_visits.DueVisits.pop.Goals as goal

held : (c : goal.After-self-1) → AreHeld c.self.inside.firsts.items c.self.inside.next c.self.inside.laters.data.items
held c = record { rising = c.self.invariant.rising; once = c.self.invariant.once }

early : (c : goal.After-self-1) → TakesEarly c.self.inside.firsts.items c.self.inside.next c.self.inside.laters.data.items c.in-Some.first
early c =
    let taken = early-parts c.copied-first.result c.copied-later.result c.in-Some.first c.in-Some.ensures in
    let read =
    read-first c.self.inside.firsts.items c.self.inside.next c.get.result c.copied-first.result c.in-Some.first c.copied-first.ensures
    taken.0
    (c.get.ensures.lookup.0 ∙ ap (λ xs. nat_lt c.self.inside.next (length xs)) c.deref.ensures.value)
    (rw (← c.deref.ensures.value) c.get.ensures.lookup.1) in
    record {
      within = read.0;
      first_is = read.1;
      ahead = early-ahead c.in-Some.first c.self.inside.laters.data.items c.copied-later.result
          (read-no_top c.self.inside.laters.data.items c.peek.result c.copied-later.result c.copied-later.ensures c.peek.ensures.item.2)
          (λ top. read-top c.self.inside.laters.data.items c.peek.result c.copied-later.result top c.copied-later.ensures
          c.self.invariant.heap c.peek.ensures.greatest)
          taken.1;
    }

pub invariant_of-self : goal.invariant_of-self
invariant_of-self c = record {
  within = let t : c.self.inside.next < length c.self.inside.firsts.items = (early c).within in omega arith;
  rising = c.self.invariant.rising;
  heap = c.self.invariant.heap;
  once = early-once (held c) (early c);
}

pub returns-in-Some-clause-first : goal.returns-in-Some-clause-first
returns-in-Some-clause-first c = rw (← c.self.view_is) (early-takes (held c) (early c))

late : (c : goal.After-visit_of_entry)
    → TakesLate c.self.inside.firsts.items c.self.inside.next c.self.inside.laters.data.items c.in_ok-entry.field-0 c.pop.new.self.data.items
late c = record {
  moved = c.in_ok-entry.ensures.permutation;
  bound = c.in_ok-entry.ensures.below_top c.self.invariant.heap;
  ahead =
      late-ahead c.self.invariant.rising
      (record {
        read = c.get.result;
        copied = c.copied-first.result;
        later = c.copied-later.result;
        copies = c.copied-first.ensures;
        within = c.get.ensures.lookup.0 ∙ ap (λ xs. nat_lt c.self.inside.next (length xs)) c.deref.ensures.value;
        reads = rw (← c.deref.ensures.value) c.get.ensures.lookup.1;
        looked =
            top-same c.self.inside.laters.data.items c.pop.new.self.data.items c.peek.result c.copied-later.result c.in_ok-entry.field-0
            c.copied-later.ensures c.peek.ensures.lookup c.peek.ensures.item.2 c.in_ok-entry.ensures.permutation c.in_ok-entry.ensures.top;
        none = c.in_default.ensures;
      });
}

pub invariant_of-self-2 : goal.invariant_of-self-2
invariant_of-self-2 c = record {
  within = c.self.invariant.within;
  rising = c.self.invariant.rising;
  heap = (c.in_ok-entry.ensures.heap_order c.self.invariant.heap).0;
  once = late-once (record { rising = c.self.invariant.rising; once = c.self.invariant.once }) (late c);
}

pub returns-clause-first : goal.returns-clause-first
returns-clause-first c =
    rw (← c.self.view_is, c.visit_of_entry.ensures)
    (late-takes (record { rising = c.self.invariant.rising; once = c.self.invariant.once }) (late c))
