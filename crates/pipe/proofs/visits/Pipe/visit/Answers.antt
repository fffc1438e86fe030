use Rattle.std.proofs.Common.{◌+◌, arith}
use Rattle.pipe.specs.Inside.{view_of}
use Rattle.pipe.proofs.Coming.{Comes, comes}
use Rattle.pipe.proofs.Recurrence.{Drops, Passes, drops, passes, step_at-full, step_at-pass, visited-lost, visited-full, visited-pass}
use Rattle.pipe.proofs.Bounds.{bounded-stays, bounded-passes, finish_bound, sum_fits}
use Rattle.pipe.proofs.visits.Pipe.visit.Goals as goal

comes-lost : (c : goal.Then-lost) → Comes c.self.inside c.args.tick c.in_force_at-self-inside.result
comes-lost c =
    comes c.self.invariant c.self.view_is c.requires.order c.deref.result.now c.deref.ensures.value
    (record {
      within = c.in_force_at-self-inside.ensures.within;
      params = c.in_force_at-self-inside.ensures.params;
      ahead = c.in_force_at-self-inside.ensures.ahead;
    })

drops-lost : (c : goal.Then-lost) → Drops (view_of c.self.inside) c.args.tick c.in_force_at-self-inside.result.params c.drop_finished.new.times.items
drops-lost c =
    drops c.self.view_is c.requires.order c.drop_finished.ensures.items c.in_ok-reserve.ensures.items (comes-lost c).params

pub invariant_of-self-then-lost : goal.invariant_of-self-then-lost
invariant_of-self-then-lost c = record {
  bounds = bounded-stays c.self.invariant.bounds (drops-lost c);
  rising = c.self.invariant.rising;
  within = (comes-lost c).within;
  ahead = (comes-lost c).ahead;
}

pub returns-then-lost-clause-kept : goal.returns-then-lost-clause-kept
returns-then-lost-clause-kept c = rw (← c.self.view_is) (bounded-stays c.self.invariant.bounds (drops-lost c)).late

pub returns-then-lost-clause-rising : goal.returns-then-lost-clause-rising
returns-then-lost-clause-rising c = (bounded-stays c.self.invariant.bounds (drops-lost c)).rising

pub returns-then-lost-clause-stands : goal.returns-then-lost-clause-stands
returns-then-lost-clause-stands c =
    rw (← c.self.view_is) (λ h s. visited-lost (drops-lost c) h c.args.len c.args.lost c.if-lost.true s)

comes-full : (c : goal.Then-len-params) → Comes c.self.inside c.args.tick c.in_force_at-self-inside.result
comes-full c =
    comes c.self.invariant c.self.view_is c.requires.order c.deref.result.now c.deref.ensures.value
    (record {
      within = c.in_force_at-self-inside.ensures.within;
      params = c.in_force_at-self-inside.ensures.params;
      ahead = c.in_force_at-self-inside.ensures.ahead;
    })

drops-full : (c : goal.Then-len-params) → Drops (view_of c.self.inside) c.args.tick c.in_force_at-self-inside.result.params c.drop_finished.new.times.items
drops-full c =
    drops c.self.view_is c.requires.order c.drop_finished.ensures.items c.in_ok-reserve.ensures.items (comes-full c).params

pub invariant_of-self-then-len-params : goal.invariant_of-self-then-len-params
invariant_of-self-then-len-params c = record {
  bounds = bounded-stays c.self.invariant.bounds (drops-full c);
  rising = c.self.invariant.rising;
  within = (comes-full c).within;
  ahead = (comes-full c).ahead;
}

pub returns-then-len-params-clause-kept : goal.returns-then-len-params-clause-kept
returns-then-len-params-clause-kept c = rw (← c.self.view_is) (bounded-stays c.self.invariant.bounds (drops-full c)).late

pub returns-then-len-params-clause-rising : goal.returns-then-len-params-clause-rising
returns-then-len-params-clause-rising c = (bounded-stays c.self.invariant.bounds (drops-full c)).rising

pub returns-then-len-params-clause-step : goal.returns-then-len-params-clause-step
returns-then-len-params-clause-step c =
    rw (← c.self.view_is) (λ h s. step_at-full (drops-full c) h c.args.len c.args.lost c.if-lost.false (omega arith) s)

pub returns-then-len-params-clause-stands : goal.returns-then-len-params-clause-stands
returns-then-len-params-clause-stands c =
    rw (← c.self.view_is) (λ h s. visited-full (drops-full c) h c.args.len c.args.lost c.if-lost.false (omega arith) s)

comes-pass : (c : goal.After-struct_known-2-1) → Comes c.self.inside c.args.tick c.in_force_at-self-inside.result
comes-pass c =
    comes c.self.invariant c.self.view_is c.requires.order c.deref.result.now c.deref.ensures.value
    (record {
      within = c.in_force_at-self-inside.ensures.within;
      params = c.in_force_at-self-inside.ensures.params;
      ahead = c.in_force_at-self-inside.ensures.ahead;
    })

drops-pass : (c : goal.After-struct_known-2-1) → Drops
    (view_of c.self.inside) c.args.tick c.in_force_at-self-inside.result.params c.drop_finished.new.times.items
drops-pass c =
    drops c.self.view_is c.requires.order c.drop_finished.ensures.items c.in_ok-reserve.ensures.items (comes-pass c).params

passes-pass : (c : goal.After-struct_known-2-1) → Passes
    (view_of c.self.inside) c.args.tick c.args.len c.in_force_at-self-inside.result.params c.drop_finished.new.times.items
    (c.max.result + c.tx_ns.result) c.keep_later.new.times.items
passes-pass c = passes (drops-pass c) c.max.ensures c.tx_ns.ensures.value c.keep_later.ensures

pub overflow_add-finish : goal.overflow_add-finish
overflow_add-finish c =
    omega (arith, sum_fits c.self.invariant.bounds c.self.view_is c.requires.order c.requires.time c.max.ensures c.tx_ns.ensures.bound)

pub invariant_of-self-2 : goal.invariant_of-self-2
invariant_of-self-2 c = record {
  bounds = bounded-passes (passes-pass c) c.requires.len (omega arith) c.self.invariant.bounds;
  rising = c.self.invariant.rising;
  within = (comes-pass c).within;
  ahead = (comes-pass c).ahead;
}

pub returns-clause-step : goal.returns-clause-step
returns-clause-step c =
    rw (← c.self.view_is, c.div_ceil.ensures) (λ h s. step_at-pass (passes-pass c) h c.args.lost c.if-lost.false (omega arith) s)

pub returns-clause-stands : goal.returns-clause-stands
returns-clause-stands c =
    rw (← c.self.view_is) (λ h s. visited-pass (passes-pass c) h c.args.lost c.if-lost.false (omega arith) s)

pub returns-clause-kept : goal.returns-clause-kept
returns-clause-kept c = rw (← c.self.view_is) (bounded-passes (passes-pass c) c.requires.len (omega arith) c.self.invariant.bounds).late

pub returns-clause-rising : goal.returns-clause-rising
returns-clause-rising c = (bounded-passes (passes-pass c) c.requires.len (omega arith) c.self.invariant.bounds).rising

pub returns-clause-short : goal.returns-clause-short
returns-clause-short c = rw (← c.self.view_is) (bounded-passes (passes-pass c) c.requires.len (omega arith) c.self.invariant.bounds).few

pub returns-clause-bound : goal.returns-clause-bound
returns-clause-bound c = rw (← c.self.view_is) (finish_bound (passes-pass c) c.requires.len (omega arith) c.self.invariant.bounds)
