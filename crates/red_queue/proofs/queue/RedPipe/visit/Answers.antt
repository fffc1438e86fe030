use Rattle.std.proofs.Common.{◌≡◌, ◌+◌, true, false, length, sym, ap, ◌∙◌, arith}
use Rattle.red_queue.specs.Outcome.{aged, drops_early}
use Rattle.red_queue.specs.Inside.{red_view_of}
use Rattle.red_queue.proofs.Standing.{RedDrops, RedPasses, red_drops, red_passes, after-lost, early-is, after-early, full-is, after-full, pass-is, after-pass, red-bounds-stay, red-bounds-pass, red-stays, red-sum_fits}
use Rattle.red_queue.proofs.queue.RedPipe.visit.Goals as goal

drops-lost : (c : goal.Then-lost) → RedDrops (red_view_of c.self.inside) c.args.tick c.drop_finished.new.times.items
drops-lost c = red_drops c.self.view_is c.requires.order c.drop_finished.ensures.items c.in_ok-reserve.ensures.items

pub invariant_of-self-then-lost : goal.invariant_of-self-then-lost
invariant_of-self-then-lost c = record {
  ranges = c.self.invariant.ranges;
  bounds = red-bounds-stay c.self.inside.average c.self.invariant.bounds (drops-lost c);
  average = c.self.invariant.average;
}

pub returns-then-lost-clause-stands : goal.returns-then-lost-clause-stands
returns-then-lost-clause-stands c =
    rw (← c.self.view_is) (λ h s. after-lost (drops-lost c) h s c.args.len c.args.lost c.args.early_word c.if-lost.true)

drops-early : (c : goal.Then-is_early) → RedDrops (red_view_of c.self.inside) c.args.tick c.drop_finished.new.times.items
drops-early c = red_drops c.self.view_is c.requires.order c.drop_finished.ensures.items c.in_ok-reserve.ensures.items

early : (c : goal.Then-is_early) → drops_early c.self.inside.params c.aged_by-self-inside.result c.args.early_word ≡ true
early c = sym c.is_early.ensures ∙ c.if-is_early.true

moves-early : (c : goal.Then-is_early)
    → c.aged_by-self-inside.result ≡ aged c.self.inside.params c.self.inside.average (length c.drop_finished.new.times.items)
moves-early c =
    c.aged_by-self-inside.ensures.value ∙ ap (aged c.self.inside.params c.self.inside.average) (omega (arith, c.len-waiting.ensures))

pub invariant_of-self-then-is_early : goal.invariant_of-self-then-is_early
invariant_of-self-then-is_early c = record {
  ranges = c.self.invariant.ranges;
  bounds = red-bounds-stay c.aged_by-self-inside.result c.self.invariant.bounds (drops-early c);
  average = c.aged_by-self-inside.ensures.bound;
}

pub returns-then-is_early-clause-step : goal.returns-then-is_early-clause-step
returns-then-is_early-clause-step c =
    rw (← c.self.view_is) (λ h s. early-is (drops-early c) h s c.aged_by-self-inside.result c.args.len c.args.lost c.args.early_word
    (moves-early c) c.if-lost.false (early c))

pub returns-then-is_early-clause-stands : goal.returns-then-is_early-clause-stands
returns-then-is_early-clause-stands c =
    rw (← c.self.view_is) (λ h s. after-early (drops-early c) h s c.aged_by-self-inside.result c.args.len c.args.lost c.args.early_word
    (moves-early c) c.if-lost.false (early c))

drops-full : (c : goal.Then-waiting-from) → RedDrops (red_view_of c.self.inside) c.args.tick c.drop_finished.new.times.items
drops-full c = red_drops c.self.view_is c.requires.order c.drop_finished.ensures.items c.in_ok-reserve.ensures.items

stays-full : (c : goal.Then-waiting-from) → drops_early c.self.inside.params c.aged_by-self-inside.result c.args.early_word ≡ false
stays-full c = sym c.is_early.ensures ∙ c.if-is_early.false

moves-full : (c : goal.Then-waiting-from)
    → c.aged_by-self-inside.result ≡ aged c.self.inside.params c.self.inside.average (length c.drop_finished.new.times.items)
moves-full c =
    c.aged_by-self-inside.ensures.value ∙ ap (aged c.self.inside.params c.self.inside.average) (omega (arith, c.len-waiting.ensures))

pub invariant_of-self-then-waiting-from : goal.invariant_of-self-then-waiting-from
invariant_of-self-then-waiting-from c = record {
  ranges = c.self.invariant.ranges;
  bounds = red-bounds-stay c.aged_by-self-inside.result c.self.invariant.bounds (drops-full c);
  average = c.aged_by-self-inside.ensures.bound;
}

pub returns-then-waiting-from-clause-step : goal.returns-then-waiting-from-clause-step
returns-then-waiting-from-clause-step c =
    rw (← c.self.view_is) (λ h s. full-is (drops-full c) h s c.aged_by-self-inside.result c.args.len c.args.lost c.args.early_word
    (moves-full c) c.if-lost.false (stays-full c) (omega arith))

pub returns-then-waiting-from-clause-stands : goal.returns-then-waiting-from-clause-stands
returns-then-waiting-from-clause-stands c =
    rw (← c.self.view_is) (λ h s. after-full (drops-full c) h s c.aged_by-self-inside.result c.args.len c.args.lost c.args.early_word
    (moves-full c) c.if-lost.false (stays-full c) (omega arith))

pub overflow_add-finish : goal.overflow_add-finish
overflow_add-finish c =
    omega (arith, red-sum_fits c.self.invariant.bounds c.self.view_is c.requires.order c.requires.time c.max.ensures c.tx_ns.ensures.bound)

drops-pass : (c : goal.After-struct_known-1) → RedDrops (red_view_of c.self.inside) c.args.tick c.drop_finished.new.times.items
drops-pass c = red_drops c.self.view_is c.requires.order c.drop_finished.ensures.items c.in_ok-reserve.ensures.items

stays-pass : (c : goal.After-struct_known-1) → drops_early c.self.inside.params c.aged_by-self-inside.result c.args.early_word ≡ false
stays-pass c = sym c.is_early.ensures ∙ c.if-is_early.false

moves-pass : (c : goal.After-struct_known-1)
    → c.aged_by-self-inside.result ≡ aged c.self.inside.params c.self.inside.average (length c.drop_finished.new.times.items)
moves-pass c =
    c.aged_by-self-inside.ensures.value ∙ ap (aged c.self.inside.params c.self.inside.average) (omega (arith, c.len-waiting.ensures))

passes-pass : (c : goal.After-struct_known-1) → RedPasses
    (red_view_of c.self.inside) c.args.tick c.args.len c.drop_finished.new.times.items (c.max.result + c.tx_ns.result)
    c.keep_later.new.times.items
passes-pass c = red_passes (drops-pass c) c.max.ensures c.tx_ns.ensures.value c.keep_later.ensures

pub invariant_of-self-2 : goal.invariant_of-self-2
invariant_of-self-2 c = record {
  ranges = c.self.invariant.ranges;
  bounds = red-bounds-pass c.aged_by-self-inside.result c.self.invariant.bounds (passes-pass c) c.requires.len (omega arith);
  average = c.aged_by-self-inside.ensures.bound;
}

pub returns-clause-step : goal.returns-clause-step
returns-clause-step c =
    rw (← c.self.view_is, c.div_ceil.ensures) (λ h s. pass-is (drops-pass c) h s c.aged_by-self-inside.result c.args.len c.args.lost
    c.args.early_word (moves-pass c) c.if-lost.false (stays-pass c) (passes-pass c) (omega arith))

pub returns-clause-stands : goal.returns-clause-stands
returns-clause-stands c =
    rw (← c.self.view_is) (λ h s. after-pass (drops-pass c) h s c.aged_by-self-inside.result c.args.len c.args.lost
    c.args.early_word (moves-pass c) c.if-lost.false (stays-pass c) (passes-pass c) (omega arith))

pub returns-clause-stay : goal.returns-clause-stay
returns-clause-stay c =
    rw (← c.self.view_is, c.div_ceil.ensures)
    (red-stays c.self.invariant.bounds (passes-pass c) c.requires.len (omega arith)
    (omega (arith, c.self.invariant.bounds.tick_length.0)))
