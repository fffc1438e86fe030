use Rattle.std.proofs.Common.{refl, ap, List}
use Rattle.mn_base.specs.declared.due.Due.{Due}
use Rattle.deadline_heap.specs.WheelView.{WheelView}
use Rattle.deadline_heap.proofs.Turning.{IsWheel-empty, no_visits}
use Rattle.deadline_heap.proofs.wheel.Wheel.new.Goals as goal

pub invariant_of-result : goal.invariant_of-result
invariant_of-result c = IsWheel-empty c.in_ok-empty_slots.field-0.items _ c.in_ok-empty_slots.ensures.count
    c.in_ok-empty_slots.ensures.empty refl

pub returns : goal.returns
returns c = ap (λ (l : List Due). let view : WheelView = record { base = 0; visits = l } in view)
    (no_visits c.in_ok-empty_slots.field-0.items c.in_ok-empty_slots.ensures.empty)
