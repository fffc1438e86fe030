use Rattle.std.proofs.Common.{sym, ap, ◌∙◌, ℕ, List, ◌+◌, ◌%◌, length, arith, cond, Bool, length-set}
use Rattle.std.specs.Prelude.{◌==◌}
use Rattle.deadline_heap.specs.declared.wheel.TheConstants.{SLOTS}
use Rattle.deadline_heap.specs.Bits.{bit_of}
use Rattle.deadline_heap.specs.WheelView.{WheelView}
use Rattle.deadline_heap.proofs.Ring.{no_visit, tick_fits}
use Rattle.deadline_heap.proofs.Turning.{slot_at, slot_of-set_same, visits_from-popped, IsWheel-popped}
use Rattle.deadline_heap.proofs.wheel.Wheel.pop.Goals as goal

pub returns-in_err-ahead-clause-visits : goal.returns-in_err-ahead-clause-visits
returns-in_err-ahead-clause-visits c =
    rw c.from_residual.ensures
    (sym (ap (λ (v : WheelView). v.visits) c.self.view_is)
    ∙ no_visit c.self.inside.slots.items c.self.inside.marks c.self.inside.base c.self.invariant c.in_err-ahead.ensures)

pub overflow_add-tick : goal.overflow_add-tick
overflow_add-tick c = omega (
  arith,
  tick_fits c.self.inside.slots.items c.self.inside.marks c.self.inside.base c.in_ok-ahead.ahead
      c.self.invariant c.in_ok-ahead.ensures,
)

pub invariant_of-self-2 : goal.invariant_of-self-2
invariant_of-self-2 c =
    IsWheel-popped c.unmark.new.words c.self.invariant c.in_ok-ahead.ensures
    (sym (c.index_mut.ensures.value ∙ slot_at _ _ _ c.self.invariant.count) ∙ c.in_ok-packet.ensures)
    (c.unmark.ensures.here
    ∙ ap (λ (b : Bool). cond b 0 (bit_of c.self.inside.marks ((c.self.inside.base + c.in_ok-ahead.ahead) % SLOTS)))
    (c.is_empty-is_empty.ensures ∙ ap (λ (es : List (ℕ × ℕ)). length es == 0)
    (c.index.ensures ∙ slot_at _ _ _ (length-set _ _ _ ∙ c.self.invariant.count) ∙ slot_of-set_same _ _ _ c.self.invariant.count)))
    c.unmark.ensures.others

pub returns-clause-visits : goal.returns-clause-visits
returns-clause-visits c =
    sym (ap (λ (v : WheelView). v.visits) c.self.view_is)
    ∙ visits_from-popped c.self.inside.slots.items c.self.inside.marks c.self.inside.base c.in_ok-ahead.ahead
    (c.in_ok-packet.packet, c.in_ok-packet.hop) c.pop.new.self c.self.invariant c.in_ok-ahead.ensures
    (sym (c.index_mut.ensures.value ∙ slot_at _ _ _ c.self.invariant.count) ∙ c.in_ok-packet.ensures)
