use Rattle.std.proofs.Common.{sym, ap, ◌∙◌, arith, List}
use Rattle.std.specs.Prelude.{slice_get}
use Rattle.mn_base.specs.declared.due.Due.{Due}
use Rattle.deadline_heap.specs.WheelView.{WheelView}
use Rattle.deadline_heap.proofs.Ring.{no_visit, tick_fits}
use Rattle.deadline_heap.proofs.Turning.{slot_at, first_is, slot_has_first}
use Rattle.deadline_heap.proofs.wheel.Wheel.first.Goals as goal

pub returns-in_err-ahead : goal.returns-in_err-ahead
returns-in_err-ahead c =
    c.from_residual.ensures
    ∙ ap (λ (l : List Due). slice_get l 0)
    (sym (no_visit c.self.inside.slots.items c.self.inside.marks c.self.inside.base c.self.invariant c.in_err-ahead.ensures))
    ∙ ap (λ (v : WheelView). slice_get v.visits 0) c.self.view_is

pub overflow_add-tick : goal.overflow_add-tick
overflow_add-tick c = omega (
  arith,
  tick_fits c.self.inside.slots.items c.self.inside.marks c.self.inside.base c.in_ok-ahead.ahead
      c.self.invariant c.in_ok-ahead.ensures,
)

pub returns-in_err-packet : goal.returns-in_err-packet
returns-in_err-packet c =
    absurd (slot_has_first c.self.inside.slots.items c.self.inside.marks c.self.inside.base c.in_ok-ahead.ahead c.self.invariant
    c.in_ok-ahead.ensures
    (c.in_err-packet.ensures ∙ ap (λ l. slice_get l 0) (c.index.ensures ∙ slot_at _ _ _ c.self.invariant.count)))

pub returns : goal.returns
returns c =
    first_is c.self.inside.slots.items c.self.inside.marks c.self.inside.base c.in_ok-ahead.ahead
    (c.in_ok-packet.packet, c.in_ok-packet.hop) c.self.invariant c.in_ok-ahead.ensures
    (c.in_ok-packet.ensures ∙ ap (λ l. slice_get l 0) (c.index.ensures ∙ slot_at _ _ _ c.self.invariant.count))
    ∙ ap (λ (v : WheelView). slice_get v.visits 0) c.self.view_is
