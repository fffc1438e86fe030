use Rattle.std.proofs.Common.{sym, ap, ◌∙◌, subst, rules}
use Rattle.deadline_heap.specs.Canonical.{HasNoneOf, placed}
use Rattle.deadline_heap.specs.Entries.{HasNoEntry, entered}
use Rattle.deadline_heap.specs.WheelView.{WheelView, IsAhead}
use Rattle.deadline_heap.proofs.Turning.{slot_at, visits_from-inserted, fresh_in_slot, IsWheel-inserted}
use Rattle.deadline_heap.proofs.wheel.Wheel.insert.Goals as goal

pub put-requires : goal.put-requires
put-requires c =
    subst (HasNoEntry c.args.due.packet) (sym (c.index_mut.ensures.value ∙ slot_at _ _ _ c.self.invariant.count))
    (fresh_in_slot c.self.inside.slots.items c.self.inside.base c.args.due
    (subst (λ (v : WheelView). IsAhead v.base c.args.due.tick) (sym c.self.view_is) c.requires.ahead)
    (subst (λ (v : WheelView). HasNoneOf c.args.due.packet v.visits) (sym c.self.view_is) c.requires.fresh))

pub invariant_of-self-2 : goal.invariant_of-self-2
invariant_of-self-2 c =
    IsWheel-inserted c.set_mark.new.words c.args.due c.self.invariant
    (subst (λ (v : WheelView). IsAhead v.base c.args.due.tick) (sym c.self.view_is) c.requires.ahead)
    (search rules)
    (c.in_ok-put.ensures.ok ∙ ap (entered (c.args.due.packet, c.args.due.hop))
    (c.index_mut.ensures.value ∙ slot_at _ _ _ c.self.invariant.count))
    c.set_mark.ensures.here
    c.set_mark.ensures.others

pub returns-clause-ok : goal.returns-clause-ok
returns-clause-ok c =
    visits_from-inserted c.self.inside.slots.items c.self.inside.base c.args.due c.put.new.self c.self.invariant.count
    (subst (λ (v : WheelView). IsAhead v.base c.args.due.tick) (sym c.self.view_is) c.requires.ahead)
    (c.in_ok-put.ensures.ok ∙ ap (entered (c.args.due.packet, c.args.due.hop))
    (c.index_mut.ensures.value ∙ slot_at _ _ _ c.self.invariant.count))
    ∙ ap (λ (v : WheelView). placed c.args.due v.visits) c.self.view_is
