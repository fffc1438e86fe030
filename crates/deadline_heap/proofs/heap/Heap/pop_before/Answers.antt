use Rattle.std.proofs.Common.{◌≡◌, ◌<◌, ◌≤◌, ◌∷◌, sym, ◌∙◌, subst, refl, Bool, List}
use Rattle.std.specs.Prelude.{IfSome, slice_get}
use Rattle.mn_base.specs.Among.{Among}
use Rattle.mn_base.specs.declared.due.Due.{Due}
use Rattle.deadline_heap.specs.Canonical.{IsCanonical}
use Rattle.deadline_heap.specs.HeapParts.{merged, Leads, AreApart}
use Rattle.deadline_heap.proofs.Merging.{canonical-merged}
use Rattle.deadline_heap.proofs.Leads.{none-merged, leads_at, popped_near, apart_popped_near, popped_far, apart_popped_far, least_before, near_at_least}
use Rattle.deadline_heap.proofs.heap.Heap.pop_before.Goals as goal

pub returns-in_err-lead-clause-none : goal.returns-in_err-lead-clause-none
returns-in_err-lead-clause-none c =
    rw c.from_residual.ensures (
      refl,
      λ other there. absurd (subst (λ (l : List Due). Among other l)
          (sym c.self.view_is ∙ none-merged c.self.inside.wheel.visits c.self.inside.later (sym c.first.ensures ∙ c.in_err-lead.ensures.0)
          (sym c.first-2.ensures ∙ c.in_err-lead.ensures.1))
          there),
    )

pub returns-in_err-lead-clause-canonical : goal.returns-in_err-lead-clause-canonical
returns-in_err-lead-clause-canonical c = subst IsCanonical c.self.view_is
    (canonical-merged c.self.inside.wheel.visits c.self.inside.later c.self.invariant)

pub returns-then-lead-limit-clause-none : goal.returns-then-lead-limit-clause-none
returns-then-lead-limit-clause-none c = (
  refl,
  subst (λ (l : List Due). (other : Due) → Among other l → c.args.limit ≤ other.tick) c.self.view_is
      (least_before c.in_ok-lead.lead.is_near c.in_ok-lead.lead.due c.args.limit c.self.inside.wheel.visits c.self.inside.later
      c.self.invariant
      (leads_at _ _ c.self.inside.wheel.visits c.self.inside.later _ _ c.first.ensures c.first-2.ensures c.in_ok-lead.ensures)
      c.if-lead-limit.true),
)

pub returns-then-lead-limit-clause-canonical : goal.returns-then-lead-limit-clause-canonical
returns-then-lead-limit-clause-canonical c = subst IsCanonical c.self.view_is
    (canonical-merged c.self.inside.wheel.visits c.self.inside.later c.self.invariant)

pub invariant_of-self : goal.invariant_of-self
invariant_of-self c =
    apart_popped_near _ c.in_ok-lead.lead.due c.self.inside.wheel.visits _ c.self.inside.later c.self.invariant
    (subst (λ (b : Bool). Leads (slice_get c.self.inside.wheel.visits 0) (slice_get c.self.inside.later 0) b c.in_ok-lead.lead.due)
    c.if-lead.true
    (leads_at _ _ c.self.inside.wheel.visits c.self.inside.later _ _ c.first.ensures c.first-2.ensures c.in_ok-lead.ensures))
    c.pop.ensures.visits

pub rise-requires : goal.rise-requires
rise-requires c =
    near_at_least c.in_ok-lead.lead.is_near c.in_ok-lead.lead.due c.self.inside.wheel.visits c.self.inside.later c.self.invariant
    (leads_at _ _ c.self.inside.wheel.visits c.self.inside.later _ _ c.first.ensures c.first-2.ensures c.in_ok-lead.ensures)

pub invariant_of-self-else-lead : goal.invariant_of-self-else-lead
invariant_of-self-else-lead c =
    subst (λ (l : List Due). AreApart l c.pop-else-lead.new.self) (sym c.rise.ensures.visits)
    (apart_popped_far _ c.in_ok-lead.lead.due c.self.inside.wheel.visits c.self.inside.later _ c.self.invariant
    (subst (λ (b : Bool). Leads (slice_get c.self.inside.wheel.visits 0) (slice_get c.self.inside.later 0) b c.in_ok-lead.lead.due)
    c.if-lead.false
    (leads_at _ _ c.self.inside.wheel.visits c.self.inside.later _ _ c.first.ensures c.first-2.ensures c.in_ok-lead.ensures))
    c.pop-else-lead.ensures)

pub returns-then-lead-clause-first : goal.returns-then-lead-clause-first
returns-then-lead-clause-first c =
    subst (λ (l : List Due). IfSome c.pop.result
    (λ due. (l ≡ due ∷ merged c.pop.new.self.visits c.self.inside.later) × (due.tick < c.args.limit))) c.self.view_is
    (popped_near c.pop.result c.in_ok-lead.lead.due c.args.limit c.self.inside.wheel.visits c.pop.new.self.visits c.self.inside.later
    c.self.invariant
    (subst (λ (b : Bool). Leads (slice_get c.self.inside.wheel.visits 0) (slice_get c.self.inside.later 0) b c.in_ok-lead.lead.due)
    c.if-lead.true
    (leads_at _ _ c.self.inside.wheel.visits c.self.inside.later _ _ c.first.ensures c.first-2.ensures c.in_ok-lead.ensures))
    c.if-lead-limit.false
    c.pop.ensures.visits)

pub returns-then-lead-clause-canonical : goal.returns-then-lead-clause-canonical
returns-then-lead-clause-canonical c = subst IsCanonical c.self.view_is
    (canonical-merged c.self.inside.wheel.visits c.self.inside.later c.self.invariant)

pub returns-else-lead-clause-first : goal.returns-else-lead-clause-first
returns-else-lead-clause-first c =
    subst (λ (l : List Due). IfSome c.pop-else-lead.result
    (λ due. (l ≡ due ∷ merged c.rise.new.self.visits c.pop-else-lead.new.self) × (due.tick < c.args.limit))) c.self.view_is
    (subst (λ (near : List Due). IfSome c.pop-else-lead.result
    (λ due. (merged c.self.inside.wheel.visits c.self.inside.later ≡ due ∷ merged near c.pop-else-lead.new.self) ×
    (due.tick < c.args.limit))) (sym c.rise.ensures.visits)
    (popped_far c.pop-else-lead.result c.in_ok-lead.lead.due c.args.limit c.self.inside.wheel.visits c.self.inside.later
    c.pop-else-lead.new.self c.self.invariant
    (subst (λ (b : Bool). Leads (slice_get c.self.inside.wheel.visits 0) (slice_get c.self.inside.later 0) b c.in_ok-lead.lead.due)
    c.if-lead.false
    (leads_at _ _ c.self.inside.wheel.visits c.self.inside.later _ _ c.first.ensures c.first-2.ensures c.in_ok-lead.ensures))
    c.if-lead-limit.false
    c.pop-else-lead.ensures))

pub returns-else-lead-clause-canonical : goal.returns-else-lead-clause-canonical
returns-else-lead-clause-canonical c = subst IsCanonical c.self.view_is
    (canonical-merged c.self.inside.wheel.visits c.self.inside.later c.self.invariant)
