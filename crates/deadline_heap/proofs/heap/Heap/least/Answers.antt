use Rattle.std.proofs.Common.{sym, ap, ◌∙◌, subst, List, ◌≤◌}
use Rattle.std.specs.Prelude.{slice_get, option_map}
use Rattle.mn_base.specs.Among.{Among}
use Rattle.mn_base.specs.declared.due.Due.{Due}
use Rattle.deadline_heap.specs.Canonical.{IsCanonical}
use Rattle.deadline_heap.proofs.Merging.{canonical-merged}
use Rattle.deadline_heap.proofs.Leads.{lead_is_least, first-merged, none-merged, leads_at}
use Rattle.deadline_heap.proofs.heap.Heap.least.Goals as goal

pub returns-in_err-lead-clause-first : goal.returns-in_err-lead-clause-first
returns-in_err-lead-clause-first c =
    c.from_residual.ensures
    ∙ ap (λ (l : List Due). option_map (λ due. due.tick) (slice_get l 0))
    (sym (none-merged c.self.inside.wheel.visits c.self.inside.later (sym c.first.ensures ∙ c.in_err-lead.ensures.0)
    (sym c.first-2.ensures ∙ c.in_err-lead.ensures.1)) ∙ c.self.view_is)

pub returns-in_err-lead-clause-canonical : goal.returns-in_err-lead-clause-canonical
returns-in_err-lead-clause-canonical c = subst IsCanonical c.self.view_is
    (canonical-merged c.self.inside.wheel.visits c.self.inside.later c.self.invariant)

pub returns-clause-first : goal.returns-clause-first
returns-clause-first c =
    ap (option_map (λ (due : Due). due.tick))
    (first-merged c.in_ok-lead.lead.is_near c.in_ok-lead.lead.due c.self.inside.wheel.visits c.self.inside.later c.self.invariant
    (leads_at _ _ c.self.inside.wheel.visits c.self.inside.later _ _ c.first.ensures c.first-2.ensures c.in_ok-lead.ensures))
    ∙ ap (λ (l : List Due). option_map (λ due. due.tick) (slice_get l 0)) c.self.view_is

pub returns-clause-least : goal.returns-clause-least
returns-clause-least c =
    subst (λ (l : List Due). (other : Due) → Among other l → c.in_ok-lead.lead.due.tick ≤ other.tick) c.self.view_is
    (lead_is_least c.in_ok-lead.lead.is_near c.in_ok-lead.lead.due c.self.inside.wheel.visits c.self.inside.later c.self.invariant
    (leads_at _ _ c.self.inside.wheel.visits c.self.inside.later _ _ c.first.ensures c.first-2.ensures c.in_ok-lead.ensures))

pub returns-clause-canonical : goal.returns-clause-canonical
returns-clause-canonical c = subst IsCanonical c.self.view_is
    (canonical-merged c.self.inside.wheel.visits c.self.inside.later c.self.invariant)
