-- `workload` is sound: the texts of a number have one first fault, or one plan, of which one summary is written.
use Rattle.std.proofs.Common.{◌≡◌, ◌⊎◌, inl, inr, ℕ, List, [], ◌∷◌, ◌++◌, None, refl, sym, ◌∙◌, ap, subst}
use Rattle.mn_base.specs.declared.refusal.Refusal.TheVariants.{Fault}
use Rattle.gml_reader.specs.declared.faults.GmlFault.{GmlFault}
use Rattle.gml_reader.specs.Texts.{IsFirstFault}
use Rattle.gml_reader.proofs.OneAnswer as topologies
use Rattle.pcapng_in.specs.declared.fault.CaptureFault.{CaptureFault}
use Rattle.pcapng_in.specs.declared.fault.CaptureFault.TheVariants.{Pcap, Ng}
use Rattle.pcapng_in.proofs.ByFormat.{never_capture_both, one_capture_fault}
use Rattle.journal.specs.Journal.{journal_of}
use Rattle.settle.specs.IsOutcome.{IsOutcome}
use Rattle.settle.specs.Laws.{IsSameOutcome}
use Rattle.settle.specs.OutcomeView.{OutcomeView}
use Rattle.settle.proofs.OneOutcome.{outcomes_agree}
use Rattle.report.specs.declared.summary.Generated.{Generated}
use Rattle.report.specs.Summary.{summary_text}
use Rattle.mn_base.specs.declared.causes.Unbound.{Unbound}
use Rattle.plan.specs.declared.faults.PlanFault.{PlanFault}
use Rattle.plan.specs.declared.options.Options.{Options}
use Rattle.plan.specs.PlannedView.{PlannedView}
use Rattle.mn_words.specs.declared.order.WorkloadOrder.{WorkloadOrder}
use Rattle.modelnet.specs.declared.status.Status.{Status}
use Rattle.modelnet.specs.declared.status.Status.TheVariants.{BadTopology, BadTrace, BadPlan, BadCapture}
use Rattle.modelnet.specs.Exact.{IsRefusal, IsSoundCommand}
use Rattle.modelnet.specs.Generating.{generated_gml, generated_pcap, generated_by, options_of_workload, HasTraceFault, TextsRefused, IsSummaryOf, SaysWorkload}
use Rattle.modelnet.specs.Running.{Plans, HasPlanFault}
use Rattle.modelnet.specs.Statuses.{trace_refusal}
use Rattle.modelnet.specs.TheCommands.{workload_refuses, workload_writes, workload_command}
use Rattle.modelnet.proofs.OnePlanned.{plans_or_fault, one_plan_fault, one_planned}

texts_refusals : (options : Options) (topology trace : List ℕ) (status : Status) → TextsRefused options topology trace status → IsRefusal status
texts_refusals options topology trace (BadTopology fault) is = tt
texts_refusals options topology trace (BadTrace fault) is = tt
texts_refusals options topology trace (BadCapture fault) is = tt
texts_refusals options topology trace (BadPlan fault) is = tt
texts_refusals options topology trace status is = absurd is

-- why texts are refused
abbrev ByTopology : List ℕ → Status → Type 0
ByTopology topology status = (fault : GmlFault) × (status ≡ BadTopology fault) × IsFirstFault topology fault

abbrev ByTrace : List ℕ → List ℕ → Status → Type 0
ByTrace topology trace status = (fault : CaptureFault) × (status ≡ trace_refusal (Fault fault)) × HasTraceFault topology trace fault

abbrev ByPlan : Options → List ℕ → List ℕ → Status → Type 0
ByPlan options topology trace status = (fault : PlanFault) × (status ≡ BadPlan fault) × HasPlanFault options topology trace None fault

texts_refused_by : (options : Options) (topology trace : List ℕ) (status : Status) → TextsRefused options topology trace status
    → ByTopology topology status ⊎ (ByTrace topology trace status ⊎ ByPlan options topology trace status)
texts_refused_by options topology trace (BadTopology fault) is = inl (fault, refl, is)
texts_refused_by options topology trace (BadTrace fault) is = inr (inl (Pcap fault, refl, is))
texts_refused_by options topology trace (BadCapture fault) is = inr (inl (Ng fault, refl, is))
texts_refused_by options topology trace (BadPlan fault) is = inr (inr (fault, refl, is))
texts_refused_by options topology trace status is = absurd is

module _ (options : Options) (topology trace : List ℕ) where
  -- a topology with a fault is refused before the trace, and a trace with a fault before the plan
  topology_or_trace : (one other : Status) → ByTopology topology one → ByTrace topology trace other → ⊥
  topology_or_trace one other f g = topologies.never_both topology g.2.target f.0 g.2.reads f.2

  topology_or_plan : (one other : Status) → ByTopology topology one → ByPlan options topology trace other → ⊥
  topology_or_plan one other f g = topologies.never_both topology g.2.target f.0 g.2.reads f.2

  trace_or_plan : (one other : Status) → ByTrace topology trace one → ByPlan options topology trace other → ⊥
  trace_or_plan one other f g = never_capture_both trace g.2.capture f.0 g.2.says f.2.first

  by_topology : (one other : Status) → ByTopology topology one → ByTopology topology other → one ≡ other
  by_topology one other f g = f.1 ∙ ap (λ x. BadTopology x) (topologies.one_fault topology f.0 g.0 f.2 g.2) ∙ sym g.1

  by_trace : (one other : Status) → ByTrace topology trace one → ByTrace topology trace other → one ≡ other
  by_trace one other f g =
      f.1 ∙ ap (λ x. trace_refusal (Fault x)) (one_capture_fault trace f.0 g.0 f.2.first g.2.first) ∙ sym g.1

  by_plan : (one other : Status) → ByPlan options topology trace one → ByPlan options topology trace other → one ≡ other
  by_plan one other f g = f.1 ∙ ap (λ x. BadPlan x) (one_plan_fault options topology trace None f.0 g.0 f.2 g.2) ∙ sym g.1

  one_cause : (one other : Status) → ByTopology topology one ⊎ (ByTrace topology trace one ⊎ ByPlan options topology trace one)
      → ByTopology topology other ⊎ (ByTrace topology trace other ⊎ ByPlan options topology trace other) → one ≡ other
  one_cause one other (inl f) (inl g) = by_topology one other f g
  one_cause one other (inl f) (inr (inl g)) = absurd (topology_or_trace one other f g)
  one_cause one other (inl f) (inr (inr g)) = absurd (topology_or_plan one other f g)
  one_cause one other (inr (inl f)) (inl g) = absurd (topology_or_trace other one g f)
  one_cause one other (inr (inl f)) (inr (inl g)) = by_trace one other f g
  one_cause one other (inr (inl f)) (inr (inr g)) = absurd (trace_or_plan one other f g)
  one_cause one other (inr (inr f)) (inl g) = absurd (topology_or_plan other one g f)
  one_cause one other (inr (inr f)) (inr (inl g)) = absurd (trace_or_plan other one g f)
  one_cause one other (inr (inr f)) (inr (inr g)) = by_plan one other f g

  -- texts have one refusal at most
  texts_one_refusal : (one other : Status) → TextsRefused options topology trace one → TextsRefused options topology trace other
      → one ≡ other
  texts_one_refusal one other is also =
      one_cause one other (texts_refused_by options topology trace one is) (texts_refused_by options topology trace other also)

  -- texts with a plan have none
  texts_never_both : (planned : PlannedView) (status : Status) → Plans options topology trace None planned
      → TextsRefused options topology trace status → ⊥
  texts_never_both planned status plan is =
      elim (texts_refused_by options topology trace status is) [
        | inl f ↦ topologies.never_both topology plan.target f.0 plan.reads f.2
        | inr (inl f) ↦ never_capture_both trace plan.capture f.0 plan.says f.2.first
        | inr (inr f) ↦ plans_or_fault options topology trace None planned f.0 plan f.2
      ]

-- what is written of an outcome is read off what two outcomes of a run share
summary_text-same : (input : Generated) (o p : OutcomeView) (unbounds : List (ℕ × Unbound)) → IsSameOutcome o p
    → summary_text input o unbounds ≡ summary_text input p unbounds
unfolding summary_text
summary_text-same input o p unbounds same = cc

one_summary : (input : Generated) (planned : PlannedView) (text other : List ℕ) → IsSummaryOf input planned text
    → IsSummaryOf input planned other → text ≡ other
one_summary input planned text other is also =
    let S = planned.setup in
    is.text_is
    ∙ summary_text-same input is.outcome also.outcome planned.unbounds
    (outcomes_agree S (journal_of S) planned.bytes is.outcome also.outcome is.outcome_is also.outcome_is)
    ∙ sym also.text_is

workload_refusals : (order : WorkloadOrder) (read : List (List ℕ)) (status : Status) → workload_refuses order read status → IsRefusal status
workload_refusals order [] status is =
    texts_refusals (options_of_workload order) (generated_gml order) (generated_pcap order) status is
workload_refusals order (bytes ∷ read) status is = absurd is

workload_one_refusal : (order : WorkloadOrder) (read : List (List ℕ)) (one other : Status) → workload_refuses order read one
    → workload_refuses order read other → one ≡ other
workload_one_refusal order [] one other is also =
    texts_one_refusal (options_of_workload order) (generated_gml order) (generated_pcap order) one other is also
workload_one_refusal order (bytes ∷ read) one other is also = absurd is

workload_never_both : (order : WorkloadOrder) (front back written : List (List ℕ)) (status : Status) → workload_refuses order front status
    → workload_writes order (front ++ back) written → ⊥
workload_never_both order (bytes ∷ front) back written status refused says = absurd refused
workload_never_both order [] (bytes ∷ back) written status refused says = absurd says
workload_never_both order [] [] [] status refused says = absurd says
workload_never_both order [] [] (screen ∷ more ∷ written) status refused says = absurd says
workload_never_both order [] [] (screen ∷ []) status refused says =
    texts_never_both (options_of_workload order) (generated_gml order) (generated_pcap order) says.planned status says.plans refused

workload_one_output : (order : WorkloadOrder) (read written others : List (List ℕ)) → workload_writes order read written
    → workload_writes order read others → written ≡ others
workload_one_output order (bytes ∷ read) written others says also = absurd says
workload_one_output order [] [] others says also = absurd says
workload_one_output order [] (screen ∷ more ∷ written) others says also = absurd says
workload_one_output order [] (screen ∷ []) [] says also = absurd also
workload_one_output order [] (screen ∷ []) (other ∷ more ∷ others) says also = absurd also
workload_one_output order [] (screen ∷ []) (other ∷ []) says also =
    let planned =
    one_planned (options_of_workload order) (generated_gml order) (generated_pcap order) None says.planned also.planned says.plans also.plans in
    ap (λ s. s ∷ [])
    (one_summary (generated_by order) also.planned screen other
    (subst (λ p. IsSummaryOf (generated_by order) p screen) planned says.summary) also.summary)

pub workload_is_sound : (order : WorkloadOrder) → IsSoundCommand (workload_command order)
workload_is_sound order = record {
  refusals = workload_refusals order;
  one_refusal = workload_one_refusal order;
  never_both = workload_never_both order;
  one_output = workload_one_output order;
}
