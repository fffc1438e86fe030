-- The bytes of a topology and of a trace have one plan, or one first fault of it, never both.
use Rattle.std.proofs.Common.{◌≡◌, ℕ, List, Option, subst}
use Rattle.gml_reader.proofs.OneAnswer.{one_reading}
use Rattle.pcapng_in.proofs.ByFormat.{one_capture_reading}
use Rattle.plan.specs.declared.faults.PlanFault.{PlanFault}
use Rattle.plan.specs.declared.options.Options.{Options}
use Rattle.plan.specs.Faults.{PlanFirst}
use Rattle.plan.specs.PlannedView.{PlannedView}
use Rattle.plan.specs.Setups.{IsPlan}
use Rattle.plan.proofs.FirstFaults as first
use Rattle.plan.proofs.OnePlan as one
use Rattle.modelnet.specs.Running.{Plans, HasPlanFault}

module _ (options : Options) (topology trace : List ℕ) (directory : Option (List ℕ)) where
  -- bytes with a plan have no fault
  pub plans_or_fault : (planned : PlannedView) (fault : PlanFault) → Plans options topology trace directory planned
      → HasPlanFault options topology trace directory fault → ⊥
  plans_or_fault planned fault plan has =
      let target = one_reading topology has.target plan.target has.reads plan.reads in
      first.never_both plan.target options directory plan.capture planned fault plan.plan
      (subst (λ t. PlanFirst t options directory fault) target has.first)

  -- and one fault at most
  pub one_plan_fault : (fault other : PlanFault) → HasPlanFault options topology trace directory fault
      → HasPlanFault options topology trace directory other → fault ≡ other
  one_plan_fault fault other has also =
      let target = one_reading topology has.target also.target has.reads also.reads in
      first.one_fault also.target options directory fault other (subst (λ t. PlanFirst t options directory fault) target has.first) also.first

  -- and one plan at most
  pub one_planned : (planned other : PlannedView) → Plans options topology trace directory planned
      → Plans options topology trace directory other → planned ≡ other
  one_planned planned other plan also =
      let target = one_reading topology plan.target also.target plan.reads also.reads in
      let capture = one_capture_reading trace plan.capture also.capture plan.says also.says in
      let by_trace = subst (λ t. IsPlan plan.target t options directory planned) capture plan.plan in
      one.one_plan also.target also.capture options directory planned other
      (subst (λ t. IsPlan t also.capture options directory planned) target by_trace) also.plan
