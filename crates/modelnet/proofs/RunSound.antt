-- A run is sound: of its plan one output trace, one report and one cluster report are written.
use Rattle.std.proofs.Common.{◌≡◌, ℕ, List, [], ◌∷◌, Option, sym, ◌∙◌, ap}
use Rattle.plan.specs.PlannedView.{PlannedView}
use Rattle.mn_words.specs.Order.{RunView}
use Rattle.modelnet.specs.declared.read_limits.ReadLimits.{ReadLimits}
use Rattle.modelnet.specs.Exact.{IsSoundCommand}
use Rattle.modelnet.specs.Running.{IsRunOf, cluster_reports}
use Rattle.modelnet.specs.TheCommands.{run_planning, run_writes, run_command}
use Rattle.modelnet.proofs.OneRun.{one_run_of}
use Rattle.modelnet.proofs.PlannerSound.{IsWritten, one_directory, planner_is_sound}
use Rattle.modelnet.proofs.PlainPlanner.{plain_planner, topology_alone, plain_cause}

-- what is written of a plan
abbrev run_says : RunView → Option (List ℕ) → PlannedView → List (List ℕ) → Type 0
run_says order directory planned (out ∷ report ∷ screens) =
    IsRunOf planned out report × (screens ≡ cluster_reports order.cluster_report planned.setup)
run_says order directory planned written = ⊥

run_written : (order : RunView) (topology trace : List ℕ) (rest outs : List (List ℕ)) → run_writes order (topology ∷ trace ∷ rest) outs
    → IsWritten (plain_planner (run_planning order) (run_says order)) topology trace rest outs
run_written order topology trace rest [] says = absurd says
run_written order topology trace rest (out ∷ []) says = absurd says
run_written order topology trace rest (out ∷ report ∷ screens) says = record {
  behind = says.plans.directory;
  planned = says.planned;
  has = record { given = says.plans.given; plans = says.plans.plans };
  written = (says.run, says.screens_are);
}

run_one_output : (order : RunView) (directory : Option (List ℕ)) (planned : PlannedView) (outs others : List (List ℕ))
    → run_says order directory planned outs → run_says order directory planned others → outs ≡ others
run_one_output order directory planned (out ∷ report ∷ screens) (out' ∷ report' ∷ screens') says also =
    let run = one_run_of planned out report out' report' says.0 also.0 in
    ap (λ o. o ∷ report ∷ screens) run.0 ∙ ap (λ r. out' ∷ r ∷ screens) run.1
    ∙ ap (λ s. out' ∷ report' ∷ s) (says.1 ∙ sym also.1)
run_one_output order directory planned [] others says also = absurd says
run_one_output order directory planned (out ∷ []) others says also = absurd says
run_one_output order directory planned (out ∷ report ∷ screens) [] says also = absurd also
run_one_output order directory planned (out ∷ report ∷ screens) (out' ∷ []) says also = absurd also

pub run_is_sound : (limits : ReadLimits) (order : RunView) → IsSoundCommand (run_command limits order)
run_is_sound limits order =
    planner_is_sound (run_command limits order) (plain_planner (run_planning order) (run_says order)) (record {
      nothing_refused = λ status refused. refused;
      by_topology = topology_alone (run_planning order);
      cause = plain_cause (run_planning order) (run_says order);
      nothing_written = λ outs says. says;
      no_trace_written = λ topology outs says. says;
      written = run_written order;
      one_behind = one_directory order.directory;
      refusals = λ behind planned status refused. absurd refused;
      one_refusal = λ behind planned one other refused also. absurd refused;
      never_both = λ behind planned status outs refused says. refused;
      one_output = run_one_output order;
    })
