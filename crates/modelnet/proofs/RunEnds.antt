-- A command that has its plan and has made its texts ends as it writes them.
use Rattle.std.proofs.Common.{◌≡◌, ◌≢◌, ℕ, Bool, true, false, List, [], ◌∷◌, Option, Some, None, refl, sym, ◌∙◌, ap, subst}
use Rattle.mn_edge.specs.declared.role.Role.{Role}
use Rattle.mn_edge.specs.declared.role.Role.TheVariants.{Topology, Trace, Directory, Out, Report, Screen}
use Rattle.mn_words.specs.Order.{RunView}
use Rattle.journal.specs.SetupView.{SetupView}
use Rattle.plan.specs.PlannedView.{PlannedView}
use Rattle.modelnet.specs.declared.read_limits.ReadLimits.{ReadLimits}
use Rattle.modelnet.specs.declared.status.Status.{Status}
use Rattle.modelnet.specs.declared.status.Status.TheVariants.{NoMemory}
use Rattle.modelnet.specs.Roles.{output}
use Rattle.modelnet.specs.Commands.{Host, Command, ReadsNot, outputs_of, Answered}
use Rattle.modelnet.specs.Planning.{PlanningView, directory_inputs, planning_inputs, planning_command}
use Rattle.modelnet.specs.PlanSteps.{HasPlan}
use Rattle.modelnet.specs.Progress.{HasStopped}
use Rattle.modelnet.specs.Running.{IsRunOf, cluster_reports}
use Rattle.modelnet.specs.TheCommands.{run_planning, run_command, run_writes, screen_outputs}
use Rattle.modelnet.specs.Writing.{writing_command, screen_texts, run_writings, shown}
use Rattle.modelnet.proofs.Halves.{AreApart, stops_in_front, ends_as_it_writes}
use Rattle.modelnet.proofs.PlanReads.{plan_inputs, whole_front}

module _ (limits : ReadLimits) (asked : PlanningView) where
  directory_alone : (named : Option (List ℕ)) (role : Role) → role ≢ Directory → ReadsNot (directory_inputs limits named) role
  directory_alone None role not = tt
  directory_alone (Some name) role not = (not, tt)

  -- a role that no plan reads
  pub is_unread : (role : Role) → role ≢ Topology → role ≢ Trace → role ≢ Directory → ReadsNot (planning_inputs limits asked) role
  is_unread role topology trace directory = (topology, (trace, directory_alone asked.directory role directory))

  pub out_is_unread : ReadsNot (planning_inputs limits asked) Out
  out_is_unread = is_unread Out (λ is. cc) (λ is. cc) (λ is. cc)

  pub report_is_unread : ReadsNot (planning_inputs limits asked) Report
  report_is_unread = is_unread Report (λ is. cc) (λ is. cc) (λ is. cc)

  pub screen_is_unread : ReadsNot (planning_inputs limits asked) Screen
  screen_is_unread = is_unread Screen (λ is. cc) (λ is. cc) (λ is. cc)

  -- it is as at entry when all is read
  pub is_as_at_entry : (old new : Host) (planned : PlannedView) → HasPlan limits asked old new planned
      → (role : Role) → role ≢ Topology → role ≢ Trace → role ≢ Directory → new role ≡ old role
  is_as_at_entry old new planned has role topology trace directory =
      has.so_far.stands.others role
      (subst (λ inputs. ReadsNot inputs role) (plan_inputs limits asked old new planned has) (is_unread role topology trace directory)) tt

  -- memory was refused after the plan
  pub plan_without_memory : (c : Command) (old new : Host) (planned : PlannedView) → c.inputs ≡ planning_inputs limits asked
      → HasPlan limits asked old new planned → Answered c old new NoMemory
  plan_without_memory c old new planned inputs has role unread =
      has.so_far.stands.others role
      (subst (λ is. ReadsNot is role) (inputs ∙ plan_inputs limits asked old new planned has) unread) tt

  pub outputs_apart : (out_name report_name out report : List ℕ) (screen : Option (List ℕ))
      → AreApart (planning_inputs limits asked) (outputs_of (run_writings out_name report_name out report screen))
  outputs_apart out_name report_name out report None = (out_is_unread, (report_is_unread, tt))
  outputs_apart out_name report_name out report (Some text) = (out_is_unread, (report_is_unread, (screen_is_unread, tt)))

-- the same texts under other names
pub renamed : (out_name report_name named_out named_report out report : List ℕ) (screen : Option (List ℕ)) (old new : Host) (status : Status)
    → out_name ≡ named_out → report_name ≡ named_report
    → Answered (writing_command (run_writings out_name report_name out report screen)) old new status
    → Answered (writing_command (run_writings named_out named_report out report screen)) old new status
renamed out_name report_name named_out named_report out report screen old new status named also a =
    subst (λ o. Answered (writing_command (run_writings o named_report out report screen)) old new status) named
    (subst (λ r. Answered (writing_command (run_writings out_name r out report screen)) old new status) also a)

-- the screen is written where the cluster report is asked for
screens_are : (asked : Bool) (S : SetupView) (screen : Option (List ℕ)) → shown screen ≡ cluster_reports asked S
    → screen_outputs asked ≡ outputs_of (screen_texts screen)
screens_are true S (Some text) is = refl
screens_are false S None is = refl
screens_are true S None is = absurd cc
screens_are false S (Some text) is = absurd cc

-- the inputs of a run can't be read or planned
pub run_stops : (limits : ReadLimits) (order : RunView) (asked : PlanningView) (old new : Host) (status : Status) → asked ≡ run_planning order
    → HasStopped (planning_command limits asked) old new status → HasStopped (run_command limits order) old new status
run_stops limits order asked old new status is stopped =
    stops_in_front (planning_command limits (run_planning order)) (run_command limits order)
    (whole_front limits (run_planning order) (run_command limits order) refl (λ bytes status refused. refused)
    (λ bytes status short refused. refused))
    old new status (subst (λ a. HasStopped (planning_command limits a) old new status) is stopped)

-- the texts that a run has made of its plan
pub record HasRunTexts (limits : ReadLimits) (order : RunView) (out report : List ℕ) (screen : Option (List ℕ)) (old new : Host) : Type 0 where
  pub planned : PlannedView
  pub plan : HasPlan limits (run_planning order) old new planned
  pub run : IsRunOf planned out report
  pub screens_are : shown screen ≡ cluster_reports order.cluster_report planned.setup

pub run_ends : (limits : ReadLimits) (order : RunView) (out report : List ℕ) (screen : Option (List ℕ)) (old mid new : Host) (status : Status)
    → HasRunTexts limits order out report screen old mid
    → Answered (writing_command (run_writings order.out order.report out report screen)) mid new status
    → Answered (run_command limits order) old new status
run_ends limits order out report screen old mid new status has written =
    let plan = has.plan in
    let inputs = plan_inputs limits (run_planning order) old mid has.planned plan in
    ends_as_it_writes (run_command limits order) plan.reads (run_writings order.out order.report out report screen) old mid new (record {
      inputs = inputs;
      outputs = ap (λ os. output Out order.out ∷ output Report order.report ∷ os)
          (screens_are order.cluster_report has.planned.setup screen has.screens_are);
      apart = subst (λ is. AreApart is (outputs_of (run_writings order.out order.report out report screen))) inputs
          (outputs_apart limits (run_planning order) order.out order.report out report screen);
      says = subst (λ bytes. run_writes order bytes (out ∷ report ∷ shown screen)) (sym plan.bytes_are)
          (record { planned = has.planned; plans = plan.plans; run = has.run; screens_are = has.screens_are });
      stands = plan.so_far.stands;
    }) status written
