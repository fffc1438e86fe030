-- The commands: the roles of each, and what it makes of its bytes. A further command is two relations, a row and an arm here.
use Rattle.std.specs.Prelude.{◌≡◌, ◌≤◌, ℕ, Bool, true, false, List, [], ◌∷◌, ◌++◌}
use Rattle.mn_base.specs.declared.limits.TheConstants.{TOPOLOGY_BYTES_MAX, TRACE_BYTES_MAX, DIRECTORY_BYTES_MAX, JOURNAL_BYTES_MAX}
use Rattle.mn_edge.specs.declared.role.Role.TheVariants.{Topology, Trace, Out, Report}
use Rattle.mn_edge.specs.declared.role.Role.TheVariants as role
use Rattle.mn_words.specs.declared.order.Order.{Order}
use Rattle.mn_words.specs.declared.order.WorkloadOrder.{WorkloadOrder}
use Rattle.mn_words.specs.declared.order.Order.TheVariants.{Chain, Distill, Assign, Rehearse, Emulate, Workload, Journal, Check, Red, Migrate}
use Rattle.mn_words.specs.Order.{ChainView, DistillView, AssignView, RunView, JournalView, CheckView, RedView, MigrateView}
use Rattle.distill.specs.declared.modes.Mode.{Mode}
use Rattle.pcapng_in.specs.declared.fault.CaptureFault.TheVariants.{Pcap, Ng}
use Rattle.pcapng_in.specs.CaptureFile.{CaptureFirst}
use Rattle.gml_reader.specs.Texts.{IsFirstFault}
use Rattle.plan.specs.declared.faults.PlanFault.TheVariants.{TooManyPipes}
use Rattle.plan.specs.PlannedView.{PlannedView}
use Rattle.core_loop.specs.TallyView.{TallyView}
use Rattle.modelnet.specs.declared.read_limits.ReadLimits.{ReadLimits}
use Rattle.modelnet.specs.declared.status.Status.{Status}
use Rattle.modelnet.specs.declared.status.Status.TheVariants.{BadTopology, BadTrace, BadPlan, BadCapture}
use Rattle.modelnet.specs.Roles.{Input, Output, input, output}
use Rattle.modelnet.specs.RedRun.{SaysRed}
use Rattle.modelnet.specs.Run.{SaysRun}
use Rattle.modelnet.specs.Running.{options_of, IsRunOf, cluster_reports, CountsRun}
use Rattle.modelnet.specs.Planning.{PlanningView, PlansAsked, planning_inputs, planning_refuses}
use Rattle.modelnet.specs.Writing.{the_screen}
use Rattle.modelnet.specs.Journals.{journal_planning, journal_writes, check_planning, check_refuses, check_writes}
use Rattle.modelnet.specs.Moving.{migrate_planning, migrate_refuses, migrate_writes}
use Rattle.modelnet.specs.Generating.{WorkloadRefused, SaysWorkload, AddsWorkload}
use Rattle.modelnet.specs.Distilling.{SaysPipes, SaysOwners, HasTooManyPipes}
use Rattle.modelnet.specs.Commands.{Command, adds_nothing}

-- a trace is refused by its first fault, which is one of its format
abbrev pub trace_refuses : List (List ℕ) → Status → Type 0
trace_refuses (trace ∷ []) (BadTrace fault) = CaptureFirst trace (Pcap fault)
trace_refuses (trace ∷ []) (BadCapture fault) = CaptureFirst trace (Ng fault)
trace_refuses read refusal = ⊥

-- an output trace and a report are written, which say this of the trace
abbrev pub replay_writes : (List ℕ → List ℕ → List ℕ → Type 0) → List (List ℕ) → List (List ℕ) → Type 0
replay_writes Says (trace ∷ []) (out ∷ report ∷ []) = Says trace out report
replay_writes Says read written = ⊥

-- a trace is replayed through pipes in a row
abbrev pub replay_command : ReadLimits → List ℕ → List ℕ → List ℕ → (List ℕ → List ℕ → List ℕ → Type 0) → Command
replay_command limits trace out report Says = record {
  inputs = input Trace trace limits.trace ∷ [];
  outputs = output Out out ∷ output Report report ∷ [];
  refuses = trace_refuses;
  writes = replay_writes Says;
  adds = adds_nothing;
}

-- `chain` writes the output trace and the report of the run of its trace
abbrev pub chain_command : ReadLimits → ChainView → Command
chain_command limits order = replay_command limits order.trace order.out order.report (SaysRun order)

-- `red` writes the same of a run whose queues drop early
abbrev pub red_command : ReadLimits → RedView → Command
red_command limits order = replay_command limits order.trace order.out order.report (SaysRed order)

-- a topology is refused by its first fault, or since it has too many pipes in the mode
abbrev pub topology_refuses : Mode → List (List ℕ) → Status → Type 0
topology_refuses mode (topology ∷ []) (BadTopology fault) = IsFirstFault topology fault
topology_refuses mode (topology ∷ []) (BadPlan (TooManyPipes count)) = HasTooManyPipes mode topology count
topology_refuses mode read refusal = ⊥

-- one output is written, which says this of the one input
abbrev pub writes_one : (List ℕ → List ℕ → Type 0) → List (List ℕ) → List (List ℕ) → Type 0
writes_one Says (bytes ∷ []) (text ∷ []) = Says bytes text
writes_one Says read written = ⊥

-- `distill` writes the pipes of the distilled topology
abbrev pub distill_command : ReadLimits → DistillView → Command
distill_command limits order = record {
  inputs = input Topology order.topology limits.topology ∷ [];
  outputs = the_screen ∷ [];
  refuses = topology_refuses order.mode;
  writes = writes_one (SaysPipes order);
  adds = adds_nothing;
}

-- `assign` writes the directory of the assignment
abbrev pub assign_command : ReadLimits → AssignView → Command
assign_command limits order = record {
  inputs = input Topology order.topology limits.topology ∷ [];
  outputs = the_screen ∷ [];
  refuses = topology_refuses order.mode;
  writes = writes_one (SaysOwners order);
  adds = adds_nothing;
}

-- what a run asks of its plan
abbrev pub run_planning : RunView → PlanningView
run_planning order = record {
  topology = order.topology;
  trace = order.trace;
  directory = order.directory;
  options = options_of order;
}

-- these inputs have this plan
abbrev pub RunPlans : RunView → List ℕ → List ℕ → List (List ℕ) → PlannedView → Type 0
RunPlans order topology trace rest planned = PlansAsked (run_planning order) topology trace rest planned

-- the output trace, the report, and the cluster report where it is asked for, are those of the run of the inputs' plan
pub record SaysRunOf (order : RunView) (topology trace : List ℕ) (rest : List (List ℕ)) (out report : List ℕ) (screens : List (List ℕ)) : Type 0 where
  pub planned : PlannedView
  pub plans : RunPlans order topology trace rest planned
  pub run : IsRunOf planned out report
  pub screens_are : screens ≡ cluster_reports order.cluster_report planned.setup

abbrev pub run_writes : RunView → List (List ℕ) → List (List ℕ) → Type 0
run_writes order (topology ∷ trace ∷ rest) (out ∷ report ∷ screens) = SaysRunOf order topology trace rest out report screens
run_writes order read written = ⊥

-- the cores, windows and visits of the run of the inputs' plan are in the tally
pub record AddsRunOf (order : RunView) (topology trace : List ℕ) (rest : List (List ℕ)) (old new : TallyView) : Type 0 where
  pub planned : PlannedView
  pub plans : RunPlans order topology trace rest planned
  pub counts : CountsRun planned.setup old new

abbrev pub run_adds : RunView → List (List ℕ) → TallyView → TallyView → Type 0
run_adds order (topology ∷ trace ∷ rest) old new = AddsRunOf order topology trace rest old new
run_adds order read old new = ⊥

-- the screen is written where the cluster report is asked for
abbrev pub screen_outputs : Bool → List Output
screen_outputs true = the_screen ∷ []
screen_outputs false = []

-- `rehearse` and `emulate` emulate a trace over a topology
abbrev pub run_command : ReadLimits → RunView → Command
run_command limits order = record {
  inputs = planning_inputs limits (run_planning order);
  outputs = output Out order.out ∷ output Report order.report ∷ screen_outputs order.cluster_report;
  refuses = planning_refuses (run_planning order);
  writes = run_writes order;
  adds = run_adds order;
}

-- the texts of a workload are refused before anything is read
abbrev pub workload_refuses : WorkloadOrder → List (List ℕ) → Status → Type 0
workload_refuses order [] status = WorkloadRefused order status
workload_refuses order read refusal = ⊥

abbrev pub workload_writes : WorkloadOrder → List (List ℕ) → List (List ℕ) → Type 0
workload_writes order [] (screen ∷ []) = SaysWorkload order screen
workload_writes order read written = ⊥

abbrev pub workload_adds : WorkloadOrder → List (List ℕ) → TallyView → TallyView → Type 0
workload_adds order [] old new = AddsWorkload order old new
workload_adds order read old new = ⊥

-- `workload` emulates a generated trace over a generated topology, and writes what came of it
abbrev pub workload_command : WorkloadOrder → Command
workload_command order = record {
  inputs = [];
  outputs = the_screen ∷ [];
  refuses = workload_refuses order;
  writes = workload_writes order;
  adds = workload_adds order;
}

-- `journal` writes the journal of its plan
abbrev pub journal_command : ReadLimits → JournalView → Command
journal_command limits order = record {
  inputs = planning_inputs limits (journal_planning order);
  outputs = output Out order.out ∷ [];
  refuses = planning_refuses (journal_planning order);
  writes = journal_writes order;
  adds = adds_nothing;
}

-- the journal that is looked at
abbrev pub journal_input : ReadLimits → CheckView → Input
journal_input limits order = input role.Journal order.journal limits.journal

-- `check` says whether a journal is that of its plan
abbrev pub check_command : ReadLimits → CheckView → Command
check_command limits order = record {
  inputs = planning_inputs limits (check_planning order) ++ journal_input limits order ∷ [];
  outputs = the_screen ∷ [];
  refuses = check_refuses order;
  writes = check_writes order;
  adds = adds_nothing;
}

-- `migrate` runs its plan while pipes move between cores
abbrev pub migrate_command : ReadLimits → MigrateView → Command
migrate_command limits order = record {
  inputs = planning_inputs limits (migrate_planning order);
  outputs = output Out order.out ∷ output Report order.report ∷ the_screen ∷ [];
  refuses = migrate_refuses order;
  writes = migrate_writes order;
  adds = adds_nothing;
}

-- the row of an order, where no more bytes of a role are read than these limits
abbrev pub row_of : ReadLimits → Order → Command
row_of limits (Chain order) = chain_command limits order
row_of limits (Distill order) = distill_command limits order
row_of limits (Assign order) = assign_command limits order
row_of limits (Rehearse order) = run_command limits order
row_of limits (Emulate order) = run_command limits order
row_of limits (Workload order) = workload_command order
row_of limits (Journal order) = journal_command limits order
row_of limits (Check order) = check_command limits order
row_of limits (Red order) = red_command limits order
row_of limits (Migrate order) = migrate_command limits order

-- the most bytes that are read of each role
abbrev pub usual_limits : ReadLimits
usual_limits = record {
  topology = TOPOLOGY_BYTES_MAX;
  trace = TRACE_BYTES_MAX;
  directory = DIRECTORY_BYTES_MAX;
  journal = JOURNAL_BYTES_MAX;
}

-- no limit is above the usual one
pub record AreWithinUsual (limits : ReadLimits) : Type 0 where
  pub topology : limits.topology ≤ TOPOLOGY_BYTES_MAX
  pub trace : limits.trace ≤ TRACE_BYTES_MAX
  pub directory : limits.directory ≤ DIRECTORY_BYTES_MAX
  pub journal : limits.journal ≤ JOURNAL_BYTES_MAX
