-- What a command reads to plan a run: a topology, a trace, and a directory where one is named.
use Rattle.std.specs.Prelude.{◌≡◌, ℕ, List, [], ◌∷◌, Option, Some, None}
use Rattle.mn_edge.specs.declared.role.Role.TheVariants.{Topology, Trace, Directory}
use Rattle.gml_reader.specs.Texts.{IsFirstFault}
use Rattle.pcapng_in.specs.declared.fault.CaptureFault.TheVariants.{Pcap, Ng}
use Rattle.pcapng_in.specs.CaptureFile.{CaptureFirst}
use Rattle.plan.specs.declared.faults.PlanFault.{PlanFault}
use Rattle.plan.specs.declared.options.Options.{Options}
use Rattle.plan.specs.PlannedView.{PlannedView}
use Rattle.modelnet.specs.declared.read_limits.ReadLimits.{ReadLimits}
use Rattle.modelnet.specs.declared.status.Status.{Status}
use Rattle.modelnet.specs.declared.status.Status.TheVariants.{BadTopology, BadTrace, BadPlan, BadCapture}
use Rattle.modelnet.specs.Roles.{Input, input}
use Rattle.modelnet.specs.Commands.{Command, adds_nothing}
use Rattle.modelnet.specs.Running.{Plans, HasPlanFault}

-- what contracts see of a `Planning`: the names of the files that are read, and what is asked of the plan
pub record PlanningView : Type 0 where
  pub topology : List ℕ
  pub trace : List ℕ
  pub directory : Option (List ℕ)
  pub options : Options

-- the inputs by name
abbrev pub topology_input : ReadLimits → PlanningView → Input
topology_input limits asked = input Topology asked.topology limits.topology

abbrev pub trace_input : ReadLimits → PlanningView → Input
trace_input limits asked = input Trace asked.trace limits.trace

-- the directory is read where one is named
abbrev pub directory_inputs : ReadLimits → Option (List ℕ) → List Input
directory_inputs limits None = []
directory_inputs limits (Some name) = input Directory name limits.directory ∷ []

abbrev pub planning_inputs : ReadLimits → PlanningView → List Input
planning_inputs limits asked = topology_input limits asked ∷ trace_input limits asked ∷ directory_inputs limits asked.directory

-- what was read after the trace is the text of the directory, where one is named, and else nothing
abbrev pub IsDirectoryRead : Option (List ℕ) → List (List ℕ) → Option (List ℕ) → Type 0
IsDirectoryRead None [] None = Unit {0}
IsDirectoryRead (Some name) (text ∷ []) (Some given) = given ≡ text
IsDirectoryRead named read given = ⊥

-- these inputs have this plan
pub record PlansAsked (asked : PlanningView) (topology trace : List ℕ) (rest : List (List ℕ)) (planned : PlannedView) : Type 0 where
  pub directory : Option (List ℕ)
  pub given : IsDirectoryRead asked.directory rest directory
  pub plans : Plans asked.options topology trace directory planned

-- these inputs have no plan, for this fault
pub record HasNoPlan (asked : PlanningView) (topology trace : List ℕ) (rest : List (List ℕ)) (fault : PlanFault) : Type 0 where
  pub directory : Option (List ℕ)
  pub given : IsDirectoryRead asked.directory rest directory
  pub has : HasPlanFault asked.options topology trace directory fault

-- the topology and then the trace are refused by their first faults
abbrev pub reading_refuses : List (List ℕ) → Status → Type 0
reading_refuses (topology ∷ []) (BadTopology fault) = IsFirstFault topology fault
reading_refuses (topology ∷ trace ∷ []) (BadTrace fault) = CaptureFirst trace (Pcap fault)
reading_refuses (topology ∷ trace ∷ []) (BadCapture fault) = CaptureFirst trace (Ng fault)
reading_refuses read refusal = ⊥

-- and then, with the directory, if there is one, what has no plan
abbrev pub planning_refuses : PlanningView → List (List ℕ) → Status → Type 0
planning_refuses asked (topology ∷ trace ∷ rest) (BadPlan fault) = HasNoPlan asked topology trace rest fault
planning_refuses asked read refusal = reading_refuses read refusal

-- a half of a command: the inputs are read, and nothing is written
abbrev pub reading_command : ReadLimits → PlanningView → Command
reading_command limits asked = record {
  inputs = planning_inputs limits asked;
  outputs = [];
  refuses = reading_refuses;
  writes = λ read written. ⊥;
  adds = adds_nothing;
}

-- a half of a command: the inputs are read and planned, and nothing is written
abbrev pub planning_command : ReadLimits → PlanningView → Command
planning_command limits asked = record {
  inputs = planning_inputs limits asked;
  outputs = [];
  refuses = planning_refuses asked;
  writes = λ read written. ⊥;
  adds = adds_nothing;
}
