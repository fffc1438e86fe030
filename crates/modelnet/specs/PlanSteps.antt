-- How far a command has come that plans a run: what was read of its inputs, and their plan.
use Rattle.std.specs.Prelude.{◌≡◌, ℕ, List, [], ◌∷◌, Option}
use Rattle.topo.specs.TopologyView.{TopologyView}
use Rattle.gml_reader.specs.Texts.{Reads}
use Rattle.pcap_io.specs.Capture.{Capture}
use Rattle.pcapng_in.specs.CaptureFile.{SaysTrace}
use Rattle.plan.specs.PlannedView.{PlannedView}
use Rattle.modelnet.specs.declared.read_limits.ReadLimits.{ReadLimits}
use Rattle.modelnet.specs.Commands.{Host, ReadInputs, bytes_read}
use Rattle.modelnet.specs.Progress.{HasRead, HasJustRead}
use Rattle.modelnet.specs.Planning.{PlanningView, topology_input, trace_input, directory_inputs, IsDirectoryRead, PlansAsked, reading_command, planning_command}

-- the topology was read whole, and its bytes say this
pub record HasTopology (limits : ReadLimits) (asked : PlanningView) (topology : TopologyView) (old new : Host) : Type 0 where
  pub text : List ℕ
  pub reads : Reads text topology
  pub so_far : HasRead (reading_command limits asked) ((topology_input limits asked, text) ∷ [])
      (trace_input limits asked ∷ directory_inputs limits asked.directory) old new

-- the topology and the trace were read whole, and their bytes say these
pub record HasTrace (limits : ReadLimits) (asked : PlanningView) (topology : TopologyView) (trace : Capture) (old new : Host) : Type 0 where
  pub text : List ℕ
  pub trace_text : List ℕ
  pub reads : Reads text topology
  pub says : SaysTrace trace_text trace
  pub so_far : HasJustRead (reading_command limits asked)
      ((topology_input limits asked, text) ∷ (trace_input limits asked, trace_text) ∷ [])
      (directory_inputs limits asked.directory) old new

-- all inputs were read whole, and their bytes say these; the directory is there if one is named
pub record HasInputs (limits : ReadLimits) (asked : PlanningView) (topology : TopologyView) (trace : Capture)
    (directory : Option (List ℕ)) (old new : Host) : Type 0 where
  pub text : List ℕ
  pub trace_text : List ℕ
  pub rest : List (List ℕ)
  pub reads : Reads text topology
  pub says : SaysTrace trace_text trace
  pub given : IsDirectoryRead asked.directory rest directory
  pub read : ReadInputs
  pub bytes_are : bytes_read read ≡ text ∷ trace_text ∷ rest
  pub so_far : HasJustRead (reading_command limits asked) read [] old new

-- all inputs were read whole, and this is their plan
pub record HasPlan (limits : ReadLimits) (asked : PlanningView) (old new : Host) (planned : PlannedView) : Type 0 where
  pub reads : ReadInputs
  pub topology : List ℕ
  pub trace : List ℕ
  pub rest : List (List ℕ)
  pub bytes_are : bytes_read reads ≡ topology ∷ trace ∷ rest
  pub plans : PlansAsked asked topology trace rest planned
  pub so_far : HasJustRead (planning_command limits asked) reads [] old new
