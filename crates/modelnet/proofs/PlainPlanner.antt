-- A plan with a directory, where one is named, which is refused by its faults alone.
use Rattle.std.proofs.Common.{◌≡◌, inl, inr, ℕ, List, [], ◌∷◌, Option, refl}
use Rattle.gml_reader.specs.declared.faults.GmlFault.{GmlFault}
use Rattle.gml_reader.specs.Texts.{IsFirstFault}
use Rattle.pcapng_in.specs.declared.fault.CaptureFault.TheVariants.{Pcap, Ng}
use Rattle.plan.specs.PlannedView.{PlannedView}
use Rattle.modelnet.specs.declared.status.Status.{Status}
use Rattle.modelnet.specs.declared.status.Status.TheVariants.{BadTopology, BadTrace, BadPlan, BadCapture}
use Rattle.modelnet.specs.Planning.{PlanningView, IsDirectoryRead, reading_refuses, planning_refuses}
use Rattle.modelnet.proofs.PlannerSound.{Planner, ByTrace, Cause}

-- what refuses a topology alone is its first fault
pub topology_alone : (asked : PlanningView) (topology : List ℕ) (status : Status) → planning_refuses asked (topology ∷ []) status
    → (fault : GmlFault) × (status ≡ BadTopology fault) × IsFirstFault topology fault
topology_alone asked topology (BadTopology fault) is = (fault, refl, is)
topology_alone asked topology status is = absurd is

-- what refuses a topology and a trace is the first fault of the trace
pub reading_cause : (topology trace : List ℕ) (rest : List (List ℕ)) (status : Status) → reading_refuses (topology ∷ trace ∷ rest) status
    → ByTrace trace rest status
reading_cause topology trace [] (BadTrace fault) is = (Pcap fault, refl, is)
reading_cause topology trace [] (BadCapture fault) is = (Ng fault, refl, is)
reading_cause topology trace [] status is = absurd is
reading_cause topology trace (more ∷ rest) status is = absurd is

-- a plan is asked for with a directory, where one is named, and refused by nothing but its faults
abbrev pub plain_planner : PlanningView → (Option (List ℕ) → PlannedView → List (List ℕ) → Type 0) → Planner
plain_planner asked Says = record {
  Behind = Option (List ℕ);
  options = asked.options;
  is_behind = IsDirectoryRead asked.directory;
  directory = λ d. d;
  refuses = λ directory planned status. ⊥;
  writes = Says;
}

pub plain_cause : (asked : PlanningView) (Says : Option (List ℕ) → PlannedView → List (List ℕ) → Type 0) (topology trace : List ℕ)
    (rest : List (List ℕ)) (status : Status) → planning_refuses asked (topology ∷ trace ∷ rest) status
    → Cause (plain_planner asked Says) topology trace rest status
plain_cause asked Says topology trace rest (BadPlan fault) is =
    inr (inl (record { behind = is.directory; given = is.given; fault = fault; status_is = refl; has = is.has }))
plain_cause asked Says topology trace rest status is = inl (reading_cause topology trace rest status is)
