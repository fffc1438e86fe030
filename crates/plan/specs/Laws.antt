-- What holds of the definitions.
use Rattle.std.specs.Prelude.{◌≡◌, List, ℕ, Option}
use Rattle.topo.specs.TopologyView.{TopologyView}
use Rattle.pcap_io.specs.Capture.{Capture}
use Rattle.plan.specs.declared.faults.PlanFault.{PlanFault}
use Rattle.plan.specs.declared.options.Options.{Options}
use Rattle.plan.specs.Faults.{PlanFirst}
use Rattle.plan.specs.Setups.{IsPlan}
use Rattle.plan.specs.PlannedView.{PlannedView}

-- an input with a plan has no fault
abbrev pub NeverBoth : Type 0
NeverBoth =
    (t : TopologyView) (trace : Capture) (options : Options) (text : Option (List ℕ)) (planned : PlannedView) (fault : PlanFault)
    → IsPlan t trace options text planned → PlanFirst t options text fault → ⊥

-- an input has one first fault at most
abbrev pub OneFault : Type 0
OneFault =
    (t : TopologyView) (options : Options) (text : Option (List ℕ)) (fault other : PlanFault)
    → PlanFirst t options text fault → PlanFirst t options text other → fault ≡ other

-- an input has one plan
abbrev pub OnePlan : Type 0
OnePlan =
    (t : TopologyView) (trace : Capture) (options : Options) (text : Option (List ℕ)) (planned other : PlannedView)
    → IsPlan t trace options text planned → IsPlan t trace options text other → planned ≡ other
