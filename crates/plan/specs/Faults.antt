-- Why an input has no plan: the pipes are too many, or the directory text has a fault.
use Rattle.std.specs.Prelude.{ℕ, ◌<◌, ◌≤◌, List, length, Option, Some, None}
use Rattle.mn_base.specs.declared.limits.TheConstants.{PIPES_MAX}
use Rattle.topo.specs.TopologyView.{TopologyView}
use Rattle.distill.specs.Distilled.{DistilledView, IsDistilled}
use Rattle.distill.specs.PipeCount.{HasPipeCount}
use Rattle.changes.specs.declared.split.Change.{Change}
use Rattle.changes.specs.Splits.{SplitsTo}
use Rattle.changes.specs.Faults.{ChangesFirst}
use Rattle.ownership.specs.declared.faults.AssignFault.{AssignFault}
use Rattle.ownership.specs.Faults.{DirectoryFirst}
use Rattle.plan.specs.declared.faults.PlanFault.{PlanFault}
use Rattle.plan.specs.declared.faults.PlanFault.TheVariants.{TooManyPipes, Changes, Assign}
use Rattle.plan.specs.declared.options.Options.{Options}

-- the first fault of the text of the first version that a text splits to
pub record HasAssignFault (d : DistilledView) (cores : ℕ) (text : List ℕ) (fault : AssignFault) : Type 0 where
  pub first_version : List ℕ
  pub changes : List Change
  pub split : SplitsTo text cores (length d.pipes) (record { directory = first_version; changes = changes })
  pub first : DirectoryFirst first_version d cores fault

-- this fault is the first of a directory text
abbrev pub TextFirst : DistilledView → ℕ → List ℕ → PlanFault → Type 0
TextFirst d cores text (TooManyPipes count) = ⊥
TextFirst d cores text (Changes fault) = ChangesFirst text cores (length d.pipes) fault
TextFirst d cores text (Assign fault) = HasAssignFault d cores text fault

-- the same of a directory text, if there is one
abbrev pub DirectingFirst : DistilledView → ℕ → Option (List ℕ) → PlanFault → Type 0
DirectingFirst d cores None fault = ⊥
DirectingFirst d cores (Some text) fault = TextFirst d cores text fault

-- the pipes aren't too many, and this fault is the first of the directory text
pub record HasTextFault (t : TopologyView) (options : Options) (text : Option (List ℕ)) (fault : PlanFault) : Type 0 where
  pub distilled : DistilledView
  pub distills : IsDistilled t options.mode options.tick_ns distilled
  pub few : length distilled.pipes ≤ PIPES_MAX
  pub first : DirectingFirst distilled options.cores text fault

-- this fault is the first of the input
abbrev pub PlanFirst : TopologyView → Options → Option (List ℕ) → PlanFault → Type 0
PlanFirst t options text (TooManyPipes count) = HasPipeCount t options.mode count × (PIPES_MAX < count)
PlanFirst t options text (Changes fault) = HasTextFault t options text (Changes fault)
PlanFirst t options text (Assign fault) = HasTextFault t options text (Assign fault)
