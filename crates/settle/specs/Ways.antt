-- What a packet did at the pipes of its route, by its fate: it passed each pipe that it came to before the one that dropped it.
use Rattle.std.specs.Prelude.{◌≡◌, ℕ, ◌+◌, ◌^◌, ◌<◌, ◌==◌, ◌&&◌, Bool, List, [], ◌∷◌, length, filter, map, Option, Some, None, if◌then◌else◌}
use Rattle.std.specs.List.{flat_map, range_with_len}
use Rattle.mn_base.specs.declared.causes.Cause.{Cause}
use Rattle.mn_base.specs.declared.causes.Cause.TheVariants.{Loss, Full as QueueFull}
use Rattle.pipe.specs.declared.step.Step.{Step}
use Rattle.pipe.specs.declared.step.Step.TheVariants.{Lost, Full, Pass}
use Rattle.pipe.specs.Finishes.{has_passed}
use Rattle.journal.specs.declared.setup.PacketPlan.{PacketPlan}
use Rattle.journal.specs.declared.fate.Fate.{Fate}
use Rattle.journal.specs.declared.fate.Fate.TheVariants.{Left, Dropped}
use Rattle.journal.specs.SetupView.{SetupView, route_of}
use Rattle.parcel.specs.declared.counts.PipeCounts.{PipeCounts}
use Rattle.parcel.specs.Counts.{has_lost, has_found_full}

-- the step that drops a packet for this cause
abbrev pub step_of_cause : Cause → Step
step_of_cause Loss = Lost
step_of_cause QueueFull = Full

-- the step that drops a packet of this fate at this pipe, if it is dropped there
abbrev pub drop_step : Fate → ℕ → Option Step
drop_step (Left tick) pipe = None
drop_step (Dropped at tick cause) pipe = if at == pipe then Some (step_of_cause cause) else None

-- the first step, and what follows it where it isn't a drop; the tick at which a packet leaves a pipe isn't looked at
abbrev pub way_from : ℕ → Option Step → List (ℕ × Step) → List (ℕ × Step)
way_from pipe (Some step) rest = (pipe, step) ∷ []
way_from pipe None rest = (pipe, Pass 0) ∷ rest

-- the visits of a packet with this route and fate, each as its pipe and its step
abbrev pub way_of : List ℕ → Fate → List (ℕ × Step)
way_of [] fate = []
way_of (pipe ∷ route) fate = way_from pipe (drop_step fate pipe) (way_of route fate)

-- the visits of these packets, packet by packet, where `fate` gives the fate of each
abbrev pub ways_of : SetupView → (PacketPlan → Fate) → List PacketPlan → List (ℕ × Step)
ways_of S fate packets = flat_map (λ p. way_of (route_of S p.number) (fate p)) packets

-- how many of these visits were to a pipe and had such a step
abbrev pub step_count : (Step → Bool) → ℕ → List (ℕ × Step) → ℕ
step_count has pipe ways = length (filter (λ m. (m.0 == pipe) && has m.1) ways)

-- what became of these visits to a pipe
abbrev pub counts_by : List (ℕ × Step) → ℕ → PipeCounts
counts_by ways pipe = record {
  pipe = pipe;
  passed = step_count has_passed pipe ways;
  lost = step_count has_lost pipe ways;
  full = step_count has_found_full pipe ways;
}

-- these are counts of some visits in pipe order, and so many more can be counted
pub record IsTally (all : List PipeCounts) (more : ℕ) : Type 0 where
  pub ways : List (ℕ × Step)
  pub pipes : ℕ
  pub counts_are : all ≡ map (counts_by ways) (range_with_len 0 pipes)
  pub few : length ways + more < 2 ^ 64
