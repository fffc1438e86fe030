-- What became of the visits to one pipe.
use Rattle.std.specs.Prelude.{ℕ, ◌+◌, ◌==◌, ◌&&◌, Bool, true, false, List, length, filter}
use Rattle.pipe.specs.declared.step.Step.{Step}
use Rattle.pipe.specs.declared.step.Step.TheVariants.{Lost, Full, Pass}
use Rattle.pipe.specs.Finishes.{has_passed}
use Rattle.journal.specs.declared.visit.Visit.{Visit}
use Rattle.parcel.specs.declared.counts.PipeCounts.{PipeCounts}

abbrev pub has_lost : Step → Bool
has_lost Lost = true
has_lost Full = false
has_lost (Pass exit) = false

abbrev pub has_found_full : Step → Bool
has_found_full Lost = false
has_found_full Full = true
has_found_full (Pass exit) = false

-- how many visits of J to a pipe had such an outcome
abbrev pub visit_count : (Step → Bool) → ℕ → List Visit → ℕ
visit_count has pipe J = length (filter (λ v. (v.pipe == pipe) && has v.step) J)

-- what became of the visits of J to a pipe
abbrev pub counts_of : List Visit → ℕ → PipeCounts
counts_of J pipe = record {
  pipe = pipe;
  passed = visit_count has_passed pipe J;
  lost = visit_count has_lost pipe J;
  full = visit_count has_found_full pipe J;
}

-- the counts with one visit more, of this outcome
abbrev pub counted : PipeCounts → Step → PipeCounts
counted c Lost = record c { lost = c.lost + 1 }
counted c Full = record c { full = c.full + 1 }
counted c (Pass exit) = record c { passed = c.passed + 1 }
