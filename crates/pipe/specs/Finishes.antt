-- When the packets that passed a pipe are through with its bandwidth, in ns.
use Rattle.std.specs.Prelude.{ℕ, ◌+◌, ◌*◌, Bool, true, false, nat_lt, max, List, [], ◌∷◌, filter, if◌then◌else◌}
use Rattle.mn_base.specs.declared.params.PipeParams.{PipeParams}
use Rattle.mn_base.specs.Units.{transmission}
use Rattle.pipe.specs.declared.step.Step.{Step}
use Rattle.pipe.specs.declared.step.Step.TheVariants.{Lost, Full, Pass}

-- one visit to a pipe: its tick, its packet's length in bytes and what came of it
pub record PastVisit : Type 0 where
  pub tick : ℕ
  pub len : ℕ
  pub step : Step

abbrev pub has_passed : Step → Bool
has_passed Lost = false
has_passed Full = false
has_passed (Pass exit) = true

-- the finish of a passed visit after one that finished at `last`: it starts at its tick or at `last`, whichever is later.
-- `at` gives the parameters of the pipe at a tick, and T is the length of a tick in ns
abbrev pub finish_of : (ℕ → PipeParams) → ℕ → ℕ → ℕ → ℕ → ℕ
finish_of at T last tick len = max (tick * T) last + transmission (at tick).bps len

-- the finishes of the passed visits, in order; `last` is the finish before them
abbrev pub finishes : (ℕ → PipeParams) → ℕ → ℕ → List PastVisit → List ℕ
finishes at T last [] = []
finishes at T last (v ∷ h) =
    if has_passed v.step
    then finish_of at T last v.tick v.len ∷ finishes at T (finish_of at T last v.tick v.len) h
    else finishes at T last h

-- the finish of the last passed visit, or `last` where none passed
abbrev pub last_finish : (ℕ → PipeParams) → ℕ → ℕ → List PastVisit → ℕ
last_finish at T last [] = last
last_finish at T last (v ∷ h) =
    last_finish at T (if has_passed v.step then finish_of at T last v.tick v.len else last) h

-- the finishes above a moment, in order
abbrev pub above : ℕ → List ℕ → List ℕ
above now times = filter (λ time. nat_lt now time) times
