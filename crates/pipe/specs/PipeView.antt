-- What contracts see of a pipe, and the lists of visits that it stands for.
use Rattle.std.specs.Prelude.{◌≡◌, ℕ, ◌+◌, ◌*◌, ◌<◌, ◌≤◌, List, [], ◌∷◌, length, All}
use Rattle.std.specs.List.Sorted.{IsNonDecreasing}
use Rattle.mn_base.specs.declared.limits.TheConstants.{PACKET_BYTES_MAX}
use Rattle.mn_base.specs.declared.params.PipeParams.{PipeParams}
use Rattle.mn_base.specs.Ranges.{IsTickLength}
use Rattle.mn_base.specs.Units.{transmission}
use Rattle.pipe.specs.Finishes.{PastVisit, finishes, last_finish, above}
use Rattle.pipe.specs.Params.{last_params, greatest}

-- what contracts see of a pipe
pub record PipeView : Type 0 where
  pub first : PipeParams
  -- the ticks at which the parameters change, each with those from then on
  pub changes : List (ℕ × PipeParams)
  pub tick_ns : ℕ
  pub last_tick : ℕ
  pub last_finish : ℕ
  -- how many visits there were, dropped ones among them
  pub visits : ℕ
  -- the finishes of passed visits that may still count, in ns
  pub kept : List ℕ

-- a pipe without visits
abbrev pub idle_view : PipeParams → List (ℕ × PipeParams) → ℕ → PipeView
idle_view first changes tick_ns = record {
  first = first;
  changes = changes;
  tick_ns = tick_ns;
  last_tick = 0;
  last_finish = 0;
  visits = 0;
  kept = [];
}

-- the parameters at a tick
abbrev pub params_at : PipeView → ℕ → PipeParams
params_at m tick = last_params tick m.first m.changes

-- the greatest queue limit, in packets
abbrev pub greatest_queue : PipeView → ℕ
greatest_queue m = greatest (λ p. p.queue) m.first m.changes

-- how long a longest packet takes at most, in ns
abbrev pub greatest_transmission : PipeView → ℕ
greatest_transmission m = greatest (λ p. transmission p.bps PACKET_BYTES_MAX) m.first m.changes

-- the tick of the last visit, or `last` where there is none
abbrev pub last_tick : ℕ → List PastVisit → ℕ
last_tick last [] = last
last_tick last (v ∷ h) = last_tick v.tick h

-- h may be the visits so far: of what is kept, the finishes at or below the last tick don't count
pub record StandsFor (m : PipeView) (h : List PastVisit) : Type 0 where
  pub tick : m.last_tick ≡ last_tick 0 h
  pub last : m.last_finish ≡ last_finish (params_at m) m.tick_ns 0 h
  pub visits : m.visits ≡ length h
  pub kept :
      above (m.last_tick * m.tick_ns) m.kept
      ≡ above (m.last_tick * m.tick_ns) (finishes (params_at m) m.tick_ns 0 h)

-- true of each pipe: what it keeps is above the last tick, in order and short, and the last finish is near
pub record IsInBounds (m : PipeView) : Type 0 where
  pub tick_length : IsTickLength m.tick_ns
  pub late : All (λ time. m.last_tick * m.tick_ns < time) m.kept
  pub rising : IsNonDecreasing m.kept
  pub behind : All (λ time. time ≤ m.last_finish) m.kept
  pub few : length m.kept ≤ greatest_queue m
  -- at a moment, what still transmits are the finishes above it, one after the other
  pub backlog : (x : ℕ) → m.last_tick * m.tick_ns ≤ x
      → m.last_finish ≤ x + length (above x m.kept) * greatest_transmission m
