-- What comes of a visit to a pipe, by the earlier visits to it.
use Rattle.std.specs.Prelude.{ℕ, ◌+◌, ◌*◌, Bool, nat_le, List, [], ◌∷◌, ◌++◌, length, if◌then◌else◌}
use Rattle.std.specs.Int.{div_ceil}
use Rattle.mn_base.specs.declared.params.PipeParams.{PipeParams}
use Rattle.pipe.specs.declared.step.Step.{Step}
use Rattle.pipe.specs.declared.step.Step.TheVariants.{Lost, Full, Pass}
use Rattle.pipe.specs.Finishes.{PastVisit, finish_of, finishes, last_finish, above}

-- how many packets wait or transmit at a tick: the passed visits whose finish is above it
abbrev pub waiting : (ℕ → PipeParams) → ℕ → List PastVisit → ℕ → ℕ
waiting at T h tick = length (above (tick * T) (finishes at T 0 h))

-- the tick at which a passed visit after h leaves: its finish in ticks, rounded up, and then the latency
abbrev pub exit_of : (ℕ → PipeParams) → ℕ → List PastVisit → ℕ → ℕ → ℕ
exit_of at T h tick len = div_ceil (finish_of at T (last_finish at T 0 h) tick len) T + (at tick).latency_ticks

-- what comes of a visit at `tick` with `len` bytes that follows h. `at` gives the parameters of the pipe at a tick, and T is
-- the length of a tick in ns
abbrev pub step_at : (ℕ → PipeParams) → ℕ → List PastVisit → ℕ → ℕ → Bool → Step
step_at at T h tick len lost =
    if lost then Lost
    else if nat_le (at tick).queue (waiting at T h tick) then Full
    else Pass (exit_of at T h tick len)

-- h with this visit added
abbrev pub visited : (ℕ → PipeParams) → ℕ → List PastVisit → ℕ → ℕ → Bool → List PastVisit
visited at T h tick len lost = h ++ record { tick = tick; len = len; step = step_at at T h tick len lost } ∷ []

-- a fact of the exit of a packet that passes
abbrev pub IfPass : Step → (ℕ → Type 0) → Type 0
IfPass Lost P = Unit {0}
IfPass Full P = Unit {0}
IfPass (Pass exit) P = P exit
