-- What contracts see of a pipe whose queue drops early, and the lists of visits that it stands for.
use Rattle.std.specs.Prelude.{◌≡◌, ℕ, ◌+◌, ◌*◌, List, [], length}
use Rattle.mn_base.specs.Units.{transmission}
use Rattle.mn_base.specs.declared.limits.TheConstants.{PACKET_BYTES_MAX}
use Rattle.pipe.specs.PipeView.{PipeView, StandsFor}
use Rattle.red_queue.specs.declared.params.RedParams.{RedParams}
use Rattle.red_queue.specs.declared.step.RedStep.{RedStep}
use Rattle.red_queue.specs.declared.step.RedStep.TheVariants.{Lost, Early, Full, Pass}
use Rattle.red_queue.specs.Outcome.{RedPast, plain_visits, average_of}

pub record RedPipeView : Type 0 where
  pub params : RedParams
  pub tick_ns : ℕ
  pub last_tick : ℕ
  pub last_finish : ℕ
  -- the finishes of passed visits that may still count, in ns
  pub kept : List ℕ
  -- how many packets waited on average, in 1/65,536 packets
  pub average : ℕ

-- such a pipe without visits
abbrev pub idle_red_view : RedParams → ℕ → RedPipeView
idle_red_view params tick_ns = record {
  params = params;
  tick_ns = tick_ns;
  last_tick = 0;
  last_finish = 0;
  kept = [];
  average = 0;
}

-- the same pipe without its average, which had so many visits
abbrev pub plain_view : RedPipeView → ℕ → PipeView
plain_view m visits = let params = m.params in record {
  first = params.base;
  changes = [];
  tick_ns = m.tick_ns;
  last_tick = m.last_tick;
  last_finish = m.last_finish;
  visits = visits;
  kept = m.kept;
}

-- h may be the visits so far: a pipe without averages would stand for them, and the average is theirs
pub record RedStandsFor (m : RedPipeView) (h : List RedPast) : Type 0 where
  pub plain : StandsFor (plain_view m (length (plain_visits h))) (plain_visits h)
  pub average : m.average ≡ average_of m.params m.tick_ns h

-- the longest that a pipe may keep a packet, in ns: its latency, two ticks of rounding, and a full queue of the longest packets
abbrev pub red_stay : ℕ → RedParams → ℕ
red_stay T p = let base = p.base in (base.latency_ticks + 2) * T + base.queue * transmission base.bps PACKET_BYTES_MAX

-- a fact of the exit of a packet that passes
abbrev pub IfRedPass : RedStep → (ℕ → Type 0) → Type 0
IfRedPass Lost P = Unit {0}
IfRedPass Early P = Unit {0}
IfRedPass Full P = Unit {0}
IfRedPass (Pass exit) P = P exit
