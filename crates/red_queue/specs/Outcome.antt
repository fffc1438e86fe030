-- What comes of a visit to a pipe whose queue drops early, by the earlier visits to it.
use Rattle.std.specs.Prelude.{ℕ, ◌+◌, ◌-◌, ◌*◌, ◌/◌, ◌^◌, Bool, true, false, ◌&&◌, ◌||◌, nat_le, nat_lt, List, [], ◌∷◌, ◌++◌, map, if◌then◌else◌}
use Rattle.mn_base.specs.declared.params.PipeParams.{PipeParams}
use Rattle.pipe.specs.declared.step.Step.{Step}
use Rattle.pipe.specs.declared.step.Step.TheVariants as plain
use Rattle.pipe.specs.Finishes.{PastVisit}
use Rattle.pipe.specs.Steps.{waiting, exit_of}
use Rattle.red_queue.specs.declared.averages.TheConstants.{ONE_PACKET}
use Rattle.red_queue.specs.declared.params.RedParams.{RedParams}
use Rattle.red_queue.specs.declared.step.RedStep.{RedStep}
use Rattle.red_queue.specs.declared.step.RedStep.TheVariants.{Lost, Early, Full, Pass}

-- one visit to such a pipe: its tick, its packet's length in bytes and what came of it
pub record RedPast : Type 0 where
  pub tick : ℕ
  pub len : ℕ
  pub step : RedStep

-- what a pipe without averages remembers of it: a packet that is dropped early doesn't come to the queue
abbrev pub plain_step : RedStep → Step
plain_step Lost = plain.Lost
plain_step Early = plain.Lost
plain_step Full = plain.Full
plain_step (Pass exit) = plain.Pass exit

abbrev pub plain_visit : RedPast → PastVisit
plain_visit v = record { tick = v.tick; len = v.len; step = plain_step v.step }

abbrev pub plain_visits : List RedPast → List PastVisit
plain_visits h = map plain_visit h

-- the parameters of the pipe at every tick
abbrev pub base_at : RedParams → ℕ → PipeParams
base_at p tick = p.base

-- how many packets wait or transmit at a tick: the passed visits whose finish is above it
abbrev pub waiting_at : RedParams → ℕ → List RedPast → ℕ → ℕ
waiting_at p T h tick = waiting (base_at p) T (plain_visits h) tick

-- an average, in 1/65,536 packets, moved by 1 / 2^shift of the way to this many packets
abbrev pub aged : RedParams → ℕ → ℕ → ℕ
aged p average count = ((2 ^ p.shift - 1) * average + count * ONE_PACKET) / 2 ^ p.shift

abbrev pub is_lost_step : RedStep → Bool
is_lost_step Lost = true
is_lost_step Early = false
is_lost_step Full = false
is_lost_step (Pass exit) = false

-- the average after the visit v, by that before it: a lost visit doesn't move it
abbrev pub moved : RedParams → ℕ → List RedPast → ℕ → RedPast → ℕ
moved p T h average v = if is_lost_step v.step then average else aged p average (waiting_at p T h v.tick)

-- the average after the visits `rest` that follow those of `front`, by that after `front`
abbrev pub average_from : RedParams → ℕ → ℕ → List RedPast → List RedPast → ℕ
average_from p T average front [] = average
average_from p T average front (v ∷ rest) = average_from p T (moved p T front average v) (front ++ v ∷ []) rest

-- how many packets waited on average over the visits of h, in 1/65,536 packets; it doesn't age while no packet comes
abbrev pub average_of : RedParams → ℕ → List RedPast → ℕ
average_of p T h = average_from p T 0 [] h

-- the average that a visit at `tick` meets, if it isn't lost
abbrev pub average_at : RedParams → ℕ → List RedPast → ℕ → ℕ
average_at p T h tick = aged p (average_of p T h) (waiting_at p T h tick)

-- of the 2^32 early words, how many drop a packet at an average from min up to, not including, max
abbrev pub drop_limit : RedParams → ℕ → ℕ
drop_limit p average =
    p.early * (average - p.min * ONE_PACKET) * 2 ^ 32 / (1000000 * (p.max * ONE_PACKET - p.min * ONE_PACKET))

-- whether a packet with this early word is dropped early at this average: always from max on, and never below min
abbrev pub drops_early : RedParams → ℕ → ℕ → Bool
drops_early p average word =
    nat_le (p.max * ONE_PACKET) average || (nat_le (p.min * ONE_PACKET) average && nat_lt word (drop_limit p average))

-- what comes of a visit at `tick` with `len` bytes that follows h, where T is the length of a tick in ns, `lost` says that its loss
-- word is at least the keep, and `word` is its early word
abbrev pub red_outcome : RedParams → ℕ → List RedPast → ℕ → ℕ → Bool → ℕ → RedStep
red_outcome p T h tick len lost word =
    if lost then Lost
    else if drops_early p (average_at p T h tick) word then Early
    else let base = p.base in if nat_le base.queue (waiting_at p T h tick) then Full
    else Pass (exit_of (base_at p) T (plain_visits h) tick len)

-- h with this visit added
abbrev pub red_visited : RedParams → ℕ → List RedPast → ℕ → ℕ → Bool → ℕ → List RedPast
red_visited p T h tick len lost word =
    h ++ record { tick = tick; len = len; step = red_outcome p T h tick len lost word } ∷ []
