-- The report of a run through pipes whose queues drop early: lines of ASCII, each with a line feed at its end.
use Rattle.std.specs.Prelude.{◌≡◌, ℕ, zero, suc, ◌+◌, ◌-◌, ◌^◌, ◌<◌, ◌==◌, ◌&&◌, nat_lt, Bool, true, false, List, [], ◌∷◌, ◌++◌, length, filter, slice_get, slice_index_or, codes, if◌then◌else◌}
use Rattle.std.specs.Option.{option_map_or}
use Rattle.std.specs.Fmt.{decimal}
use Rattle.red_queue.specs.declared.fate.RedCause.{RedCause}
use Rattle.red_queue.specs.declared.fate.RedCause.TheVariants as cause
use Rattle.red_queue.specs.declared.fate.RedFate.{RedFate}
use Rattle.red_queue.specs.declared.fate.RedFate.TheVariants.{Left, Dropped}
use Rattle.red_queue.specs.declared.step.RedStep.{RedStep}
use Rattle.red_queue.specs.declared.step.RedStep.TheVariants.{Lost, Early, Full, Pass}
use Rattle.red_queue.specs.declared.report_text.Counts.{Counts}
use Rattle.red_queue.specs.declared.visit.RedVisit.{RedVisit}
use Rattle.red_queue.specs.Outcome.{is_lost_step}
use Rattle.red_queue.specs.SetupView.{RedSetupView}
use Rattle.red_queue.specs.Fates.{fates_by}

-- one line: its text, and a line feed
abbrev pub text_line : List ℕ → List ℕ
text_line text = text ++ 10 ∷ []

abbrev pub red_cause_word : RedCause → List ℕ
red_cause_word cause.Loss = codes "loss"
red_cause_word cause.Early = codes "early"
red_cause_word cause.Full = codes "full"

abbrev pub has_left : RedFate → Bool
has_left (Left tick) = true
has_left (Dropped pipe tick cause) = false

abbrev pub left_count : List RedFate → ℕ
left_count fates = length (filter has_left fates)

abbrev pub is_passed_step : RedStep → Bool
is_passed_step Lost = false
is_passed_step Early = false
is_passed_step Full = false
is_passed_step (Pass exit) = true

abbrev pub is_full_step : RedStep → Bool
is_full_step Lost = false
is_full_step Early = false
is_full_step Full = true
is_full_step (Pass exit) = false

abbrev pub is_early_step : RedStep → Bool
is_early_step Lost = false
is_early_step Early = true
is_early_step Full = false
is_early_step (Pass exit) = false

-- how many visits to a pipe had such a step
abbrev pub red_step_count : (RedStep → Bool) → List RedVisit → ℕ → ℕ
red_step_count has J pipe = length (filter (λ v. (v.hop == pipe) && has v.step) J)

-- what became of the visits to a pipe
abbrev pub red_counts_by : List RedVisit → ℕ → Counts
red_counts_by J pipe = record {
  passed = red_step_count is_passed_step J pipe;
  lost = red_step_count is_lost_step J pipe;
  full = red_step_count is_full_step J pipe;
  early = red_step_count is_early_step J pipe;
}

-- the packets, all of them bound to the one route, and what became of them
abbrev pub red_packets_line : List RedFate → List ℕ
red_packets_line fates =
    text_line (codes "packets " ++ decimal (length fates)
    ++ codes " bound " ++ decimal (length fates)
    ++ codes " unbound 0 left " ++ decimal (left_count fates)
    ++ codes " dropped " ++ decimal (length fates - left_count fates))

-- a pipe, and what became of the visits to it; a pipe without a visit has no line
abbrev pub counts_line : ℕ → Counts → List ℕ
counts_line pipe c =
    text_line (codes "pipe " ++ decimal pipe
    ++ codes " passed " ++ decimal c.passed
    ++ codes " lost " ++ decimal c.lost
    ++ codes " full " ++ decimal c.full
    ++ codes " early " ++ decimal c.early)

abbrev pub has_red_visit : Counts → Bool
has_red_visit c = nat_lt 0 (c.passed + c.lost + c.full + c.early)

abbrev pub counts_text : ℕ → Counts → List ℕ
counts_text pipe c = if has_red_visit c then counts_line pipe c else []

abbrev pub pipe_text : List RedVisit → ℕ → List ℕ
pipe_text J pipe = counts_text pipe (red_counts_by J pipe)

-- a dropped packet, and the one pipe and cause that dropped it; a packet that left has no line
abbrev pub red_drop_line : ℕ → RedFate → List ℕ
red_drop_line packet (Left tick) = []
red_drop_line packet (Dropped pipe tick cause) =
    text_line (codes "drop " ++ decimal packet
    ++ codes " pipe " ++ decimal pipe
    ++ codes " tick " ++ decimal tick
    ++ codes " cause " ++ red_cause_word cause)

abbrev pub drop_text : List RedFate → ℕ → List ℕ
drop_text fates packet = option_map_or (red_drop_line packet) (slice_get fates packet) []

-- the texts of the numbers below n, in order
abbrev pub texts_below : (ℕ → List ℕ) → ℕ → List ℕ
texts_below text_of zero = []
texts_below text_of (suc n) = texts_below text_of n ++ text_of n

-- the report of these visits
unfoldable pub red_report_text : RedSetupView → List RedVisit → List ℕ
red_report_text R J =
    text_line (codes "modelnet red report 1")
    ++ red_packets_line (fates_by R J)
    ++ texts_below (pipe_text J) (length R.pipes)
    ++ texts_below (drop_text (fates_by R J)) (length (fates_by R J))

-- the counts with one more visit of this step
abbrev pub counted : Counts → RedStep → Counts
counted c Lost = record c { lost = c.lost + 1 }
counted c Early = record c { early = c.early + 1 }
counted c Full = record c { full = c.full + 1 }
counted c (Pass exit) = record c { passed = c.passed + 1 }

-- the counts of a pipe with one more visit, if it is to this pipe
abbrev pub counted_at : ℕ → Counts → RedVisit → Counts
counted_at pipe c v = if v.hop == pipe then counted c v.step else c

-- one more visit can be counted
pub record HasRedRoom (c : Counts) : Type 0 where
  pub passed : c.passed + 1 < 2 ^ 64
  pub lost : c.lost + 1 < 2 ^ 64
  pub full : c.full + 1 < 2 ^ 64
  pub early : c.early + 1 < 2 ^ 64

-- the same of each of the counts
abbrev pub HaveRedRoom : List Counts → Type 0
HaveRedRoom counts = (pipe : ℕ) (d : Counts) → pipe < length counts → HasRedRoom (slice_index_or counts pipe d)

-- these are the counts of so many pipes, each at its number
pub record AreCounts (J : List RedVisit) (pipes : ℕ) (counts : List Counts) : Type 0 where
  pub count : length counts ≡ pipes
  pub each : (pipe : ℕ) (d : Counts) → pipe < pipes → slice_index_or counts pipe d ≡ red_counts_by J pipe

-- one more visit is counted at its pipe, if there is such a pipe
pub record IsCounted (v : RedVisit) (old new : List Counts) : Type 0 where
  pub count : length new ≡ length old
  pub each : (pipe : ℕ) (d : Counts) → pipe < length old → slice_index_or new pipe d ≡ counted_at pipe (slice_index_or old pipe d) v
