-- The maker of the journal: its pipes at work, and the due visits that it holds.
use Rattle.std.specs.Prelude.{◌≡◌, ℕ, ◌+◌, ◌*◌, ◌<◌, ◌≤◌, Bool, nat_le, List, [], length, map, drop, sum_by, Some, slice_get, slice_index_or}
use Rattle.std.specs.List.{enumerate_from}
use Rattle.mn_base.specs.Among.{Among}
use Rattle.mn_base.specs.declared.due.Due.{Due}
use Rattle.loss_words.specs.Word.{loss_word, early_word}
use Rattle.pipe.specs.declared.due_visits.DueVisit.{DueVisit}
use Rattle.pipe.specs.HeldVisits.{plain, TakesVisit}
use Rattle.pipe.specs.Scheme.{IsGrowingBy, HoldsPending}
use Rattle.red_queue.specs.declared.setup.RedPacket.{RedPacket}
use Rattle.red_queue.specs.declared.step.RedStep.{RedStep}
use Rattle.red_queue.specs.declared.visit.RedVisit.{RedVisit}
use Rattle.red_queue.specs.Outcome.{RedPast, red_outcome}
use Rattle.red_queue.specs.QueueView.{RedPipeView, RedStandsFor, red_stay}
use Rattle.red_queue.specs.SetupView.{RedSetupView, red_way}
use Rattle.red_queue.specs.Journal.{red_entry, red_visits_to, red_scheme}
use Rattle.red_queue.specs.Laws.{ExitsFit}

-- what contracts see of a pipe at work
pub record AtWorkView : Type 0 where
  pub number : ℕ
  -- the seed of its words
  pub seed : ℕ
  -- what it remembers of its visits
  pub memory : RedPipeView

-- whether a packet's loss word is at least its keep
abbrev pub loses : AtWorkView → ℕ → Bool
loses m packet = let memory = m.memory in let params = memory.params in let base = params.base in
    nat_le base.keep (loss_word m.seed m.number packet)

-- what comes of a due visit of a packet of `len` bytes that follows h, where it is lost or not and has this early word
abbrev pub outcome_by : AtWorkView → List RedPast → Due → ℕ → Bool → ℕ → RedStep
outcome_by m h x len lost word = let memory = m.memory in red_outcome memory.params memory.tick_ns h x.tick len lost word

-- what it says of a due visit of a packet of `len` bytes that follows h
abbrev pub decided : AtWorkView → List RedPast → Due → ℕ → RedStep
decided m h x len = outcome_by m h x len (loses m x.packet) (early_word m.seed m.number x.packet)

-- the pipe of this number of the row after the visits of J
pub record IsAtWork (R : RedSetupView) (J : List RedVisit) (hop : ℕ) (m : AtWorkView) : Type 0 where
  pub number : m.number ≡ hop
  pub seed : m.seed ≡ R.seed
  pub tick_ns : (m.memory).tick_ns ≡ R.tick_ns
  pub params : slice_get R.pipes hop ≡ Some (m.memory).params
  pub stands : RedStandsFor m.memory (red_visits_to R hop J)

-- all pipes of the row after the visits of J, each at its number
pub record AreAtWork (R : RedSetupView) (J : List RedVisit) (pipes : List AtWorkView) : Type 0 where
  pub count : length pipes ≡ length R.pipes
  pub each : (hop : ℕ) (d : AtWorkView) → hop < length pipes → IsAtWork R J hop (slice_index_or pipes hop d)

-- the first pipes of the row, before any visit
pub record AreIdle (R : RedSetupView) (pipes : List AtWorkView) : Type 0 where
  pub each : (hop : ℕ) (d : AtWorkView) → hop < length pipes → IsAtWork R [] hop (slice_index_or pipes hop d)

-- the index of each packet is its number
abbrev pub AreNumbered : List DueVisit → Type 0
AreNumbered held = (w : DueVisit) → Among w held → w.index ≡ w.due.packet

-- the packets below this number are due at the first pipe, and nothing else
pub record HaveRedEntered (R : RedSetupView) (numbers : ℕ) (held : List DueVisit) : Type 0 where
  pub numbered : AreNumbered held
  pub below : (w : DueVisit) → Among w held → w.due.packet < numbers
  pub first : (w : DueVisit) → Among w held → Among w.due (map red_entry (enumerate_from 0 R.packets))
  pub all : (n : ℕ) (p : RedPacket) → n < numbers → slice_get R.packets n ≡ Some p → Among (red_entry (n, p)) (map plain held)

-- a due visit is as late as its packet entered, plus what the pipes so far may keep it
abbrev pub IsInTime : RedSetupView → Due → Type 0
IsInTime R x =
    (p : RedPacket) → slice_get R.packets x.packet ≡ Some p
    → x.tick * R.tick_ns + sum_by (red_stay R.tick_ns) (drop x.hop R.pipes) ≤ p.entry_tick * R.tick_ns + red_way R

-- the maker has made the visits of J, with these pipes, and holds what is pending
pub record IsRedMaking (R : RedSetupView) (J : List RedVisit) (pipes : List AtWorkView) (held : List DueVisit) : Type 0 where
  pub growing : IsGrowingBy (red_scheme R) J
  pub pipes_are : AreAtWork R J pipes
  pub numbered : AreNumbered held
  pub pending : HoldsPending (red_scheme R) J (map plain held)
  pub in_time : (w : DueVisit) → Among w held → IsInTime R w.due
  pub exits : ExitsFit R J

-- the same, but that the next visit was taken out
pub record IsRedToMake (R : RedSetupView) (J : List RedVisit) (next : DueVisit) (pipes : List AtWorkView) (rest : List DueVisit)
    : Type 0 where
  pub held : List DueVisit
  pub making : IsRedMaking R J pipes held
  pub takes : TakesVisit held next rest
