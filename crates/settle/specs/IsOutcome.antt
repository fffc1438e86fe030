-- The outcome of a setup: what became of its packets, and of the visits to its pipes, by the list of all visits.
use Rattle.std.specs.Prelude.{◌≡◌, ◌⊎◌, ℕ, ◌<◌, List, length, map, filter_map, AllPairs, Option, Some, None}
use Rattle.std.specs.List.{zip, range_with_len}
use Rattle.std.specs.List.Sorted.{IsPermutation}
use Rattle.journal.specs.declared.visit.Visit.{Visit}
use Rattle.journal.specs.declared.fate.Fate.{Fate}
use Rattle.journal.specs.declared.fate.Fate.TheVariants.{Left, Dropped}
use Rattle.journal.specs.SetupView.{SetupView}
use Rattle.journal.specs.Fates.{fate_after}
use Rattle.parcel.specs.Counts.{counts_of}
use Rattle.settle.specs.declared.outcome.Leaving.{Leaving}
use Rattle.settle.specs.declared.outcome.DropLine.{DropLine}
use Rattle.settle.specs.OutcomeView.{OutcomeView}

-- the leaving of a packet with these bytes and this fate, if it left
abbrev pub leaving_of : ℕ → List ℕ → Fate → Option Leaving
leaving_of packet bytes (Left tick) = Some (record { tick = tick; packet = packet; bytes = bytes })
leaving_of packet bytes (Dropped pipe tick cause) = None

-- the drop line of a packet with this fate, if it was dropped
abbrev pub drop_of : ℕ → Fate → Option DropLine
drop_of packet (Left tick) = None
drop_of packet (Dropped pipe tick cause) =
    Some (record { packet = packet; pipe = pipe; tick = tick; cause = cause })

-- the packets that left, in packet order, each with its bytes
abbrev pub leavings : SetupView → List Visit → List (List ℕ) → List Leaving
leavings S J bytes = filter_map (λ p. leaving_of p.0.number p.1 (fate_after J p.0)) (zip S.packets bytes)

-- the packets that were dropped, in packet order
abbrev pub drop_lines : SetupView → List Visit → List DropLine
drop_lines S J = filter_map (λ p. drop_of p.number (fate_after J p)) S.packets

-- the order in which packets are written: by tick, then by packet number
abbrev pub LeavesBefore : Leaving → Leaving → Type 0
LeavesBefore a b = (a.tick < b.tick) ⊎ ((a.tick ≡ b.tick) × (a.packet < b.packet))

-- o is the outcome of the setup S whose packets have these bytes, where J is the list of all visits
pub record IsOutcome (S : SetupView) (J : List Visit) (bytes : List (List ℕ)) (o : OutcomeView) : Type 0 where
  -- each packet has its bytes
  pub each_has_bytes : length bytes ≡ length S.packets
  -- the packets that left, each once, with its bytes, at the tick of its fate
  pub leaving : IsPermutation (leavings S J bytes) o.leaving
  -- by tick, then by packet number
  pub in_order : AllPairs LeavesBefore o.leaving
  -- the packets that were dropped, in packet order, with pipe, tick and cause of their fates
  pub dropped : o.dropped ≡ drop_lines S J
  -- what each pipe of the setup did, in pipe order
  pub pipe_counts : o.pipe_counts ≡ map (counts_of J) (range_with_len 0 (length S.pipes))
