-- What a settled packet adds to the outcome, and the settled packets of a run.
use Rattle.std.specs.Prelude.{◌≡◌, ◌≢◌, ℕ, List, length, map, AllPairs, Option}
use Rattle.std.specs.Option.{option_and_then}
use Rattle.mn_base.specs.Among.{Among}
use Rattle.journal.specs.declared.setup.PacketPlan.{PacketPlan}
use Rattle.journal.specs.SetupView.{SetupView}
use Rattle.parcel.specs.declared.core_result.Settled.{Settled}
use Rattle.parcel.specs.Results.{IsSettled}
use Rattle.settle.specs.declared.outcome.Leaving.{Leaving}
use Rattle.settle.specs.declared.outcome.DropLine.{DropLine}
use Rattle.settle.specs.IsOutcome.{leaving_of, drop_of}

-- its leaving, if it left
abbrev pub leaving_settled : Settled → Option Leaving
leaving_settled t = option_and_then (λ bytes. leaving_of t.packet bytes t.fate) t.bytes

-- its drop line, if it was dropped
abbrev pub drop_settled : Settled → Option DropLine
drop_settled t = drop_of t.packet t.fate

-- the settled packets of this core of the setup S whose packets have these bytes
pub record AreAllSettledAt (S : SetupView) (bytes : List (List ℕ)) (core : ℕ) (list : List Settled) : Type 0 where
  -- packets that entered there, with their fates, and with their bytes where they left
  pub settled : (t : Settled) → Among t list → IsSettled S bytes core t
  -- all of them
  pub all : (p : PacketPlan) → Among p S.packets → p.core ≡ core → Among p.number (map (λ t. t.packet) list)
  -- and each once
  pub once : AllPairs (λ t u. t.packet ≢ u.packet) list

-- the settled packets of all cores of the setup S whose packets have these bytes, in any order
pub record AreAllSettled (S : SetupView) (bytes : List (List ℕ)) (list : List Settled) : Type 0 where
  -- each packet of the setup has its bytes
  pub each_has_bytes : length bytes ≡ length S.packets
  -- packets with their fates, and with their bytes where they left
  pub settled : (t : Settled) → Among t list → (core : ℕ) × IsSettled S bytes core t
  -- all packets of the setup
  pub all : (p : PacketPlan) → Among p S.packets → Among p.number (map (λ t. t.packet) list)
  -- and each once
  pub once : AllPairs (λ t u. t.packet ≢ u.packet) list
