-- The journal by ticks: what was before a tick, what is due from it on, and what is in a span of ticks.
use Rattle.std.specs.Prelude.{◌≡◌, ◌⊎◌, ℕ, ◌+◌, ◌<◌, ◌≤◌, ◌==◌, nat_lt, nat_le, ◌&&◌, List, [], length, filter, Some, slice_index}
use Rattle.mn_base.specs.Among.{Among}
use Rattle.journal.specs.declared.setup.PacketPlan.{PacketPlan}
use Rattle.journal.specs.declared.visit.Visit.{Visit}
use Rattle.journal.specs.SetupView.{SetupView, route_of}
use Rattle.journal.specs.Journal.{journal_of}
use Rattle.journal.specs.Fates.{last_visit}

-- the visits before a tick
abbrev pub visits_before : SetupView → ℕ → List Visit
visits_before S end = filter (λ v. nat_lt v.tick end) (journal_of S)

-- the visits from a tick on that are before another
abbrev pub visits_within : SetupView → ℕ → ℕ → List Visit
visits_within S start end = filter (λ v. nat_le start v.tick && nat_lt v.tick end) (journal_of S)

-- u is the visit before v on the packet's way
pub record IsBehind (S : SetupView) (u v : Visit) : Type 0 where
  pub among : Among u (journal_of S)
  pub packet : u.packet ≡ v.packet
  pub hop : v.hop ≡ u.hop + 1

-- a visit from this tick on that is its packet's first, or whose predecessor is before the tick
pub record IsDueFrom (S : SetupView) (end : ℕ) (v : Visit) : Type 0 where
  pub among : Among v (journal_of S)
  pub late : end ≤ v.tick
  pub come : (v.hop ≡ 0) ⊎ ((u : Visit) × IsBehind S u v × (u.tick < end))

-- a packet has an empty route, or its last visit is before the tick
abbrev pub IsDecidedBefore : SetupView → ℕ → PacketPlan → Type 0
IsDecidedBefore S end p =
    (route_of S p.number ≡ [])
    ⊎ ((v : Visit) × (last_visit (journal_of S) p.number ≡ Some v) × (v.tick < end))

-- how many of these visits are to pipes that the core owns
abbrev pub visits_of_core : List ℕ → ℕ → List Visit → ℕ
visits_of_core owners core J = length (filter (λ v. slice_index owners v.pipe == core) J)
