-- Where the knowledge of a visit comes from, and what a core knows of as it makes its parcels of a number.
use Rattle.std.specs.Prelude.{◌≡◌, ◌≢◌, ◌⊎◌, ℕ, ◌+◌, ◌<◌, ◌≤◌, ◌==◌, ◌&&◌, Option, Some, None, find}
use Rattle.mn_base.specs.Among.{Among}
use Rattle.journal.specs.declared.visit.Visit.{Visit}
use Rattle.journal.specs.SetupView.{SetupView}
use Rattle.journal.specs.Journal.{journal_of}
use Rattle.parcel.specs.Owners.{owner_of, entry_core}
use Rattle.parcel.specs.Windows.{window_of}

-- where the knowledge of a visit comes from
pub record Origin : Type 0 where
  -- the core that knows of the visit first
  pub core : ℕ
  -- the number of the parcels that this core makes when it knows of it
  pub number : ℕ

-- the visit before this one on the packet's way
abbrev pub predecessor : SetupView → Visit → Option Visit
predecessor S v = find (λ u. (u.packet == v.packet) && (u.hop + 1 == v.hop)) (journal_of S)

-- a first visit is known to the core at which its packet enters, from the start; any other to the core that made the visit before
-- it, once the window of that one is run
abbrev pub origin_behind : SetupView → Visit → Option Visit → Origin
origin_behind S v None = record { core = entry_core S v.packet; number = 0 }
origin_behind S v (Some u) = record { core = owner_of S u.pipe; number = window_of S u.tick + 1 }

unfoldable pub origin_of : SetupView → Visit → Origin
origin_of S v = origin_behind S v (predecessor S v)

-- what a core knows of a visit that isn't run yet, as it makes its parcels of this number: it is its own, and it knew of it by
-- itself or was told in an earlier parcel; or it is to tell the owner in these parcels
abbrev pub KnowsOf : SetupView → ℕ → ℕ → Visit → Type 0
KnowsOf S core number v =
    ((owner_of S v.pipe ≡ core) × ((origin_of S v).core ≡ core) × ((origin_of S v).number ≤ number))
    ⊎ (((owner_of S v.pipe ≡ core) × ((origin_of S v).core ≢ core) × ((origin_of S v).number < number))
    ⊎ ((owner_of S v.pipe ≢ core) × ((origin_of S v).core ≡ core) × ((origin_of S v).number ≡ number)))

-- a visit that a core knows of and that isn't in an earlier window
pub record IsKnown (S : SetupView) (core number : ℕ) (v : Visit) : Type 0 where
  pub among : Among v (journal_of S)
  pub window : number ≤ window_of S v.tick
  pub knows : KnowsOf S core number v

-- the least tick of such a visit; none where the core knows of none
abbrev pub IsLeastKnown : SetupView → ℕ → ℕ → Option ℕ → Type 0
IsLeastKnown S core number None = (v : Visit) → IsKnown S core number v → ⊥
IsLeastKnown S core number (Some tick) =
    ((v : Visit) × IsKnown S core number v × (v.tick ≡ tick))
    × ((v : Visit) → IsKnown S core number v → tick ≤ v.tick)
