-- The visits that are due at a core: its own, not run yet, and known to it.
use Rattle.std.specs.Prelude.{◌≡◌, ◌≢◌, ◌⊎◌, ℕ, ◌<◌, ◌≤◌, List, Option, Some, None}
use Rattle.mn_base.specs.Among.{Among}
use Rattle.journal.specs.declared.visit.Visit.{Visit}
use Rattle.journal.specs.SetupView.{SetupView}
use Rattle.journal.specs.Journal.{journal_of}
use Rattle.parcel.specs.Owners.{owner_of}
use Rattle.parcel.specs.Windows.{window_of}
use Rattle.parcel.specs.Known.{predecessor, origin_of}

-- the core knows of the visit by itself, or was told in one of the parcels that it has taken, so many of each core
abbrev pub WasTold : SetupView → ℕ → ℕ → (ℕ → ℕ) → Visit → Type 0
WasTold S core windows taken v =
    (((origin_of S v).core ≡ core) × ((origin_of S v).number ≤ windows))
    ⊎ (((origin_of S v).core ≢ core) × ((origin_of S v).number < taken (origin_of S v).core))

-- a visit that is due at a core that has run so many windows and taken so many parcels of each core
pub record IsDueAt (S : SetupView) (core windows : ℕ) (taken : ℕ → ℕ) (v : Visit) : Type 0 where
  pub among : Among v (journal_of S)
  pub owner : owner_of S v.pipe ≡ core
  pub window : windows ≤ window_of S v.tick
  pub told : WasTold S core windows taken v

-- what comes before a visit: nothing; or a visit that the core has made itself, so that it is among those of `front`; or one that
-- another core made in a window before this one, so that it was told
abbrev pub HasComeBy : SetupView → ℕ → ℕ → List Visit → Option Visit → Type 0
HasComeBy S core window front None = Unit {0}
HasComeBy S core window front (Some u) =
    ((owner_of S u.pipe ≡ core) × Among u front)
    ⊎ ((owner_of S u.pipe ≢ core) × (window_of S u.tick < window))

-- a visit that is due at a core that has taken all parcels up to those of this window, and has made its visits of `front`, where
-- those of `rest` are all other visits of the journal
pub record IsDueAfter (S : SetupView) (core window : ℕ) (front rest : List Visit) (v : Visit) : Type 0 where
  pub among : Among v rest
  pub owner : owner_of S v.pipe ≡ core
  pub come : HasComeBy S core window front (predecessor S v)
