-- Where a core is while all of them run: here, turned by the caller, or there, on a thread of its own.
use Rattle.std.specs.Prelude.{◌≡◌, ℕ, false, List, length, Some, slice_get}
use Rattle.journal.specs.SetupView.{SetupView}
use Rattle.parcel.specs.Results.{IsResult}
use Rattle.core_loop.specs.CoreView.{CoreView}
use Rattle.core_loop.specs.WorldState.{CoreStands}
use Rattle.core_loop.specs.Turns.{IsCoreDone}
use Rattle.workers.specs.declared.place.Place.{Place}
use Rattle.workers.specs.declared.place.Place.TheVariants.{Here, There}
use Rattle.workers.specs.declared.ran.Ran.{Ran}
use Rattle.workers.specs.declared.station.Station.{Station}
use Rattle.workers.specs.Standing.{ComesBack, GoesOn}

-- it is the place of this core, which was given to it before its first turn
abbrev pub IsPlaceOf : Station → Place → Type 0
IsPlaceOf given (Here station) = ComesBack given.core station.core
IsPlaceOf given (There handle) = handle.promise.0.value ≡ given.core

-- what becomes of a place while the caller turns its own cores
abbrev pub StaysPlace : Place → Place → Type 0
StaysPlace (Here a) (Here b) = GoesOn a.core b.core
StaysPlace (Here a) (There h) = ⊥
StaysPlace (There g) (Here b) = ⊥
StaysPlace (There g) (There h) = h ≡ g

-- the caller has waited for the worker, if there was one
abbrev pub ComesHere : Place → Place → Type 0
ComesHere (Here a) (Here b) = b ≡ a
ComesHere (There h) (Here b) = ComesBack h.promise.0.value b.core
ComesHere p (There h) = ⊥

-- the core is here
abbrev pub IsHere : Place → Type 0
IsHere (Here station) = Unit {0}
IsHere (There handle) = ⊥

-- a core that is here is done
abbrev pub IsDoneHere : Place → Type 0
IsDoneHere (Here station) = IsCoreDone station.core × (station.core.failed ≡ false)
IsDoneHere (There handle) = Unit {0}

-- the core of this number is here and done
pub record HasEndedAt (S : SetupView) (core : ℕ) (c : CoreView) : Type 0 where
  pub setup : c.setup ≡ S
  pub number : c.number ≡ core
  pub done : IsCoreDone c
  pub works : c.failed ≡ false

abbrev pub IsEndedAt : SetupView → ℕ → Place → Type 0
IsEndedAt S core (Here station) = HasEndedAt S core station.core
IsEndedAt S core (There handle) = ⊥

-- all cores of the setup are, in core order
pub record AreEnded (S : SetupView) (places : List Place) : Type 0 where
  pub count : length places ≡ S.cores
  pub each : (core : ℕ) (place : Place) → slice_get places core ≡ Some place → IsEndedAt S core place

-- what is told of a core that was here and is finished
pub record IsRanOf (station : Station) (ran : Ran) : Type 0 where
  pub result : (bytes : List (List ℕ)) → CoreStands bytes station.core
      → IsResult station.core.setup bytes station.core.number ran.result
  pub ports : ran.ports ≡ station.ports

abbrev pub IsRanAt : Place → Ran → Type 0
IsRanAt (Here station) ran = IsRanOf station ran
IsRanAt (There handle) ran = ⊥
