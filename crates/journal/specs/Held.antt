-- The due visits that the maker of the journal holds, each with the index of its packet.
use Rattle.std.specs.Prelude.{◌≡◌, ℕ, ◌<◌, List, length, map, Some, slice_get}
use Rattle.mn_base.specs.Among.{Among}
use Rattle.mn_base.specs.declared.due.Due.{Due}
use Rattle.pipe.specs.Scheme.{HoldsPending, IsGrowingBy}
use Rattle.pipe.specs.declared.due_visits.DueVisit.{DueVisit}
use Rattle.pipe.specs.HeldVisits.{plain, TakesVisit}
use Rattle.journal.specs.declared.setup.PacketPlan.{PacketPlan}
use Rattle.journal.specs.declared.visit.Visit.{Visit}
use Rattle.journal.specs.SetupView.{SetupView, route_of}
use Rattle.journal.specs.IsSetup.{IsSetup}
use Rattle.journal.specs.Hops.{entry}
use Rattle.journal.specs.IsJournal.{scheme_of}
use Rattle.journal.specs.IsPipe.{SetupPipeView, ArePipes}

-- the packet of a due visit stands at its index
pub record IsIndexed (S : SetupView) (w : DueVisit) : Type 0 where
  pub plan : PacketPlan
  pub at : slice_get S.packets w.index ≡ Some plan
  pub number : plan.number ≡ w.due.packet
  pub within : w.due.hop < length (route_of S w.due.packet)

-- a due visit is the first of a packet below this index
pub record IsFirstBelow (S : SetupView) (indexes : ℕ) (w : DueVisit) : Type 0 where
  pub index : ℕ
  pub plan : PacketPlan
  pub below : index < indexes
  pub at : slice_get S.packets index ≡ Some plan
  pub due : entry S plan ≡ Some w.due

-- the first visits of the packets below this index are held
pub record HaveEntered (S : SetupView) (indexes : ℕ) (held : List DueVisit) : Type 0 where
  pub indexed : (w : DueVisit) → Among w held → IsIndexed S w
  pub first : (w : DueVisit) → Among w held → IsFirstBelow S indexes w
  pub all :
      (index : ℕ) (p : PacketPlan) (x : Due) → index < indexes → slice_get S.packets index ≡ Some p
      → entry S p ≡ Some x → Among x (map plain held)

-- what is pending after J is held, and nothing else
pub record IsHeld (S : SetupView) (J : List Visit) (held : List DueVisit) : Type 0 where
  pub indexed : (w : DueVisit) → Among w held → IsIndexed S w
  pub pending : HoldsPending (scheme_of S) J (map plain held)

-- the maker has made the visits of J, with these pipes, this many of them, and holds what is pending
pub record IsMaking (S : SetupView) (J : List Visit) (pipes : List SetupPipeView) (held : List DueVisit) (made : ℕ) : Type 0 where
  pub setup : IsSetup S
  pub growing : IsGrowingBy (scheme_of S) J
  pub pipes_are : ArePipes S J pipes
  pub held_is : IsHeld S J held
  pub count : made ≡ length J

-- the same, but that the next visit was taken out
pub record IsToMake (S : SetupView) (J : List Visit) (next : DueVisit) (pipes : List SetupPipeView) (rest : List DueVisit)
    (made : ℕ) : Type 0 where
  pub held : List DueVisit
  pub making : IsMaking S J pipes held made
  pub takes : TakesVisit held next rest
