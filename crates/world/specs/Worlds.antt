-- What a world keeps, and what becomes of it turn by turn.
use Rattle.std.specs.Prelude.{◌≡◌, ◌≢◌, ◌⊎◌, ℕ, ◌<◌, ◌+◌, true, false, List, [], ◌∷◌, length, Option, Some, slice_get}
use Rattle.journal.specs.SetupView.{SetupView}
use Rattle.parcel.specs.Known.{IsLeastKnown}
use Rattle.parcel.specs.PlainBoxesView.{box_at, HasParcel, HasNoParcel}
use Rattle.core_loop.specs.CoreView.{CoreView, windows_of, posted_of, taken_of, IsOtherCore}
use Rattle.core_loop.specs.WorldState.{CoreStands}
use Rattle.core_loop.specs.Turns.{NoCountFalls, HasMoved, OwesPost, OwesTake, HasTradedAll, IsCoreDone}
use Rattle.world.specs.WorldView.{WorldView, IsCoreOf, IsWorld}

-- ---- what the world keeps

-- it stands for the journal, where the setup's packets have these bytes: each core does. (Each box is empty, or has the one parcel that
-- its receiver wants next: its type keeps that.)
abbrev pub WorldStands : List (List ℕ) → WorldView → Type 0
WorldStands bytes w = (core : ℕ) (c : CoreView) → IsCoreOf w core c → CoreStands bytes c

-- for whatever bytes it stood, it stands for them still, or it has failed
abbrev pub WorldStillStands : WorldView → WorldView → Type 0
WorldStillStands w x = (bytes : List (List ℕ)) → WorldStands bytes w → (x.failed ≡ true) ⊎ WorldStands bytes x

-- ---- one turn

-- a post that this core can make: it owes it, and the box is empty
abbrev pub CanPostParcel : WorldView → ℕ → CoreView → ℕ → Type 0
CanPostParcel w core c other = OwesPost c other × HasNoParcel (box_at w.boxes core other)

-- a take that it can make: it owes it, and the box is full
abbrev pub CanTakeParcel : WorldView → ℕ → CoreView → ℕ → Type 0
CanTakeParcel w core c other = OwesTake c other × HasParcel (box_at w.boxes other core)

-- a window that it can run: all posts and takes of its round are made, and some core knows of a visit
abbrev pub CanRun : CoreView → Type 0
CanRun c = HasTradedAll c × ((core tick : ℕ) × (core < c.setup.cores) × IsLeastKnown c.setup core (windows_of c) (Some tick))

-- nothing can happen at this core
pub record HasNoEvent (w : WorldView) (core : ℕ) (c : CoreView) : Type 0 where
  pub posts : (other : ℕ) → CanPostParcel w core c other → ⊥
  pub takes : (other : ℕ) → CanTakeParcel w core c other → ⊥
  pub runs : CanRun c → ⊥

-- this core has had its turn: the other cores are as they were, none of its own counts has fallen, and one has risen unless nothing could
-- happen
pub record Turned (core : ℕ) (w x : WorldView) : Type 0 where
  pub setup : x.setup ≡ w.setup
  pub others : (other : ℕ) → other ≢ core → slice_get x.cores other ≡ slice_get w.cores other
  pub rises : (c d : CoreView) → IsCoreOf w core c → IsCoreOf x core d → NoCountFalls c d
  pub moves : (c d : CoreView) → IsCoreOf w core c → IsCoreOf x core d → HasMoved c d ⊎ HasNoEvent w core c

-- it has had its turn, and what came of it is a world that works and stands still
pub record TurnedTo (core : ℕ) (w x : WorldView) : Type 0 where
  pub turned : Turned core w x
  pub is_world : IsWorld x
  pub works : x.failed ≡ false
  pub stands : WorldStillStands w x

-- these cores have had their turns, in this order
abbrev pub TurnedBy : List ℕ → WorldView → WorldView → Type 0
TurnedBy [] w x = x ≡ w
TurnedBy (core ∷ order) w x = (between : WorldView) × TurnedTo core w between × TurnedBy order between x

-- every core is done
pub record IsWorldDone (w : WorldView) : Type 0 where
  pub works : w.failed ≡ false
  pub each : (core : ℕ) (c : CoreView) → IsCoreOf w core c → IsCoreDone c
