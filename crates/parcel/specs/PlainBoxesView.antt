-- What contracts see of boxes on one thread: the setup, the core that they serve, and for each ordered pair of cores how many parcels
-- were posted and taken.
use Rattle.std.specs.Prelude.{◌≡◌, ◌≢◌, ◌⊎◌, ℕ, ◌+◌, ◌*◌, ◌<◌, ◌≤◌, List, slice_index_or}
use Rattle.mn_base.specs.declared.limits.TheConstants.{CORES_MAX}
use Rattle.journal.specs.SetupView.{SetupView}

-- what contracts see of one box: how many parcels its sender has posted into it, and how many its receiver has taken
pub record BoxView : Type 0 where
  pub posted : ℕ
  pub taken : ℕ

pub record PlainBoxesView : Type 0 where
  pub setup : SetupView
  -- the core that they serve
  pub core : ℕ
  pub boxes : List BoxView

-- the place of the box from one core to another: a row for each sender
abbrev pub place : ℕ → ℕ → ℕ
place sender receiver = CORES_MAX * sender + receiver

abbrev pub idle_box : BoxView
idle_box = record { posted = 0; taken = 0 }

abbrev pub box_at : PlainBoxesView → ℕ → ℕ → BoxView
box_at v sender receiver = slice_index_or v.boxes (place sender receiver) idle_box

-- how many parcels the core that is served has posted to a core, and taken from one
abbrev pub posted_to : PlainBoxesView → ℕ → ℕ
posted_to v receiver = (box_at v v.core receiver).posted

abbrev pub taken_from : PlainBoxesView → ℕ → ℕ
taken_from v sender = (box_at v sender v.core).taken

-- a parcel is in the box
abbrev pub HasParcel : BoxView → Type 0
HasParcel b = b.posted ≡ b.taken + 1

abbrev pub HasNoParcel : BoxView → Type 0
HasNoParcel b = b.posted ≡ b.taken

-- each box is empty or full
abbrev pub AreInStep : PlainBoxesView → Type 0
AreInStep v = (sender receiver : ℕ) → HasNoParcel (box_at v sender receiver) ⊎ HasParcel (box_at v sender receiver)

-- what happens while one core is served: the numbers of every other core stay as they were, and those of this core don't fall
pub record Keeps (p q : PlainBoxesView) : Type 0 where
  pub setup : q.setup ≡ p.setup
  pub core : q.core ≡ p.core
  pub posts_of_others : (sender receiver : ℕ) → receiver < CORES_MAX → sender ≢ p.core
      → (box_at q sender receiver).posted ≡ (box_at p sender receiver).posted
  pub takes_of_others : (sender receiver : ℕ) → receiver < CORES_MAX → receiver ≢ p.core
      → (box_at q sender receiver).taken ≡ (box_at p sender receiver).taken
  pub posts : (receiver : ℕ) → posted_to p receiver ≤ posted_to q receiver
  pub takes : (sender : ℕ) → taken_from p sender ≤ taken_from q sender

-- the box to a core was full
abbrev pub WasFull : PlainBoxesView → ℕ → PlainBoxesView → Type 0
WasFull p receiver q = HasParcel (box_at p p.core receiver)

-- the box from a core was empty
abbrev pub WasEmpty : PlainBoxesView → ℕ → PlainBoxesView → Type 0
WasEmpty p sender q = HasNoParcel (box_at p sender p.core)
