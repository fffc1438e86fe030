-- What contracts see of a core's ports between threads.
use Rattle.std.specs.Prelude.{◌≡◌, ℕ, ◌<◌, ◌≤◌, List, length, slice_index, slice_index_or}
use Rattle.atomic_table.specs.Seated.{TableId}
use Rattle.journal.specs.SetupView.{SetupView}

pub record GatePortsView : Type 0 where
  pub setup : SetupView
  pub core : ℕ
  -- by core: the lane to it, and the lane from it
  pub post_lanes : List TableId
  pub take_lanes : List TableId
  -- how many parcels were posted to it, and taken from it
  pub posted : List ℕ
  pub taken : List ℕ
  -- and how often a post to it found its box not free, and a take from it no parcel
  pub post_misses : List ℕ
  pub take_misses : List ℕ
  -- and the gate words that were read where this happened last
  pub post_words : List ℕ
  pub take_words : List ℕ

-- how many parcels were posted to a core, and taken from one
abbrev pub lane_posted : GatePortsView → ℕ → ℕ
lane_posted v j = slice_index v.posted j

abbrev pub lane_taken : GatePortsView → ℕ → ℕ
lane_taken v j = slice_index v.taken j

-- nothing falls: no number of parcels, and no count of misses; and the lanes stay
pub record NothingFalls (p q : GatePortsView) : Type 0 where
  pub setup : q.setup ≡ p.setup
  pub core : q.core ≡ p.core
  pub post_lanes : q.post_lanes ≡ p.post_lanes
  pub take_lanes : q.take_lanes ≡ p.take_lanes
  pub posts : (j : ℕ) → slice_index p.posted j ≤ slice_index q.posted j
  pub takes : (j : ℕ) → slice_index p.taken j ≤ slice_index q.taken j
  pub post_misses : (j : ℕ) → slice_index p.post_misses j ≤ slice_index q.post_misses j
  pub take_misses : (j : ℕ) → slice_index p.take_misses j ≤ slice_index q.take_misses j

-- the count of misses rose at the end of the lane to a core
abbrev pub PostMissed : GatePortsView → ℕ → GatePortsView → Type 0
PostMissed p to q = slice_index p.post_misses to < slice_index q.post_misses to

-- at the end of the lane from a core
abbrev pub TakeMissed : GatePortsView → ℕ → GatePortsView → Type 0
TakeMissed p from q = slice_index p.take_misses from < slice_index q.take_misses from

-- the ports of a core, with nothing posted or taken, and no miss
pub record IsFresh (S : SetupView) (number : ℕ) (p : GatePortsView) : Type 0 where
  pub setup : p.setup ≡ S
  pub core : p.core ≡ number
  pub posted : (j : ℕ) → slice_index p.posted j ≡ 0
  pub taken : (j : ℕ) → slice_index p.taken j ≡ 0
  pub post_misses : (j : ℕ) → slice_index p.post_misses j ≡ 0
  pub take_misses : (j : ℕ) → slice_index p.take_misses j ≡ 0

-- the ports of all cores fit together: the lane by which one core posts to another is the lane by which that other takes from it
abbrev pub AreJoined : List GatePortsView → Type 0
AreJoined all =
    (from to : ℕ) (p q : GatePortsView) (t u : TableId) → from < length all → to < length all
    → slice_index_or (slice_index_or all from p).post_lanes to t ≡ slice_index_or (slice_index_or all to q).take_lanes from u

-- a fact of each element and its index
abbrev pub EachAt : {X : Type 0} → (ℕ → X → Type 0) → List X → Type 0
EachAt {X} P xs = (j : ℕ) (d : X) → j < length xs → P j (slice_index_or xs j d)
