-- Lanes while they are made.
use Rattle.std.specs.Prelude.{◌≡◌, ℕ, ◌<◌, ◌≤◌, List, [], ◌∷◌, ◌++◌, length, slice_index_or, Vec}
use Rattle.std.specs.declared.alloc.Global.{Global}
use Rattle.atomic_table.specs.Seated.{TableId}
use Rattle.journal.specs.SetupView.{SetupView}
use Rattle.gate_box.specs.EndView.{EndView}
use Rattle.gate_ports.specs.declared.lane_name.LaneName.{LaneName}
use Rattle.gate_ports.specs.GatePortsView.{GatePortsView, EachAt}
use Rattle.gate_ports.specs.GatePorts.{IsLaneEnd, lanes}

-- a fact of each element before an index, and its own index
abbrev pub EachBefore : {X : Type 0} → ℕ → (ℕ → X → Type 0) → List X → Type 0
EachBefore {X} end P xs = (j : ℕ) (d : X) → j < end → j < length xs → P j (slice_index_or xs j d)

-- a fact of each element from an index on, and its own index
abbrev pub EachFrom : {X : Type 0} → ℕ → (ℕ → X → Type 0) → List X → Type 0
EachFrom {X} begin P xs = (j : ℕ) (d : X) → begin ≤ j → j < length xs → P j (slice_index_or xs j d)

-- an end of the lane from one core to another that was not used
pub record IsIdle (S : SetupView) (sender receiver : ℕ) (e : EndView LaneName) : Type 0 where
  pub is : IsLaneEnd S sender receiver e
  pub next : e.next ≡ 0
  pub misses : e.misses ≡ 0

-- the senders of a core to the first `cores` cores
pub record HasSenders (S : SetupView) (cores core : ℕ) (v : Vec (EndView LaneName) Global) : Type 0 where
  pub count : length v.items ≡ cores
  pub each : EachAt (λ j e. IsIdle S core j e) v.items

-- the receivers of a core from the first `cores` cores
pub record HasReceivers (S : SetupView) (cores core : ℕ) (v : Vec (EndView LaneName) Global) : Type 0 where
  pub count : length v.items ≡ cores
  pub each : EachAt (λ j e. IsIdle S j core e) v.items

-- a row of ends: the ends that a core has so far
abbrev pub Row : Type 0
Row = Vec (EndView LaneName) Global

-- the lane at an index of a row
abbrev pub lane_at : Row → ℕ → TableId → TableId
lane_at row j t = slice_index_or (lanes row.items) j t

-- a row gets one more end, which is of this lane
abbrev pub GetsLane : TableId → Row → Row → Type 0
GetsLane lane old new = lanes new.items ≡ lanes old.items ++ lane ∷ []

-- one lane is made: a row of senders and a row of receivers get one end each, and both are of it
pub record JoinsOne (senders more_senders receivers more_receivers : Row) : Type 0 where
  pub sent : (t : TableId) → GetsLane (lane_at more_receivers (length receivers.items) t) senders more_senders
  pub kept : (j : ℕ) (t : TableId) → j < length receivers.items → lane_at more_receivers j t ≡ lane_at receivers j t

-- the rows of senders stand as they stood
abbrev pub Stays : List Row → ℕ → Row → Type 0
Stays old from row = (v : Row) → row ≡ slice_index_or old from v

-- a core's row of senders gets the lane that stands at its index in the row of receivers
abbrev pub JoinsRow : List Row → Row → ℕ → Row → Type 0
JoinsRow old receivers from row = (v : Row) (t : TableId) → GetsLane (lane_at receivers from t) (slice_index_or old from v) row

-- the rows of senders and the rows of receivers made so far: an end of the one and an end of the other that are to be of one lane, are
abbrev pub AreOfOneLane : List Row → List Row → Type 0
AreOfOneLane senders receivers =
    (from to : ℕ) (v w : Row) (t u : TableId) → from < length senders → to < length receivers
    → lane_at (slice_index_or senders from v) to t ≡ lane_at (slice_index_or receivers to w) from u

-- the ports of a core have the lanes of these rows
pub record HasLanes (senders receivers : Row) (p : GatePortsView) : Type 0 where
  pub post_lanes : p.post_lanes ≡ lanes senders.items
  pub take_lanes : p.take_lanes ≡ lanes receivers.items

-- the ports of a core have the lanes of the rows of that core
abbrev pub HasLanesOf : List Row → List Row → ℕ → GatePortsView → Type 0
HasLanesOf senders receivers core p = (v w : Row) → HasLanes (slice_index_or senders core v) (slice_index_or receivers core w) p
