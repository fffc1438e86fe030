-- The ends of a core's lanes.
use Rattle.std.specs.Prelude.{◌≡◌, ℕ, ◌^◌, ◌<◌, List, length, map, slice_index_or}
use Rattle.atomic_table.specs.Seated.{TableId}
use Rattle.journal.specs.SetupView.{SetupView}
use Rattle.gate_box.specs.EndView.{EndView}
use Rattle.parcel.specs.Windows.{window_count}
use Rattle.gate_ports.specs.declared.lane_name.LaneName.{LaneName}
use Rattle.gate_ports.specs.declared.gate_ports.GatePorts.TheInside.{Inside}
use Rattle.gate_ports.specs.GatePortsView.{GatePortsView}

-- an end of the lane from one core to another
pub record IsLaneEnd (S : SetupView) (sender receiver : ℕ) (e : EndView LaneName) : Type 0 where
  pub setup : e.name.setup.now ≡ S
  pub from : e.name.from ≡ sender
  pub to : e.name.to ≡ receiver

abbrev pub lanes : List (EndView LaneName) → List TableId
lanes es = map (λ e. e.lane) es

abbrev pub nexts : List (EndView LaneName) → List ℕ
nexts es = map (λ e. e.next) es

abbrev pub misses : List (EndView LaneName) → List ℕ
misses es = map (λ e. e.misses) es

abbrev pub words : List (EndView LaneName) → List ℕ
words es = map (λ e. e.found) es

abbrev pub ports_view : Inside → GatePortsView
ports_view s = record {
  setup = s.setup.now;
  core = s.core;
  post_lanes = lanes s.senders.items;
  take_lanes = lanes s.receivers.items;
  posted = nexts s.senders.items;
  taken = nexts s.receivers.items;
  post_misses = misses s.senders.items;
  take_misses = misses s.receivers.items;
  post_words = words s.senders.items;
  take_words = words s.receivers.items;
}

-- true of all gate ports: the ends at index j are of the lanes to and from core j
pub record AreEnds (s : Inside) : Type 0 where
  pub few : window_count s.setup.now < 2 ^ 28
  pub core : s.core < s.setup.now.cores
  pub sender_count : length s.senders.items ≡ s.setup.now.cores
  pub receiver_count : length s.receivers.items ≡ s.setup.now.cores
  pub senders : (j : ℕ) (e : EndView LaneName) → j < s.setup.now.cores → IsLaneEnd s.setup.now s.core j (slice_index_or s.senders.items j e)
  pub receivers : (j : ℕ) (e : EndView LaneName) → j < s.setup.now.cores → IsLaneEnd s.setup.now j s.core (slice_index_or s.receivers.items j e)
