-- What all cores come to on their threads.
use Rattle.std.specs.Prelude.{◌≡◌, ◌≢◌, ℕ, ◌+◌, ◌<◌, List, map}
use Rattle.journal.specs.SetupView.{SetupView}
use Rattle.parcel.specs.CoreResultView.{CoreResultView}
use Rattle.parcel.specs.Windows.{window_count}
use Rattle.gate_ports.specs.GatePortsView.{GatePortsView, lane_posted, lane_taken}
use Rattle.workers.specs.declared.ran.Ran.{Ran}

-- their results, in core order
abbrev pub results_of : List Ran → List CoreResultView
results_of all = map (λ r. r.result) all

-- the ports are of this core of the setup, and all parcels have gone through them: one before each window, and one after the last
pub record HaveCarriedAll (S : SetupView) (core : ℕ) (p : GatePortsView) : Type 0 where
  pub setup : p.setup ≡ S
  pub core_is : p.core ≡ core
  pub posted : (other : ℕ) → other < S.cores → other ≢ core → lane_posted p other ≡ window_count S + 1
  pub taken : (other : ℕ) → other < S.cores → other ≢ core → lane_taken p other ≡ window_count S + 1
