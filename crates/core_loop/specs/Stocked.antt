-- The stores of cores before anything is run: each holds the bytes of the packets that enter there.
use Rattle.std.specs.Prelude.{◌≡◌, ℕ, List, [], length, Some, IsSome, slice_get}
use Rattle.std.specs.FinMap as map
use Rattle.mn_base.specs.Among.{Among}
use Rattle.journal.specs.declared.setup.PacketPlan.{PacketPlan}
use Rattle.journal.specs.SetupView.{SetupView}
use Rattle.parcel.specs.Results.{packet_bytes}
use Rattle.payload_store.specs.StoreView.{StoreView}

-- a packet of the setup enters at this core
pub record Enters (S : SetupView) (core : ℕ) (p : PacketPlan) : Type 0 where
  pub among : Among p S.packets
  pub entered : p.core ≡ core

-- the store holds just the packets that enter at this core, and has released none
pub record HoldsEntrants (S : SetupView) (core : ℕ) (store : StoreView) : Type 0 where
  pub all : (p : PacketPlan) → Enters S core p → IsSome (map.get store.held p.number)
  pub only : (number : ℕ) → IsSome (map.get store.held number) → (p : PacketPlan) × Enters S core p × (p.number ≡ number)
  pub released : store.released ≡ []

-- these are the bytes of the setup's packets, and those that enter at this core have them in the store
pub record AreBytesOf (S : SetupView) (core : ℕ) (store : StoreView) (bytes : List (List ℕ)) : Type 0 where
  pub each_has_bytes : length bytes ≡ length S.packets
  pub in_store : (p : PacketPlan) → Enters S core p → map.get store.held p.number ≡ Some (packet_bytes S bytes p.number)

-- one store for each core, in core order, each with the packets that enter there
pub record AreStores (S : SetupView) (stores : List StoreView) : Type 0 where
  pub one_a_core : length stores ≡ S.cores
  pub holds : (core : ℕ) (store : StoreView) → slice_get stores core ≡ Some store → HoldsEntrants S core store

-- these are the bytes of the setup's packets, and each store has those of its own
abbrev pub AreBytesIn : SetupView → List StoreView → List (List ℕ) → Type 0
AreBytesIn S stores bytes = (core : ℕ) (store : StoreView) → slice_get stores core ≡ Some store → AreBytesOf S core store bytes
