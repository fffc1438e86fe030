-- The fields of plain boxes.
use Rattle.std.specs.Prelude.{◌≡◌, ℕ, ◌+◌, ◌*◌, ◌^◌, ◌<◌, ◌≤◌, length, map, Option, Some, None, slice_index_or}
use Rattle.mn_base.specs.declared.limits.TheConstants.{CORES_MAX}
use Rattle.parcel.specs.declared.plain_boxes.PlainBox.{PlainBox}
use Rattle.parcel.specs.declared.plain_boxes.PlainBoxes.TheInside.{Inside}
use Rattle.parcel.specs.ParcelView.{ParcelView}
use Rattle.parcel.specs.Windows.{window_count}
use Rattle.parcel.specs.Parcels.{IsParcel}
use Rattle.parcel.specs.PlainBoxesView.{BoxView, PlainBoxesView, place}

-- how many parcels are in a box
abbrev pub parcels_in : Option ParcelView → ℕ
parcels_in None = 0
parcels_in (Some p) = 1

-- the parcel in a box is posted and not yet taken
abbrev pub seen_box : PlainBox → BoxView
seen_box b = record { posted = b.taken + parcels_in b.parcel; taken = b.taken }

abbrev pub boxes_view : Inside → PlainBoxesView
boxes_view s = record { setup = s.setup.now; core = s.core; boxes = map seen_box s.boxes.items }

abbrev pub bare_box : PlainBox
bare_box = record { taken = 0; parcel = None }

-- true of all plain boxes: each parcel is the one that its box is to hold
pub record AreBoxes (s : Inside) : Type 0 where
  pub cores : s.setup.now.cores ≤ CORES_MAX
  pub core : s.core < s.setup.now.cores
  pub few : window_count s.setup.now < 2 ^ 28
  pub count : length s.boxes.items ≡ CORES_MAX * CORES_MAX
  pub parcels : (sender receiver : ℕ) (p : ParcelView) → receiver < CORES_MAX
      → (slice_index_or s.boxes.items (place sender receiver) bare_box).parcel ≡ Some p
      → IsParcel s.setup.now sender receiver (slice_index_or s.boxes.items (place sender receiver) bare_box).taken p
