use Rattle.std.proofs.Common.{◌≡◌, ◌*◌, List, map, slice_index_or, refl, ap, ◌∙◌, arith}
use Rattle.mn_base.specs.declared.limits.TheConstants.{CORES_MAX}
use Rattle.parcel.specs.declared.plain_boxes.PlainBox.{PlainBox}
use Rattle.parcel.specs.PlainBoxesView.{place, idle_box}
use Rattle.parcel.specs.PlainBoxes.{seen_box}
use Rattle.parcel.proofs.Boxes.{first_boxes, all_idle}
use Rattle.parcel.proofs.plain_boxes.PlainBoxes.new.Goals as goal

pub invariant_of-result : goal.invariant_of-result
invariant_of-result c =
    let all : c.loop-place._place ≡ CORES_MAX * CORES_MAX = omega arith in
    first_boxes _ c.parts-parts.ensures.kept refl c.loop-place._place c.loop-place.invariant all

pub returns-clause-idle : goal.returns-clause-idle
returns-clause-idle c = λ sender receiver.
    ap (λ (l : List PlainBox). slice_index_or (map seen_box l) (place sender receiver) idle_box) c.loop-place.invariant
    ∙ all_idle c.loop-place._place (place sender receiver)
