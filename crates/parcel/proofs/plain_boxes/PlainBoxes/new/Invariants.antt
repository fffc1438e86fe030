use Rattle.std.proofs.Common.{◌≡◌, replicate}
use Rattle.parcel.specs.PlainBoxes.{bare_box}
use Rattle.parcel.proofs.plain_boxes.PlainBoxes.new.Given as goal

abbrev pub invariant-loop-place : goal.invariant-loop-place
invariant-loop-place l = l.boxes.items ≡ replicate l._place bare_box
