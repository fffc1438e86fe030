use Rattle.parcel.proofs.Notes.{parcels_are_one}
use Rattle.parcel.proofs.laws.parcels_are_one.Goals as goal

pub returns : goal.returns
returns c = parcels_are_one c.args.setup.now c.parts-parts.ensures.kept
