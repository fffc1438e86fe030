use Rattle.parcel.proofs.Leasts.{least_holds}
use Rattle.parcel.proofs.laws.least_holds.Goals as goal

pub returns : goal.returns
returns c = least_holds c.args.setup.now c.parts-parts.ensures.kept
