use Rattle.parcel.proofs.Crossings.{lookahead_holds}
use Rattle.parcel.proofs.laws.lookahead_holds.Goals as goal

pub returns : goal.returns
returns c = lookahead_holds c.args.setup.now c.parts-parts.ensures.kept
