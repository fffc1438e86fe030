use Rattle.parcel.proofs.Lookaheads.{is_lookahead}
use Rattle.parcel.proofs.laws.lookahead_is_least.Goals as goal

pub returns : goal.returns
returns c = is_lookahead c.args.setup.now
