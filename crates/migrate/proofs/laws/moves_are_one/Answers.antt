use Rattle.migrate.proofs.OneRun.{moves_are_one}
use Rattle.migrate.proofs.laws.moves_are_one.Goals as goal

pub returns : goal.returns
returns c = moves_are_one c.args.setup.now
