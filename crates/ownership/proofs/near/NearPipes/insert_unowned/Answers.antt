use Rattle.ownership.proofs.NodeAdded.{inserted_free}
use Rattle.ownership.proofs.near.NearPipes.insert_unowned.Goals as goal

pub returns : goal.returns
returns c = inserted_free c.insert.result c.args.owners.now c.args.pipe c.args.self.now c.insert.new.self c.insert.ensures
