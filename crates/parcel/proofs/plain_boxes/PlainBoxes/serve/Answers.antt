use Rattle.parcel.proofs.Boxes.{in_step}
use Rattle.parcel.proofs.plain_boxes.PlainBoxes.serve.Goals as goal

pub returns-clause-in_step : goal.returns-clause-in_step
returns-clause-in_step c = in_step record c.self.inside { core = c.args.core }
