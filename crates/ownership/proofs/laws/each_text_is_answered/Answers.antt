use Rattle.ownership.proofs.Readings.{each_text}
use Rattle.ownership.proofs.laws.each_text_is_answered.Goals as goal

pub returns : goal.returns
returns c = each_text
