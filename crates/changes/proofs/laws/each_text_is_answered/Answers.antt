use Rattle.changes.proofs.TheLaws.{each_text}
use Rattle.changes.proofs.laws.each_text_is_answered.Goals as goal

pub returns : goal.returns
returns c = each_text
