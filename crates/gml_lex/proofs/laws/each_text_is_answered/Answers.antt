use Rattle.gml_lex.proofs.EachText.{each_text_is_answered}
use Rattle.gml_lex.proofs.laws.each_text_is_answered.Goals as goal

pub returns : goal.returns
returns c = each_text_is_answered
