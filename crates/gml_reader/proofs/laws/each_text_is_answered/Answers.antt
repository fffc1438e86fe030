use Rattle.gml_reader.proofs.EachText as texts
use Rattle.gml_reader.proofs.laws.each_text_is_answered.Goals as goal

pub returns : goal.returns
returns c = texts.each_text_is_answered
