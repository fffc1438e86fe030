use Rattle.gml_reader.proofs.OneAnswer as answers
use Rattle.gml_reader.proofs.laws.never_both.Goals as goal

pub returns : goal.returns
returns c = answers.never_both
