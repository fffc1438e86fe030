use Rattle.gml_reader.proofs.OneAnswer as answers
use Rattle.gml_reader.proofs.laws.one_reading.Goals as goal

pub returns : goal.returns
returns c = answers.one_reading
