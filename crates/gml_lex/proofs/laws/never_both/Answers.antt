use Rattle.gml_lex.proofs.OneReading as readings
use Rattle.gml_lex.proofs.laws.never_both.Goals as goal

pub returns : goal.returns
returns c = readings.never_both
