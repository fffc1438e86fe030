use Rattle.gml_lex.proofs.OneReading as readings
use Rattle.gml_lex.proofs.laws.one_reading.Goals as goal

pub returns : goal.returns
returns c = readings.one_reading
