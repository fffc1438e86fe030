use Rattle.gml_reader.proofs.Checked.{IsRead}
use Rattle.gml_reader.proofs.grammar.check.Given as goal

abbrev pub invariant-loop-at : goal.invariant-loop-at
invariant-loop-at l = IsRead l.tokens l.at l.wanted l.depth
