use Rattle.gml_lex.proofs.SpansInOrder.{spans_in_order}
use Rattle.gml_lex.proofs.laws.spans_in_order.Goals as goal

pub returns : goal.returns
returns c = spans_in_order
