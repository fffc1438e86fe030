use Rattle.std.proofs.Common.{length}
use Rattle.gml_lex.proofs.Lexed.{Lexed}
use Rattle.gml_lex.proofs.lexer.tokens.Given as goal

abbrev pub invariant-loop-rest : goal.invariant-loop-rest
invariant-loop-rest l = Lexed l.text l.rest l.tokens.items

abbrev pub decreases-loop-rest : goal.decreases-loop-rest
decreases-loop-rest l = length l.rest
