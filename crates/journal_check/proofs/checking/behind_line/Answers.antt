use Rattle.std.proofs.Common.{None, Some, refl, sym, ◌∙◌}
use Rattle.std.proofs.lemmas.Bool.Decides.{Decides-eqb}
use Rattle.std.proofs.lemmas.Slice.Eq.{strip_prefix_is}
use Rattle.journal_check.proofs.Going.{some_left}
use Rattle.journal_check.proofs.checking.behind_line.Goals as goal

pub returns-in-Some-clause-behind : goal.returns-in-Some-clause-behind
returns-in-Some-clause-behind c =
    strip_prefix_is Decides-eqb c.args.text.now c.args.line.now (Some c.in-Some.rest) c.in-Some.ensures.cases

pub returns-else-is_empty-clause-fault : goal.returns-else-is_empty-clause-fault
returns-else-is_empty-clause-fault c = (
  some_left c.args.text.now (sym c.is_empty.ensures ∙ c.if-is_empty.false),
  strip_prefix_is Decides-eqb c.args.text.now c.args.line.now None c.in_default.ensures.cases,
  refl,
)
