use Rattle.std.proofs.Common.{◌∙◌, ap, sym}
use Rattle.mn_words.specs.Moves.{can_be_made}
use Rattle.mn_words.proofs.MoveLists.{known_cores, windows}
use Rattle.mn_words.proofs.moves.moves_in.Goals as goal

pub returns-clause-ranges : goal.returns-clause-ranges
returns-clause-ranges c = known_cores c.args.cores 0 c.in_ok-moves.moves.items
    (ap (can_be_made c.args.cores 0) (sym c.as_slice.ensures.value) ∙ sym c.can_be_made.ensures ∙ c.if-not-can_be_made.false)
    c.in_ok-moves.ensures.ranges

pub returns-clause-windows : goal.returns-clause-windows
returns-clause-windows c = windows c.args.cores 0 c.in_ok-moves.moves.items
    (ap (can_be_made c.args.cores 0) (sym c.as_slice.ensures.value) ∙ sym c.can_be_made.ensures ∙ c.if-not-can_be_made.false)
