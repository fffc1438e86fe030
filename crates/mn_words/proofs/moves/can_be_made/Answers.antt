use Rattle.std.proofs.Common.{◌∙◌, sym}
use Rattle.mn_words.proofs.MoveLists.{none_left, goes_on, falls, is_unknown}
use Rattle.mn_words.proofs.moves.can_be_made.Goals.{then-first-window-via-then-first-window, then-first-window-via-else-first-window+then-first-cores}
use Rattle.mn_words.proofs.moves.can_be_made.Goals as goal

pub returns-then-first-window : goal.returns-then-first-window
returns-then-first-window c =
    elim c.then-first-window.branch [
      | then-first-window-via-then-first-window w ↦ sym (c.moves.invariant ∙ falls c.args.cores c.moves.window c.moves.left.now
          c.in-Some.others.now c.in-Some.first.now c.in-Some.ensures.cases.0 w.if-first-window.true)
      | then-first-window-via-else-first-window+then-first-cores w ↦ sym (c.moves.invariant ∙ is_unknown c.args.cores c.moves.window
          c.moves.left.now c.in-Some.others.now c.in-Some.first.now c.in-Some.ensures.cases.0 w.if-first-cores.true)
    ]

pub moves-preserved : goal.moves-preserved
moves-preserved c =
    c.moves.invariant ∙ goes_on c.args.cores c.moves.window c.moves.left.now c.in-Some.others.now c.in-Some.first.now
    c.in-Some.ensures.cases.0 c.if-first-window.false c.if-first-cores.false

pub returns : goal.returns
returns c = sym (c.moves.invariant ∙ none_left c.args.cores c.moves.window c.moves.left.now c.in_default.ensures.cases)
