use Rattle.std.proofs.Common.{◌∙◌, sym}
use Rattle.mn_words.specs.Values.{colon_parts}
use Rattle.mn_words.proofs.ColonParts.{red_of_few}
use Rattle.mn_words.proofs.RedPipes.{has_few, has_four, has_no_base, has_base, has_more, has_all}
use Rattle.mn_words.proofs.pipes.RedSpecBareWord.said_by.Goals as goal

pub returns-in_err-parts-clause-value : goal.returns-in_err-parts-clause-value
returns-in_err-parts-clause-value c = c.from_residual.ensures ∙ sym (has_few c.args.word.now c.in_err-parts.ensures)

pub returns-in_err-back-clause-value : goal.returns-in_err-back-clause-value
returns-in_err-back-clause-value c =
    c.from_residual-in_err-back.ensures ∙ sym (has_four c.args.word.now c.in_ok-parts.parts.rest c.in_ok-parts.ensures c.in_err-back.was)

pub returns-in_err-base-clause-value : goal.returns-in_err-base-clause-value
returns-in_err-base-clause-value c =
    c.from_residual-in_err-base.ensures
    ∙ sym (has_no_base c.args.word.now c.in_ok-parts.parts.rest c.pipe_of.result c.in_ok-parts.ensures c.pipe_of.ensures.value c.in_err-base.was)

pub returns-in_err-parts-2-clause-value : goal.returns-in_err-parts-2-clause-value
returns-in_err-parts-2-clause-value c =
    let whole = has_base c.args.word.now c.in_ok-parts.ensures c.in_ok-back.was c.pipe_of.ensures.value c.in_ok-base.was in
    c.from_residual-in_err-parts-2.ensures
    ∙ sym (whole ∙ red_of_few c.in_ok-base.base (colon_parts c.in_ok-back.back.now) c.in_err-parts-2.ensures)

pub returns-then-is_some-clause-value : goal.returns-then-is_some-clause-value
returns-then-is_some-clause-value c =
    let whole = has_base c.args.word.now c.in_ok-parts.ensures c.in_ok-back.was c.pipe_of.ensures.value c.in_ok-base.was in
    let ended = has_more c.in_ok-base.base c.in_ok-back.back.now c.in_ok-parts-2.parts.rest c.in_ok-parts-2.ensures
    (sym c.is_some.ensures ∙ c.if-is_some.true) in
    sym (whole ∙ ended)

pub returns-clause-value : goal.returns-clause-value
returns-clause-value c =
    let whole = has_base c.args.word.now c.in_ok-parts.ensures c.in_ok-back.was c.pipe_of.ensures.value c.in_ok-base.was in
    let ended = has_all c.in_ok-base.base c.in_ok-back.back.now c.in_ok-parts-2.parts.rest c.in_ok-parts-2.ensures
    (sym c.is_some.ensures ∙ c.if-is_some.false) in
    c.red_of.ensures.value ∙ sym (whole ∙ ended)
