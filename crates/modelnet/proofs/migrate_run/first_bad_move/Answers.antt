use Rattle.std.proofs.Common.{◌<◌, get_or, All, subst, arith}
use Rattle.std.proofs.lemmas.List.{take_all}
use Rattle.std.proofs.lemmas.List.Elements.{All-more}
use Rattle.std.proofs.lemmas.Option.{slice_get-get_or}
use Rattle.mn_words.specs.declared.order.MoveSpec.{MoveSpec}
use Rattle.modelnet.proofs.Moved.{no_move}
use Rattle.modelnet.proofs.migrate_run.first_bad_move.Goals as goal

pub loop-number-preserved : goal.loop-number-preserved
loop-number-preserved c =
    let n = c.loop-number.number in
    let moves = c.args.moves.now in
    let pipes = c.args.pipes in
    All-more (λ (m : MoveSpec). m.pipe < pipes) moves n no_move c.loop-number-test.true c.loop-number.invariant
    (omega (arith, c.if-word-pipes.false))

pub returns-then-word-pipes-clause-bad : goal.returns-then-word-pipes-clause-bad
returns-then-word-pipes-clause-bad c = record {
  move = get_or c.args.moves.now c.loop-number.number no_move;
  at = slice_get-get_or c.args.moves.now c.loop-number.number no_move c.loop-number-test.true;
  no_pipe = c.if-word-pipes.true;
  before = c.loop-number.invariant;
}

pub returns-clause-good : goal.returns-clause-good
returns-clause-good c =
    let pipes = c.args.pipes in
    subst (λ ms. All (λ (m : MoveSpec). m.pipe < pipes) ms)
    (take_all c.loop-number.number c.args.moves.now (omega (arith, c.loop-number-test.false))) c.loop-number.invariant
