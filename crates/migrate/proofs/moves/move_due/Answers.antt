use Rattle.std.proofs.Common.{sym, ◌∙◌}
use Rattle.migrate.proofs.MovesMade.{moved-same, same-then, moved-more}
use Rattle.migrate.proofs.moves.move_due.Goals as goal

pub moves-preserved : goal.moves-preserved
moves-preserved c =
    let i = c.moves.invariant in
    let e = c.in_ok-move_pipe.ensures in
    let works = e.works ∙ sym (i.same.works ∙ c.requires.works) in
    let same = moved-same (c.requires.pipes c.moves.next _ c.moves-test.true) i.same i.stands e.setup works e.moves in
    record {
      moved = moved-more _ i.moved c.moves-test.true c.if-moves-next.true e.moves.owners;
      same = same-then _ _ _ i.same same;
      stands = (i.stands.0, e.stands i.stands.0 i.stands.1);
      still = λ bytes s. e.stands bytes (i.still bytes s);
    }
