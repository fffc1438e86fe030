use Rattle.std.proofs.Common.{sym, subst}
use Rattle.std.proofs.lemmas.Bool.{MatchBool-at_false}
use Rattle.migrate.specs.Standing.{HaveRunAll}
use Rattle.migrate.proofs.tests.a_run_goes_on_call_by_call.Goals as goal

-- the last call runs nothing, since all is run
pub finish-requires : goal.finish-requires
finish-requires g c =
    let ran = c.in_ok-run_window.ensures in
    record { all = subst HaveRunAll (sym (MatchBool-at_false _ _ c.if-branch.false ran.runs)) (ran.left.0 c.if-branch.false) }
