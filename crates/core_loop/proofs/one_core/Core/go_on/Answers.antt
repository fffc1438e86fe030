use Rattle.core_loop.proofs.Windows.{window-fails, fails-later}
use Rattle.core_loop.proofs.one_core.Core.go_on.Goals as goal

pub returns-in_default-run_window-clause-comes : goal.returns-in_default-run_window-clause-comes
returns-in_default-run_window-clause-comes g c = (
  fails-later c.args.self.now c.loop-start.self c.run_window.new.self c.loop-start.invariant.rises c.loop-start.invariant.works
      (window-fails c.loop-start.self c.run_window.new.self c.run_window.ensures.same c.loop-start.invariant.traded c.in-Some.ensures.1
      c.run_window.ensures.rises),
  c.in_default-run_window.ensures.failed,
)
