use Rattle.std.proofs.Common.{List, sym, subst}
use Rattle.mn_base.specs.declared.due.Due.{Due}
use Rattle.core_loop.specs.Work.{WorkView, Runs, HasRun, IsEnd}
use Rattle.core_loop.proofs.Choosing.{chooses, has-run}
use Rattle.core_loop.proofs.work.Work.run_next.Goals as goal

pub returns-in_default-clause-more : goal.returns-in_default-clause-more
returns-in_default-clause-more c =
    let with_heap : List Due → WorkView = λ heap. record {
      setup = c.self.inside.setup.now;
      number = c.self.inside.number;
      heap = heap;
      pipes = c.self.inside.pipes;
      counts = c.self.inside.counts;
      told = c.self.inside.told.items;
    } in
    let none = c.in_default.ensures.none in
    subst (λ (heap : List Due). HasRun (with_heap heap)) (sym none.0)
    (has-run (with_heap c.self.inside.heap) (subst Runs (sym c.self.view_is) c.requires.runs) c.args.end
    (subst (λ (w : WorkView). IsEnd w c.args.end) (sym c.self.view_is) c.requires.ends) none.1)

pub plan_of-plan-requires : goal.plan_of-plan-requires
plan_of-plan-requires c =
    let first = c.in-Some.ensures.first in
    chooses _ (subst Runs (sym c.self.view_is) c.requires.runs) c.args.end
    (subst (λ (w : WorkView). IsEnd w c.args.end) (sym c.self.view_is) c.requires.ends) c.in-Some.due c.pop_before.new.self first.0 first.1

pub visit-requires-clause-chosen : goal.visit-requires-clause-chosen
visit-requires-clause-chosen c =
    let first = c.in-Some.ensures.first in
    chooses _ (subst Runs (sym c.self.view_is) c.requires.runs) c.args.end
    (subst (λ (w : WorkView). IsEnd w c.args.end) (sym c.self.view_is) c.requires.ends) c.in-Some.due c.pop_before.new.self first.0 first.1
