use Rattle.std.proofs.Common.{◌++◌, ap, ◌∙◌, sym, subst, arith}
use Rattle.journal.specs.Hops.{pipe_of}
use Rattle.core_loop.specs.Work.{WorkView, Chooses}
use Rattle.core_loop.proofs.Making.{comes-to, makes}
use Rattle.core_loop.proofs.Running.{visits-few}
use Rattle.core_loop.proofs.work.Work.visit.Goals as goal

pub visit-requires-clause-comes : goal.visit-requires-clause-comes
visit-requires-clause-comes c =
    let m = subst (λ (w : WorkView). Chooses w c.args.due) (sym c.self.view_is) c.requires.chosen in (
      c.self.inside.number,
      m.front ++ m.chosen.skipped,
      comes-to _ c.args.due m c.args.pipe (c.requires.pipe ∙ ap (λ (w : WorkView). pipe_of w.setup c.args.due) (sym c.self.view_is)),
    )

pub overflow_add-self : goal.overflow_add-self
overflow_add-self c =
    let m = subst (λ (w : WorkView). Chooses w c.args.due) (sym c.self.view_is) c.requires.chosen in
    omega (arith, visits-few _ c.args.due m)

pub returns-clause-made : goal.returns-clause-made
returns-clause-made c =
    let m = subst (λ (w : WorkView). Chooses w c.args.due) (sym c.self.view_is) c.requires.chosen in
    let comes =
    comes-to _ c.args.due m c.args.pipe (c.requires.pipe ∙ ap (λ (w : WorkView). pipe_of w.setup c.args.due) (sym c.self.view_is)) in
    makes _ c.args.due m c.in_ok-step.step c.visit.new.self
    (c.in_ok-step.ensures.step c.self.inside.number (m.front ++ m.chosen.skipped) comes)
    (c.in_ok-step.ensures.run c.self.inside.number (m.front ++ m.chosen.skipped) comes)
