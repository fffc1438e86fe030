use Rattle.std.proofs.Common.{◌+◌, slice_get, sym, ap, ◌∙◌, subst}
use Rattle.migrate.specs.ShelvesView.{ShelfView, pipe_in}
use Rattle.migrate.specs.Running.{ComesToPipe}
use Rattle.migrate.proofs.ShelfSteps.{popped-first}
use Rattle.migrate.proofs.shelf.Shelf.visit.Goals as goal

pub returns-clause-visits : goal.returns-clause-visits
returns-clause-visits c = record {
  due =
      ap (λ (s : ShelfView). s.due) (sym c.self.view_is)
      ∙ popped-first c.self.inside.due c.pop-first.new.self c.pop-first.result c.args.due c.pop-first.ensures.first
      (ap (λ (s : ShelfView). slice_get s.due 0) c.self.view_is ∙ c.requires.first);
  own = λ J comes.
      c.in_ok-step.ensures.own J
      (subst (λ (s : ShelfView). ComesToPipe c.args.setup.now J c.args.due c.args.pipe s.pipes) (sym c.self.view_is) comes);
  other_pipes = λ other not.
      c.in_ok-step.ensures.others other not ∙ ap (λ (s : ShelfView). pipe_in s.pipes other) c.self.view_is;
  settled = ap (λ (s : ShelfView). s.settled) c.self.view_is;
  store = ap (λ (s : ShelfView). s.store) c.self.view_is;
  visits = ap (λ (s : ShelfView). s.visits + 1) c.self.view_is;
}
