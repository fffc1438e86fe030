use Rattle.std.proofs.Common.{◌≡◌, ◌⊎◌, sym, ap, subst}
use Rattle.std.specs.Prelude.{◌↔◌}
use Rattle.mn_base.specs.Among.{Among}
use Rattle.deadline_heap.specs.Canonical.{HasNoneOf}
use Rattle.migrate.specs.ShelvesView.{ShelfView}
use Rattle.migrate.proofs.shelf.Shelf.put_due.Goals as goal

pub insert-requires-clause-alone : goal.insert-requires-clause-alone
insert-requires-clause-alone c =
    subst (λ (s : ShelfView). HasNoneOf c.args.due.packet s.due) (sym c.self.view_is) c.requires.alone

pub returns : goal.returns
returns c = record {
  canonical = c.insert.ensures.canonical;
  members = λ y.
      subst (λ (s : ShelfView). Among y c.insert.new.self ↔ ((c.args.due ≡ y) ⊎ Among y s.due)) c.self.view_is
      (c.in_ok-insert.ensures.members y);
  pipes = ap (λ (s : ShelfView). s.pipes) c.self.view_is;
  settled = ap (λ (s : ShelfView). s.settled) c.self.view_is;
  store = ap (λ (s : ShelfView). s.store) c.self.view_is;
  visits = ap (λ (s : ShelfView). s.visits) c.self.view_is;
}
