use Rattle.std.proofs.Common.{◌⊎◌, sym, ap, ◌∙◌, subst}
use Rattle.std.specs.Prelude.{◌↔◌, All}
use Rattle.mn_base.specs.Among.{Among}
use Rattle.mn_base.specs.declared.due.Due.{Due}
use Rattle.deadline_heap.specs.Canonical.{HasNoneOf}
use Rattle.migrate.specs.ShelvesView.{ShelfView, pipe_in}
use Rattle.migrate.specs.Moving.{LoadView}
use Rattle.migrate.proofs.shelf.Shelf.receive.Goals as goal

pub insert_all-requires-clause-alone : goal.insert_all-requires-clause-alone
insert_all-requires-clause-alone c =
    subst (λ (s : ShelfView). All (λ (x : Due). HasNoneOf x.packet s.due) c.load.inside.due.items) (sym c.self.view_is)
    (subst (λ (l : LoadView). All (λ (x : Due). HasNoneOf x.packet c.args.self.now.due) l.due) (sym c.load.view_is) c.requires.alone)

pub returns : goal.returns
returns c = record {
  state = λ m e. c.in_ok-put_some.ensures.here m (ap (λ (l : LoadView). l.state) c.load.view_is ∙ e);
  other_pipes = λ other not.
      c.in_ok-put_some.ensures.others other not ∙ ap (λ (s : ShelfView). pipe_in s.pipes other) c.self.view_is;
  canonical = c.in_ok-insert_all.ensures.canonical;
  members = λ x.
      subst (λ (l : LoadView). Among x c.insert_all.new.self ↔ (Among x l.due ⊎ Among x c.args.self.now.due)) c.load.view_is
      (subst (λ (s : ShelfView). Among x c.insert_all.new.self ↔ (Among x c.load.inside.due.items ⊎ Among x s.due)) c.self.view_is
      (c.in_ok-insert_all.ensures.members x));
  settled = ap (λ (s : ShelfView). s.settled) c.self.view_is;
  store = ap (λ (s : ShelfView). s.store) c.self.view_is;
  visits = ap (λ (s : ShelfView). s.visits) c.self.view_is;
}
