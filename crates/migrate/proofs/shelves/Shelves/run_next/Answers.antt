use Rattle.std.proofs.Common.{◌+◌, ◌≤◌, List, length, sym, ap, ◌∙◌, subst, arith}
use Rattle.journal.specs.IsSetup.{IsSetup}
use Rattle.journal.specs.Journal.{journal_of}
use Rattle.migrate.specs.ShelvesView.{ShelfView, ShelvesView}
use Rattle.migrate.specs.Running.{HaveNoneBefore}
use Rattle.migrate.proofs.RunsLater.{runs-wider, made-few, then-few, none-early, first-late}
use Rattle.migrate.proofs.shelves.Shelves.run_next.Goals as goal
use Rattle.migrate.proofs.shelves.Shelves.run_next.Goals.{After-first_of}

-- no more visits were made so far than the journal has
few : (c : After-first_of) → c.args.self.now.made ≤ length (journal_of c.args.self.now.setup)
few c =
    let q = c.requires.runs in
    made-few c.args.self.now (subst (λ (w : ShelvesView). IsSetup w.setup) c.self.view_is c.self.invariant.is_setup) q.0 q.1 q.2

pub returns-in_default-clause-more : goal.returns-in_default-clause-more
returns-in_default-clause-more c =
    subst (λ (l : List ShelfView). HaveNoneBefore l c.args.end)
    (c.deref.ensures.value ∙ ap (λ (w : ShelvesView). w.shelves) c.self.view_is)
    (none-early c.deref.result.now c.args.end c.in_default.ensures.none)

pub returns-in_default-clause-few : goal.returns-in_default-clause-few
returns-in_default-clause-few c = few (goal.at.returns-in_default-clause-few c).After-first_of

pub returns-then-head-end-clause-more : goal.returns-then-head-end-clause-more
returns-then-head-end-clause-more c =
    subst (λ (l : List ShelfView). HaveNoneBefore l c.args.end)
    (c.deref.ensures.value ∙ ap (λ (w : ShelvesView). w.shelves) c.self.view_is)
    (first-late c.deref.result.now c.args.end c.in-Some.head c.in-Some.ensures.first c.if-head-end.true)

pub returns-then-head-end-clause-few : goal.returns-then-head-end-clause-few
returns-then-head-end-clause-few c = few (goal.at.returns-then-head-end-clause-few c).After-first_of

pub returns-clause-run : goal.returns-clause-run
returns-clause-run c =
    runs-wider (c.in-Some.head.due.tick + 1) c.args.end c.args.self.now c.make.new.self (let l = c.if-head-end.false in omega (arith, l))
    c.in_ok-make.ensures.run

pub returns-clause-few : goal.returns-clause-few
returns-clause-few c =
    let q = c.requires.runs in
    let is = subst (λ (w : ShelvesView). IsSetup w.setup) c.self.view_is c.self.invariant.is_setup in
    then-few (c.in-Some.head.due.tick + 1) c.args.self.now c.make.new.self (subst IsSetup (sym c.in_ok-make.ensures.stays.setup) is)
    c.in_ok-make.ensures.run q.0 q.1 q.2
