use Rattle.std.proofs.Common.{◌≡◌, ◌≤◌, ◌+◌, ℕ, List, length, true, false, refl, sym, ap, ◌∙◌, subst, arith}
use Rattle.journal.specs.Journal.{journal_of}
use Rattle.parcel.specs.Owners.{owned_by}
use Rattle.parcel.specs.Lookahead.{lookahead_of}
use Rattle.migrate.specs.ShelvesView.{ShelfView, ShelvesView}
use Rattle.migrate.specs.Running.{IsHeadOf, HaveNone, HaveNoneBefore, StaysAtRun, HasRunBefore}
use Rattle.migrate.specs.Standing.{ShelvesStand, HaveRunAll, RunsWindow}
use Rattle.migrate.specs.Inside.{shelves_view}
use Rattle.migrate.proofs.AtRest.{at-rest, rest-known}
use Rattle.migrate.proofs.Windowed.{IsRun, busy-runs, windows-few, nothing-left, some-left, windows-fit, end-fits}
use Rattle.migrate.proofs.Windowed.{done-stands, done-grows, done-windows, done-visits, done-few, done-runs}
use Rattle.migrate.proofs.shelves.Shelves.run_window.Goals as goal
use Rattle.migrate.proofs.shelves.Shelves.run_window.Goals.{In-Some, After-self-2}

-- the first due visit, with which it starts
first : (c : In-Some) → IsHeadOf c.self.inside.shelves.items c.in-Some.head
first c = subst (λ (l : List ShelfView). IsHeadOf l c.in-Some.head) c.deref.ensures.value c.in-Some.ensures.first

-- it is run
run : (c : After-self-2) → IsRun (shelves_view c.self.inside) c.in-Some.head c.lookahead_by.result (shelves_view c.self-2.inside)
run c =
    let busy = record (shelves_view c.self.inside) { failed = true } in
    let end = c.in-Some.head.due.tick + c.lookahead_by.result in
    let view = sym c.self-2.view_is in
    record {
      first = subst (λ (l : List ShelfView). IsHeadOf l c.in-Some.head) c.deref.ensures.value c.in-Some.ensures.first;
      positive = c.lookahead_by.ensures.positive;
      stays = subst (StaysAtRun busy) view c.in_ok-run_before.ensures.stays;
      run = subst (HasRunBefore end busy) view c.in_ok-run_before.ensures.run;
      all = subst (λ (w : ShelvesView). HaveNoneBefore w.shelves end) view c.in_ok-run_before.ensures.all;
    }

pub returns-in_default-clause-left : goal.returns-in_default-clause-left
returns-in_default-clause-left c =
    let before = rest-known c.self.invariant c.if-self.false in
    let none = subst HaveNone c.deref.ensures.value c.in_default.ensures.none in
    ((λ e. subst HaveRunAll c.self.view_is (nothing-left before none)), λ all. refl)

pub returns-in_default-clause-few : goal.returns-in_default-clause-few
returns-in_default-clause-few c =
    subst (λ (w : ShelvesView). w.windows ≤ length (journal_of w.setup)) c.self.view_is
    (windows-few (rest-known c.self.invariant c.if-self.false))

pub overflow_add-end : goal.overflow_add-end
overflow_add-end c =
    let at = goal.at.overflow_add-end c in
    let before = rest-known c.self.invariant c.if-self.false in
    let fits = end-fits before (first at.In-Some) c.lookahead_by.result c.lookahead_by.ensures.most in
    omega (arith, fits)

pub run_before-requires-clause-runs : goal.run_before-requires-clause-runs
run_before-requires-clause-runs c = (_, _, busy-runs (rest-known c.self.invariant c.if-self.false))

pub overflow_add-self : goal.overflow_add-self
overflow_add-self c =
    let at = goal.at.overflow_add-self c in
    let fits = windows-fit (rest-known c.self.invariant c.if-self.false) (first at.In-Some) in
    let same : c.self-2.inside.windows ≡ c.self.inside.windows = (run at.After-self-2).stays.windows in
    omega (arith, fits, same)

pub invariant_of-self-2 : goal.invariant_of-self-2
invariant_of-self-2 c =
    let at = goal.at.invariant_of-self-2 c in
    let before = rest-known c.self.invariant c.if-self.false in
    let is = run at.After-self-2 in
    record {
      is_setup = c.self-2.invariant.is_setup;
      stands = λ e. (_, done-stands before is);
      few = λ e. done-windows before is;
      few_visits = λ e. done-visits before is;
      growing = λ e. done-grows before is;
    }

pub returns-clause-runs : goal.returns-clause-runs
returns-clause-runs c =
    let at = goal.at.returns-clause-runs c in
    let end = c.in-Some.head.due.tick + c.lookahead_by.result in
    subst
    (λ (v : ShelvesView). RunsWindow v
    (record (shelves_view c.self-2.inside) { end = end; windows = c.self-2.inside.windows + 1; failed = false }))
    c.self.view_is
    (done-runs (rest-known c.self.invariant c.if-self.false) (run at.After-self-2)
    (c.lookahead_by.ensures.lookahead
    ∙ ap (λ (owners : List ℕ). lookahead_of (owned_by c.self.inside.setup.now owners)) c.deref-2.ensures.value))

pub returns-clause-left : goal.returns-clause-left
returns-clause-left c =
    let at = goal.at.returns-clause-left c in (
      (λ e. let clash : true ≡ false = e in cc),
      λ all. some-left (rest-known c.self.invariant c.if-self.false) (first at.In-Some) (subst HaveRunAll (sym c.self.view_is) all),
    )

pub returns-clause-stands : goal.returns-clause-stands
returns-clause-stands c = λ bytes s.
    done-stands (at-rest c.self.invariant c.if-self.false (subst (ShelvesStand bytes) (sym c.self.view_is) s))
    (run (goal.at.returns-clause-stands c).After-self-2)

pub returns-clause-few : goal.returns-clause-few
returns-clause-few c =
    let at = goal.at.returns-clause-few c in
    done-few (rest-known c.self.invariant c.if-self.false) (run at.After-self-2)
