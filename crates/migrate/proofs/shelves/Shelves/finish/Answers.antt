use Rattle.std.proofs.Common.{ℕ, List, IfOk, sym, subst}
use Rattle.std.proofs.lemmas.Result.{IfOk-weaker}
use Rattle.journal.specs.Journal.{journal_of}
use Rattle.settle.specs.Settlements.{AreAllSettled}
use Rattle.settle.specs.IsOutcome.{IsOutcome}
use Rattle.migrate.specs.ShelvesView.{ShelvesView}
use Rattle.migrate.specs.Standing.{ShelvesStand, HaveRunAll}
use Rattle.migrate.specs.Inside.{shelves_view}
use Rattle.migrate.proofs.Finished.{settled-all, counts-all}
use Rattle.migrate.proofs.shelves.Shelves.finish.Goals as goal

pub outcome_of-requires-clause-settled : goal.outcome_of-requires-clause-settled
outcome_of-requires-clause-settled c =
    let q = c.self.invariant.stands c.if-failed.false in
    let all = subst HaveRunAll (sym c.self.view_is) c.requires.all in (
      q.0,
      subst (AreAllSettled c.self.inside.setup.now q.0) (sym c.in_ok-settled.ensures)
          (settled-all (shelves_view c.self.inside) c.self.invariant.is_setup all q.0 q.1),
    )

pub outcome_of-requires-clause-pipe_counts : goal.outcome_of-requires-clause-pipe_counts
outcome_of-requires-clause-pipe_counts c =
    let q = c.self.invariant.stands c.if-failed.false in
    counts-all (shelves_view c.self.inside) c.self.invariant.is_setup (subst HaveRunAll (sym c.self.view_is) c.requires.all) q.0 q.1

pub returns-clause-outcome : goal.returns-clause-outcome
returns-clause-outcome c =
    subst
    (λ (w : ShelvesView). IfOk c.outcome_of.result (λ o. (bytes : List (List ℕ)) → ShelvesStand bytes w
    → IsOutcome w.setup (journal_of w.setup) bytes o)) c.self.view_is
    (IfOk-weaker c.outcome_of.result
    (λ o. (bytes : List (List ℕ)) → AreAllSettled c.self.inside.setup.now bytes c.in_ok-settled.settled.items
    → IsOutcome c.self.inside.setup.now (journal_of c.self.inside.setup.now) bytes o)
    (λ o. (bytes : List (List ℕ)) → ShelvesStand bytes (shelves_view c.self.inside)
    → IsOutcome c.self.inside.setup.now (journal_of c.self.inside.setup.now) bytes o)
    (λ o f bytes s. f bytes
    (subst (AreAllSettled c.self.inside.setup.now bytes) (sym c.in_ok-settled.ensures)
    (settled-all (shelves_view c.self.inside) c.self.invariant.is_setup (subst HaveRunAll (sym c.self.view_is) c.requires.all) bytes s)))
    c.outcome_of.ensures.outcome)
