use Rattle.std.proofs.Common.{◌≡◌, ℕ, List, map, sym, ap, ◌∙◌, subst}
use Rattle.journal.specs.SetupView.{SetupView}
use Rattle.journal.specs.Journal.{journal_of}
use Rattle.parcel.specs.declared.counts.CoreCounts.{CoreCounts}
use Rattle.settle.specs.IsOutcome.{IsOutcome}
use Rattle.settle.specs.OutcomeView.{OutcomeView}
use Rattle.migrate.specs.Moves.{owners_in, AreCountsWithMoves}
use Rattle.migrate.specs.UnderWay.{HasCome}
use Rattle.migrate.proofs.UnderWay.{has-moved, are-counts}
use Rattle.migrate.proofs.moves.run_moves.Goals as goal

pub returns-clause-outcome : goal.returns-clause-outcome
returns-clause-outcome c = λ bytes are.
    subst (λ (S : SetupView). IsOutcome S (journal_of S) bytes c.in_ok-outcome.outcome)
    (c.in_ok-windows.ensures.come.setup ∙ c.in_ok-shelves.ensures.setup)
    (c.in_ok-outcome.ensures.outcome bytes (c.in_ok-windows.ensures.still bytes (c.in_ok-shelves.ensures.stands bytes are)))

pub returns-clause-moves : goal.returns-clause-moves
returns-clause-moves c =
    let come =
    subst (λ (S : SetupView). HasCome S c.args.moves.now c.in_ok-windows.windows c.run_all.new.shelves) c.in_ok-shelves.ensures.setup
    c.in_ok-windows.ensures.come in
    let m =
    has-moved c.args.setup.now c.parts-parts.ensures.kept c.args.moves.now c.in_ok-windows.windows c.run_all.new.shelves come
    c.in_ok-windows.ensures.all c.in_ok-outcome.outcome.cores c.in_ok-outcome.ensures.cores
    (c.in_ok-windows.ensures.stands.1.one_a_core ∙ ap (λ (S : SetupView). S.cores) come.setup) in
    record {
      windows_are = m.windows_are;
      moved_are = c.moves_before.ensures;
      cores = m.cores;
      run_by = m.run_by;
      visits_are =
          c.in_ok-visits.ensures
          ∙ ap (map (λ (core : CoreCounts). core.visits))
          (c.deref.ensures.value ∙ ap (λ (o : OutcomeView). o.cores) c.outcome.view_is)
          ∙ m.visits_are;
    }

pub returns-clause-counts : goal.returns-clause-counts
returns-clause-counts c =
    let come =
    subst (λ (S : SetupView). HasCome S c.args.moves.now c.in_ok-windows.windows c.run_all.new.shelves) c.in_ok-shelves.ensures.setup
    c.in_ok-windows.ensures.come in
    let owners =
    subst (λ (S : SetupView). c.run_all.new.shelves.owners ≡ owners_in S c.args.moves.now c.in_ok-windows.windows)
    c.in_ok-shelves.ensures.setup c.in_ok-windows.ensures.owners in
    subst (λ (visits : List ℕ). AreCountsWithMoves c.args.setup.now c.args.moves.now c.in_ok-windows.windows visits
    c.in_ok-outcome.outcome.cores)
    (sym (c.in_ok-visits.ensures
    ∙ ap (map (λ (core : CoreCounts). core.visits)) (c.deref.ensures.value ∙ ap (λ (o : OutcomeView). o.cores) c.outcome.view_is)))
    (are-counts c.args.setup.now c.parts-parts.ensures.kept c.args.moves.now c.in_ok-windows.windows c.run_all.new.shelves come
    c.in_ok-windows.ensures.all c.in_ok-outcome.outcome.cores c.in_ok-outcome.ensures.cores
    (c.in_ok-windows.ensures.stands.1.one_a_core ∙ ap (λ (S : SetupView). S.cores) come.setup) owners)
