use Rattle.std.proofs.Common.{◌≡◌, ◌+◌, sym, ap, ◌∙◌, subst, arith}
use Rattle.std.proofs.lemmas.Bool.{MatchBool-at_true, MatchBool-at_false}
use Rattle.journal.specs.SetupView.{SetupView}
use Rattle.migrate.specs.ShelvesView.{ShelvesView}
use Rattle.migrate.specs.Standing.{HaveRunAll, RunsWindow}
use Rattle.migrate.specs.UnderWay.{HasCome, HaveMovedAll}
use Rattle.migrate.proofs.MovesMade.{moved-later}
use Rattle.migrate.proofs.UnderWay.{come-moved, owners-made}
use Rattle.migrate.proofs.WindowsRun.{stand-then, run-come, few-then, few-fit}
use Rattle.migrate.proofs.moves.run_all.Goals as goal
use Rattle.migrate.proofs.moves.run_all.Goals.{Then-not-branch, Else-not-branch}

-- nothing is run where no visit is left
stays : (c : Then-not-branch) → c.move_due.new.shelves ≡ c.run_window.new.self
stays c = sym (MatchBool-at_false _ _ c.if-not-branch.true c.in_ok-run_window.ensures.runs)

pub returns-then-not-branch-clause-come : goal.returns-then-not-branch-clause-come
returns-then-not-branch-clause-come c =
    subst (HasCome c.args.shelves.now.setup c.args.moves.now c.windows.windows) (stays c)
    (come-moved c.args.shelves.now.setup c.args.moves.now c.windows.windows c.windows.shelves c.move_due.new.shelves
    c.windows.invariant.come c.in_ok-next.ensures.same)

pub returns-then-not-branch-clause-owners : goal.returns-then-not-branch-clause-owners
returns-then-not-branch-clause-owners c =
    ap (λ (w : ShelvesView). w.owners) (sym (stays c))
    ∙ owners-made c.args.shelves.now.setup c.args.moves.now c.in_ok-next.next c.windows.windows c.move_due.new.shelves c.requires.order
    (subst (λ (S : SetupView). HaveMovedAll S c.args.moves.now c.in_ok-next.next c.windows.windows c.move_due.new.shelves)
    c.windows.invariant.come.setup c.in_ok-next.ensures.moved)

pub returns-then-not-branch-clause-all : goal.returns-then-not-branch-clause-all
returns-then-not-branch-clause-all c =
    subst HaveRunAll (stays c) (c.in_ok-run_window.ensures.left.0 c.if-not-branch.true)

pub returns-then-not-branch-clause-still : goal.returns-then-not-branch-clause-still
returns-then-not-branch-clause-still c = λ bytes s.
    c.in_ok-run_window.ensures.stands bytes (c.in_ok-next.ensures.still bytes (c.windows.invariant.still bytes s))

pub overflow_add-windows : goal.overflow_add-windows
overflow_add-windows c =
    omega (arith, few-fit c.args.shelves.now.setup c.windows.windows c.requires.setup c.windows.invariant.few)

-- before the window the moves are made
moved : (c : Else-not-branch)
    → HaveMovedAll c.args.shelves.now.setup c.args.moves.now c.in_ok-next.next c.windows.windows c.move_due.new.shelves
moved c =
    subst (λ (S : SetupView). HaveMovedAll S c.args.moves.now c.in_ok-next.next c.windows.windows c.move_due.new.shelves)
    c.windows.invariant.come.setup c.in_ok-next.ensures.moved

runs : (c : Else-not-branch) → RunsWindow c.move_due.new.shelves c.run_window.new.self
runs c = MatchBool-at_true _ _ c.if-not-branch.false c.in_ok-run_window.ensures.runs

come : (c : Else-not-branch) → HasCome c.args.shelves.now.setup c.args.moves.now (c.windows.windows + 1) c.run_window.new.self
come c =
    let r = c.in_ok-run_window.ensures in
    run-come c.args.shelves.now.setup c.args.moves.now c.in_ok-next.next c.windows.windows c.windows.shelves c.move_due.new.shelves
    c.run_window.new.self c.requires.setup (record {
      order = c.requires.order;
      come = c.windows.invariant.come;
      moved = moved c;
      same = c.in_ok-next.ensures.same;
      stand = c.in_ok-next.ensures.stands;
    }) (record { setup = r.setup; works = r.works; still = r.stands; runs = runs c })

pub windows-preserved : goal.windows-preserved
windows-preserved c =
    let i = c.windows.invariant in
    let r = c.in_ok-run_window.ensures in
    let next = come c in
    record {
      come = next;
      moved = moved-later c.args.shelves.now.setup c.args.moves.now c.in_ok-next.next c.windows.windows c.move_due.new.shelves
          c.run_window.new.self (moved c).moved (runs c).owners;
      stands = stand-then c.move_due.new.shelves c.run_window.new.self c.in_ok-next.ensures.stands r.stands;
      still = λ bytes s. r.stands bytes (c.in_ok-next.ensures.still bytes (i.still bytes s));
      few = few-then c.args.shelves.now.setup c.args.moves.now (c.windows.windows + 1) c.run_window.new.self next r.few;
    }
