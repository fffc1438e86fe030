use Rattle.std.proofs.Common.{◌≡◌, ◌+◌, ◌++◌, ◌≤◌, Bool, MatchBool, length, ap, ◌∙◌, subst, arith}
use Rattle.journal.specs.SetupView.{SetupView}
use Rattle.journal.specs.Journal.{journal_of}
use Rattle.migrate.specs.Running.{HaveNoneBefore, StaysAtRun, HasRunBefore}
use Rattle.migrate.proofs.RunsLater.{runs-nothing, runs-then, stays-same, stays-then}
use Rattle.migrate.proofs.shelves.Shelves.run_before.Goals as goal
use Rattle.migrate.proofs.shelves.Shelves.run_before.Goals.{In_ok-run_next}

pub loop-init : goal.loop-init
loop-init c = record { run = runs-nothing c.args.end c.args.self.now; stays = stays-same c.args.self.now }

pub run_next-requires-clause-runs : goal.run_next-requires-clause-runs
run_next-requires-clause-runs c =
    let q = c.requires.runs in
    let p = c.loop.invariant.run q.0 q.1 q.2 in
    (q.0, q.1 ++ p.part, p.runs)

pub run_next-requires-clause-running : goal.run_next-requires-clause-running
run_next-requires-clause-running c = c.loop.invariant.stays.failed ∙ c.requires.running

pub returns-in_err-run_next-clause-stays : goal.returns-in_err-run_next-clause-stays
returns-in_err-run_next-clause-stays c =
    stays-then c.args.self.now c.loop.self c.run_next.new.self c.loop.invariant.stays c.in_err-run_next.ensures.stays

pub loop-smaller : goal.loop-smaller
loop-smaller c =
    let more : c.run_next.new.self.made ≡ c.loop.self.made + 1 =
    subst (λ (b : Bool). MatchBool b (c.run_next.new.self.made ≡ c.loop.self.made + 1)
    (HaveNoneBefore c.run_next.new.self.shelves c.args.end)) c.if-branch.true c.in_ok-run_next.ensures.more in
    let few : c.run_next.new.self.made ≤ length (journal_of c.run_next.new.self.setup) = c.in_ok-run_next.ensures.few in
    let long : length (journal_of c.run_next.new.self.setup) ≡ length (journal_of c.loop.self.setup) =
    ap (λ (S : SetupView). length (journal_of S)) c.in_ok-run_next.ensures.stays.setup in
    omega (arith, more, few, long)

-- what was run so far, and the next visit
run : (c : In_ok-run_next) → HasRunBefore c.args.end c.args.self.now c.run_next.new.self
run c =
    runs-then c.args.end c.args.self.now c.loop.self c.run_next.new.self c.loop.invariant.stays c.loop.invariant.run
    c.in_ok-run_next.ensures.run

stays : (c : In_ok-run_next) → StaysAtRun c.args.self.now c.run_next.new.self
stays c = stays-then c.args.self.now c.loop.self c.run_next.new.self c.loop.invariant.stays c.in_ok-run_next.ensures.stays

pub loop-preserved : goal.loop-preserved
loop-preserved c = let at = (goal.at.loop-preserved c).In_ok-run_next in record { run = run at; stays = stays at }

pub returns-clause-run : goal.returns-clause-run
returns-clause-run c = run (goal.at.returns-clause-run c).In_ok-run_next

pub returns-clause-stays : goal.returns-clause-stays
returns-clause-stays c = stays (goal.at.returns-clause-stays c).In_ok-run_next
