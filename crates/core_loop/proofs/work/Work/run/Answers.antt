use Rattle.std.proofs.Common.{◌≡◌, ◌+◌, Bool, MatchBool, subst}
use Rattle.core_loop.specs.Work.{HasRun}
use Rattle.core_loop.proofs.Running.{fewer-left}
use Rattle.core_loop.proofs.work.Work.run.Goals as goal

pub loop-smaller : goal.loop-smaller
loop-smaller c =
    fewer-left c.loop.self c.run_next.new.self c.run_next.ensures.stays c.in_ok-run_next.ensures.runs
    (subst (λ (b : Bool). MatchBool b (c.run_next.new.self.counts.visits ≡ c.loop.self.counts.visits + 1) (HasRun c.run_next.new.self))
    c.if-branch.true c.in_ok-run_next.ensures.more)
