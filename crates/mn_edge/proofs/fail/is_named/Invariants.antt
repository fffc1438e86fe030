use Rattle.std.proofs.Common.{◌≢◌, ℕ, ◌<◌, get_or}
use Rattle.mn_edge.specs.declared.fail.Fail.{Fail}
use Rattle.mn_edge.proofs.fail.is_named.Given as goal

-- none of the fails so far names the call
abbrev pub invariant-loop-fail : goal.invariant-loop-fail
invariant-loop-fail l = (j : ℕ) (d : Fail) → j < l.fail-index → get_or l.fails j d ≢ record { role = l.role; op = l.op; k = l.k }
