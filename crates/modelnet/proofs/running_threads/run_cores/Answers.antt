use Rattle.std.proofs.Common.{◌≡◌}
use Rattle.modelnet.proofs.running_threads.run_cores.Goals as goal

pub returns-clause-results : goal.returns-clause-results
returns-clause-results g c =
    rw c.in_ok-only_results.ensures (c.in_ok-ran.ensures.results c.args.bytes.items c.in_ok-stores.ensures.bytes)
