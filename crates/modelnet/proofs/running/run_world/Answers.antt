use Rattle.std.proofs.Common.{◌∙◌}
use Rattle.modelnet.proofs.WorldResults.{stands_after, results_of}
use Rattle.modelnet.proofs.running.run_world.Goals as goal

pub returns-clause-results : goal.returns-clause-results
returns-clause-results c =
    let bytes = c.args.bytes.items in
    let started = c.in_ok-world.ensures.stands bytes c.in_ok-stores.ensures.bytes in
    let ordered = stands_after bytes c.in_ok-world.world c.run_order.new.self started c.in_ok-run_order.ensures.stands
    c.in_ok-run_order.ensures.works in
    let stands = stands_after bytes c.run_order.new.self c.run_round_robin.new.self ordered c.in_ok-run_round_robin.ensures.stands
    c.in_ok-run_round_robin.ensures.done.works in
    results_of (λ v. v.items) c.finish.result c.args.setup.now bytes c.run_round_robin.new.self stands
    (c.run_round_robin.ensures.setup ∙ c.run_order.ensures.setup ∙ c.in_ok-world.ensures.setup) c.finish.ensures.results
