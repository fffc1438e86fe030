use Rattle.std.proofs.Common.{◌≡◌, append_assoc}
use Rattle.mn_base.specs.Draws.{state_at, draw_at}
use Rattle.workload.proofs.States.{one_draw, the_draw}
use Rattle.workload.proofs.gml.write_host_edge.Goals as goal

pub returns-clause-text : goal.returns-clause-text
returns-clause-text c =
    let x = c.args.draws.now in
    let first : c.draw.new.self ≡ state_at x 1 = one_draw x c.draw.new.self c.draw.ensures.state in
    let latency : c.draw.result ≡ draw_at x 0 1000 = the_draw x c.draw.new.self 0 1000 c.draw.result first c.draw.ensures.value in
    simp (c.in_ok-writeln.ensures.bytes, c.in_ok-write.ensures.bytes, latency, append_assoc)

pub returns-clause-state : goal.returns-clause-state
returns-clause-state c = one_draw c.args.draws.now c.draw.new.self c.draw.ensures.state
