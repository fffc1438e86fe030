use Rattle.std.proofs.Common.{◌≡◌, append_assoc}
use Rattle.mn_base.specs.Draws.{state_at, draw_at}
use Rattle.workload.proofs.States.{one_draw, next_state, the_draw}
use Rattle.workload.proofs.gml.write_trunk.Goals as goal

pub returns-clause-text : goal.returns-clause-text
returns-clause-text c =
    let x = c.args.draws.now in
    let first : c.draw.new.self ≡ state_at x 1 = one_draw x c.draw.new.self c.draw.ensures.state in
    let second : c.draw-2.new.self ≡ state_at x 2 = next_state x c.draw.new.self c.draw-2.new.self 1 first c.draw-2.ensures.state in
    let third : c.draw-loss.new.self ≡ state_at x 3 = next_state x c.draw-2.new.self c.draw-loss.new.self 2 second
    c.draw-loss.ensures.state in
    let bandwidth : c.draw.result ≡ draw_at x 0 10 = the_draw x c.draw.new.self 0 10 c.draw.result first c.draw.ensures.value in
    let latency : c.draw-2.result ≡ draw_at x 1 20000 = the_draw x c.draw-2.new.self 1 20000 c.draw-2.result second
    c.draw-2.ensures.value in
    let loss : c.draw-loss.result ≡ draw_at x 2 1000 = the_draw x c.draw-loss.new.self 2 1000 c.draw-loss.result third
    c.draw-loss.ensures.value in
    simp (c.in_ok-writeln.ensures.bytes, c.in_ok-write.ensures.bytes, bandwidth, latency, loss, append_assoc)

pub returns-clause-state : goal.returns-clause-state
returns-clause-state c =
    let x = c.args.draws.now in
    let first : c.draw.new.self ≡ state_at x 1 = one_draw x c.draw.new.self c.draw.ensures.state in
    let second : c.draw-2.new.self ≡ state_at x 2 = next_state x c.draw.new.self c.draw-2.new.self 1 first c.draw-2.ensures.state in
    next_state x c.draw-2.new.self c.draw-loss.new.self 2 second c.draw-loss.ensures.state
