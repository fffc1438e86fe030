use Rattle.std.proofs.Common.{◌+◌, ◌≤◌, sym, ap, ◌∙◌, arith}
use Rattle.std.specs.Vec.{with_item}
use Rattle.gate_box.specs.EndView.{EndView}
use Rattle.gate_ports.specs.declared.lane_name.LaneName.{LaneName}
use Rattle.gate_ports.specs.GatePorts.{ports_view}
use Rattle.gate_ports.proofs.Ends.{Takes, takes, one_more}
use Rattle.gate_ports.proofs.gate_ports.GatePortsPorts.try_take.Goals as goal
use Rattle.gate_ports.proofs.gate_ports.GatePortsPorts.try_take.Goals.{After-try_take}

-- the lane's end comes back from its call, whatever the call answered
ended : (c : After-try_take) → c.index_mut-lane.result.now.next ≤ c.try_take.new.self.next
    → Takes c.args.self.now (ports_view record c.self.inside { receivers = with_item c.self.inside.receivers c.args.from c.try_take.new.self })
    c.args.from c.index_mut-lane.result.now c.try_take.new.self
ended c more =
    takes c.self.inside c.args.self.now c.self.view_is c.self.invariant c.args.from c.requires.known c.index_mut-lane.result.now
    c.try_take.new.self
    (record { read = c.index_mut-lane.ensures.value; lane = c.try_take.ensures.lane; more = more; no_fewer = c.try_take.ensures.misses })

pub returns-in-Ok-clause-keeps : goal.returns-in-Ok-clause-keeps
returns-in-Ok-clause-keeps c =
    (ended (goal.at.returns-in-Ok-clause-keeps c).After-try_take (one_more c.in-Ok.ensures.ok)).keeps

pub returns-in-Ok-clause-ok : goal.returns-in-Ok-clause-ok
returns-in-Ok-clause-ok c =
    let end = ended (goal.at.returns-in-Ok-clause-ok c).After-try_take (one_more c.in-Ok.ensures.ok) in
    end.new_next ∙ ap (λ (x : EndView LaneName). x.next) c.in-Ok.ensures.ok ∙ ap (λ n. n + 1) (sym end.old_next)

pub returns-in-Ok-clause-others : goal.returns-in-Ok-clause-others
returns-in-Ok-clause-others c =
    (ended (goal.at.returns-in-Ok-clause-others c).After-try_take (one_more c.in-Ok.ensures.ok)).others

pub returns-in-Err-clause-keeps : goal.returns-in-Err-clause-keeps
returns-in-Err-clause-keeps c =
    (ended (goal.at.returns-in-Err-clause-keeps c).After-try_take (omega (arith, c.in-Err.ensures.same))).keeps

pub returns-in-Err-clause-err : goal.returns-in-Err-clause-err
returns-in-Err-clause-err c =
    let end = ended (goal.at.returns-in-Err-clause-err c).After-try_take (omega (arith, c.in-Err.ensures.same)) in
    end.new_next ∙ c.in-Err.ensures.same ∙ sym end.old_next

pub returns-in-Err-clause-others : goal.returns-in-Err-clause-others
returns-in-Err-clause-others c =
    (ended (goal.at.returns-in-Err-clause-others c).After-try_take (omega (arith, c.in-Err.ensures.same))).others

pub returns-in-Err-clause-empty : goal.returns-in-Err-clause-empty
returns-in-Err-clause-empty c =
    let end = ended (goal.at.returns-in-Err-clause-empty c).After-try_take (omega (arith, c.in-Err.ensures.same)) in
    omega (arith, end.old_misses, end.new_misses, c.in-Err.ensures.missed)

pub returns-in-Err-clause-word : goal.returns-in-Err-clause-word
returns-in-Err-clause-word c =
    let end = ended (goal.at.returns-in-Err-clause-word c).After-try_take (omega (arith, c.in-Err.ensures.same)) in
    c.in-Err.ensures.seen.0 ∙ sym end.new_word
