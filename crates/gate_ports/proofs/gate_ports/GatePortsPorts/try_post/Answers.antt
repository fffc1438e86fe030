use Rattle.std.proofs.Common.{◌+◌, ◌≤◌, sym, ap, ◌∙◌, arith}
use Rattle.std.specs.Vec.{with_item}
use Rattle.gate_box.specs.EndView.{EndView}
use Rattle.gate_ports.specs.declared.lane_name.LaneName.{LaneName}
use Rattle.gate_ports.specs.GatePorts.{ports_view}
use Rattle.gate_ports.proofs.Ends.{Posts, posts, one_more}
use Rattle.gate_ports.proofs.gate_ports.GatePortsPorts.try_post.Goals as goal
use Rattle.gate_ports.proofs.gate_ports.GatePortsPorts.try_post.Goals.{After-try_post}

-- the lane's end comes back from its call, whatever the call answered
ended : (c : After-try_post) → c.index_mut-lane.result.now.next ≤ c.try_post.new.self.next
    → Posts c.args.self.now (ports_view record c.self.inside { senders = with_item c.self.inside.senders c.args.to c.try_post.new.self })
    c.args.to c.index_mut-lane.result.now c.try_post.new.self
ended c more =
    posts c.self.inside c.args.self.now c.self.view_is c.self.invariant c.args.to c.requires.known c.index_mut-lane.result.now
    c.try_post.new.self
    (record { read = c.index_mut-lane.ensures.value; lane = c.try_post.ensures.lane; more = more; no_fewer = c.try_post.ensures.misses })

pub returns-in_default-clause-keeps : goal.returns-in_default-clause-keeps
returns-in_default-clause-keeps c =
    (ended (goal.at.returns-in_default-clause-keeps c).After-try_post (one_more c.in_default.ensures.ok)).keeps

pub returns-in_default-clause-ok : goal.returns-in_default-clause-ok
returns-in_default-clause-ok c =
    let end = ended (goal.at.returns-in_default-clause-ok c).After-try_post (one_more c.in_default.ensures.ok) in
    end.new_next ∙ ap (λ (x : EndView LaneName). x.next) c.in_default.ensures.ok ∙ ap (λ n. n + 1) (sym end.old_next)

pub returns-in_default-clause-others : goal.returns-in_default-clause-others
returns-in_default-clause-others c =
    (ended (goal.at.returns-in_default-clause-others c).After-try_post (one_more c.in_default.ensures.ok)).others

pub returns-clause-keeps : goal.returns-clause-keeps
returns-clause-keeps c =
    (ended (goal.at.returns-clause-keeps c).After-try_post (omega (arith, c.in-Err.ensures.same.1))).keeps

pub returns-clause-err : goal.returns-clause-err
returns-clause-err c =
    let end = ended (goal.at.returns-clause-err c).After-try_post (omega (arith, c.in-Err.ensures.same.1)) in
    end.new_next ∙ c.in-Err.ensures.same.1 ∙ sym end.old_next

pub returns-clause-others : goal.returns-clause-others
returns-clause-others c =
    (ended (goal.at.returns-clause-others c).After-try_post (omega (arith, c.in-Err.ensures.same.1))).others

pub returns-clause-busy : goal.returns-clause-busy
returns-clause-busy c =
    let end = ended (goal.at.returns-clause-busy c).After-try_post (omega (arith, c.in-Err.ensures.same.1)) in
    omega (arith, end.old_misses, end.new_misses, c.in-Err.ensures.missed)

pub returns-clause-word : goal.returns-clause-word
returns-clause-word c =
    let end = ended (goal.at.returns-clause-word c).After-try_post (omega (arith, c.in-Err.ensures.same.1)) in
    c.in-Err.ensures.seen.0 ∙ sym end.new_word
