use Rattle.std.proofs.Common.{◌≡◌, ◌≤◌, ◌&&◌, not, ◌||◌, ℕ, length, ap, rules, arith, sym, ◌∙◌}
use Rattle.std.proofs.lemmas.Result.{IfOk-weaker}
use Rattle.frontier.specs.NodeSets.{has, is_in, is_beside}
use Rattle.frontier.proofs.Layers.{none_after_empty, next-is, is_beside-same}
use Rattle.frontier.proofs.Numbers.{All-below}
use Rattle.frontier.proofs.steps.frontier_after.Goals as goal

pub returns-then-is_empty-clause-next : goal.returns-then-is_empty-clause-next
returns-then-is_empty-clause-next c =
    let empty : length c.args.last.now ≡ 0 = search rules in
    c.new.ensures.items ∙ sym (none_after_empty c.args.topology.now (has c.args.reached.now) c.args.last.now empty)

pub returns-clause-below : goal.returns-clause-below
returns-clause-below c =
    let size : length c.in_ok-beside.beside ≤ length c.args.topology.now.nodes =
    omega (arith, c.in_ok-beside.ensures.size, c.add.ensures.size, c.in_ok-from.ensures.size, ap length c.nodes.ensures.lent) in
    IfOk-weaker c.members_outside.result _ _
    (λ next is. All-below
    (λ v. not (has c.args.reached.now v) && has c.in_ok-beside.beside v) (length c.in_ok-beside.beside) _ _ is size)
    c.members_outside.ensures

pub returns-clause-next : goal.returns-clause-next
returns-clause-next c =
    let size : length c.in_ok-beside.beside ≡ length c.args.topology.now.nodes =
    omega (arith, c.in_ok-beside.ensures.size, c.add.ensures.size, c.in_ok-from.ensures.size, ap length c.nodes.ensures.lent) in
    let marked : (v : ℕ) → has c.add.new.self v ≡ is_in v c.args.last.now = λ v. c.add.ensures.added v
    ∙ ap (λ b. b || is_in v c.args.last.now) (c.in_ok-from.ensures.empty v) in
    IfOk-weaker c.members_outside.result _ _
    (λ next is. next-is c.args.topology.now (has c.args.reached.now) (has c.in_ok-beside.beside) c.args.last.now _ _ size
    (λ v. c.in_ok-beside.ensures.beside v ∙ ap (λ links. is_beside links (has c.add.new.self) v) c.links.ensures.lent
    ∙ is_beside-same c.args.topology.now.links (has c.add.new.self) (λ u. is_in u c.args.last.now) v marked) is)
    c.members_outside.ensures
