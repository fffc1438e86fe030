use Rattle.std.proofs.Common.{◌≡◌, ◌<◌, ◌||◌, All, length, take, sym, ap, subst, ◌∙◌, arith}
use Rattle.std.proofs.lemmas.List.{length-take-le}
use Rattle.std.proofs.lemmas.List.Elements.{All-take}
use Rattle.std.proofs.lemmas.Result.{IfOk-weaker}
use Rattle.frontier.specs.NodeSets.{has, is_in_one}
use Rattle.frontier.proofs.Layers.{last-is}
use Rattle.walk_out.proofs.Outer.{reads, HasBelow, items_of, walk_parts-is}
use Rattle.walk_out.proofs.walks.walk_in.Goals as goal

pub slice_bounds-add_all-end : goal.slice_bounds-add_all-end
slice_bounds-add_all-end c =
    let r = reads c.args.topology.now c.args.w c.args.frontiers.now c.requires.frontiers in
    sym (length-take-le c.args.w c.args.frontiers.now (omega (arith, r.count)))

pub add_all-requires : goal.add_all-requires
add_all-requires c =
    let r = reads c.args.topology.now c.args.w c.args.frontiers.now c.requires.frontiers in
    let n : length c.in_ok-outer.outer ≡ length c.args.topology.now.nodes =
    omega (arith, c.in_ok-outer.ensures.size, ap length c.nodes.ensures.lent) in
    All-take (HasBelow (length c.in_ok-outer.outer)) c.args.w c.args.frontiers.now
    (subst (λ m. All (HasBelow m) c.args.frontiers.now) (sym n) r.below)

pub bounds-frontiers-walked : goal.bounds-frontiers-walked
bounds-frontiers-walked c =
    let r = reads c.args.topology.now c.args.w c.args.frontiers.now c.requires.frontiers in
    omega (arith, r.count)

pub returns : goal.returns
returns c =
    let r = reads c.args.topology.now c.args.w c.args.frontiers.now c.requires.frontiers in
    let within : c.args.w < length c.args.frontiers.now = omega (arith, r.count) in
    let border = c.in_ok-border.ensures.items ∙ c.deref.ensures.value
    ∙ last-is c.args.frontiers.now c.args.w c.index-frontiers-walked.result within c.index-frontiers-walked.is in
    IfOk-weaker c.parts_around.result _ _
    (λ parts is. is ∙ walk_parts-is c.args.topology.now c.args.w c.args.frontiers.now
    (has c.add_all.new.self) c.in_ok-border.border.items c.requires.frontiers
    (λ v. c.add_all.ensures.added v
    ∙ ap (λ b. b || is_in_one v (items_of (take c.args.w c.args.frontiers.now))) (c.in_ok-outer.ensures.empty v)) border)
    c.parts_around.ensures
