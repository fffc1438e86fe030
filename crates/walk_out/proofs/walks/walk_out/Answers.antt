use Rattle.std.proofs.Common.{◌≡◌, ◌<◌, ◌||◌, slice_index_or, [], Bool, false, ℕ, List, Vec, Global, All, length, take, sym, ap, subst, ◌∙◌, arith}
use Rattle.std.proofs.lemmas.List.{length-take-le}
use Rattle.std.proofs.lemmas.List.Elements.{All-take, All-get_or}
use Rattle.std.proofs.lemmas.Result.{IfOk-weaker}
use Rattle.mn_base.specs.declared.limits.TheConstants.{FRONTIERS_MAX}
use Rattle.frontier.specs.NodeSets.{has, is_in, is_in_one, is_beside}
use Rattle.frontier.specs.Frontiers.{frontiers_of}
use Rattle.frontier.proofs.Layers.{last-is}
use Rattle.walk_out.specs.WalkOut.{core_of, is_outer, walk_out_border}
use Rattle.walk_out.proofs.Outer.{reads, HasBelow, items_of, items_of-take, core_of-is, AreMarked, walk_out_border-is, parts_around-same, All-core}
use Rattle.walk_out.proofs.walks.walk_out.Goals as goal

-- There are more frontiers than are walked.
pub slice_bounds-add_all-end : goal.slice_bounds-add_all-end
slice_bounds-add_all-end c =
    let r = reads c.args.topology.now FRONTIERS_MAX c.args.frontiers.now c.requires.frontiers in
    sym (length-take-le c.args.w c.args.frontiers.now (omega (arith, r.count, c.requires.w)))

-- Frontiers have nodes alone, and a set has a mark for each node.
pub add_all-requires : goal.add_all-requires
add_all-requires c =
    let r = reads c.args.topology.now FRONTIERS_MAX c.args.frontiers.now c.requires.frontiers in
    let n : length c.in_ok-outer.outer ≡ length c.args.topology.now.nodes =
    omega (arith, c.in_ok-outer.ensures.size, ap length c.nodes-nodes.ensures.lent) in
    All-take (HasBelow (length c.in_ok-outer.outer)) c.args.w c.args.frontiers.now
    (subst (λ m. All (HasBelow m) c.args.frontiers.now) (sym n) r.below)

-- So has the core, which is cut out of them.
pub add_all-requires-2 : goal.add_all-requires-2
add_all-requires-2 c =
    let r = reads c.args.topology.now FRONTIERS_MAX c.args.frontiers.now c.requires.frontiers in
    let n : length c.add_all.new.self ≡ length c.args.topology.now.nodes =
    omega (arith, c.add_all.ensures.size, c.in_ok-outer.ensures.size, ap length c.nodes-nodes.ensures.lent) in
    All-core c.args.frontiers.now c.core_of-core.result.now c.args.w c.args.o (length c.add_all.new.self) c.core_of-core.ensures
    (subst (λ m. All (HasBelow m) c.args.frontiers.now) (sym n) r.below)

pub add_all-requires-3 : goal.add_all-requires-3
add_all-requires-3 c =
    let r = reads c.args.topology.now FRONTIERS_MAX c.args.frontiers.now c.requires.frontiers in
    let n : length c.in_ok-inmost.inmost ≡ length c.args.topology.now.nodes =
    omega (arith, c.in_ok-inmost.ensures.size, ap length c.nodes-nodes.ensures.lent) in
    All-core c.args.frontiers.now c.core_of-core.result.now c.args.w c.args.o (length c.in_ok-inmost.inmost) c.core_of-core.ensures
    (subst (λ m. All (HasBelow m) c.args.frontiers.now) (sym n) r.below)

pub bounds-frontiers-walked : goal.bounds-frontiers-walked
bounds-frontiers-walked c =
    let r = reads c.args.topology.now FRONTIERS_MAX c.args.frontiers.now c.requires.frontiers in
    omega (arith, r.count, c.requires.w)

pub add-requires : goal.add-requires
add-requires c =
    let r = reads c.args.topology.now FRONTIERS_MAX c.args.frontiers.now c.requires.frontiers in
    let within : c.args.w < length c.args.frontiers.now = omega (arith, r.count, c.requires.w) in
    let n : length c.in_ok-first.first ≡ length c.args.topology.now.nodes =
    omega (arith, c.in_ok-first.ensures.size, ap length c.nodes-nodes.ensures.lent) in
    let there = All-get_or
    (HasBelow (length c.args.topology.now.nodes)) c.args.frontiers.now c.args.w c.index-frontiers-walked.result within r.below in
    subst (λ m. All (λ v. v < m) c.deref.result.now) (sym n)
    (subst (All (λ v. v < length c.args.topology.now.nodes))
    (sym (c.deref.ensures.value ∙ ap (λ (f : Vec ℕ Global). f.items) c.index-frontiers-walked.is)) there)

-- a set that was empty has what was added to it
from_empty : {before after more : Bool} → before ≡ false → after ≡ before || more → after ≡ more
from_empty {before} {after} {more} empty added = added ∙ ap (λ b. b || more) empty

-- The four sets are marked as walk-out says: outer nodes are those of the first frontiers and of the core, the near ones are beside
-- the core, and the first ones are those of the next frontier. So the border and the parts are those of walk-out.
pub returns : goal.returns
returns c =
    let t = c.args.topology.now in
    let fs = c.args.frontiers.now in
    let w = c.args.w in
    let o = c.args.o in
    let gs : List (List ℕ) = frontiers_of t FRONTIERS_MAX in
    let cut = c.core_of-core.result.now in
    let outer = has c.add_all-2.new.self in
    let inmost = has c.add_all-3.new.self in
    let r = reads t FRONTIERS_MAX fs c.requires.frontiers in
    let within : w < length fs = omega (arith, r.count, c.requires.w) in
    let front : items_of (take w fs) ≡ take w gs = items_of-take fs gs w c.requires.frontiers in
    let core : items_of cut ≡ core_of gs w o = ap items_of c.core_of-core.ensures ∙ core_of-is fs gs w o c.requires.frontiers in
    let next : c.deref.result.now ≡ slice_index_or gs w [] = c.deref.ensures.value
    ∙ last-is fs w c.index-frontiers-walked.result within c.index-frontiers-walked.is
    ∙ ap (λ hs. slice_index_or hs w []) c.requires.frontiers in
    let walked : (v : ℕ) → has c.add_all.new.self v ≡ is_in_one v (take w gs) = λ v.
    from_empty (c.in_ok-outer.ensures.empty v) (c.add_all.ensures.added v) ∙ ap (is_in_one v) front in
    let near_are : (v : ℕ) → has c.in_ok-near.near v ≡ is_beside t.links inmost v = λ v.
    c.in_ok-near.ensures.beside v ∙ ap (λ links. is_beside links inmost v) c.links.ensures.lent in
    let marked : AreMarked t gs w o outer inmost (has c.in_ok-near.near) (has c.add.new.self) = record {
      outer_are = λ v. c.add_all-2.ensures.added v ∙ ap (λ b. b || is_in_one v (items_of cut)) (walked v)
          ∙ ap (λ hs. is_in_one v (take w gs) || is_in_one v hs) core;
      inmost_are = λ v. from_empty (c.in_ok-inmost.ensures.empty v) (c.add_all-3.ensures.added v) ∙ ap (is_in_one v) core;
      near_are = near_are;
      first_are = λ v. from_empty (c.in_ok-first.ensures.empty v) (c.add.ensures.added v) ∙ ap (is_in v) next;
    } in
    let size : length c.add.new.self ≡ length t.nodes =
    omega (arith, c.add.ensures.size, c.in_ok-first.ensures.size, ap length c.nodes-nodes.ensures.lent) in
    let border : c.in_ok-border.border.items ≡ walk_out_border t gs w o = walk_out_border-is marked size c.in_ok-border.ensures in
    IfOk-weaker c.parts_around.result _ _
    (λ parts is. is ∙ parts_around-same t.links outer (is_outer gs w o) c.in_ok-border.border.items _ marked.outer_are border)
    c.parts_around.ensures
