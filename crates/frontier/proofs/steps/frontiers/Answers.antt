use Rattle.std.proofs.Common.{◌≡◌, ◌<◌, ◌++◌, ◌∷◌, [], ◌||◌, ℕ, List, map, Vec, Global, length, All, sym, ap, subst, ◌∙◌, arith}
use Rattle.std.proofs.lemmas.List.{length-map}
use Rattle.std.proofs.lemmas.List.Elements.{All-get_or}
use Rattle.topo.specs.TopologyView.{TopologyView}
use Rattle.frontier.specs.Frontiers.{frontiers_of}
use Rattle.frontier.specs.NodeSets.{has, is_in}
use Rattle.frontier.proofs.Layers.{frontier_after-is, reached-more, length-frontiers_of, last-is, items-push, first-is, first-reached, All-push}
use Rattle.frontier.proofs.steps.frontiers.Goals as goal

-- The first frontier has the edge nodes.
pub loop-k-init : goal.loop-k-init
loop-k-init c =
    let first = c.in_ok-first.first in
    let pushed : c.push.new.self.items ≡ [] ++ first ∷ [] = c.in_ok-push.ensures.items
    ∙ ap (λ (fs : List (Vec ℕ Global)). fs ++ first ∷ []) c.new-frontiers.ensures.items in
    record {
      size = omega (arith, c.add.ensures.size, c.in_ok-reached.ensures.size, ap length c.nodes.ensures.lent);
      frontiers = items-push [] _ first pushed ∙ first-is c.args.topology.now first.items c.in_ok-first.ensures.nodes;
      reached = λ v. first-reached c.args.topology.now v first.items _ _ c.in_ok-first.ensures.nodes (c.in_ok-reached.ensures.empty v)
          (c.add.ensures.added v ∙ ap (λ xs. has c.in_ok-reached.reached v || is_in v xs) c.deref.ensures.value);
      below = subst (All (λ (f : Vec ℕ Global). All (λ v. v < length c.args.topology.now.nodes) f.items)) (sym pushed)
          (All-push (λ (f : Vec ℕ Global). All (λ v. v < length c.args.topology.now.nodes) f.items) [] first
          (λ i d within. absurd (omega arith)) c.in_ok-first.ensures.below);
    }

-- there are k + 1 frontiers, so that of index k is there
is_there : (t : TopologyView) (k : ℕ) (fs : List (Vec ℕ Global)) → map (λ (f : Vec ℕ Global). f.items) fs ≡ frontiers_of t k → k < length fs
is_there t k fs same = omega (arith, ap length same, length-frontiers_of t k, length-map fs (λ (f : Vec ℕ Global). f.items))

pub index-requires : goal.index-requires
index-requires c = omega (arith, is_there c.args.topology.now c.loop-k.k c.loop-k.frontiers.items c.loop-k.invariant.frontiers)

pub frontier_after-requires-clause-last : goal.frontier_after-requires-clause-last
frontier_after-requires-clause-last c =
    let within : c.loop-k.k < length c.loop-k.frontiers.items =
    is_there c.args.topology.now c.loop-k.k c.loop-k.frontiers.items c.loop-k.invariant.frontiers in
    let there = All-get_or
    (λ (f : Vec ℕ Global). All
    (λ v. v < length c.args.topology.now.nodes) f.items) c.loop-k.frontiers.items c.loop-k.k c.index.result.now within
    c.loop-k.invariant.below in
    subst (All (λ v. v < length c.args.topology.now.nodes))
    (sym (c.deref-in-loop-k.ensures.value ∙ ap (λ (f : Vec ℕ Global). f.items) c.index.ensures)) there

-- The frontier after the last is pushed, and its nodes are reached.
pub loop-k-preserved : goal.loop-k-preserved
loop-k-preserved c =
    let within : c.loop-k.k < length c.loop-k.frontiers.items =
    is_there c.args.topology.now c.loop-k.k c.loop-k.frontiers.items c.loop-k.invariant.frontiers in
    let next = c.in_ok-next.next in
    let pushed : c.push-in-loop-k.new.self.items ≡ c.loop-k.frontiers.items ++ next ∷ [] = c.in_ok-push-2.ensures.items in
    let last = c.deref-in-loop-k.ensures.value ∙ last-is c.loop-k.frontiers.items c.loop-k.k c.index.result.now within c.index.ensures in
    let more = frontier_after-is c.args.topology.now c.loop-k.k _
    (has c.loop-k.reached) c.deref-in-loop-k.result.now next.items c.loop-k.invariant.frontiers c.loop-k.invariant.reached last
    c.in_ok-next.ensures.next in
    record {
      size = omega (arith, c.add-in-loop-k.ensures.size, c.loop-k.invariant.size);
      frontiers = items-push c.loop-k.frontiers.items _ next pushed ∙ more;
      reached = λ v. reached-more c.args.topology.now c.loop-k.k v next.items c.loop-k.invariant.frontiers more (c.loop-k.invariant.reached v)
          (c.add-in-loop-k.ensures.added v
          ∙ ap (λ xs. has c.loop-k.reached v || is_in v xs) c.deref-in-loop-k-2.ensures.value);
      below = subst (All (λ (f : Vec ℕ Global). All (λ v. v < length c.args.topology.now.nodes) f.items)) (sym pushed)
          (All-push (λ (f : Vec ℕ Global). All
          (λ v. v < length c.args.topology.now.nodes) f.items) c.loop-k.frontiers.items next c.loop-k.invariant.below
          c.in_ok-next.ensures.below);
    }
