-- In each mode the border closes the outer nodes off, and edge nodes are outer or on it: so distilling keeps least latencies.
use Rattle.std.proofs.Common.{◌≡◌, ℕ, ◌<◌, ◌≤◌, ◌⊎◌, inl, inr, Bool, true, false, not, ◌&&◌, ◌||◌, List, [], length, get_or, take, refl, sym, ap, subst, ◌∙◌, arith}
use Rattle.std.specs.List.{range_with_len}
use Rattle.std.proofs.lemmas.Bool.{cases_eq, true≢false}
use Rattle.std.proofs.lemmas.List.{get_or-take, length-take}
use Rattle.mn_base.specs.declared.limits.TheConstants.{FRONTIERS_MAX}
use Rattle.mn_base.specs.Among.{Among}
use Rattle.mn_base.proofs.Members.{Among-filter, Among-index, All-Among, list_any-true}
use Rattle.topo.specs.declared.parts.Link.{Link}
use Rattle.topo.specs.TopologyView.{TopologyView}
use Rattle.topo.specs.Topologies.{IsTopology, IsLink}
use Rattle.topo.specs.Nodes.{edge_nodes_of}
use Rattle.routes.specs.SameLatency.{HaveSameLatency, IsTerminal}
use Rattle.routes.proofs.SameLatency.{same_latency}
use Rattle.frontier.specs.NodeSets.{is_in, is_in_one, is_beside}
use Rattle.frontier.specs.Frontiers.{frontiers_of}
use Rattle.frontier.proofs.Layers.{length-frontiers_of}
use Rattle.frontier.proofs.Numbers.{filter-range-below}
use Rattle.walk_out.specs.Parts.{parts_around}
use Rattle.walk_out.specs.WalkOut.{core_of, is_outer, walk_out_border}
use Rattle.distill.specs.declared.modes.Mode.TheVariants.{Hop, Walk, End, WalkOut}
use Rattle.distill.specs.declared.pipes.DistilledPipe.{DistilledPipe}
use Rattle.distill.specs.Mesh.{arcs_of}
use Rattle.distill.specs.Distilled.{ArePipesOfParts}
use Rattle.distill.specs.Latency.{arcs_of_pipes, LatencyStays}
use Rattle.distill.proofs.LatencyWalks.{Among-range}
use Rattle.distill.proofs.LatencyParts.{IsClosedOff, distilled_by}
use Rattle.distill.proofs.LatencyFrontiers.{Among-is_in, Joins, beside, first_frontier, joined_to_first}

-- the border closes the outer nodes off, and each edge node is outer or on it
pub record ClosesOff (t : TopologyView) (outer : ℕ → Bool) (border : List ℕ) : Type 0 where
  pub closed : IsClosedOff t.links outer border
  pub ends : (a : ℕ) → Among a (edge_nodes_of t.nodes) → IsTerminal outer border a

-- the law for such parts
of_parts : (t : TopologyView) (tick_ns : ℕ) (outer : ℕ → Bool) (border : List ℕ) (pipes : List DistilledPipe) → ClosesOff t outer border
    → ArePipesOfParts tick_ns t.links (parts_around t.links outer border) pipes
    → (a b : ℕ) → Among a (edge_nodes_of t.nodes) → Among b (edge_nodes_of t.nodes)
    → HaveSameLatency (arcs_of t.links) (arcs_of_pipes pipes) a b
of_parts t tick_ns outer border pipes off are a b start end =
    same_latency
    outer
    border
    (arcs_of t.links)
    (arcs_of_pipes pipes)
    (distilled_by tick_ns t.links outer border pipes are off.closed)
    a
    b
    (off.ends a start)
    (off.ends b end)

-- ---- hop by hop: each node is outer
hop_closes : (t : TopologyView) → ClosesOff t (λ v. true) []
hop_closes t =
    record {
      closed = record {
        leaves = λ l there inner outer. absurd (true≢false inner);
        enters = λ l there outer inner. absurd (true≢false inner);
      };
      ends = λ a there inner. absurd (true≢false inner);
    }

-- ---- by frontiers
or_false-left : (a b : Bool) → (a || b) ≡ false → a ≡ false
or_false-left true b no_one = no_one
or_false-left false b no_one = refl

or_cases : (a b : Bool) → (a || b) ≡ true → (a ≡ true) ⊎ (b ≡ true)
or_cases true b is = inl refl
or_cases false b is = inr is

or_true-left : (a b : Bool) → a ≡ true → (a || b) ≡ true
or_true-left a b is = ap (λ (x : Bool). x || b) is

or_true-right : (a b : Bool) → b ≡ true → (a || b) ≡ true
or_true-right true b is = refl
or_true-right false b is = is

module _ (t : TopologyView) (holds : IsTopology t) where
  -- the ends of a link are nodes
  leaves_low : (l : Link) → Among l t.links → l.from < length t.nodes
  leaves_low l there = (All-Among (IsLink (length t.nodes)) l t.links holds.links_hold there).leaves

  enters_low : (l : Link) → Among l t.links → l.to < length t.nodes
  enters_low l there = (All-Among (IsLink (length t.nodes)) l t.links holds.links_hold there).enters

  -- an edge node is in the first w frontiers, or in the next where w is 0
  edge_first : (k w a : ℕ) → w ≤ k → Among a (edge_nodes_of t.nodes) → is_in_one a (take w (frontiers_of t k)) ≡ false
      → Among a (get_or (frontiers_of t k) w [])
  edge_first k w a most there away =
      let len = length-frontiers_of t k in
      elim (cases_eq w 0) [
        | inl none ↦
            subst
            (λ n. Among a (get_or (frontiers_of t k) n []))
            (sym none)
            (subst (λ f. Among a f) (sym (first_frontier t k)) there)
        | inr some ↦
            let size = length-take w (frontiers_of t k) in
            let first : get_or (take w (frontiers_of t k)) 0 [] ≡ edge_nodes_of t.nodes =
            get_or-take w (frontiers_of t k) 0 [] (omega arith) ∙ first_frontier t k in
            let in_first : is_in_one a (take w (frontiers_of t k)) ≡ true =
            list_any-true
            (is_in a)
            (edge_nodes_of t.nodes)
            (take w (frontiers_of t k))
            (subst (λ f. Among f (take w (frontiers_of t k))) first (Among-index (take w (frontiers_of t k)) 0 [] (omega arith)))
            (Among-is_in a (edge_nodes_of t.nodes) there) in
            absurd (true≢false (sym in_first ∙ away))
      ]

  -- walk-in: outer are the first w frontiers, and the next is the border
  walk_closes : (w : ℕ) → ClosesOff t (λ v. is_in_one v (take w (frontiers_of t w))) (get_or (frontiers_of t w) w [])
  walk_closes w =
      record {
        closed = record {
          leaves = λ l there inner outer. joined_to_first
              t
              l.from
              (leaves_low l there)
              w
              w
              l.to
              l
              (omega arith)
              there
              (inr (refl, refl))
              outer
              inner;
          enters = λ l there outer inner. joined_to_first
              t
              l.to
              (enters_low l there)
              w
              w
              l.from
              l
              (omega arith)
              there
              (inl (refl, refl))
              outer
              inner;
        };
        ends = λ a there inner. edge_first w w a (omega arith) there inner;
      }

  -- walk-out: the core is outer, too, and what links join to it is on the border
  module _ (w o : ℕ) (most : w ≤ FRONTIERS_MAX) where
    abbrev fs : List (List ℕ)
    fs = frontiers_of t FRONTIERS_MAX

    -- what is on the border
    on_border : (v : ℕ) → v < length t.nodes
        → (is_in v (get_or fs w []) ≡ true) ⊎ (is_beside t.links (λ u. is_in_one u (core_of fs w o)) v ≡ true)
        → is_outer fs w o v ≡ false → Among v (walk_out_border t fs w o)
    on_border v low either inner =
        Among-filter
        (λ x. is_in x (get_or fs w []) || (not (is_outer fs w o x) && is_beside t.links (λ u. is_in_one u (core_of fs w o)) x))
        v
        (range_with_len 0 (length t.nodes))
        (Among-range 0 (length t.nodes) v (omega arith) (omega arith))
        (elim either [
          | inl next ↦
              or_true-left
              (is_in v (get_or fs w []))
              (not (is_outer fs w o v) && is_beside t.links (λ u. is_in_one u (core_of fs w o)) v)
              next
          | inr near ↦
              or_true-right
              (is_in v (get_or fs w []))
              (not (is_outer fs w o v) && is_beside t.links (λ u. is_in_one u (core_of fs w o)) v)
              (ap (λ (b : Bool). not b && is_beside t.links (λ u. is_in_one u (core_of fs w o)) v) inner ∙ near)
        ])

    -- a link joins v to an outer node, and v isn't outer
    joined_to_outer : (u v : ℕ) (l : Link) → Among l t.links → Joins l u v → v < length t.nodes
        → is_outer fs w o u ≡ true → is_outer fs w o v ≡ false → Among v (walk_out_border t fs w o)
    joined_to_outer u v l there joins low outer inner =
        on_border
        v
        low
        (elim (or_cases (is_in_one u (take w fs)) (is_in_one u (core_of fs w o)) outer) [
          | inl first ↦
              inl
              (Among-is_in
              v
              (get_or fs w [])
              (joined_to_first
              t
              v
              low
              FRONTIERS_MAX
              w
              u
              l
              most
              there
              joins
              first
              (or_false-left (is_in_one v (take w fs)) (is_in_one v (core_of fs w o)) inner)))
          | inr core ↦ inr (beside t.links l (λ x. is_in_one x (core_of fs w o)) u v there joins core)
        ])
        inner

    walk_out_closes : ClosesOff t (is_outer fs w o) (walk_out_border t fs w o)
    walk_out_closes =
        record {
          closed = record {
            leaves = λ l there inner outer. joined_to_outer l.to l.from l there (inr (refl, refl)) (leaves_low l there) outer inner;
            enters = λ l there outer inner. joined_to_outer l.from l.to l there (inl (refl, refl)) (enters_low l there) outer inner;
          };
          ends = λ a there inner.
              let next = edge_first
              FRONTIERS_MAX
              w
              a
              most
              there
              (or_false-left (is_in_one a (take w fs)) (is_in_one a (core_of fs w o)) inner) in
              on_border a (edge_low a there) (inl (Among-is_in a (get_or fs w []) next)) inner;
        }
      where
        edge_low : (a : ℕ) → Among a (edge_nodes_of t.nodes) → a < length t.nodes
        edge_low a there = All-Among (λ v. v < length t.nodes) a (edge_nodes_of t.nodes) (filter-range-below _ (length t.nodes)) there

-- the law in all four modes
pub latency_stays : LatencyStays
latency_stays t Hop tick_ns d holds is own a b start end =
    of_parts t tick_ns (λ v. true) [] d.pipes (hop_closes t) own.pipes a b start end
latency_stays t (Walk w) tick_ns d holds is own a b start end =
    of_parts
    t
    tick_ns
    (λ v. is_in_one v (take w (frontiers_of t w)))
    (get_or (frontiers_of t w) w [])
    d.pipes
    (walk_closes t holds w)
    own.pipes
    a
    b
    start
    end
latency_stays t End tick_ns d holds is own a b start end =
    of_parts
    t
    tick_ns
    (λ v. is_in_one v (take 0 (frontiers_of t 0)))
    (get_or (frontiers_of t 0) 0 [])
    d.pipes
    (walk_closes t holds 0)
    own.pipes
    a
    b
    start
    end
latency_stays t (WalkOut w o) tick_ns d holds is own a b start end =
    of_parts
    t
    tick_ns
    (is_outer (frontiers_of t FRONTIERS_MAX) w o)
    (walk_out_border t (frontiers_of t FRONTIERS_MAX) w o)
    d.pipes
    (walk_out_closes t holds w o is.0.1)
    own.pipes
    a
    b
    start
    end
