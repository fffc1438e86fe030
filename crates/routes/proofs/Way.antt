-- The loop that writes a walk: what is written so far, and the path from the node that it has come to, are the whole path.
use Rattle.std.proofs.Common.{◌≡◌, ℕ, suc, ◌+◌, ◌<◌, ◌≤◌, ◌↔◌, IsTrue, is_some, List, [], ◌∷◌, ◌++◌, length, get_or, Option, Some, None, inl, inr, refl, sym, ap, subst, ◌∙◌, arith}
use Rattle.std.proofs.lemmas.Bool.{cases_eq, false≢true}
use Rattle.std.proofs.lemmas.List.{append_assoc, append-nil}
use Rattle.routes.specs.declared.graph.Arc.{Arc}
use Rattle.routes.specs.declared.label.Label.{Label}
use Rattle.routes.specs.GraphView.{GraphView}
use Rattle.routes.specs.RoutesView.{RoutesView}
use Rattle.routes.specs.Walk.{arc_at, IsWalk}
use Rattle.routes.specs.LeastWalk.{IsLeastWalk}
use Rattle.routes.specs.Table.{label_of, home, IsLedBy, IsRoutes}
use Rattle.routes.proofs.Lists.{label_read, has_place}
use Rattle.routes.proofs.Table.{path, next_of, least_walk, no_walk}

-- the arcs in out lead from the source to node, the first `taken` of `hops`
pub record IsOnWay (arcs : List Arc) (labels : List (Option Label)) (source hops node taken : ℕ) (out : List ℕ) : Type 0 where
  pub own : Label
  pub has : label_of labels node ≡ Some own
  pub left : own.hops + taken ≡ hops
  pub way : path arcs (label_of labels) hops source ≡ out ++ path arcs (label_of labels) own.hops node

-- a source has a place among the labels
pub source_place : {g : GraphView} {labels : List (Option Label)} {goal source : ℕ} {r : RoutesView}
    → IsRoutes g labels goal → record { graph = g; destination = goal } ≡ r → source < r.graph.nodes → source < length labels
source_place {g} {labels} {goal} {source} {r} routes seen low =
    let nodes : g.nodes ≡ r.graph.nodes = ap (λ (v : RoutesView). v.graph.nodes) seen in
    let len = routes.len in
    omega arith

-- at the start nothing is written
pub starts : {arcs : List Arc} {labels : List (Option Label)} {source : ℕ} (first : Label) → label_of labels source ≡ Some first
    → IsOnWay arcs labels source first.hops source 0 []
starts first has = record { own = first; has = has; left = omega arith; way = refl }

-- one step of the loop, before the end
pub record GoesOn (g : GraphView) (labels : List (Option Label)) (goal source hops node taken : ℕ) (out : List ℕ) : Type 0 where
  pub routes : IsRoutes g labels goal
  pub on : IsOnWay g.arcs labels source hops node taken out
  pub more : taken < hops

-- the same by the steps of the code
pub goes : {g : GraphView} {labels : List (Option Label)} {goal source hops node taken : ℕ} {out : List ℕ}
    → IsRoutes g labels goal → IsOnWay g.arcs labels source hops node taken out → taken < hops
    → GoesOn g labels goal source hops node taken out
goes routes on more = record { routes = routes; on = on; more = more }

module _ {g : GraphView} {labels : List (Option Label)} {goal source hops node taken : ℕ} {out : List ℕ}
    (step : GoesOn g labels goal source hops node taken out) where
  -- the node has a label
  pub node_place : node < length labels
  node_place = has_place labels node step.on.own step.on.has

  -- it isn't the destination, so it is led by an arc
  leads : IsLedBy g.arcs (label_of labels) node step.on.own
  leads =
      elim (cases_eq node goal) [
        | inl there ↦
            absurd
            (let is : Some home ≡ Some step.on.own =
            sym step.routes.table.at_home ∙ subst (λ v. label_of labels v ≡ Some step.on.own) there step.on.has in
            let same : home ≡ step.on.own = cc in
            let none = ap (λ (k : Label). k.hops) same in
            let left = step.on.left in
            let more = step.more in
            omega arith)
        | inr away ↦ step.routes.table.led node step.on.own step.on.has away
      ]

  module _ (l : Label) (at : label_of labels node ≡ Some l) where
    -- the label that is read is the node's
    own_is : step.on.own ≡ l
    own_is = let e : Some step.on.own ≡ Some l = sym step.on.has ∙ at in cc

    -- so it names an arc of the graph
    pub next_below : l.next < length g.arcs
    next_below = subst (λ (k : Label). k.next < length g.arcs) own_is leads.next

    -- and with that arc the way is one arc longer
    pub goes_on : IsOnWay g.arcs labels source hops (arc_at g.arcs l.next).to (taken + 1) (out ++ l.next ∷ [])
    goes_on =
        subst
        (λ (k : Label). IsOnWay g.arcs labels source hops (arc_at g.arcs k.next).to (taken + 1) (out ++ k.next ∷ []))
        own_is
        (record {
          own = led.rest;
          has = led.to;
          left = (let left = step.on.left in let less = fewer in omega arith);
          way = step.on.way ∙ ap (λ ps. out ++ ps) first ∙ sym (append_assoc out (next ∷ []) rest);
        })
      where
        led : IsLedBy g.arcs (label_of labels) node step.on.own
        led = leads

        fewer : step.on.own.hops ≡ suc leads.rest.hops
        fewer = let e = ap (λ (k : Label). k.hops) led.is in omega arith

        next : ℕ
        next = step.on.own.next

        rest : List ℕ
        rest = path g.arcs (label_of labels) leads.rest.hops (arc_at g.arcs step.on.own.next).to

        first : path g.arcs (label_of labels) step.on.own.hops node
            ≡ step.on.own.next ∷ path g.arcs (label_of labels) leads.rest.hops (arc_at g.arcs step.on.own.next).to
        first =
            ap (λ n. path g.arcs (label_of labels) n node) fewer
            ∙ ap
            (λ (o : Option Label). next_of o ∷ path g.arcs (label_of labels) leads.rest.hops (arc_at g.arcs (next_of o)).to)
            step.on.has

-- after the last step the least walk is written
written : {g : GraphView} {labels : List (Option Label)} {goal source node taken : ℕ} {out : List ℕ} (first : Label)
    → IsRoutes g labels goal → label_of labels source ≡ Some first
    → IsOnWay g.arcs labels source first.hops node taken out → first.hops ≤ taken → IsLeastWalk g.arcs source goal out
written {g} {labels} {goal} {source} {node} {taken} {out} first routes has on done =
    let none : on.own.hops ≡ 0 = (let e = on.left in omega arith) in
    subst
    (λ es. IsLeastWalk g.arcs source goal es)
    (on.way ∙ subst (λ k. out ++ path g.arcs (label_of labels) k node ≡ out) (sym none) (append-nil out))
    (least_walk g.arcs goal (label_of labels) routes.table source first has)

-- the routes r, with their labels, of whose source the label is read
pub record ReadsLabel (g : GraphView) (labels : List (Option Label)) (goal : ℕ) (r : RoutesView) (source : ℕ) (o : Option Label) : Type 0 where
  pub routes : IsRoutes g labels goal
  pub seen : record { graph = g; destination = goal } ≡ r
  pub node : source < r.graph.nodes
  pub read : o ≡ get_or labels source o

-- the same by the steps of the code
pub reads : {g : GraphView} {labels : List (Option Label)} {goal source : ℕ} {r : RoutesView} (o : Option Label)
    → IsRoutes g labels goal → record { graph = g; destination = goal } ≡ r → source < r.graph.nodes → o ≡ get_or labels source o
    → ReadsLabel g labels goal r source o
reads o routes seen node read = record { routes = routes; seen = seen; node = node; read = read }

-- it is the source's label
pub reads_own : {g : GraphView} {labels : List (Option Label)} {goal source : ℕ} {r : RoutesView} {o : Option Label}
    → ReadsLabel g labels goal r source o → label_of labels source ≡ o
reads_own {g} {labels} {goal} {source} {r} {o} reads' =
    label_read labels source o (source_place reads'.routes reads'.seen reads'.node) reads'.read

-- so the loop's end has written the least walk of these routes
pub walk_written : {g : GraphView} {labels : List (Option Label)} {goal source node taken : ℕ} {r : RoutesView} {o : Option Label}
    {out : List ℕ} (first : Label) → ReadsLabel g labels goal r source o → o ≡ Some first
    → IsOnWay g.arcs labels source first.hops node taken out → first.hops ≤ taken
    → IsLeastWalk r.graph.arcs source r.destination out
walk_written {g} {labels} {goal} {source} {node} {taken} {r} {o} {out} first reads' is on done =
    subst
    (λ (v : RoutesView). IsLeastWalk v.graph.arcs source v.destination out)
    reads'.seen
    (written first reads'.routes (reads_own reads' ∙ is) on done)

-- a node has a label if and only if a walk leads from it to the destination
pub reached_iff : {g : GraphView} {labels : List (Option Label)} {goal : ℕ} (source : ℕ) (o : Option Label)
    → IsRoutes g labels goal → label_of labels source ≡ o
    → IsTrue (is_some o) ↔ ((walk : List ℕ) × IsWalk g.arcs source goal walk)
reached_iff {g} {labels} {goal} source None routes has = (
  λ never. absurd (false≢true never),
  λ found. absurd (no_walk g.arcs goal (label_of labels) routes.table source has found.0 found.1),
)
reached_iff {g} {labels} {goal} source (Some l) routes has = (
  λ _. (path g.arcs (label_of labels) l.hops source, (least_walk g.arcs goal (label_of labels) routes.table source l has).walk),
  λ _. refl,
)

-- and if and only if a least walk does
pub least_iff : {g : GraphView} {labels : List (Option Label)} {goal : ℕ} (source : ℕ) (o : Option Label)
    → IsRoutes g labels goal → label_of labels source ≡ o
    → IsTrue (is_some o) ↔ ((walk : List ℕ) × IsLeastWalk g.arcs source goal walk)
least_iff {g} {labels} {goal} source None routes has = (
  λ never. absurd (false≢true never),
  λ found. absurd (no_walk g.arcs goal (label_of labels) routes.table source has found.0 found.1.walk),
)
least_iff {g} {labels} {goal} source (Some l) routes has = (
  λ _. (path g.arcs (label_of labels) l.hops source, least_walk g.arcs goal (label_of labels) routes.table source l has),
  λ _. refl,
)
