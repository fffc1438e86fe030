-- A least walk meets no node twice: what lies between two visits could be cut out, which lessens the key.
use Rattle.std.proofs.Common.{◌≡◌, ◌≢◌, ℕ, suc, ◌<◌, ◌≤◌, inl, inr, false, true, eqb, List, [], ◌∷◌, length, refl, sym, ap, subst, arith}
use Rattle.std.specs.List.{All, AllPairs, AllByRecursion, IsDistinct, list_any}
use Rattle.std.proofs.lemmas.Bool.{ne_eqb, eqb-true, false≢true, or_cases}
use Rattle.std.proofs.lemmas.Bool.Decides.{Decides-eqb}
use Rattle.std.proofs.lemmas.List.Elements.{All-cons, All-nil}
use Rattle.std.proofs.lemmas.Map.Keys.{IsDistinct-cons}
use Rattle.std.proofs.lemmas.Map.Made.{AllPairs-from_IsDistinct}
use Rattle.std.proofs.lemmas.Map.Steps.{length-le_from_distinct_below}
use Rattle.mn_base.specs.Among.{Among}
use Rattle.routes.specs.declared.graph.Arc.{Arc}
use Rattle.routes.specs.GraphView.{IsArcAmong}
use Rattle.routes.specs.Walk.{no_arc, arc_at, IsWalk, weight_of, nodes_of}
use Rattle.routes.specs.LeastWalk.{IsNoGreater, IsLeastWalk}

-- what doesn't stand in a list differs from each of its members
apart : (x : ℕ) (xs : List ℕ) → (Among x xs → ⊥) → AllByRecursion (λ y. eqb x y ≡ false) xs
apart x [] absent = tt
apart x (y ∷ ys) absent = (ne_eqb x y (λ same. absent (inl (sym same))), apart x ys (λ later. absent (inr later)))

-- the arcs of a walk are arcs of the graph
pub arcs_named : (arcs : List Arc) (a b : ℕ) (es : List ℕ) → IsWalk arcs a b es → All (λ e. e < length arcs) es
arcs_named arcs a b [] walk = All-nil (λ e. e < length arcs)
arcs_named arcs a b (e ∷ es) walk =
    All-cons (λ f. f < length arcs) e es walk.0 (arcs_named arcs (arc_at arcs e).to b es walk.2)

module _ (arcs : List Arc) (b : ℕ) where
  -- a walk to b, no heavier and no longer than es
  record HasNoLonger (x : ℕ) (es : List ℕ) : Type 0 where
    short : List ℕ
    walk : IsWalk arcs x b short
    weight : weight_of arcs short ≤ weight_of arcs es
    hops : length short ≤ length es

  -- from each node that it meets, the rest of a walk
  rest_from : (x c : ℕ) (es : List ℕ) → IsWalk arcs c b es → Among x (nodes_of arcs c es) → HasNoLonger x es
  rest_from x c [] walk met =
      elim met [
        | inl here ↦ record { short = []; walk = subst (λ y. IsWalk arcs y b []) here walk; weight = omega arith; hops = omega arith }
        | inr later ↦ absurd later
      ]
  rest_from x c (e ∷ es) walk met =
      elim met [
        | inl here ↦
            record { short = e ∷ es; walk = subst (λ y. IsWalk arcs y b (e ∷ es)) here walk; weight = omega arith; hops = omega arith }
        | inr later ↦
            let more = rest_from x (arc_at arcs e).to es walk.2 later in
            record {
              short = more.short;
              walk = more.walk;
              weight = (let w = more.weight in omega arith);
              hops = (let h = more.hops in omega arith);
            }
      ]

  -- a walk meets the start of each of its arcs
  start_met : (x c : ℕ) (es : List ℕ) → IsWalk arcs c b es → Among x es → Among (arc_at arcs x).from (nodes_of arcs c es)
  start_met x c [] walk there = absurd there
  start_met x c (e ∷ es) walk there =
      elim there [
        | inl here ↦ inl (subst (λ y. c ≡ (arc_at arcs y).from) here (sym walk.1))
        | inr later ↦ inr (start_met x (arc_at arcs e).to es walk.2 later)
      ]

  -- what holds of two walks with one first arc holds of their rests
  same_first : (e : ℕ) (es fs : List ℕ) → IsNoGreater arcs (e ∷ es) (e ∷ fs) → IsNoGreater arcs es fs
  same_first e es fs both =
      elim both [
        | inl lighter ↦ inl (omega arith)
        | inr even ↦
            inr (
              omega arith,
              elim even.1 [
                | inl fewer ↦ inl (omega arith)
                | inr same ↦ inr (omega arith, elim same.1 [ inl less ↦ absurd (omega arith) | inr tie ↦ tie.1 ])
              ],
            )
      ]

  -- the rest of a least walk is one
  rest_least : (a e : ℕ) (es : List ℕ) → IsLeastWalk arcs a b (e ∷ es) → IsLeastWalk arcs (arc_at arcs e).to b es
  rest_least a e es own =
      record {
        walk = own.walk.2;
        least = λ fs other. same_first e es fs (own.least (e ∷ fs) (own.walk.0, own.walk.1, other));
      }

  -- no walk is both no heavier and shorter than a least one
  no_shorter : (a e : ℕ) (es : List ℕ) → IsLeastWalk arcs a b (e ∷ es) → HasNoLonger a es → ⊥
  no_shorter a e es own cut =
      let weight : weight_of arcs cut.short ≤ weight_of arcs es = cut.weight in
      let hops : length cut.short ≤ length es = cut.hops in
      elim (own.least cut.short cut.walk) [
        | inl lighter ↦ omega arith
        | inr even ↦ elim even.1 [ inl fewer ↦ omega arith | inr same ↦ omega arith ]
      ]

  -- a least walk doesn't come back to its start
  not_back : (a e : ℕ) (es : List ℕ) → IsLeastWalk arcs a b (e ∷ es) → Among a (nodes_of arcs (arc_at arcs e).to es) → ⊥
  not_back a e es own met = no_shorter a e es own (rest_from a (arc_at arcs e).to es own.walk.2 met)

  -- no rest of a least walk comes back to its start, so all its nodes differ
  distinct_nodes : (a : ℕ) (es : List ℕ) → IsLeastWalk arcs a b es → IsDistinct eqb (nodes_of arcs a es)
  unfolding IsDistinct
  distinct_nodes a [] own = IsDistinct-cons eqb a [] tt tt
  distinct_nodes a (e ∷ es) own =
      IsDistinct-cons
      eqb
      a
      (nodes_of arcs (arc_at arcs e).to es)
      (apart a (nodes_of arcs (arc_at arcs e).to es) (not_back a e es own))
      (distinct_nodes (arc_at arcs e).to es (rest_least a e es own))

  -- an arc that came again would bring its start again
  distinct_arcs : (a : ℕ) (es : List ℕ) → IsLeastWalk arcs a b es → IsDistinct eqb es
  unfolding IsDistinct
  distinct_arcs a [] own = tt
  distinct_arcs a (e ∷ es) own =
      IsDistinct-cons
      eqb
      e
      es
      (apart e es (λ again.
      not_back a e es own
      (subst
      (λ x. Among x (nodes_of arcs (arc_at arcs e).to es))
      own.walk.1
      (start_met e (arc_at arcs e).to es own.walk.2 again))))
      (distinct_arcs (arc_at arcs e).to es (rest_least a e es own))

  -- the same in std's words
  pub no_node_twice : (a : ℕ) (es : List ℕ) → IsLeastWalk arcs a b es → AllPairs (λ v w. v ≢ w) (nodes_of arcs a es)
  no_node_twice a es own = AllPairs-from_IsDistinct Decides-eqb (nodes_of arcs a es) (distinct_nodes a es own)

  -- and of arcs
  pub no_arc_twice : (a : ℕ) (es : List ℕ) → IsLeastWalk arcs a b es → AllPairs (λ e f. e ≢ f) es
  no_arc_twice a es own = AllPairs-from_IsDistinct Decides-eqb es (distinct_arcs a es own)

  -- each node that a walk meets is a node of the graph
  within : (nodes : ℕ) → All (IsArcAmong nodes) arcs → (a : ℕ) (es : List ℕ) → a < nodes → IsWalk arcs a b es
      → (q : ℕ) → list_any (eqb q) (nodes_of arcs a es) ≡ true → q < nodes
  within nodes all a [] low walk q met =
      elim (or_cases (eqb q a) false met) [
        | inl here ↦ (let is : q ≡ a = eqb-true q a here in omega arith)
        | inr never ↦ absurd (false≢true never)
      ]
  within nodes all a (e ∷ es) low walk q met =
      elim (or_cases (eqb q a) (list_any (eqb q) (nodes_of arcs (arc_at arcs e).to es)) met) [
        | inl here ↦ (let is : q ≡ a = eqb-true q a here in omega arith)
        | inr later ↦ within nodes all (arc_at arcs e).to es (all e no_arc walk.0).to walk.2 q later
      ]

  -- a walk meets one node more than it has arcs
  length-nodes_of : (a : ℕ) (es : List ℕ) → length (nodes_of arcs a es) ≡ suc (length es)
  length-nodes_of a [] = refl
  length-nodes_of a (e ∷ es) = ap suc (length-nodes_of (arc_at arcs e).to es)

  -- so many different nodes there are, and a walk meets one more than it has arcs
  pub short : (nodes : ℕ) (a : ℕ) (es : List ℕ) → All (IsArcAmong nodes) arcs → a < nodes → IsLeastWalk arcs a b es → length es < nodes
  short nodes a es all low own =
      let most = length-le_from_distinct_below (nodes_of arcs a es) nodes (distinct_nodes a es own) (within nodes all a es low own.walk) in
      let is = length-nodes_of a es in
      omega arith
