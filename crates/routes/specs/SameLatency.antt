-- When a graph of pipes keeps the least latencies of a graph of links, whichever part of it the pipes stand for.
use Rattle.std.specs.Prelude.{◌≡◌, ◌≢◌, ◌↔◌, ℕ, ◌<◌, ◌≤◌, ◌⊎◌, Bool, true, false, List, [], ◌∷◌, length}
use Rattle.mn_base.specs.Among.{Among}
use Rattle.routes.specs.declared.graph.Arc.{Arc}
use Rattle.routes.specs.Walk.{arc_at, IsWalk, weight_of}

-- n is the least latency over walks from a to b, where arcs weigh their latency
pub record IsLeastLatency (arcs : List Arc) (a b n : ℕ) : Type 0 where
  pub walk : List ℕ
  pub joins : IsWalk arcs a b walk
  pub latency : weight_of arcs walk ≡ n
  pub least : (other : List ℕ) → IsWalk arcs a b other → n ≤ weight_of arcs other

-- some walk leads from a to b
abbrev pub IsJoined : List Arc → ℕ → ℕ → Type 0
IsJoined arcs a b = (walk : List ℕ) × IsWalk arcs a b walk

-- in two graphs the least latencies from a to b are equal, and one has a walk if and only if the other has one
pub record HaveSameLatency (arcs pipes : List Arc) (a b : ℕ) : Type 0 where
  pub latency : (n : ℕ) → IsLeastLatency pipes a b n ↔ IsLeastLatency arcs a b n
  pub joined : IsJoined pipes a b ↔ IsJoined arcs a b

-- neither end of the arc is outer
pub record IsInner (outer : ℕ → Bool) (arc : Arc) : Type 0 where
  pub from : outer arc.from ≡ false
  pub to : outer arc.to ≡ false

-- a walk of inner arcs
abbrev pub IsInnerWalk : List Arc → (ℕ → Bool) → ℕ → ℕ → List ℕ → Type 0
IsInnerWalk arcs outer a b [] = a ≡ b
IsInnerWalk arcs outer a b (e ∷ es) =
    (e < length arcs) × ((arc_at arcs e).from ≡ a) × IsInner outer (arc_at arcs e) × IsInnerWalk arcs outer (arc_at arcs e).to b es

-- an arc from a to b that weighs at most n
pub record HasArc (arcs : List Arc) (a b n : ℕ) : Type 0 where
  pub number : ℕ
  pub below : number < length arcs
  pub from : (arc_at arcs number).from ≡ a
  pub to : (arc_at arcs number).to ≡ b
  pub weight : (arc_at arcs number).weight ≤ n

-- a walk from a to b that weighs n
pub record HasWalk (arcs : List Arc) (a b n : ℕ) : Type 0 where
  pub walk : List ℕ
  pub joins : IsWalk arcs a b walk
  pub weight : weight_of arcs walk ≡ n

-- Pipes distill a graph, of which some nodes are outer: an arc that isn't inner is kept as a pipe; between any two nodes of the border
-- a pipe is no longer than each walk of inner arcs; each pipe stands for some walk; and where an arc has one outer end, its other end
-- is on the border.
pub record IsDistilledBy (outer : ℕ → Bool) (border : List ℕ) (arcs pipes : List Arc) : Type 0 where
  pub kept : (e : ℕ) → e < length arcs → (outer (arc_at arcs e).from ≡ true) ⊎ (outer (arc_at arcs e).to ≡ true)
      → HasArc pipes (arc_at arcs e).from (arc_at arcs e).to (arc_at arcs e).weight
  pub mesh : (a b : ℕ) (walk : List ℕ) → Among a border → Among b border → a ≢ b → IsInnerWalk arcs outer a b walk
      → HasArc pipes a b (weight_of arcs walk)
  pub stands : (q : ℕ) → q < length pipes
      → HasWalk arcs (arc_at pipes q).from (arc_at pipes q).to (arc_at pipes q).weight
  pub leaves : (e : ℕ) → e < length arcs → outer (arc_at arcs e).from ≡ false → outer (arc_at arcs e).to ≡ true
      → Among (arc_at arcs e).from border
  pub enters : (e : ℕ) → e < length arcs → outer (arc_at arcs e).from ≡ true → outer (arc_at arcs e).to ≡ false
      → Among (arc_at arcs e).to border

-- a node at which walks of pipes may begin and end: outer, or on the border
abbrev pub IsTerminal : (ℕ → Bool) → List ℕ → ℕ → Type 0
IsTerminal outer border a = outer a ≡ false → Among a border

-- pipes that distill a graph keep the least latency between any two ends
abbrev pub DistillingKeepsLatency : Type 0
DistillingKeepsLatency = (outer : ℕ → Bool) (border : List ℕ) (arcs pipes : List Arc) (a b : ℕ)
    → IsDistilledBy outer border arcs pipes → IsTerminal outer border a → IsTerminal outer border b → HaveSameLatency arcs pipes a b
