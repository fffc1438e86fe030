-- The mesh: a pipe for each ordered pair of different border nodes that a walk of the middle joins.
use Rattle.std.specs.Prelude.{◌≡◌, ◌≢◌, ℕ, ◌<◌, ◌⊎◌, List, map, AllPairs}
use Rattle.mn_base.specs.Among.{Among}
use Rattle.topo.specs.declared.parts.Link.{Link}
use Rattle.routes.specs.declared.graph.Arc.{Arc}
use Rattle.routes.specs.SameLatency.{IsJoined}
use Rattle.routes.specs.LeastWalk.{IsLeastWalk}
use Rattle.walk_out.specs.Parts.{link_at}
use Rattle.distill.specs.declared.pipes.DistilledPipe.{DistilledPipe}
use Rattle.distill.specs.Combination.{StandsFor}

-- a link as an arc that weighs its latency
abbrev pub arc_of : Link → Arc
arc_of l = record { from = l.from; to = l.to; weight = l.latency_us }

-- the links of these numbers
abbrev pub links_at : List Link → List ℕ → List Link
links_at links numbers = map (link_at links) numbers

-- the middle as a graph. Its arcs stand in the order of link numbers, so the least walk by numbers of arcs is the least by numbers
-- of links
abbrev pub arcs_of : List Link → List Arc
arcs_of links = map arc_of links

-- a pipe that stands for the least walk between its ends
pub record StandsForLeast (tick_ns : ℕ) (middle : List Link) (pipe : DistilledPipe) : Type 0 where
  pub walk : List ℕ
  pub least : IsLeastWalk (arcs_of middle) pipe.from pipe.to walk
  pub stands : StandsFor tick_ns pipe.from pipe.to (links_at middle walk) pipe

-- two different nodes of the border that a walk joins
pub record IsMeshPair (arcs : List Arc) (border : List ℕ) (a b : ℕ) : Type 0 where
  pub from : Among a border
  pub to : Among b border
  pub differ : a ≢ b
  pub joined : IsJoined arcs a b

-- the pipe p comes first: by from, then by to
abbrev pub ComesBefore : DistilledPipe → DistilledPipe → Type 0
ComesBefore p q = (p.from < q.from) ⊎ ((p.from ≡ q.from) × (p.to < q.to))

-- a pipe from a to b is there
abbrev pub HasPipe : List DistilledPipe → ℕ → ℕ → Type 0
HasPipe pipes a b = (pipe : DistilledPipe) × Among pipe pipes × (pipe.from ≡ a) × (pipe.to ≡ b)

-- pipes for the ordered pairs of different border nodes that a walk of the middle joins, one for each, which stands for the least
-- walk; by from, and then by to
pub record IsMesh (tick_ns : ℕ) (middle : List Link) (border : List ℕ) (mesh : List DistilledPipe) : Type 0 where
  pub pairs : (pipe : DistilledPipe) → Among pipe mesh → IsMeshPair (arcs_of middle) border pipe.from pipe.to
  pub least : (pipe : DistilledPipe) → Among pipe mesh → StandsForLeast tick_ns middle pipe
  pub all : (a b : ℕ) → IsMeshPair (arcs_of middle) border a b → HasPipe mesh a b
  pub in_order : AllPairs ComesBefore mesh
