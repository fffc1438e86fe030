-- How many pipes a topology has in a mode.
use Rattle.std.specs.Prelude.{◌≡◌, ℕ, ◌+◌, List, [], ◌∷◌, length}
use Rattle.mn_base.specs.Among.{Among}
use Rattle.routes.specs.declared.graph.Arc.{Arc}
use Rattle.topo.specs.declared.parts.Link.{Link}
use Rattle.topo.specs.TopologyView.{TopologyView}
use Rattle.walk_out.specs.Parts.{PartsView}
use Rattle.distill.specs.declared.modes.Mode.{Mode}
use Rattle.distill.specs.Mesh.{arcs_of, links_at, IsMeshPair}
use Rattle.distill.specs.Modes.{parts_of}

-- no element stands twice
abbrev pub AreDistinct : {X : Type 0} → List X → Type 0
AreDistinct [] = Unit {0}
AreDistinct (x ∷ xs) = (¬ Among x xs) × AreDistinct xs

-- all ordered pairs of different border nodes that a walk joins, each once
pub record AreMeshPairs (arcs : List Arc) (border : List ℕ) (pairs : List (ℕ × ℕ)) : Type 0 where
  pub each : (pair : ℕ × ℕ) → Among pair pairs → IsMeshPair arcs border pair.0 pair.1
  pub all : (pair : ℕ × ℕ) → IsMeshPair arcs border pair.0 pair.1 → Among pair pairs
  pub once : AreDistinct pairs

-- there are so many of these pairs
pub record HasPairCount (arcs : List Arc) (border : List ℕ) (count : ℕ) : Type 0 where
  pub pairs : List (ℕ × ℕ)
  pub are : AreMeshPairs arcs border pairs
  pub count_is : count ≡ length pairs

-- parts of these links have so many pipes: one for each kept link, and one for each pair of the mesh
pub record HasPartsCount (links : List Link) (parts : PartsView) (count : ℕ) : Type 0 where
  pub mesh_count : ℕ
  pub mesh : HasPairCount (arcs_of (links_at links parts.middle)) parts.border mesh_count
  pub sum : count ≡ length parts.kept + mesh_count

-- a topology has so many pipes in a mode
abbrev pub HasPipeCount : TopologyView → Mode → ℕ → Type 0
HasPipeCount t mode count = HasPartsCount t.links (parts_of t mode) count
