-- The links that edges give. `find` gives the number of the node with an id.
use Rattle.std.specs.Prelude.{ℕ, ◌==◌, Bool, List, [], ◌∷◌, Option, Some, None, if◌then◌else◌}
use Rattle.std.specs.List.{flat_map}
use Rattle.topo.specs.declared.parts.EdgeSpec.{EdgeSpec}
use Rattle.topo.specs.declared.parts.Link.{Link}

-- the link from one node to another, with an edge's values
abbrev pub link : EdgeSpec → ℕ → ℕ → Link
link edge a b = record { from = a; to = b; bps = edge.bps; latency_us = edge.latency_us; queue = edge.queue; ppm = edge.ppm }

-- from source to target first, and back only where edges have no direction
abbrev pub links_between : Bool → EdgeSpec → Option ℕ → Option ℕ → List Link
links_between directed edge (Some a) (Some b) =
    if directed then (link edge a b ∷ []) else (link edge a b ∷ link edge b a ∷ [])
links_between directed edge (Some a) None = []
links_between directed edge None b = []

-- an edge from a node to itself gives none
abbrev pub links_of_edge : Bool → (ℕ → Option ℕ) → EdgeSpec → List Link
links_of_edge directed find edge =
    if edge.source == edge.target then [] else links_between directed edge (find edge.source) (find edge.target)

abbrev pub links_of : Bool → (ℕ → Option ℕ) → List EdgeSpec → List Link
links_of directed find edges = flat_map (links_of_edge directed find) edges
