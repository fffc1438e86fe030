-- What is found for one destination: the sources that are joined to it, and a pipe for each.
use Rattle.std.specs.Prelude.{◌≡◌, ◌≢◌, ℕ, List, length, map, Option, None, Some}
use Rattle.mn_base.specs.Among.{Among}
use Rattle.topo.specs.declared.parts.Link.{Link}
use Rattle.routes.specs.declared.graph.Arc.{Arc}
use Rattle.routes.specs.SameLatency.{IsJoined}
use Rattle.distill.specs.declared.pipes.DistilledPipe.{DistilledPipe}
use Rattle.distill.specs.Mesh.{arcs_of, StandsForLeast}
use Rattle.distill.specs.PipeCount.{AreDistinct}

-- a source that differs from the destination and that a walk joins to it
pub record IsSource (arcs : List Arc) (destination a : ℕ) : Type 0 where
  pub differs : a ≢ destination
  pub joined : IsJoined arcs a destination

-- those of the nodes, each once
pub record AreSources (arcs : List Arc) (nodes : List ℕ) (destination : ℕ) (found : List ℕ) : Type 0 where
  pub among : (a : ℕ) → Among a found → Among a nodes
  pub each : (a : ℕ) → Among a found → IsSource arcs destination a
  pub all : (a : ℕ) → Among a nodes → IsSource arcs destination a → Among a found
  pub once : AreDistinct found

-- there are so many
pub record HasSourceCount (arcs : List Arc) (nodes : List ℕ) (destination count : ℕ) : Type 0 where
  pub found : List ℕ
  pub are : AreSources arcs nodes destination found
  pub count_is : count ≡ length found

abbrev pub starts_of : List DistilledPipe → List ℕ
starts_of pipes = map (λ pipe. pipe.from) pipes

-- a pipe for each of them
pub record IsRow (tick_ns : ℕ) (middle : List Link) (nodes : List ℕ) (destination : ℕ) (row : List DistilledPipe) : Type 0 where
  pub starts : AreSources (arcs_of middle) nodes destination (starts_of row)
  pub ends : (pipe : DistilledPipe) → Among pipe row → pipe.to ≡ destination
  pub least : (pipe : DistilledPipe) → Among pipe row → StandsForLeast tick_ns middle pipe

-- the pipe from a source, or none where it is no source
abbrev pub IsPipeFrom : ℕ → List Link → ℕ → ℕ → Option DistilledPipe → Type 0
IsPipeFrom tick_ns middle a destination None = ¬ IsSource (arcs_of middle) destination a
IsPipeFrom tick_ns middle a destination (Some pipe) =
    IsSource (arcs_of middle) destination a × (pipe.from ≡ a) × (pipe.to ≡ destination) × StandsForLeast tick_ns middle pipe
