-- What follows of the definitions: there is one distilled topology and one number of pipes, and the link that decides bandwidth and queue
-- limit is the first of least bandwidth.
use Rattle.std.specs.Prelude.{◌≡◌, ℕ, ◌<◌, ◌≤◌, List, ◌∷◌, ◌++◌, length}
use Rattle.mn_base.specs.Among.{Among}
use Rattle.topo.specs.declared.parts.Link.{Link}
use Rattle.topo.specs.TopologyView.{TopologyView}
use Rattle.distill.specs.declared.modes.Mode.{Mode}
use Rattle.distill.specs.Combination.{narrowest}
use Rattle.distill.specs.Distilled.{DistilledView, IsDistilled}
use Rattle.distill.specs.PipeCount.{HasPipeCount}

-- a topology has one distilled topology in a mode
abbrev pub OneDistilled : Type 0
OneDistilled = (t : TopologyView) (mode : Mode) (tick_ns : ℕ) (d e : DistilledView)
    → IsDistilled t mode tick_ns d → IsDistilled t mode tick_ns e → d ≡ e

-- a topology has one number of pipes in a mode
abbrev pub OnePipeCount : Type 0
OnePipeCount = (t : TopologyView) (mode : Mode) (m n : ℕ) → HasPipeCount t mode m → HasPipeCount t mode n → m ≡ n

-- it is that of the pipes of the distilled topology
abbrev pub PipesAreCounted : Type 0
PipesAreCounted = (t : TopologyView) (mode : Mode) (tick_ns n : ℕ) (d : DistilledView)
    → IsDistilled t mode tick_ns d → HasPipeCount t mode n → length d.pipes ≡ n

-- all links before it have more bandwidth, and none after it has less
pub record IsFirstOfLeast (links : List Link) (narrow : Link) : Type 0 where
  pub front : List Link
  pub rest : List Link
  pub is : links ≡ front ++ narrow ∷ rest
  pub wider : (l : Link) → Among l front → narrow.bps < l.bps
  pub as_wide : (l : Link) → Among l rest → narrow.bps ≤ l.bps

abbrev pub NarrowestIsFirst : Type 0
NarrowestIsFirst = (links : List Link) → 0 < length links → IsFirstOfLeast links (narrowest links)
