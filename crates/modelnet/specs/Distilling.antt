-- What `distill` and `assign` make of a topology: the text of its pipes, and that of their owners.
use Rattle.std.specs.Prelude.{◌≡◌, ◌<◌, ◌≤◌, ℕ, List, length}
use Rattle.mn_base.specs.declared.limits.TheConstants.{PIPES_MAX, TICK_NS_DEFAULT}
use Rattle.topo.specs.TopologyView.{TopologyView}
use Rattle.gml_reader.specs.Texts.{Reads}
use Rattle.distill.specs.declared.modes.Mode.{Mode}
use Rattle.distill.specs.Distilled.{DistilledView, IsDistilled}
use Rattle.distill.specs.PipeCount.{HasPipeCount}
use Rattle.ownership.specs.Assignment.{assignment}
use Rattle.ownership.specs.Texts.{directory_text}
use Rattle.report.specs.Pipes.{pipes_text}
use Rattle.mn_words.specs.Order.{DistillView, AssignView}

-- the bytes read to this topology, and this is what is left of it in the mode, with not too many pipes
pub record Distils (mode : Mode) (tick_ns : ℕ) (text : List ℕ) (topology : TopologyView) (distilled : DistilledView) : Type 0 where
  pub reads : Reads text topology
  pub distilled_is : IsDistilled topology mode tick_ns distilled
  pub few : length distilled.pipes ≤ PIPES_MAX

-- the screen has the text of the pipes
pub record SaysPipes (order : DistillView) (text screen : List ℕ) : Type 0 where
  pub topology : TopologyView
  pub distilled : DistilledView
  pub distils : Distils order.mode order.tick_ns text topology distilled
  pub screen_is : screen ≡ pipes_text topology distilled order.mode order.tick_ns

-- the screen has the directory of the assignment; it reads no tick length, so the pipes are those of the usual one
pub record SaysOwners (order : AssignView) (text screen : List ℕ) : Type 0 where
  pub topology : TopologyView
  pub distilled : DistilledView
  pub distils : Distils order.mode TICK_NS_DEFAULT text topology distilled
  pub screen_is : screen ≡ directory_text (assignment distilled order.cores)

-- the bytes read to a topology that has so many pipes in the mode, which are too many
pub record HasTooManyPipes (mode : Mode) (text : List ℕ) (count : ℕ) : Type 0 where
  pub topology : TopologyView
  pub reads : Reads text topology
  pub count_is : HasPipeCount topology mode count
  pub too_many : PIPES_MAX < count
