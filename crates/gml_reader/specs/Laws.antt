-- A text reads to one topology or has one first fault, and not both.
use Rattle.std.specs.Prelude.{◌≡◌, ◌⊎◌, ℕ, List}
use Rattle.topo.specs.TopologyView.{TopologyView}
use Rattle.gml_reader.specs.declared.faults.GmlFault.{GmlFault}
use Rattle.gml_reader.specs.Texts.{Reads, IsFirstFault}

-- each text reads to a topology or has a first fault
abbrev pub EachTextIsAnswered : Type 0
EachTextIsAnswered =
    (text : List ℕ) → ((topology : TopologyView) × Reads text topology) ⊎ ((fault : GmlFault) × IsFirstFault text fault)

-- no text has both
abbrev pub NeverBoth : Type 0
NeverBoth = (text : List ℕ) (topology : TopologyView) (fault : GmlFault) → Reads text topology → IsFirstFault text fault → ⊥

-- no text reads to two topologies
abbrev pub OneReading : Type 0
OneReading = (text : List ℕ) (topology other : TopologyView) → Reads text topology → Reads text other → topology ≡ other

-- no text has two first faults
abbrev pub OneFault : Type 0
OneFault = (text : List ℕ) (fault other : GmlFault) → IsFirstFault text fault → IsFirstFault text other → fault ≡ other
