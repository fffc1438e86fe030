use Rattle.std.proofs.Common.{◌≡◌, length}
use Rattle.gml_reader.specs.Grammar.{Pairs, spelled}
use Rattle.gml_reader.specs.Walk.{IsListIn}
use Rattle.gml_reader.proofs.Finding.{Searched}
use Rattle.gml_reader.proofs.keys.value_at.Given as goal

abbrev pub invariant-loop-pair : goal.invariant-loop-pair
invariant-loop-pair l =
    (t : Pairs) → IsListIn (length l.text) t → l.tokens ≡ spelled t → Searched l.text l.name t l.rest

abbrev pub decreases-loop-pair : goal.decreases-loop-pair
decreases-loop-pair l = length l.rest
