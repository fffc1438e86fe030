use Rattle.std.proofs.Common.{◌≡◌, ◌≤◌, length}
use Rattle.gml_reader.specs.Grammar.{Pairs, spelled}
use Rattle.gml_reader.specs.Walk.{IsListIn}
use Rattle.gml_reader.proofs.Finding.{SearchedGraph}
use Rattle.gml_reader.proofs.graph.graph_in.Given as goal

abbrev pub invariant-loop-pair : goal.invariant-loop-pair
invariant-loop-pair l = record {
  within : length l.rest ≤ length l.tokens;
  searched : (t : Pairs) → IsListIn (length l.text) t → l.tokens ≡ spelled t → SearchedGraph l.text t l.rest;
}

abbrev pub decreases-loop-pair : goal.decreases-loop-pair
decreases-loop-pair l = length l.rest
