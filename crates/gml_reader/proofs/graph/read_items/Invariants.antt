use Rattle.std.proofs.Common.{◌≡◌, ◌≤◌, ◌+◌, length}
use Rattle.mn_base.specs.declared.limits.TheConstants.{TOPOLOGY_BYTES_MAX}
use Rattle.gml_reader.specs.Grammar.{Pairs, spelled}
use Rattle.gml_reader.specs.Walk.{IsListIn}
use Rattle.gml_reader.proofs.Reached.{Reached}
use Rattle.gml_reader.proofs.graph.read_items.Given as goal

abbrev pub invariant-loop-pair : goal.invariant-loop-pair
invariant-loop-pair l = record {
  few_nodes : length l.items.nodes.items + length l.rest ≤ TOPOLOGY_BYTES_MAX;
  few_edges : length l.items.edges.items + length l.rest ≤ TOPOLOGY_BYTES_MAX;
  reached : (t : Pairs) → IsListIn (length l.text) t → l.graph ≡ spelled t
      → Reached l.text t l.rest l.items.nodes.items l.items.edges.items;
}

abbrev pub decreases-loop-pair : goal.decreases-loop-pair
decreases-loop-pair l = length l.rest
