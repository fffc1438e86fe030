use Rattle.std.proofs.Common.{length, arith}
use Rattle.std.proofs.lemmas.Result.{err_from_is_err_and}
use Rattle.gml_reader.proofs.Finding.{parted}
use Rattle.gml_reader.proofs.Reached.{Reached-more, refused}
use Rattle.gml_reader.proofs.graph.read_items.Goals as goal

pub returns-in_err-read-clause-items : goal.returns-in_err-read-clause-items
returns-in_err-read-clause-items c = λ t l same.
    let len = length c.args.text.now in
    let r = c.loop-pair.invariant.reached t l same in
    let q = parted len r.left c.in-Some.pair r.list_left (c.in-Some.ensures.first len r.left r.list_left r.rest_is) in
    let item = c.in_err-read.ensures.item q.head (q.key_is, q.key_within, q.value_is) in
    let p = err_from_is_err_and c.from_residual.result c.from_residual.ensures.1 in
    rw (p.1, p.2) (refused r q c.read.new.self.nodes.items c.read.new.self.edges.items c.in_err-read.field-0.0 item)

pub loop-pair-preserved : goal.loop-pair-preserved
loop-pair-preserved c = record {
  few_nodes = omega (arith, c.in_ok-read.ensures.one_node, c.in-Some.ensures.shorter, c.loop-pair.invariant.few_nodes);
  few_edges = omega (arith, c.in_ok-read.ensures.one_edge, c.in-Some.ensures.shorter, c.loop-pair.invariant.few_edges);
  reached = λ t l same.
      let len = length c.args.text.now in
      let r = c.loop-pair.invariant.reached t l same in
      let q = parted len r.left c.in-Some.pair r.list_left (c.in-Some.ensures.first len r.left r.list_left r.rest_is) in
      let item = c.in_ok-read.ensures.item q.head (q.key_is, q.key_within, q.value_is) in
      Reached-more r q c.read.new.self.nodes.items c.read.new.self.edges.items item;
}
