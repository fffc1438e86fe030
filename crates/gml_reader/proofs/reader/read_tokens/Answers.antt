use Rattle.std.proofs.Common.{length, arith}
use Rattle.gml_reader.proofs.WholeTexts.{text_of, list_in_text, graph_at, without_graph, reads_of, fault_of}
use Rattle.gml_reader.proofs.reader.read_tokens.Goals as goal

pub returns-in_default-graph_in-clause-fault : goal.returns-in_default-graph_in-clause-fault
returns-in_default-graph_in-clause-fault c =
    let f = c.in_default.ensures.file in
    let tree = text_of c.args.text.now c.args.tokens.now c.requires.are f c.in_default.ensures.shallow in
    let list = list_in_text (length c.args.text.now) f.file c.args.tokens.now f.list f.spelled_is c.requires.spans in
    without_graph c.args.text.now f.file tree (c.in_default-graph_in.ensures.graph f.file list f.spelled_is)

pub read_graph-requires : goal.read_graph-requires
read_graph-requires c = omega (arith, c.in-Some.ensures.within, c.requires.count, c.requires.few)

pub returns-clause-read : goal.returns-clause-read
returns-clause-read c =
    let f = c.in_default.ensures.file in
    let tree = text_of c.args.text.now c.args.tokens.now c.requires.are f c.in_default.ensures.shallow in
    let list = list_in_text (length c.args.text.now) f.file c.args.tokens.now f.list f.spelled_is c.requires.spans in
    let g = graph_at (length c.args.text.now) _ c.in-Some.graph (c.in-Some.ensures.graph f.file list f.spelled_is) in
    reads_of c.args.text.now f.file c.in-Some.graph.now c.read_graph.result tree g (c.read_graph.ensures g.graph g.list g.tokens_are)

pub returns-clause-fault : goal.returns-clause-fault
returns-clause-fault c =
    let f = c.in_default.ensures.file in
    let tree = text_of c.args.text.now c.args.tokens.now c.requires.are f c.in_default.ensures.shallow in
    let list = list_in_text (length c.args.text.now) f.file c.args.tokens.now f.list f.spelled_is c.requires.spans in
    let g = graph_at (length c.args.text.now) _ c.in-Some.graph (c.in-Some.ensures.graph f.file list f.spelled_is) in
    fault_of c.args.text.now f.file c.in-Some.graph.now c.read_graph.result tree g (c.read_graph.ensures g.graph g.list g.tokens_are)
