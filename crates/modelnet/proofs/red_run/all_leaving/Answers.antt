use Rattle.std.proofs.Common.{◌≡◌, ◌++◌, Ok, filter_map, rules, tests}
use Rattle.std.specs.List.{zip}
use Rattle.std.proofs.lemmas.Iterator.{YieldsList-from_slice, YieldsList-from_zip}
use Rattle.std.proofs.lemmas.Iterator.Adapters.{items_from_extend, YieldsList-from_vec}
use Rattle.std.proofs.lemmas.Iterator.Consumers.{YieldsList-from_filter_map, YieldsList-at}
use Rattle.modelnet.specs.RedRun.{red_leaving_of}
use Rattle.modelnet.proofs.red_run.all_leaving.Goals as goal

-- packets, fates and bytes go side by side, and what leaves of them goes into a vector without elements
pub returns : goal.returns
returns c =
    let packets = c.args.packets.now in
    let fates = c.args.fates.now in
    let bytes = c.args.bytes.items in
    let pairs = YieldsList-from_zip {s = c.zip.result} (YieldsList-from_slice packets cc) (YieldsList-from_slice fates cc) in
    let triples = YieldsList-from_zip {s = c.zip-2.result} (YieldsList-at c.zip-2.ensures.first pairs)
    (YieldsList-from_vec bytes (search rules) (search rules)) in
    let added : c.extend.new.self.items ≡
    c.in_ok-leaving.leaving.items ++ filter_map (λ p. red_leaving_of p.0.0.number p.1 p.0.1) (zip (zip packets fates) bytes) =
    (items_from_extend {E = Unit {0}} (Ok c.in_ok-extend.field-0) c.in_ok-extend.ensures.ran
    (YieldsList-from_filter_map _ _ (YieldsList-at c.filter_map.ensures.source triples) c.filter_map.ensures.closure
    (λ x r q k. search (rules, tests)))).0 in
    rw c.in_ok-leaving.ensures.items at added
