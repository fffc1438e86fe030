use Rattle.std.proofs.Common.{◌≡◌, ◌++◌, ◌+◌, take, drop, sym, ap, ◌∙◌, append_assoc, List, ℕ, Ok, rules}
use Rattle.std.specs.List.{flat_map}
use Rattle.std.proofs.lemmas.Result.{err_from_is_err_and}
use Rattle.pcap_io.specs.Writing.{record_text}
use Rattle.pcap_io.proofs.Blocks.{AddsBuffered-parts, AddsBuffered-stopped, flat_map-more, flat_map-at}
use Rattle.pcap_io.proofs.writing.write_records.Goals as goal

-- the records before, and then one more
pub packets-preserved : goal.packets-preserved
packets-preserved g c =
    let block = c.args.block.now in
    let packets = c.args.packets.now in
    let i = c.packets.packet-index in
    let packet = c.packet-item.result in
    let before = flat_map record_text (take i packets) in
    let text_is : block ++ flat_map record_text (take (i + 1) packets) ≡ (block ++ before) ++ record_text packet =
    ap (λ (bytes : List ℕ). block ++ bytes) (flat_map-more record_text packets i packet c.packets-test.true c.packet-item.is)
    ∙ sym (append_assoc block before (record_text packet)) in
    record {
      active = search rules;
      buffered = AddsBuffered-parts _ _ c.write_record.new.block (Ok tt) text_is c.packets.invariant.buffered c.in_ok-write_record.ensures.own;
      others = search rules;
    }

-- a record that stopped stops them all
pub returns-in_err-write_record-clause-own : goal.returns-in_err-write_record-clause-own
returns-in_err-write_record-clause-own g c =
    let stopped = err_from_is_err_and c.from_residual.result c.from_residual.ensures.1 in
    let block = c.args.block.now in
    let packets = c.args.packets.now in
    let i = c.packets.packet-index in
    let packet = c.packet-item.result in
    let before = flat_map record_text (take i packets) in
    let behind = flat_map record_text (drop (i + 1) packets) in
    let text_is : block ++ flat_map record_text packets ≡ (block ++ before) ++ (record_text packet ++ behind) =
    ap (λ (bytes : List ℕ). block ++ bytes) (flat_map-at record_text packets i packet c.packets-test.true c.packet-item.is)
    ∙ sym (append_assoc block before (record_text packet ++ behind)) in
    rw stopped.1
    (AddsBuffered-stopped _ (record_text packet) behind c.in_err-write_record.field-0.0 stopped.0 text_is
    c.packets.invariant.buffered c.in_err-write_record.ensures.own)
