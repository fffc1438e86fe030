use Rattle.std.proofs.Common.{◌≡◌, ◌++◌, Ok, Err}
use Rattle.std.specs.List.{flat_map}
use Rattle.std.proofs.lemmas.Result.{err_from_is_err_and}
use Rattle.pcap_io.specs.Writing.{record_text, pcap_text}
use Rattle.pcap_io.proofs.Blocks.{AddsBuffered-parts, AddsBuffered-flushed}
use Rattle.pcap_io.proofs.writing.write_pcap.Goals as goal

-- the header, and records that stopped
pub returns-in_err-write_records-clause-own : goal.returns-in_err-write_records-clause-own
returns-in_err-write_records-clause-own g c =
    let stopped = err_from_is_err_and c.from_residual-in_err-write_records.result c.from_residual-in_err-write_records.ensures.1 in
    let text_is : pcap_text c.args.trace.now ≡ (c.new-block.result ++ c.header.result) ++ flat_map record_text c.packets.result.now = cc in
    rw stopped.1
    (AddsBuffered-parts _ _ c.write_records.new.block (Err stopped.0) text_is c.in_ok-put.ensures.own c.in_err-write_records.ensures.own)

-- the header, the records, and what is left in the block
pub returns-clause-own : goal.returns-clause-own
returns-clause-own g c =
    let text_is : pcap_text c.args.trace.now ≡ (c.new-block.result ++ c.header.result) ++ flat_map record_text c.packets.result.now = cc in
    let buffered = AddsBuffered-parts _ _ c.write_records.new.block (Ok tt) text_is c.in_ok-put.ensures.own c.in_ok-write_records.ensures.own in
    AddsBuffered-flushed _ c.flush.result buffered c.flush.ensures.own
