use Rattle.std.proofs.Common.{◌≡◌, ◌++◌, append_assoc}
use Rattle.pcap_io.specs.Writing.{record_text}
use Rattle.pcap_io.proofs.Blocks.{AddsBuffered-parts}
use Rattle.pcap_io.proofs.writing.write_record.Goals as goal

-- the header, and then the bytes
pub returns-clause-own : goal.returns-clause-own
returns-clause-own g c =
    let block = c.args.block.now in
    let text_is : block ++ record_text c.args.packet.now ≡ (block ++ c.record_header.result) ++ c.as_slice.result.now =
    let joined = append_assoc block c.record_header.result c.as_slice.result.now in cc in
    AddsBuffered-parts _ _ c.put-2.new.self c.put-2.result text_is c.in_ok-put.ensures.own c.put-2.ensures.own
