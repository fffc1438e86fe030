use Rattle.std.proofs.Common.{◌≡◌, ◌∷◌, ◌++◌, [], sym, ap, subst, arith}
use Rattle.std.proofs.lemmas.List.{length_push}
use Rattle.std.proofs.lemmas.List.Elements.{All-push}
use Rattle.pcap_io.specs.declared.packet.Packet.{Packet}
use Rattle.pcap_io.specs.declared.reading.RecordHeader.{RecordHeader}
use Rattle.pcap_io.specs.Capture.{IsPacket, IsRecordTime}
use Rattle.pcap_io.specs.Reading.{record_packet, after_record, time_ns}
use Rattle.pcap_io.proofs.Splitting.{Splits-push, IsPacket-record_packet, record_packet-parts, after_record-parts}
use Rattle.pcap_io.proofs.reading.read_packets.Goals as goal

pub records-preserved : goal.records-preserved
records-preserved c =
    let form = c.args.form in
    let rest = c.records.rest.now in
    let opens = c.in-Ok.ensures.0 in
    let packet : Packet = record { time_ns = c.in-Ok.header.time_ns; original = c.in-Ok.header.original; bytes = c.in_ok-bytes.bytes } in
    let header_is = c.in-Ok.ensures.1 in
    let cut = c.split_at-in-records.ensures in
    let packet_is : packet ≡ record_packet form rest =
    record_packet-parts form rest header_is c.split_at.ensures.back cut.front c.in_ok-bytes.ensures.copied in
    let after_is : c.split_at-in-records.result.1.now ≡ after_record form rest =
    after_record-parts form rest header_is c.split_at.ensures.back cut.back in
    let items_are : c.push.new.self.items ≡ c.records.packets.items ++ packet ∷ [] = c.in_ok-push.ensures.items in
    let early : IsRecordTime (time_ns form rest) = omega (arith, c.in-Ok.ensures.2, ap (λ (h : RecordHeader). h.time_ns) header_is) in
    let so_far = c.records.invariant in
    let is_packet : IsPacket packet = subst IsPacket (sym packet_is) (IsPacket-record_packet form rest opens early) in
    record {
      splits = rw items_are (Splits-push form c.args.body.now c.records.packets.items rest packet _ so_far.splits opens packet_is after_is);
      number = rw items_are (omega (arith, length_push c.records.packets.items packet, so_far.number));
      count = omega (arith, c.in-Ok.ensures.3);
      within = rw items_are (All-push IsPacket c.records.packets.items packet so_far.within is_packet);
      times = rw items_are (All-push (λ (p : Packet). IsRecordTime p.time_ns) c.records.packets.items packet so_far.times c.in-Ok.ensures.2);
    }
