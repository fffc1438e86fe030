-- A body splits into whole records in one way only: as far as records go.
use Rattle.std.proofs.Common.{◌≡◌, ℕ, suc, ◌+◌, ◌<◌, ◌≤◌, List, [], ◌∷◌, ◌++◌, length, take, drop, length-take, Some, None, refl, sym, ap, subst, ◌∙◌, arith}
use Rattle.std.proofs.lemmas.List.{drop-drop}
use Rattle.std.proofs.lemmas.Bool.Decides.{nat_tests}
use Rattle.mn_base.specs.declared.limits.TheConstants.{PACKETS_MAX}
use Rattle.pcap_io.specs.declared.fault.PcapFault.{PcapFault}
use Rattle.pcap_io.specs.declared.form.Form.{Form}
use Rattle.pcap_io.specs.declared.packet.Packet.{Packet}
use Rattle.pcap_io.specs.declared.reading.RecordHeader.{RecordHeader}
use Rattle.pcap_io.specs.Answers.{record_header_of}
use Rattle.pcap_io.specs.Capture.{IsPacket, IsRecordTime}
use Rattle.pcap_io.specs.Reading.{OpensWithRecord, time_ns, captured, record_packet, after_record, Splits}
use Rattle.pcap_io.specs.Faults.{record_fault, HasRecordFault}

-- one more record at the end
pub Splits-push : (form : Form) (text : List ℕ) (packets : List Packet) (rest : List ℕ) (packet : Packet) (after : List ℕ)
    → Splits form text packets rest → OpensWithRecord form rest → packet ≡ record_packet form rest → after ≡ after_record form rest
    → Splits form text (packets ++ packet ∷ []) after
Splits-push form text [] rest packet after splits opens packet_is after_is = (
  subst (λ (t : List ℕ). OpensWithRecord form t) (sym splits) opens,
  packet_is ∙ ap (record_packet form) (sym splits),
  ap (after_record form) splits ∙ sym after_is,
)
Splits-push form text (p ∷ ps) rest packet after splits opens packet_is after_is =
    (splits.0, splits.1, Splits-push form (after_record form text) ps rest packet after splits.2 opens packet_is after_is)

-- no record n opens the text
abbrev pub IsStuck : Form → ℕ → List ℕ → Type 0
IsStuck form n text = n < PACKETS_MAX → OpensWithRecord form text → ⊥

pub stuck_at_nothing : (form : Form) (n : ℕ) → IsStuck form n []
stuck_at_nothing form n lt opens = absurd (omega (arith, opens.header))

-- what opens with a whole record has no fault there
pub record_fault-whole : (form : Form) (n : ℕ) (text : List ℕ) → n < PACKETS_MAX → OpensWithRecord form text
    → record_fault form n text ≡ None
record_fault-whole form n text lt opens =
    grind (arith, nat_tests, opens.header, opens.time, opens.captured_length, opens.original_length, opens.whole)

pub stuck_at_fault : (form : Form) (n : ℕ) (text : List ℕ) (fault : PcapFault) → record_fault form n text ≡ Some fault → IsStuck form n text
stuck_at_fault form n text fault is lt opens =
    let none = record_fault-whole form n text lt opens in absurd cc

-- two splits, each as far as it goes, are one
pub record SameSplits (packets others : List Packet) (rest other : List ℕ) : Type 0 where
  pub packets_are : packets ≡ others
  pub rest_is : rest ≡ other

pub Splits-meet : (form : Form) (n : ℕ) (text : List ℕ) (packets others : List Packet) (rest other : List ℕ)
    → n + length packets ≤ PACKETS_MAX → n + length others ≤ PACKETS_MAX
    → Splits form text packets rest → Splits form text others other
    → IsStuck form (n + length packets) rest → IsStuck form (n + length others) other
    → SameSplits packets others rest other
Splits-meet form n text [] [] rest other few few' s t stuck stuck' = record { packets_are = refl; rest_is = sym s ∙ t }
Splits-meet form n text [] (q ∷ qs) rest other few few' s t stuck stuck' =
    absurd (stuck (omega arith) (subst (λ (x : List ℕ). OpensWithRecord form x) s t.0))
Splits-meet form n text (p ∷ ps) [] rest other few few' s t stuck stuck' =
    absurd (stuck' (omega arith) (subst (λ (x : List ℕ). OpensWithRecord form x) t s.0))
Splits-meet form n text (p ∷ ps) (q ∷ qs) rest other few few' s t stuck stuck' =
    let e : n + suc (length ps) ≡ (n + 1) + length ps = omega arith in
    let e' : n + suc (length qs) ≡ (n + 1) + length qs = omega arith in
    let m = Splits-meet form (n + 1) (after_record form text) ps qs rest other (omega arith) (omega arith) s.2 t.2
    (subst (λ (k : ℕ). IsStuck form k rest) e stuck) (subst (λ (k : ℕ). IsStuck form k other) e' stuck') in
    let first : p ≡ q = s.1 ∙ sym t.1 in
    record { packets_are = cc; rest_is = m.rest_is }

-- the packet of a whole record is within the limits, if its time is one that a record can say
pub IsPacket-record_packet : (form : Form) (text : List ℕ) → OpensWithRecord form text → IsRecordTime (time_ns form text)
    → IsPacket (record_packet form text)
IsPacket-record_packet form text opens early = record {
  time = omega arith;
  original = opens.original_length;
  captured = omega (arith, opens.captured_length, length-take (captured form text) (drop 16 text));
}

-- the packet that is made from the header of a record and what follows it
pub record_packet-parts : (form : Form) (text : List ℕ) {body front bytes : List ℕ} {header : RecordHeader}
    → header ≡ record_header_of form text → body ≡ drop 16 text → front ≡ take header.captured body → bytes ≡ front
    → record { time_ns = header.time_ns; original = header.original; bytes = bytes } ≡ record_packet form text
record_packet-parts form text header_is body_is front_is bytes_are = cc

-- what is left is what follows its bytes
pub after_record-parts : (form : Form) (text : List ℕ) {body after : List ℕ} {header : RecordHeader} → header ≡ record_header_of form text
    → body ≡ drop 16 text → after ≡ drop header.captured body → after ≡ after_record form text
after_record-parts form text {body = body} {header = header} header_is body_is after_is =
    let joined = drop-drop (captured form text) 16 text in
    let there : drop header.captured body ≡ drop (captured form text) (drop 16 text) = cc in
    after_is ∙ there ∙ joined

-- `Splits-meet` from the first record on
pub one_split : (form : Form) (text : List ℕ) (packets others : List Packet) (rest other : List ℕ)
    → length packets ≤ PACKETS_MAX → length others ≤ PACKETS_MAX
    → Splits form text packets rest → Splits form text others other
    → IsStuck form (length packets) rest → IsStuck form (length others) other
    → SameSplits packets others rest other
one_split form text packets others rest other few few' s t stuck stuck' =
    let e : length packets ≡ 0 + length packets = omega arith in
    let e' : length others ≡ 0 + length others = omega arith in
    Splits-meet form 0 text packets others rest other (omega arith) (omega arith) s t
    (subst (λ (k : ℕ). IsStuck form k rest) e stuck) (subst (λ (k : ℕ). IsStuck form k other) e' stuck')

-- the body that is read is not one with a fault
pub no_record_fault : (form : Form) (fault : PcapFault) (text : List ℕ) (packets : List Packet)
    → length packets ≤ PACKETS_MAX → Splits form text packets [] → HasRecordFault form fault text → ⊥
no_record_fault form fault text packets few splits has =
    has.left (one_split form text has.packets packets has.rest [] has.count few has.before splits
    (stuck_at_fault form (length has.packets) has.rest fault has.fault_is) (stuck_at_nothing form (length packets))).rest_is

pub one_record_fault : (form : Form) (fault other : PcapFault) (text : List ℕ) → HasRecordFault form fault text
    → HasRecordFault form other text → fault ≡ other
one_record_fault form fault other text p q =
    let same = one_split form text p.packets q.packets p.rest q.rest p.count q.count p.before q.before
    (stuck_at_fault form (length p.packets) p.rest fault p.fault_is) (stuck_at_fault form (length q.packets) q.rest other q.fault_is) in
    let faults : record_fault form (length p.packets) p.rest ≡ record_fault form (length q.packets) q.rest =
    ap (λ (ps : List Packet). record_fault form (length ps) p.rest) same.packets_are ∙ ap (record_fault form (length q.packets)) same.rest_is in
    let told : Some fault ≡ Some other = sym p.fault_is ∙ faults ∙ q.fault_is in
    cc
