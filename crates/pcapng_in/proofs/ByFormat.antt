-- A file has one format, and by it one reading or one first fault, never both, and always one of them.
use Rattle.std.proofs.Common.{◌≡◌, ℕ, ◌/◌, ◌^◌, ◌<◌, ◌≤◌, List, [], ◌∷◌, take, Some, Result, Ok, Err, sym, ap, subst, ◌∙◌, ◌⊎◌, inl, inr, All, arith}
use Rattle.std.specs.Option.{IfSome}
use Rattle.std.specs.Result.{IfOk, IfErr}
use Rattle.std.specs.Str.{bytes_eq}
use Rattle.std.proofs.lemmas.Bool.{cases_Bool, false≢true}
use Rattle.std.proofs.lemmas.Slice.Eq.{bytes_eq-Decides}
use Rattle.mn_base.specs.declared.limits.TheConstants.{RECORD_SECONDS_MAX}
use Rattle.mn_base.specs.declared.refusal.Refusal.{Refusal}
use Rattle.mn_base.specs.declared.refusal.Refusal.TheVariants as refusal
use Rattle.mn_base.specs.Ranges.{IsLinkType}
use Rattle.mn_base.specs.Refused.{IfFault, Gives, Refuses, MapsFault}
use Rattle.pcap_io.specs.declared.form.ByteOrder.{ByteOrder}
use Rattle.pcap_io.specs.declared.form.ByteOrder.TheVariants.{Little, Big}
use Rattle.pcap_io.specs.declared.form.Resolution.{Resolution}
use Rattle.pcap_io.specs.declared.form.Resolution.TheVariants.{Microseconds, Nanoseconds}
use Rattle.pcap_io.specs.declared.packet.Packet.{Packet}
use Rattle.pcap_io.specs.Capture.{Capture, IsTrace}
use Rattle.pcap_io.specs.Form.{magic}
use Rattle.pcap_io.specs.Reading.{Pcap}
use Rattle.pcap_io.specs.Writing.{pcap_text}
use Rattle.pcap_io.proofs.Answered.{is_answered}
use Rattle.pcap_io.proofs.OneReading.{one_reading, no_fault, one_fault}
use Rattle.pcap_io.proofs.ReadsBack.{reads_back}
use Rattle.pcapng_in.specs.declared.fault.CaptureFault.{CaptureFault}
use Rattle.pcapng_in.specs.declared.fault.NgFault.{NgFault}
use Rattle.pcapng_in.specs.declared.fault.CaptureFault.TheVariants as fault
use Rattle.pcapng_in.specs.declared.fault.CaptureFault.TheVariants.{Ng}
use Rattle.pcapng_in.specs.declared.packets.TheConstants.{CAPTURE_NS_END}
use Rattle.pcapng_in.specs.Reading.{Pcapng, NgFirst}
use Rattle.pcapng_in.specs.CaptureFile.{BeginsNg, SaysTrace, CaptureFirst}
use Rattle.pcapng_in.specs.Laws.{OneReading, NeverBoth, OneFault, EachTextIsAnswered, SaysTheSameAsPcap}
use Rattle.pcapng_in.proofs.Kept.{what_is_read_keeps}
use Rattle.pcapng_in.proofs.OneAnswer.{one_ng_reading, never_ng_both, one_ng_fault, each_ng_file}

pub one_capture_reading : OneReading
one_capture_reading text trace other (inl p) (inl q) = one_ng_reading text trace other p.1 q.1
one_capture_reading text trace other (inl p) (inr q) = absurd (q.0 p.0)
one_capture_reading text trace other (inr p) (inl q) = absurd (p.0 q.0)
one_capture_reading text trace other (inr p) (inr q) = one_reading text trace other p.1 q.1

pub never_capture_both : NeverBoth
never_capture_both text trace (Ng told) (inl p) has = never_ng_both text trace told p.1 has.1
never_capture_both text trace (Ng told) (inr p) has = p.0 has.0
never_capture_both text trace (fault.Pcap told) (inl p) has = has.0 p.0
never_capture_both text trace (fault.Pcap told) (inr p) has = no_fault text trace told p.1 has.1

pub one_capture_fault : OneFault
one_capture_fault text (Ng told) (Ng other) p q = ap Ng (one_ng_fault text told other p.1 q.1)
one_capture_fault text (Ng told) (fault.Pcap other) p q = absurd (q.0 p.0)
one_capture_fault text (fault.Pcap told) (Ng other) p q = absurd (p.0 q.0)
one_capture_fault text (fault.Pcap told) (fault.Pcap other) p q = ap fault.Pcap (one_fault text told other p.1 q.1)

-- ---- each file is answered

abbrev ng_bytes : List ℕ
ng_bytes = 0x0a ∷ 0x0d ∷ 0x0d ∷ 0x0a ∷ []

begins_or_not : (text : List ℕ) → BeginsNg text ⊎ (BeginsNg text → ⊥)
begins_or_not text =
    let decides = bytes_eq-Decides (take 4 text) ng_bytes in
    elim (cases_Bool (bytes_eq (take 4 text) ng_bytes)) [
      | inl equal ↦ inl (decides.0 equal)
      | inr apart ↦ inr (λ begins. false≢true (sym apart ∙ decides.1 begins))
    ]

pub each_capture : EachTextIsAnswered
each_capture text =
    elim (begins_or_not text) [
      | inl begins ↦ elim (each_ng_file text) [
        | inl read ↦ inl (read.0, inl (begins, read.1))
        | inr told ↦ inr (Ng told.0, (begins, told.1))
      ]
      | inr other ↦ elim (is_answered text) [
        | inl read ↦ inl (read.0, inr (other, read.1))
        | inr told ↦ inr (fault.Pcap told.0, (other, told.1))
      ]
    ]

-- ---- a classic copy of a pcapng file

no_magic_is_ng : (order : ByteOrder) (resolution : Resolution) → magic order resolution ≡ ng_bytes → ⊥
no_magic_is_ng Little Microseconds same = absurd cc
no_magic_is_ng Little Nanoseconds same = absurd cc
no_magic_is_ng Big Microseconds same = absurd cc
no_magic_is_ng Big Nanoseconds same = absurd cc

-- a file that is a classic capture isn't pcapng
pcap_begins_otherwise : (text : List ℕ) (trace : Capture) → Pcap text trace → BeginsNg text → ⊥
pcap_begins_otherwise text trace p begins =
    no_magic_is_ng p.form.order p.form.resolution (sym p.header.magic ∙ begins)

-- the trace of a pcapng file is within the limits, and its times are early
pub ng_trace : (text : List ℕ) (trace : Capture) → Pcapng text trace
    → IsTrace trace × All (λ (packet : Packet). packet.time_ns < CAPTURE_NS_END) trace.packets
ng_trace text trace p =
    let kept = what_is_read_keeps text p.end [] p.reads in
    let known : IfSome (Some trace.link_type) IsLinkType = rw p.link_type_is at kept.link_type in (
      record {
        link_type = known;
        count = rw p.packets_are at kept.count;
        packets = rw p.packets_are at kept.packets;
      },
      rw p.packets_are at kept.times,
    )

pub same_as_pcap : SaysTheSameAsPcap
same_as_pcap text trace p =
    let within = ng_trace text trace p in
    let early : All (λ (packet : Packet). packet.time_ns / 10 ^ 9 ≤ RECORD_SECONDS_MAX) trace.packets =
    λ i d lt. let here = within.1 i d lt in omega (arith, here) in
    let back = reads_back trace within.0 early in
    inr (pcap_begins_otherwise (pcap_text trace) trace back, back)

-- ---- what a reader answers that gives a reading or the first fault

pub gives_capture : (text : List ℕ) (result : Result Capture (Refusal CaptureFault)) (trace : Capture)
    → IfOk result (SaysTrace text) → IfErr result (λ refusal. IfFault refusal (CaptureFirst text)) → SaysTrace text trace
    → Gives trace result
gives_capture text (Ok given) trace found told p = one_capture_reading text given trace found p
gives_capture text (Err refusal.NoMemory) trace found told p = tt
gives_capture text (Err (refusal.Fault given)) trace found told p = never_capture_both text trace given p told

pub gives_capture_fault : (text : List ℕ) (result : Result Capture (Refusal CaptureFault)) (other : CaptureFault)
    → IfOk result (SaysTrace text) → IfErr result (λ refusal. IfFault refusal (CaptureFirst text)) → CaptureFirst text other
    → Refuses other result
gives_capture_fault text (Ok given) other found told has = never_capture_both text given other found has
gives_capture_fault text (Err refusal.NoMemory) other found told has = tt
gives_capture_fault text (Err (refusal.Fault given)) other found told has = one_capture_fault text given other told has

-- the first fault of a pcapng file, as a fault of a capture; out of memory stays
pub ng_fault_first : (text : List ℕ) (old : Refusal NgFault) (new : Refusal CaptureFault) → BeginsNg text → IfFault old (NgFirst text)
    → MapsFault (λ told given. given ≡ Ng told) old new → IfFault new (CaptureFirst text)
ng_fault_first text refusal.NoMemory refusal.NoMemory begins first maps = tt
ng_fault_first text refusal.NoMemory (refusal.Fault given) begins first maps = absurd maps
ng_fault_first text (refusal.Fault told) refusal.NoMemory begins first maps = absurd maps
ng_fault_first text (refusal.Fault told) (refusal.Fault given) begins first maps =
    subst (CaptureFirst text) (sym maps) (begins, first)
