-- Each text says a trace, or has a first fault.
use Rattle.std.proofs.Common.{◌≡◌, ◌≢◌, ℕ, zero, suc, ◌+◌, ◌<◌, ◌≤◌, List, [], ◌∷◌, length, take, drop, length-drop, Option, Some, None, refl, sym, ap, subst, ◌∙◌, ◌⊎◌, inl, inr, arith}
use Rattle.std.specs.Str.{bytes_eq}
use Rattle.std.proofs.lemmas.Bool.{cases_Bool, cases_lt, cases_eq, false≢true}
use Rattle.std.proofs.lemmas.Bool.Decides.{nat_tests}
use Rattle.std.proofs.lemmas.Slice.Eq.{bytes_eq-Decides}
use Rattle.mn_base.specs.declared.limits.TheConstants.{PACKETS_MAX, LINK_TYPE_ETHERNET, LINK_TYPE_RAW, LINK_TYPE_IPV4}
use Rattle.pcap_io.specs.declared.fault.PcapFault.{PcapFault}
use Rattle.pcap_io.specs.declared.fault.PcapFault.TheVariants.{NotPcap, ShortHeader, Version, LinkType}
use Rattle.pcap_io.specs.declared.form.Form.{Form}
use Rattle.pcap_io.specs.declared.packet.Packet.{Packet}
use Rattle.mn_base.specs.Ranges.{IsLinkType}
use Rattle.pcap_io.specs.Capture.{Capture}
use Rattle.pcap_io.specs.Form.{magic, half, word}
use Rattle.pcap_io.specs.Reading.{HasMagic, HasHeader, OpensWithRecord, captured, record_packet, after_record, Splits, Pcap}
use Rattle.pcap_io.specs.Faults.{HasOtherLinkType, record_fault, PcapFirst}
use Rattle.pcap_io.specs.Laws.{EachTextIsAnswered}
use Rattle.pcap_io.proofs.Headers.{form_named, form_named-magic}
use Rattle.pcap_io.proofs.OneReading.{first_behind}

-- ---- the records

-- no fault, so a whole record
record Whole (form : Form) (n : ℕ) (text : List ℕ) : Type 0 where
  few : n < PACKETS_MAX
  opens : OpensWithRecord form text

record_fault-none : (form : Form) (n : ℕ) (text : List ℕ) → n ≤ PACKETS_MAX → record_fault form n text ≡ None → Whole form n text
record_fault-none form n text few none = record {
  few = grind (arith, nat_tests);
  opens = record {
    header = grind (arith, nat_tests);
    time = grind (arith, nat_tests);
    captured_length = grind (arith, nat_tests);
    original_length = grind (arith, nat_tests);
    whole = grind (arith, nat_tests);
  };
}

-- from record n on: whole records to the end
record Ends (form : Form) (n : ℕ) (text : List ℕ) : Type 0 where
  packets : List Packet
  splits : Splits form text packets []
  few : n + length packets ≤ PACKETS_MAX

-- from record n on: whole records, and then this fault
record Fails (form : Form) (n : ℕ) (text : List ℕ) : Type 0 where
  fault : PcapFault
  packets : List Packet
  rest : List ℕ
  before : Splits form text packets rest
  few : n + length packets ≤ PACKETS_MAX
  left : rest ≢ []
  fault_is : record_fault form (n + length packets) rest ≡ Some fault

abbrev EndsOrFails : Form → ℕ → List ℕ → Type 0
EndsOrFails form n text = Ends form n text ⊎ Fails form n text

more_records : (form : Form) (n : ℕ) (text : List ℕ) → OpensWithRecord form text → EndsOrFails form (n + 1) (after_record form text)
    → EndsOrFails form n text
more_records form n text opens (inl ends) = inl (record {
  packets = record_packet form text ∷ ends.packets;
  splits = (opens, refl, ends.splits);
  few = omega (arith, ends.few);
})
more_records form n text opens (inr fails) = inr (record {
  fault = fails.fault;
  packets = record_packet form text ∷ fails.packets;
  rest = fails.rest;
  before = (opens, refl, fails.before);
  few = omega (arith, fails.few);
  left = fails.left;
  fault_is = subst (λ (k : ℕ). record_fault form k fails.rest ≡ Some fails.fault) (omega arith) fails.fault_is;
})

fault_here : (form : Form) (n : ℕ) (text : List ℕ) (fault : PcapFault) → n ≤ PACKETS_MAX → text ≢ []
    → record_fault form n text ≡ Some fault → EndsOrFails form n text
fault_here form n text fault few left is = inr (record {
  fault = fault;
  packets = [];
  rest = text;
  before = refl;
  few = omega arith;
  left = left;
  fault_is = subst (λ (k : ℕ). record_fault form k text ≡ Some fault) (omega arith) is;
})

-- the length falls from record to record
records_end : (fuel : ℕ) (form : Form) (n : ℕ) (text : List ℕ) → length text ≤ fuel → n ≤ PACKETS_MAX → EndsOrFails form n text
records_end fuel form n [] enough few = inl (record { packets = []; splits = refl; few = omega arith })
records_end zero form n (b ∷ bs) enough few = absurd (omega arith)
records_end (suc fuel) form n (b ∷ bs) enough few =
    let step : (told : Option PcapFault) → record_fault form n (b ∷ bs) ≡ told → EndsOrFails form n (b ∷ bs) = λ told.
    elim told as (λ (t : Option PcapFault). record_fault form n (b ∷ bs) ≡ t → EndsOrFails form n (b ∷ bs)) [
      | Some fault ↦ λ is. fault_here form n (b ∷ bs) fault few (λ e. cc) is
      | None ↦ λ is.
          let whole = record_fault-none form n (b ∷ bs) few is in
          let shorter : length (after_record form (b ∷ bs)) ≤ fuel = omega (arith, length-drop (16 + captured form (b ∷ bs)) (b ∷ bs)) in
          let more = records_end fuel form (n + 1) (after_record form (b ∷ bs)) shorter (omega (arith, whole.few)) in
          more_records form n (b ∷ bs) whole.opens more
    ] in
    step (record_fault form n (b ∷ bs)) refl

-- ---- the header

-- the form that the first four bytes name, or none
find_form : (text : List ℕ) → ((form : Form) × HasMagic form text) ⊎ ((form : Form) → HasMagic form text → ⊥)
find_form text =
    let form = form_named (take 4 text) in
    let decides = bytes_eq-Decides (take 4 text) (magic form.order form.resolution) in
    elim (cases_Bool (bytes_eq (take 4 text) (magic form.order form.resolution))) [
      | inl equal ↦ inl (form, decides.0 equal)
      | inr apart ↦ inr (λ other has.
          let named : form ≡ other = ap form_named has ∙ form_named-magic other.order other.resolution in
          let same : take 4 text ≡ magic form.order form.resolution = has ∙ ap (λ (f : Form). magic f.order f.resolution) (sym named) in
          false≢true (sym apart ∙ decides.1 same))
    ]

find_link_type : (n : ℕ) → IsLinkType n ⊎ (IsLinkType n → ⊥)
find_link_type n =
    elim (cases_eq n LINK_TYPE_ETHERNET) [
      | inl one ↦ inl (inl one)
      | inr not_one ↦ elim (cases_eq n LINK_TYPE_RAW) [
        | inl raw ↦ inl (inr (inl raw))
        | inr not_raw ↦ elim (cases_eq n LINK_TYPE_IPV4) [
          | inl four ↦ inl (inr (inr four))
          | inr not_four ↦ inr (λ known. elim known [ inl e ↦ not_one e | inr rest ↦ elim rest [ inl e ↦ not_raw e | inr e ↦ not_four e ] ])
        ]
      ]
    ]

abbrev Answer : List ℕ → Type 0
Answer text = ((trace : Capture) × Pcap text trace) ⊎ ((fault : PcapFault) × PcapFirst text fault)

behind : (text : List ℕ) (form : Form) (link_type : ℕ) → HasHeader form link_type text → Answer text
behind text form link_type header =
    elim (records_end (length (drop 24 text)) form 0 (drop 24 text) (omega arith) (omega arith)) [
      | inl ends ↦ inl (
        record { link_type = link_type; packets = ends.packets },
        record { form = form; header = header; records = ends.splits; count = omega (arith, ends.few) },
      )
      | inr fails ↦ inr (
        fails.fault,
        first_behind form link_type text fails.fault header (record {
          packets = fails.packets;
          rest = fails.rest;
          before = fails.before;
          count = omega (arith, fails.few);
          left = fails.left;
          fault_is = subst (λ (k : ℕ). record_fault form k fails.rest ≡ Some fails.fault) (omega arith) fails.fault_is;
        }),
      )
    ]

with_form : (text : List ℕ) (form : Form) → HasMagic form text → Answer text
with_form text form has =
    elim (cases_lt (length text) 24) [
      | inl short ↦ inr (ShortHeader, (form, record { magic = has; short = short }))
      | inr whole ↦ elim (cases_eq (half form.order 4 text) 2) [
        | inr other ↦ inr (Version (half form.order 4 text), (form, record { magic = has; whole = whole; version = refl; other = other }))
        | inl two ↦ elim (find_link_type (word form.order 20 text)) [
          | inr unknown ↦
              let header : HasOtherLinkType form (word form.order 20 text) text =
              record { magic = has; whole = whole; version = two; link_type_is = refl; other = unknown } in
              inr (LinkType (word form.order 20 text), (form, header))
          | inl known ↦
              let header : HasHeader form (word form.order 20 text) text =
              record { magic = has; whole = whole; version = two; link_type_is = refl; known = known } in
              behind text form (word form.order 20 text) header
        ]
      ]
    ]

pub is_answered : EachTextIsAnswered
is_answered text =
    elim (find_form text) [
      | inl found ↦ with_form text found.0 found.1
      | inr none ↦ inr (NotPcap, none)
    ]
