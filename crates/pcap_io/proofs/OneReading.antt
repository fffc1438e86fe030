-- A text has one reading or one first fault, and not both.
use Rattle.std.proofs.Common.{◌≡◌, ◌≢◌, ℕ, ◌<◌, ◌≤◌, Bool, true, false, nat_lt, ◌==◌, ◌||◌, if◌then◌else◌, List, [], length, drop, Option, Some, None, Result, Ok, Err, refl, sym, ap, subst, ◌∙◌, ◌⊎◌, inl, inr, arith}
use Rattle.std.specs.Result.{IfOk, IfErr}
use Rattle.std.proofs.lemmas.Bool.Decides.{nat_tests}
use Rattle.mn_base.specs.declared.limits.TheConstants.{LINK_TYPE_ETHERNET, LINK_TYPE_RAW, LINK_TYPE_IPV4}
use Rattle.mn_base.specs.declared.refusal.Refusal.{Refusal}
use Rattle.mn_base.specs.declared.refusal.Refusal.TheVariants as refusal
use Rattle.mn_base.specs.Refused.{IfFault, Gives, Refuses}
use Rattle.pcap_io.specs.declared.fault.PcapFault.{PcapFault}
use Rattle.pcap_io.specs.declared.fault.PcapFault.TheVariants.{NotPcap, ShortHeader, Version, LinkType, Truncated, TimeRange, TooLong, TooMany}
use Rattle.pcap_io.specs.declared.form.Form.{Form}
use Rattle.pcap_io.specs.declared.packet.Packet.{Packet}
use Rattle.mn_base.specs.Ranges.{IsLinkType}
use Rattle.pcap_io.specs.Capture.{Capture}
use Rattle.pcap_io.specs.Form.{half, word}
use Rattle.pcap_io.specs.Reading.{HasMagic, HasHeader, Splits, Pcap}
use Rattle.pcap_io.specs.Faults.{PcapFirst, HasRecordFault, HasFaultBehindHeader, record_fault}
use Rattle.pcap_io.proofs.Headers.{one_form, one_header}
use Rattle.pcap_io.proofs.Splitting.{one_split, no_record_fault, one_record_fault, stuck_at_nothing}

abbrev capture : ℕ → List Packet → Capture
capture link_type packets = record { link_type = link_type; packets = packets }

pub one_reading : (text : List ℕ) (trace other : Capture) → Pcap text trace → Pcap text other → trace ≡ other
one_reading text trace other p q =
    let form = one_form p.form q.form text p.header.magic q.header.magic in
    let records : Splits q.form (drop 24 text) trace.packets [] = subst (λ (f : Form). Splits f (drop 24 text) trace.packets []) form p.records in
    let packets = (one_split q.form (drop 24 text) trace.packets other.packets [] [] p.count q.count records q.records
    (stuck_at_nothing q.form (length trace.packets)) (stuck_at_nothing q.form (length other.packets))).packets_are in
    let link_type = one_header p.form q.form trace.link_type other.link_type text p.header q.header in
    ap (λ (n : ℕ). capture n trace.packets) link_type ∙ ap (capture other.link_type) packets

-- a text that is read has no fault after its header
no_fault_behind : (text : List ℕ) (trace : Capture) (fault : PcapFault) → Pcap text trace → HasFaultBehindHeader fault text → ⊥
no_fault_behind text trace fault p has =
    let form = one_form p.form has.form text p.header.magic has.header.magic in
    let records : Splits has.form (drop 24 text) trace.packets [] =
    subst (λ (f : Form). Splits f (drop 24 text) trace.packets []) form p.records in
    no_record_fault has.form fault (drop 24 text) trace.packets p.count records has.body

pub no_fault : (text : List ℕ) (trace : Capture) (fault : PcapFault) → Pcap text trace → PcapFirst text fault → ⊥
no_fault text trace NotPcap p has = has p.form p.header.magic
no_fault text trace ShortHeader p has = omega (arith, p.header.whole, has.1.short)
no_fault text trace (Version major) p has =
    let form = one_form p.form has.0 text p.header.magic has.1.magic in
    has.1.other (has.1.version ∙ ap (λ (f : Form). half f.order 4 text) (sym form) ∙ p.header.version)
no_fault text trace (LinkType link_type) p has =
    let form = one_form p.form has.0 text p.header.magic has.1.magic in
    let same : trace.link_type ≡ link_type = p.header.link_type_is ∙ ap (λ (f : Form). word f.order 20 text) form ∙ sym has.1.link_type_is in
    has.1.other (subst IsLinkType same p.header.known)
no_fault text trace (Truncated n) p has = no_fault_behind text trace (Truncated n) p has
no_fault text trace (TimeRange n) p has = no_fault_behind text trace (TimeRange n) p has
no_fault text trace (TooLong n) p has = no_fault_behind text trace (TooLong n) p has
no_fault text trace TooMany p has = no_fault_behind text trace TooMany p has

-- ---- two first faults are one

abbrev is_known : ℕ → Bool
is_known n = (n == LINK_TYPE_ETHERNET) || (n == LINK_TYPE_RAW) || (n == LINK_TYPE_IPV4)

is_known-true : (n : ℕ) → IsLinkType n → is_known n ≡ true
is_known-true n known = elim known [ inl one ↦ rw one refl | inr rest ↦ elim rest [ inl raw ↦ rw raw refl | inr four ↦ rw four refl ] ]

is_known-false : (n : ℕ) → (IsLinkType n → ⊥) → is_known n ≡ false
is_known-false n other =
    let one : n ≢ LINK_TYPE_ETHERNET = λ e. other (inl e) in
    let raw : n ≢ LINK_TYPE_RAW = λ e. other (inr (inl e)) in
    let four : n ≢ LINK_TYPE_IPV4 = λ e. other (inr (inr e)) in
    grind (arith, nat_tests)

-- what is wrong with a header after its magic
abbrev header_fault : Form → List ℕ → Option PcapFault
header_fault form text =
    if nat_lt (length text) 24 then Some ShortHeader
    else (if half form.order 4 text == 2 then (if is_known (word form.order 20 text) then None else Some (LinkType (word form.order 20 text)))
    else Some (Version (half form.order 4 text)))

header_fault-short : (form : Form) (text : List ℕ) → length text < 24 → header_fault form text ≡ Some ShortHeader
header_fault-short form text short = grind (arith, nat_tests)

header_fault-version : (form : Form) (text : List ℕ) (major : ℕ) → 24 ≤ length text → major ≡ half form.order 4 text → major ≢ 2
    → header_fault form text ≡ Some (Version major)
header_fault-version form text major whole version other = grind (arith, nat_tests)

header_fault-link_type : (form : Form) (text : List ℕ) (link_type : ℕ) → 24 ≤ length text → half form.order 4 text ≡ 2
    → link_type ≡ word form.order 20 text → is_known link_type ≡ false → header_fault form text ≡ Some (LinkType link_type)
header_fault-link_type form text link_type whole version is other =
    let long : nat_lt (length text) 24 ≡ false = grind (arith, nat_tests) in
    let two : (half form.order 4 text == 2) ≡ true = rw version refl in
    let unknown : is_known (word form.order 20 text) ≡ false = ap is_known (sym is) ∙ other in
    rw (long, two, unknown) (ap (λ (n : ℕ). Some (LinkType n)) (sym is))

header_fault-none : (form : Form) (text : List ℕ) (link_type : ℕ) → HasHeader form link_type text → header_fault form text ≡ None
header_fault-none form text link_type h =
    let known : is_known (word form.order 20 text) ≡ true = ap is_known (sym h.link_type_is) ∙ is_known-true link_type h.known in
    let long : nat_lt (length text) 24 ≡ false = grind (arith, nat_tests, h.whole) in
    let two : (half form.order 4 text == 2) ≡ true = rw h.version refl in
    rw (long, two, known) refl

-- after a magic, the header has this fault, or it has none and a record has it
abbrev FailsBehindMagic : Form → List ℕ → PcapFault → Type 0
FailsBehindMagic form text fault =
    (header_fault form text ≡ Some fault) ⊎ ((header_fault form text ≡ None) × HasRecordFault form fault (drop 24 text))

abbrev FailsAt : List ℕ → PcapFault → Type 0
FailsAt text fault =
    ((fault ≡ NotPcap) × ((form : Form) → HasMagic form text → ⊥)) ⊎ ((form : Form) × HasMagic form text × FailsBehindMagic form text fault)

behind_header : (text : List ℕ) (fault : PcapFault) → HasFaultBehindHeader fault text → FailsAt text fault
behind_header text fault has = inr (has.form, has.header.magic, inr (header_fault-none has.form text has.link_type has.header, has.body))

fails_at : (text : List ℕ) (fault : PcapFault) → PcapFirst text fault → FailsAt text fault
fails_at text NotPcap has = inl (refl, has)
fails_at text ShortHeader has = inr (has.0, has.1.magic, inl (header_fault-short has.0 text has.1.short))
fails_at text (Version major) has = inr (has.0, has.1.magic, inl (header_fault-version has.0 text major has.1.whole has.1.version has.1.other))
fails_at text (LinkType link_type) has =
    let unknown = is_known-false link_type has.1.other in
    inr (has.0, has.1.magic, inl (header_fault-link_type has.0 text link_type has.1.whole has.1.version has.1.link_type_is unknown))
fails_at text (Truncated n) has = behind_header text (Truncated n) has
fails_at text (TimeRange n) has = behind_header text (TimeRange n) has
fails_at text (TooLong n) has = behind_header text (TooLong n) has
fails_at text TooMany has = behind_header text TooMany has

some_same : (fault other : PcapFault) (told : Option PcapFault) → told ≡ Some fault → told ≡ Some other → fault ≡ other
some_same fault other told p q = let e : Some fault ≡ Some other = sym p ∙ q in cc

some_none : {X : Type 0} (fault : PcapFault) (told : Option PcapFault) → told ≡ Some fault → told ≡ None → X
some_none fault told p q = let e : Some fault ≡ None = sym p ∙ q in absurd cc

one_behind_magic : (form : Form) (text : List ℕ) (fault other : PcapFault) → FailsBehindMagic form text fault
    → FailsBehindMagic form text other → fault ≡ other
one_behind_magic form text fault other (inl p) (inl q) = some_same fault other (header_fault form text) p q
one_behind_magic form text fault other (inl p) (inr q) = some_none fault (header_fault form text) p q.0
one_behind_magic form text fault other (inr p) (inl q) = some_none other (header_fault form text) q p.0
one_behind_magic form text fault other (inr p) (inr q) = one_record_fault form fault other (drop 24 text) p.1 q.1

one_place : (text : List ℕ) (fault other : PcapFault) → FailsAt text fault → FailsAt text other → fault ≡ other
one_place text fault other (inl p) (inl q) = p.0 ∙ sym q.0
one_place text fault other (inl p) (inr q) = absurd (p.1 q.0 q.1)
one_place text fault other (inr p) (inl q) = absurd (q.1 p.0 p.1)
one_place text fault other (inr p) (inr q) =
    let same = one_form p.0 q.0 text p.1 q.1 in
    one_behind_magic q.0 text fault other (subst (λ (form : Form). FailsBehindMagic form text fault) same p.2) q.2

pub one_fault : (text : List ℕ) (fault other : PcapFault) → PcapFirst text fault → PcapFirst text other → fault ≡ other
one_fault text fault other p q = one_place text fault other (fails_at text fault p) (fails_at text other q)

-- ---- a fault after the header is the first of the text

not_pcap_of_record : (form : Form) (n : ℕ) (text : List ℕ) → record_fault form n text ≡ Some NotPcap → ⊥
not_pcap_of_record form n text told = grind (arith, nat_tests)

short_header_of_record : (form : Form) (n : ℕ) (text : List ℕ) → record_fault form n text ≡ Some ShortHeader → ⊥
short_header_of_record form n text told = grind (arith, nat_tests)

version_of_record : (form : Form) (n : ℕ) (text : List ℕ) (major : ℕ) → record_fault form n text ≡ Some (Version major) → ⊥
version_of_record form n text major told = grind (arith, nat_tests)

link_type_of_record : (form : Form) (n : ℕ) (text : List ℕ) (link_type : ℕ) → record_fault form n text ≡ Some (LinkType link_type) → ⊥
link_type_of_record form n text link_type told = grind (arith, nat_tests)

pub first_behind : (form : Form) (link_type : ℕ) (text : List ℕ) (fault : PcapFault) → HasHeader form link_type text
    → HasRecordFault form fault (drop 24 text) → PcapFirst text fault
first_behind form link_type text NotPcap header has = absurd (not_pcap_of_record form (length has.packets) has.rest has.fault_is)
first_behind form link_type text ShortHeader header has = absurd (short_header_of_record form (length has.packets) has.rest has.fault_is)
first_behind form link_type text (Version major) header has = absurd (version_of_record form (length has.packets) has.rest major has.fault_is)
first_behind form link_type text (LinkType other) header has = absurd (link_type_of_record form (length has.packets) has.rest other has.fault_is)
first_behind form link_type text (Truncated n) header has = record { form = form; link_type = link_type; header = header; body = has }
first_behind form link_type text (TimeRange n) header has = record { form = form; link_type = link_type; header = header; body = has }
first_behind form link_type text (TooLong n) header has = record { form = form; link_type = link_type; header = header; body = has }
first_behind form link_type text TooMany header has = record { form = form; link_type = link_type; header = header; body = has }

pub refusal_behind : (form : Form) (link_type : ℕ) (text : List ℕ) (given : Refusal PcapFault) → HasHeader form link_type text
    → IfFault given (λ fault. HasRecordFault form fault (drop 24 text)) → IfFault given (PcapFirst text)
refusal_behind form link_type text refusal.NoMemory header has = tt
refusal_behind form link_type text (refusal.Fault fault) header has = first_behind form link_type text fault header has

-- ---- what a reader answers that gives a reading or the first fault

pub gives_trace : (text : List ℕ) (result : Result Capture (Refusal PcapFault)) (trace : Capture)
    → IfOk result (Pcap text) → IfErr result (λ refusal. IfFault refusal (PcapFirst text)) → Pcap text trace → Gives trace result
gives_trace text (Ok given) trace found fault p = one_reading text given trace found p
gives_trace text (Err refusal.NoMemory) trace found fault p = tt
gives_trace text (Err (refusal.Fault given)) trace found fault p = no_fault text trace given p fault

pub gives_fault : (text : List ℕ) (result : Result Capture (Refusal PcapFault)) (fault : PcapFault)
    → IfOk result (Pcap text) → IfErr result (λ refusal. IfFault refusal (PcapFirst text)) → PcapFirst text fault → Refuses fault result
gives_fault text (Ok given) fault found told has = no_fault text given fault found has
gives_fault text (Err refusal.NoMemory) fault found told has = tt
gives_fault text (Err (refusal.Fault given)) fault found told has = one_fault text given fault told has
