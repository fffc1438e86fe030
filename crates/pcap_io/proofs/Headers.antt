-- A text has one form, and one header.
use Rattle.std.proofs.Common.{◌≡◌, ℕ, ◌==◌, if◌then◌else◌, List, get_or, refl, sym, ap, ◌∙◌}
use Rattle.pcap_io.specs.declared.form.ByteOrder.{ByteOrder}
use Rattle.pcap_io.specs.declared.form.ByteOrder.TheVariants.{Little, Big}
use Rattle.pcap_io.specs.declared.form.Resolution.{Resolution}
use Rattle.pcap_io.specs.declared.form.Resolution.TheVariants.{Microseconds, Nanoseconds}
use Rattle.pcap_io.specs.declared.form.Form.{Form}
use Rattle.pcap_io.specs.Form.{magic, word}
use Rattle.pcap_io.specs.Reading.{HasMagic, HasHeader}

-- The first byte tells the order. The last byte of little-endian, or the first of big-endian, is the same for both
-- resolutions, so these are told by the other end.
abbrev order_named : List ℕ → ByteOrder
order_named bytes = if get_or bytes 0 0 == 0xa1 then Big else Little

abbrev resolution_named : List ℕ → Resolution
resolution_named bytes = if get_or bytes 0 0 == 0xd4 then Microseconds else (if get_or bytes 3 0 == 0xd4 then Microseconds else Nanoseconds)

abbrev pub form_named : List ℕ → Form
form_named bytes = record { order = order_named bytes; resolution = resolution_named bytes }

pub form_named-magic : (order : ByteOrder) (resolution : Resolution)
    → form_named (magic order resolution) ≡ record { order = order; resolution = resolution }
form_named-magic Little Microseconds = refl
form_named-magic Little Nanoseconds = refl
form_named-magic Big Microseconds = refl
form_named-magic Big Nanoseconds = refl

pub one_form : (form other : Form) (text : List ℕ) → HasMagic form text → HasMagic other text → form ≡ other
one_form form other text p q =
    sym (form_named-magic form.order form.resolution) ∙ ap form_named (sym p ∙ q) ∙ form_named-magic other.order other.resolution

-- two headers of one text say the same
pub one_header : (form other : Form) (link_type rival : ℕ) (text : List ℕ) → HasHeader form link_type text → HasHeader other rival text
    → link_type ≡ rival
one_header form other link_type rival text p q =
    let same = one_form form other text p.magic q.magic in
    p.link_type_is ∙ ap (λ (f : Form). word f.order 20 text) same ∙ sym q.link_type_is
