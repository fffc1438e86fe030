-- An interface block: type and length (8 bytes), link type (2), two reserved bytes, snaplen (4), options, and the length again (4).
use Rattle.std.specs.Prelude.{◌≡◌, ℕ, ◌-◌, ◌==◌, ◌||◌, not, Bool, false, if◌then◌else◌, List, take, drop, Option, Some, None, Result, Ok, Err}
use Rattle.std.specs.Option.{option_map}
use Rattle.mn_base.specs.declared.limits.TheConstants.{LINK_TYPE_ETHERNET, LINK_TYPE_RAW, LINK_TYPE_IPV4}
use Rattle.pcap_io.specs.declared.form.ByteOrder.{ByteOrder}
use Rattle.pcap_io.specs.Form.{half, word}
use Rattle.pcapng_in.specs.declared.rate.TheConstants.{RATE_DEFAULT}
use Rattle.pcapng_in.specs.declared.interface.Interface.{Interface}
use Rattle.pcapng_in.specs.declared.fault.NgFault.{NgFault}
use Rattle.pcapng_in.specs.declared.fault.NgFault.TheVariants.{LinkType, Options, Resolution}
use Rattle.pcapng_in.specs.Options.{options, rate}

-- the test of mn_base's IsLinkType
abbrev pub knows_link_type : ℕ → Bool
knows_link_type n = (n == LINK_TYPE_ETHERNET) || (n == LINK_TYPE_RAW) || (n == LINK_TYPE_IPV4)

-- the file's first interface has another link type
abbrev pub is_other_type : Option ℕ → ℕ → Bool
is_other_type None n = false
is_other_type (Some first) n = not (first == n)

abbrev pub interface_link_type : ByteOrder → List ℕ → ℕ
interface_link_type order text = half order 8 text

-- the units of time in a second: none where an option runs past the body, and then none where the first resolution is none
abbrev pub interface_rate : ByteOrder → ℕ → List ℕ → Option (Option ℕ)
interface_rate order len text = option_map rate (options order (take (len - 20) (drop 16 text)))

abbrev pub rate_fault : ℕ → Option (Option ℕ) → Option NgFault
rate_fault place None = Some (Options place)
rate_fault place (Some None) = Some (Resolution place)
rate_fault place (Some (Some per_second)) = None

-- what is wrong with the interface block of this length that opens the text
abbrev pub interface_fault : ℕ → Option ℕ → ByteOrder → ℕ → List ℕ → Option NgFault
interface_fault place first order len text =
    if not (knows_link_type (interface_link_type order text)) || is_other_type first (interface_link_type order text) then Some (LinkType place)
    else rate_fault place (interface_rate order len text)

abbrev pub rate_told : Option (Option ℕ) → ℕ
rate_told None = RATE_DEFAULT
rate_told (Some None) = RATE_DEFAULT
rate_told (Some (Some per_second)) = per_second

-- what a good interface block says
abbrev pub interface_of : ByteOrder → ℕ → List ℕ → Interface
interface_of order len text = record {
  link_type = interface_link_type order text;
  snaplen = word order 12 text;
  per_second = rate_told (interface_rate order len text);
}

abbrev pub ReadsInterface : ℕ → Option ℕ → ByteOrder → ℕ → List ℕ → Result Interface NgFault → Type 0
ReadsInterface place first order len text (Ok interface) =
    (interface_fault place first order len text ≡ None) × (interface ≡ interface_of order len text)
ReadsInterface place first order len text (Err fault) = interface_fault place first order len text ≡ Some fault
