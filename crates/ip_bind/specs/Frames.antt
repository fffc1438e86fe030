-- The addresses that a captured frame says, by the headers of Ethernet and of IPv4 (RFC 791).
use Rattle.std.specs.Prelude.{ℕ, ◌==◌, ◌/◌, nat_lt, not, List, length, drop, slice_index, Result, Ok, Err, if◌then◌else◌}
use Rattle.std.specs.Int.{w16, w32, from_be_bytes}
use Rattle.mn_base.specs.declared.limits.TheConstants.{LINK_TYPE_ETHERNET}
use Rattle.mn_base.specs.declared.causes.Unbound.{Unbound}
use Rattle.mn_base.specs.declared.causes.Unbound.TheVariants.{Short, NotIpv4}

-- bytes 12 and 13 of an Ethernet frame
unfoldable pub ether_type : List ℕ → ℕ
ether_type frame = from_be_bytes w16 (drop 12 frame)

-- the four bytes at a place of a header, the first highest
unfoldable pub address_at : ℕ → List ℕ → ℕ
address_at place header = from_be_bytes w32 (drop place header)

-- the upper four bits of the first byte of a header
abbrev pub version : List ℕ → ℕ
version header = slice_index header 0 / 16

-- source and destination of an IPv4 header, of whose options nothing is looked at
abbrev pub addresses_of_header : List ℕ → Result (ℕ × ℕ) Unbound
addresses_of_header header =
    if nat_lt (length header) 20 then Err Short
    else (if not (version header == 4) then Err NotIpv4
    else Ok (address_at 12 header, address_at 16 header))

-- the IPv4 header stands after an Ethernet header of 14 bytes
abbrev pub addresses_of_ethernet : List ℕ → Result (ℕ × ℕ) Unbound
addresses_of_ethernet frame =
    if nat_lt (length frame) 14 then Err Short
    else (if not (ether_type frame == 0x0800) then Err NotIpv4
    else addresses_of_header (drop 14 frame))

-- of link types other than Ethernet the IPv4 header stands first
abbrev pub addresses_of : ℕ → List ℕ → Result (ℕ × ℕ) Unbound
addresses_of link_type frame =
    if link_type == LINK_TYPE_ETHERNET then addresses_of_ethernet frame else addresses_of_header frame
