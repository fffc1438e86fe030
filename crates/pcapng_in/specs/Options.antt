-- The options of an interface: a code (2 bytes), a length (2), and a value, padded to a multiple of 4 bytes. They end at code 0, or
-- where fewer than 4 bytes are left.
use Rattle.std.specs.Prelude.{ℕ, zero, suc, ◌-◌, ◌*◌, ◌^◌, ◌==◌, nat_le, nat_lt, ◌&&◌, not, Bool, if◌then◌else◌, List, [], ◌∷◌, length, take, drop, slice_index, Option, Some, None}
use Rattle.std.specs.Int.{div_ceil}
use Rattle.std.specs.Option.{option_map}
use Rattle.pcap_io.specs.declared.form.ByteOrder.{ByteOrder}
use Rattle.pcap_io.specs.Form.{half}
use Rattle.pcapng_in.specs.declared.rate.TheConstants.{RESOLUTION, RATE_DEFAULT}

pub record InterfaceOption : Type 0 where
  pub code : ℕ
  pub value : List ℕ

-- a length with its padding
abbrev pub padded : ℕ → ℕ
padded len = div_ceil len 4 * 4

abbrev pub option_code : ByteOrder → List ℕ → ℕ
option_code order body = half order 0 body

abbrev pub option_length : ByteOrder → List ℕ → ℕ
option_length order body = half order 2 body

-- one more option follows
abbrev pub has_option : ByteOrder → List ℕ → Bool
has_option order body = nat_le 4 (length body) && not (option_code order body == 0)

-- the option that follows runs past the body
abbrev pub runs_past : ByteOrder → List ℕ → Bool
runs_past order body = nat_lt (length (drop 4 body)) (padded (option_length order body))

abbrev pub option_at : ByteOrder → List ℕ → InterfaceOption
option_at order body = record { code = option_code order body; value = take (option_length order body) (drop 4 body) }

abbrev pub after_option : ByteOrder → List ℕ → List ℕ
after_option order body = drop (padded (option_length order body)) (drop 4 body)

-- the options of a body, of which there are at most n, or none where one runs past it
abbrev pub options_up_to : ℕ → ByteOrder → List ℕ → Option (List InterfaceOption)
options_up_to zero order body = Some []
options_up_to (suc n) order body =
    if has_option order body then
    (if runs_past order body then None else option_map (λ others. option_at order body ∷ others) (options_up_to n order (after_option order body)))
    else Some []

-- a body has no more options than bytes
abbrev pub options : ByteOrder → List ℕ → Option (List InterfaceOption)
options order body = options_up_to (length body) order body

-- a resolution of one byte e: the unit is 10 ^ -e s for e up to 18, and 2 ^ -(e - 128) s for e from 128 to 191
abbrev pub rate_of_code : ℕ → Option ℕ
rate_of_code e =
    if nat_le e 18 then Some (10 ^ e) else (if nat_le 128 e && nat_le e 191 then Some (2 ^ (e - 128)) else None)

abbrev pub rate_of_value : List ℕ → Option ℕ
rate_of_value value = if length value == 1 then rate_of_code (slice_index value 0) else None

-- The units of time in a second, by the first resolution among the options, or none where that is no resolution. Without one the unit
-- is a microsecond.
abbrev pub rate : List InterfaceOption → Option ℕ
rate [] = Some RATE_DEFAULT
rate (option ∷ others) = if option.code == RESOLUTION then rate_of_value option.value else rate others

-- what was found after one more option: the first resolution counts
abbrev pub found_after : Option (Option ℕ) → InterfaceOption → Option (Option ℕ)
found_after None option = if option.code == RESOLUTION then Some (rate_of_value option.value) else None
found_after (Some told) option = Some told
