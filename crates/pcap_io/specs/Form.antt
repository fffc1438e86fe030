-- The four forms of a capture, and the numbers that stand in its bytes.
use Rattle.std.specs.Prelude.{ℕ, ◌*◌, List, [], ◌∷◌, drop}
use Rattle.std.specs.Int.{w16, w32, from_le_bytes, from_be_bytes}
use Rattle.pcap_io.specs.declared.form.ByteOrder.{ByteOrder}
use Rattle.pcap_io.specs.declared.form.ByteOrder.TheVariants.{Little, Big}
use Rattle.pcap_io.specs.declared.form.Resolution.{Resolution}
use Rattle.pcap_io.specs.declared.form.Resolution.TheVariants.{Microseconds, Nanoseconds}

-- the four bytes that open a capture of this form
abbrev pub magic : ByteOrder → Resolution → List ℕ
magic Little Microseconds = 0xd4 ∷ 0xc3 ∷ 0xb2 ∷ 0xa1 ∷ []
magic Little Nanoseconds = 0x4d ∷ 0x3c ∷ 0xb2 ∷ 0xa1 ∷ []
magic Big Microseconds = 0xa1 ∷ 0xb2 ∷ 0xc3 ∷ 0xd4 ∷ []
magic Big Nanoseconds = 0xa1 ∷ 0xb2 ∷ 0x3c ∷ 0x4d ∷ []

-- the number of the two bytes at an offset
unfoldable pub half : ByteOrder → ℕ → List ℕ → ℕ
half Little offset text = from_le_bytes w16 (drop offset text)
half Big offset text = from_be_bytes w16 (drop offset text)

-- the number of the four bytes at an offset
unfoldable pub word : ByteOrder → ℕ → List ℕ → ℕ
word Little offset text = from_le_bytes w32 (drop offset text)
word Big offset text = from_be_bytes w32 (drop offset text)

-- how many ns a fraction is
abbrev pub fraction_ns : Resolution → ℕ → ℕ
fraction_ns Microseconds fraction = fraction * 1000
fraction_ns Nanoseconds fraction = fraction
