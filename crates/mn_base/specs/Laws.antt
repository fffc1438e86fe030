-- What holds of the definitions.
use Rattle.std.specs.Prelude.{◌≡◌, ℕ, ◌^◌, ◌<◌, Some, decimal}
use Rattle.mn_base.specs.Decimal.{decimal_of}

-- what is printed of a number below 2^64 reads back as that number
abbrev pub DecimalReadsBack : Type 0
DecimalReadsBack = (n : ℕ) → n < 2 ^ 64 → decimal_of (decimal n) ≡ Some n
