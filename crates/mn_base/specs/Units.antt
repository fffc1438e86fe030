-- The formulas of time and loss. All numbers are whole; ticks, ns and us are said by the names.
use Rattle.std.specs.Prelude.{ℕ, ◌-◌, ◌*◌, ◌/◌, ◌^◌, max}
use Rattle.std.specs.Int.{div_ceil}

-- how long `len` bytes take at `bps` bit/s, in ns, rounded up
abbrev pub transmission : ℕ → ℕ → ℕ
transmission bps len = div_ceil (len * 8000000000) bps

-- a latency of `us` microseconds in ticks of `tick_ns` ns, rounded up, and at least one
abbrev pub latency_in_ticks : ℕ → ℕ → ℕ
latency_in_ticks us tick_ns = max 1 (div_ceil (us * 1000) tick_ns)

-- of the 2^32 loss words, how many a loss of `ppm` parts in a million keeps
abbrev pub keep : ℕ → ℕ
keep ppm = (1000000 - ppm) * 2 ^ 32 / 1000000

-- the keep of two pipes in a row
abbrev pub keep_of_both : ℕ → ℕ → ℕ
keep_of_both a b = a * b / 2 ^ 32
