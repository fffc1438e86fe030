-- When packets enter and leave, by the times of their records.
use Rattle.std.specs.Prelude.{ℕ, ◌+◌, ◌-◌, ◌*◌, ◌/◌, min, List, [], ◌∷◌, fold}

-- the time base: the least time of all records, in ns, or 0 where there is none
abbrev pub base_of : List ℕ → ℕ
base_of [] = 0
base_of (time ∷ times) = fold min time times

-- the tick at which a packet enters whose record has this time, with ticks of `tick_ns` ns from the base
abbrev pub entry_tick_of : ℕ → ℕ → ℕ → ℕ
entry_tick_of base tick_ns time = (time - base) / tick_ns

-- the time of a record for a packet that leaves at this tick
abbrev pub output_time : ℕ → ℕ → ℕ → ℕ
output_time base tick_ns tick = base + tick * tick_ns
