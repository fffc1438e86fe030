-- What contracts see of a tally, and what is added to it.
use Rattle.std.specs.Prelude.{ℕ, ◌+◌, ◌-◌, ◌^◌, min}

pub record TallyView : Type 0 where
  pub cores : ℕ
  pub windows : ℕ
  pub visits : ℕ

-- a sum that stops at the greatest number of 64 bits
abbrev pub stopping_sum : ℕ → ℕ → ℕ
stopping_sum a b = min (a + b) (2 ^ 64 - 1)

-- so many cores, windows and visits more
abbrev pub added : TallyView → ℕ → ℕ → ℕ → TallyView
added t cores windows visits = record {
  cores = stopping_sum t.cores cores;
  windows = stopping_sum t.windows windows;
  visits = stopping_sum t.visits visits;
}
