-- Draws from a number: Knuth's linear congruential generator of 64 bits (MMIX), of which the upper 31 bits are taken.
use Rattle.std.specs.Prelude.{ℕ, zero, suc, ◌+◌, ◌*◌, ◌/◌, ◌%◌, ◌^◌}

-- the state that follows `x`
abbrev pub state_after : ℕ → ℕ
state_after x = (x * 6364136223846793005 + 1442695040888963407) % 2 ^ 64

-- which of `choices` the state `x` draws, from 0
abbrev pub choice_at : ℕ → ℕ → ℕ
choice_at x choices = x / 2 ^ 33 % choices

-- the state after n draws of the stream that starts at `number`
unfoldable pub state_at : ℕ → ℕ → ℕ
state_at number zero = number
state_at number (suc n) = state_after (state_at number n)

-- which of `choices` draw n answers; draws are numbered from 0
abbrev pub draw_at : ℕ → ℕ → ℕ → ℕ
draw_at number n choices = choice_at (state_at number (n + 1)) choices
