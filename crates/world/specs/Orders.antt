-- Orders in which cores are turned, made from a number.
use Rattle.std.specs.Prelude.{ℕ, List, map}
use Rattle.std.specs.List.{range_with_len}
use Rattle.mn_base.specs.Draws.{draw_at}

-- so many draws from the cores, of the stream that starts at this number
abbrev pub drawn_order : ℕ → ℕ → ℕ → List ℕ
drawn_order number turns cores = map (λ n. draw_at number n cores) (range_with_len 0 turns)
