-- The order in which nodes leave the queue of a search.
use Rattle.std.specs.Prelude.{◌≡◌, ℕ, ◌<◌, ◌≤◌, ◌⊎◌}

-- an entry of the queue: weight, number of arcs, node
abbrev pub Entry : Type 0
Entry = ℕ × ℕ × ℕ

-- by weight, then by number of arcs
abbrev pub IsUpTo : Entry → Entry → Type 0
IsUpTo j k = (j.0 < k.0) ⊎ ((j.0 ≡ k.0) × (j.1 ≤ k.1))
