-- The cores that own pipes, and those at which packets enter.
use Rattle.std.specs.Prelude.{ℕ, ◌==◌, List, length, filter, slice_index}
use Rattle.std.specs.Option.{option_map_or}
use Rattle.std.specs.List.{range_with_len}
use Rattle.journal.specs.SetupView.{SetupView, packet_of}

-- the core that owns a pipe
abbrev pub owner_of : SetupView → ℕ → ℕ
owner_of S pipe = slice_index S.owners pipe

-- the setup with these owners of its pipes
abbrev pub owned_by : SetupView → List ℕ → SetupView
owned_by S owners = record S { owners = owners }

-- the pipes that a core owns, in order
abbrev pub own_pipes : SetupView → ℕ → List ℕ
own_pipes S core = filter (λ pipe. owner_of S pipe == core) (range_with_len 0 (length S.pipes))

-- the core at which the packet of a number enters
abbrev pub entry_core : SetupView → ℕ → ℕ
entry_core S number = option_map_or (λ p. p.core) (packet_of S number) 0
