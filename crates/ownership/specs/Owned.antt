-- Pipes and their owners.
use Rattle.std.specs.Prelude.{ℕ, ◌==◌, Bool, List, find}
use Rattle.std.specs.List.{list_any}
use Rattle.std.specs.Option.{option_map_or}

-- a pipe and the core that owns it
pub record Owned : Type 0 where
  pub pipe : ℕ
  pub core : ℕ

abbrev pub is_owned : List Owned → ℕ → Bool
is_owned owned q = list_any (λ o. o.pipe == q) owned

-- the core that owns pipe q
abbrev pub owner_in : List Owned → ℕ → ℕ
owner_in owned q = option_map_or (λ o. o.core) (find (λ o. o.pipe == q) owned) 0
