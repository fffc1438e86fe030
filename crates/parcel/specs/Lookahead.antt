-- The lookahead: how many ticks, at least, a packet takes from one core to another. Windows are that long.
use Rattle.std.specs.Prelude.{◌≡◌, ◌⊎◌, ℕ, ◌==◌, ◌≤◌, min, List, [], ◌∷◌, map, fold, slice_index, if◌then◌else◌}
use Rattle.std.specs.List.{flat_map}
use Rattle.mn_base.specs.Among.{Among}
use Rattle.mn_base.specs.declared.limits.TheConstants.{LOOKAHEAD_MAX}
use Rattle.journal.specs.SetupView.{SetupView, route_of, first_params, changes_of}

-- the pipes that a route leaves for a pipe of another core, by the owners of all pipes
abbrev pub crossed_pipes : List ℕ → List ℕ → List ℕ
crossed_pipes owners [] = []
crossed_pipes owners (pipe ∷ []) = []
crossed_pipes owners (pipe ∷ next ∷ route) =
    if slice_index owners pipe == slice_index owners next
    then crossed_pipes owners (next ∷ route)
    else pipe ∷ crossed_pipes owners (next ∷ route)

-- the latencies of a pipe, in ticks: that of its first parameters, and those of all its changes
abbrev pub latencies_of : SetupView → ℕ → List ℕ
latencies_of S pipe =
    (first_params S pipe).latency_ticks ∷ map (λ c. c.1.latency_ticks) (changes_of S pipe)

-- the latencies of the pipes that the route of some packet leaves for a pipe of another core
abbrev pub crossing_latencies : SetupView → List ℕ
crossing_latencies S =
    flat_map (λ p. flat_map (latencies_of S) (crossed_pipes S.owners (route_of S p.number))) S.packets

-- the least of them; LOOKAHEAD_MAX, which is above every latency, where there is none
unfoldable pub lookahead_of : SetupView → ℕ
lookahead_of S = fold min LOOKAHEAD_MAX (crossing_latencies S)

-- this length is the least of them, or LOOKAHEAD_MAX where there is none
pub record IsLookahead (S : SetupView) (len : ℕ) : Type 0 where
  pub least : (latency : ℕ) → Among latency (crossing_latencies S) → len ≤ latency
  pub reached : Among len (crossing_latencies S) ⊎ ((len ≡ LOOKAHEAD_MAX) × (crossing_latencies S ≡ []))

-- all that windows ask of their length: no packet takes less from one core to another
pub record IsWindowLength (S : SetupView) (len : ℕ) : Type 0 where
  pub positive : 1 ≤ len
  pub crossing : (latency : ℕ) → Among latency (crossing_latencies S) → len ≤ latency
