-- The canonical order of due visits.
use Rattle.std.specs.Prelude.{◌≡◌, ◌⊎◌, ◌<◌, ◌==◌, nat_lt, Bool, ◌&&◌, ◌||◌}
use Rattle.mn_base.specs.declared.due.Due.{Due}

-- by tick, then by packet number
abbrev pub Before : Due → Due → Type 0
Before x y = (x.tick < y.tick) ⊎ ((x.tick ≡ y.tick) × (x.packet < y.packet))

-- the same, as a test
abbrev pub is_before : Due → Due → Bool
is_before x y = nat_lt x.tick y.tick || ((x.tick == y.tick) && nat_lt x.packet y.packet)
