-- The lines of changes, `change tick N pipe Q bps B us U queue E ppm X`, the ranges of their numbers, and their order.
use Rattle.std.specs.Prelude.{ℕ, ◌≡◌, ◌<◌, ◌≤◌, ◌⊎◌, ◌==◌, nat_lt, nat_le, Bool, ◌&&◌, ◌||◌, List, [], ◌∷◌, Option, Some, None, option_and_then, codes}
use Rattle.mn_base.specs.declared.limits.TheConstants.{CHANGE_TICK_MAX}
use Rattle.mn_base.specs.Ranges.{AreInRange, is_bandwidth, is_latency, is_queue_limit, is_loss}
use Rattle.mn_base.specs.Fields.{fields_of}
use Rattle.changes.specs.declared.split.Change.{Change}

unfoldable pub change_labels : List (List ℕ)
change_labels = codes "change tick " ∷ codes " pipe " ∷ codes " bps " ∷ codes " us " ∷ codes " queue " ∷ codes " ppm " ∷ []

-- the change of the six numbers of a line
abbrev pub change_of_numbers : List ℕ → Option Change
change_of_numbers (tick ∷ pipe ∷ bps ∷ us ∷ queue ∷ ppm ∷ []) =
    Some (record { tick = tick; pipe = pipe; bps = bps; latency_us = us; queue = queue; ppm = ppm })
change_of_numbers other = None

-- the change that a line says, or none where it isn't of that form
unfoldable pub change_of : List ℕ → Option Change
change_of line = option_and_then change_of_numbers (fields_of change_labels line)

-- the tick is one at which parameters may change, and the values are those of a link
pub record IsChange (c : Change) : Type 0 where
  pub tick : c.tick ≤ CHANGE_TICK_MAX
  pub values : AreInRange c.bps c.latency_us c.queue c.ppm

-- the same, as a test
abbrev pub is_change : Change → Bool
is_change c = nat_le c.tick CHANGE_TICK_MAX && is_bandwidth c.bps && is_latency c.latency_us && is_queue_limit c.queue && is_loss c.ppm

-- changes go by tick, then by pipe
abbrev pub PrecedesChange : Change → Change → Type 0
PrecedesChange c d = (c.tick < d.tick) ⊎ ((c.tick ≡ d.tick) × (c.pipe < d.pipe))

-- the same, as a test
abbrev pub precedes_change : Change → Change → Bool
precedes_change c d = nat_lt c.tick d.tick || ((c.tick == d.tick) && nat_lt c.pipe d.pipe)
