-- The fields of a `Pipe` as what contracts see of it.
use Rattle.std.specs.Prelude.{◌≡◌, ℕ, ◌<◌, ◌≤◌, drop, length, AllPairs}
use Rattle.pipe.specs.Params.{last_params}
use Rattle.pipe.specs.PipeView.{PipeView, IsInBounds}
use Rattle.pipe.specs.declared.visits.Pipe.TheInside.{Inside}

abbrev pub view_of : Inside → PipeView
view_of p = record {
  first = p.first;
  changes = p.changes.items;
  tick_ns = p.tick_ns;
  last_tick = p.last_tick;
  last_finish = p.last_finish;
  visits = p.visits;
  kept = p.kept.items;
}

-- true of each pipe: what contracts see of it is in bounds, and the parameters in force give those of each tick from the last on
pub record IsSound (p : Inside) : Type 0 where
  pub bounds : IsInBounds (view_of p)
  pub rising : AllPairs (λ c d. c.0 < d.0) p.changes.items
  pub within : p.in_force.reached ≤ length p.changes.items
  pub ahead : (tick : ℕ) → p.last_tick ≤ tick
      → last_params tick p.in_force.params (drop p.in_force.reached p.changes.items)
      ≡ last_params tick p.first p.changes.items
