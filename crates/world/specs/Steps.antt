-- How far the cores of a world have come: all windows, posts and takes together.
use Rattle.std.specs.Prelude.{ℕ, ◌+◌, ◌*◌, ◌==◌, sum_by, if◌then◌else◌}
use Rattle.std.specs.List.{range_with_len}
use Rattle.journal.specs.SetupView.{SetupView}
use Rattle.parcel.specs.Windows.{window_count}
use Rattle.core_loop.specs.CoreView.{CoreView, windows_of, posted_of, taken_of}
use Rattle.world.specs.WorldView.{WorldView}

-- the parcels that were posted to another core and taken from it
abbrev pub trades_with : CoreView → ℕ → ℕ
trades_with c other = if other == c.number then 0 else posted_of c other + taken_of c other

-- the windows of a core, its posts and its takes
abbrev pub steps_of : CoreView → ℕ
steps_of c = windows_of c + sum_by (trades_with c) (range_with_len 0 c.setup.cores)

-- those of all cores
abbrev pub total_steps : WorldView → ℕ
total_steps w = sum_by steps_of w.cores

-- no world of a setup makes more
abbrev pub most_steps : SetupView → ℕ
most_steps S = S.cores * (window_count S + S.cores * (2 * (window_count S + 1)))
