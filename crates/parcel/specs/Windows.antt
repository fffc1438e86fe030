-- Windows: spans of ticks as long as the lookahead, each from the first visit after the window before it. No visit of a window
-- comes of a visit of another core in the same window.
use Rattle.std.specs.Prelude.{ℕ, ◌+◌, nat_lt, nat_le, List, [], ◌∷◌, length, filter, if◌then◌else◌}
use Rattle.journal.specs.declared.visit.Visit.{Visit}
use Rattle.journal.specs.SetupView.{SetupView}
use Rattle.journal.specs.Journal.{journal_of}
use Rattle.parcel.specs.Lookahead.{lookahead_of}

-- the ticks at which windows of this length start, where the visits are in order and all from `bound` on are to be covered: a
-- visit from there on starts a window, and those after its end are covered by the windows after it
abbrev pub starts_from : ℕ → ℕ → List Visit → List ℕ
starts_from len bound [] = []
starts_from len bound (v ∷ J) =
    if nat_lt v.tick bound
    then starts_from len bound J
    else v.tick ∷ starts_from len (v.tick + len) J

-- the ticks at which the windows of a setup start
abbrev pub window_starts : SetupView → List ℕ
window_starts S = starts_from (lookahead_of S) 0 (journal_of S)

-- how many windows there are
unfoldable pub window_count : SetupView → ℕ
window_count S = length (window_starts S)

-- the number of the window that has this tick: as many windows end by then
unfoldable pub window_of : SetupView → ℕ → ℕ
window_of S tick = length (filter (λ start. nat_le (start + lookahead_of S) tick) (window_starts S))
