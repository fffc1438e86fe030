-- The journal of a setup, grown by the least visit that is pending, again and again.
use Rattle.std.specs.Prelude.{ℕ, List, [], length, sum_by}
use Rattle.mn_base.specs.declared.due.Due.{Due}
use Rattle.pipe.specs.Scheme.{pending_by, grown_by}
use Rattle.journal.specs.declared.visit.Visit.{Visit}
use Rattle.journal.specs.SetupView.{SetupView, route_of}
use Rattle.journal.specs.IsJournal.{scheme_of}

-- the lengths of the packets' routes, each packet counted by itself, added up
abbrev pub hop_count : SetupView → ℕ
hop_count S = sum_by (λ p. length (route_of S p.number)) S.packets

-- what is due by the visits of J and isn't among them
abbrev pub pending : SetupView → List Visit → List Due
pending S J = pending_by (scheme_of S) J

-- the journal
unfoldable pub journal_of : SetupView → List Visit
journal_of S = grown_by (scheme_of S) (hop_count S) []
