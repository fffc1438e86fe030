-- What a journal is: a list of all visits of a setup's packets to its pipes, each with what comes of it. No core occurs in it.
use Rattle.std.specs.Prelude.{List, filter_map}
use Rattle.mn_base.specs.declared.due.Due.{Due}
use Rattle.pipe.specs.Scheme.{Scheme, dues_by, IsJournalBy}
use Rattle.journal.specs.declared.visit.Visit.{Visit}
use Rattle.journal.specs.SetupView.{SetupView}
use Rattle.journal.specs.Hops.{due_of, entry, next_hop}
use Rattle.journal.specs.Steps.{visit_of}

-- each packet with a nonempty route is due at its first pipe when it enters, and at each further one when it leaves the one before,
-- if it passed that; what comes of a visit is decided by the visits before it
abbrev pub scheme_of : SetupView → Scheme Visit
scheme_of S = record {
  first = filter_map (entry S) S.packets;
  due_of = due_of;
  next = next_hop S;
  make = visit_of S;
}

-- all that is due by the visits of J, made or not
abbrev pub dues : SetupView → List Visit → List Due
dues S J = dues_by (scheme_of S) J

-- J rises strictly by tick and packet number, has what is due by its own visits and nothing else, and each of its visits is what the
-- visits before it make of it
abbrev pub IsJournal : SetupView → List Visit → Type 0
IsJournal S J = IsJournalBy (scheme_of S) J
