-- The two laws on journals at the scheme of a setup: there is one at most, and the list that is grown is it.
use Rattle.std.proofs.Common.{◌≤◌, List, length}
use Rattle.journal.specs.declared.visit.Visit.{Visit}
use Rattle.journal.specs.SetupView.{SetupView}
use Rattle.journal.specs.IsSetup.{IsSetup}
use Rattle.journal.specs.IsJournal.{IsJournal, scheme_of}
use Rattle.journal.specs.Journal.{hop_count, journal_of}
use Rattle.journal.specs.Laws.{HasOneJournal, GrowsToJournal}
use Rattle.pipe.proofs.OneJournal.{one_journal_by}
use Rattle.pipe.proofs.Growing.{growing_from-journal}
use Rattle.pipe.proofs.Grown.{meets_by, growing-front_by}
use Rattle.journal.proofs.Orderly.{IsGrowing, orderly}
use Rattle.journal.proofs.Count.{growing_count}

module _ (S : SetupView) (is : IsSetup S) where
  pub one_journal : HasOneJournal S
  one_journal = one_journal_by (scheme_of S) (orderly S is)

  few : (J : List Visit) → IsGrowing S J → length J ≤ hop_count S
  few J g = growing_count S is J g

  pub meets : IsJournal S (journal_of S)
  unfolding journal_of
  meets = meets_by (scheme_of S) (orderly S is) (hop_count S) few

  pub grows_to_journal : GrowsToJournal S
  unfolding journal_of
  grows_to_journal = growing-front_by (scheme_of S) (orderly S is) (hop_count S) few

  -- what is known of each list that grows into the journal is known of the journal
  pub journal-grows : IsGrowing S (journal_of S)
  journal-grows = growing_from-journal (scheme_of S) (journal_of S) meets
