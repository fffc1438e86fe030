-- The two laws on journals at the scheme of pipes in a row.
use Rattle.std.proofs.Common.{◌*◌, length}
use Rattle.pipe.proofs.OneJournal.{one_journal_by}
use Rattle.pipe.proofs.Grown.{meets_by}
use Rattle.red_queue.specs.SetupView.{RedSetupView, IsRedSetup}
use Rattle.red_queue.specs.Journal.{red_scheme, IsRedJournal, red_journal_of}
use Rattle.red_queue.specs.Laws.{HasOneRedJournal}
use Rattle.red_queue.proofs.Orderly.{orderly}
use Rattle.red_queue.proofs.Count.{growing_count}

module _ (R : RedSetupView) (is : IsRedSetup R) where
  pub one_journal : HasOneRedJournal R
  one_journal = one_journal_by (red_scheme R) (orderly R is)

  pub meets : IsRedJournal R (red_journal_of R)
  unfolding red_journal_of
  meets = meets_by (red_scheme R) (orderly R is) (length R.packets * length R.pipes) (growing_count R is)
