-- The fields of visits that are made one after the other. The list of those made isn't kept: it is the front of the journal that has
-- as many visits as were made.
use Rattle.std.specs.Prelude.{◌≡◌, false, take}
use Rattle.journal.specs.declared.visits.Visits.TheInside.{Inside}
use Rattle.journal.specs.IsSetup.{IsSetup}
use Rattle.journal.specs.Journal.{journal_of}
use Rattle.journal.specs.Held.{IsMaking}
use Rattle.journal.specs.VisitsView.{VisitsView}

abbrev pub visits_view : Inside → VisitsView
visits_view v = record { setup = v.setup.now; made = take v.maker.made (journal_of v.setup.now) }

-- as long as no call failed for want of memory, the maker has made that front
pub record MakesFront (v : Inside) : Type 0 where
  pub is_setup : IsSetup v.setup.now
  pub making :
      v.failed ≡ false
      → IsMaking v.setup.now (take v.maker.made (journal_of v.setup.now)) v.maker.pipes.items v.maker.due v.maker.made
