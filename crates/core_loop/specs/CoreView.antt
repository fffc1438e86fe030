-- What contracts see of a core, and of what it keeps of each core.
use Rattle.std.specs.Prelude.{◌≢◌, ℕ, ◌<◌, Bool, List, Option, None, slice_index_or}
use Rattle.mn_base.specs.declared.due.Due.{Due}
use Rattle.journal.specs.SetupView.{SetupView}
use Rattle.journal.specs.IsPipe.{SetupPipeView}
use Rattle.parcel.specs.declared.counts.PipeCounts.{PipeCounts}
use Rattle.parcel.specs.declared.counts.CoreCounts.{CoreCounts}
use Rattle.parcel.specs.declared.core_result.Settled.{Settled}
use Rattle.parcel.specs.ParcelView.{ParcelView}
use Rattle.payload_store.specs.StoreView.{StoreView}

-- what a core keeps of a core
pub record PeerView : Type 0 where
  -- how many parcels were posted to it
  pub posted : ℕ
  -- how many parcels were taken from it
  pub taken : ℕ
  -- the parcel that is still to be posted to it
  pub owed : Option ParcelView
  -- of another core, the least tick in the parcel that was taken last; of itself, the least of which it knew as it made its parcels last
  pub least : Option ℕ

pub record CoreView : Type 0 where
  pub setup : SetupView
  -- its number
  pub number : ℕ
  -- one for each core of the setup; of itself it keeps its own least tick
  pub peers : List PeerView
  -- what is due
  pub heap : List Due
  -- its pipes, in pipe order, and what became of the visits to each
  pub pipes : List SetupPipeView
  pub pipe_counts : List PipeCounts
  -- the packets that entered there: those that are settled, and the bytes of the others
  pub settled : List Settled
  pub store : StoreView
  pub counts : CoreCounts
  -- it found no memory, and does nothing more
  pub failed : Bool

-- how many windows it has run
abbrev pub windows_of : CoreView → ℕ
windows_of c = c.counts.windows

abbrev pub no_peer : PeerView
no_peer = record { posted = 0; taken = 0; owed = None; least = None }

abbrev pub peer_at : CoreView → ℕ → PeerView
peer_at c core = slice_index_or c.peers core no_peer

abbrev pub posted_of : CoreView → ℕ → ℕ
posted_of c other = (peer_at c other).posted

abbrev pub taken_of : CoreView → ℕ → ℕ
taken_of c other = (peer_at c other).taken

-- another core of the setup
abbrev pub IsOtherCore : CoreView → ℕ → Type 0
IsOtherCore c core = (core < c.setup.cores) × (core ≢ c.number)
