-- The fields of a core.
use Rattle.std.specs.Prelude.{◌≡◌, ℕ, ◌<◌, false, List, [], length}
use Rattle.journal.specs.IsSetup.{IsSetup}
use Rattle.parcel.specs.Lookahead.{lookahead_of}
use Rattle.core_loop.specs.declared.one_core.Core.TheInside.{Inside}
use Rattle.core_loop.specs.CoreView.{CoreView}
use Rattle.core_loop.specs.WorldState.{CoreStands}

abbrev pub core_view : Inside → CoreView
core_view c = record {
  setup = c.setup.now;
  number = c.number;
  peers = c.peers.items;
  heap = c.work.heap;
  pipes = c.work.pipes.pipes;
  pipe_counts = c.work.pipes.counts;
  settled = c.entrants.settled;
  store = c.entrants.store;
  counts = c.work.counts;
  failed = c.failed;
}

-- true of all cores: one that hasn't failed stands for the journal, whatever the bytes are of which its payloads are a part
pub record IsCore (c : Inside) : Type 0 where
  pub is_setup : IsSetup c.setup.now
  pub lookahead : c.lookahead ≡ lookahead_of c.setup.now
  pub same_setup : c.work.setup ≡ c.setup.now
  pub same_number : c.work.number ≡ c.number
  pub known : c.number < c.setup.now.cores
  pub one_peer_each : length c.peers.items ≡ c.setup.now.cores
  -- between windows all is handed out
  pub none_told : c.failed ≡ false → c.work.told ≡ []
  pub stands : c.failed ≡ false → (bytes : List (List ℕ)) × CoreStands bytes (core_view c)
