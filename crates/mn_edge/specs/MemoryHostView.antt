-- A host in memory: its roles, and which calls on them fail.
use Rattle.std.specs.Prelude.{◌≡◌, ◌≢◌, ℕ, ◌-◌, min, List, [], length, slice_index_or}
use Rattle.mn_edge.specs.declared.fail.Fail.{Fail}
use Rattle.mn_edge.specs.declared.fail.Op.{Op}
use Rattle.mn_edge.specs.declared.role.Role.{Role}
use Rattle.mn_edge.specs.declared.role.Role.TheVariants.{Topology, Trace, Directory}
use Rattle.mn_edge.specs.Fail.{IsNamed}
use Rattle.mn_edge.specs.Role.{index_of_role}
use Rattle.mn_edge.specs.StreamView.{StreamView, unused_stream, calls_of}

-- the whole host: the calls that are to fail, how many bytes one call moves at most, and what it holds for each role, in order
pub record MemoryHostView : Type 0 where
  pub fails : List Fail
  pub piece : ℕ
  pub streams : List StreamView

abbrev pub stream_of : MemoryHostView → Role → StreamView
stream_of host role = slice_index_or host.streams (index_of_role role) (unused_stream [] 0)

-- the list names the call of that kind that comes next on that role
abbrev pub NamesNext : MemoryHostView → Role → Op → Type 0
NamesNext host role op = IsNamed host.fails role op (calls_of op (stream_of host role).calls)

-- how many bytes a read moves: a piece, as the buffer has room for, as are left
abbrev pub read_size : MemoryHostView → Role → ℕ → ℕ
read_size host role room = min (min host.piece room) (length (stream_of host role).left)

-- how many bytes of a write are taken: a piece, as there are, as fit
abbrev pub write_size : MemoryHostView → Role → ℕ → ℕ
write_size host role size = min (min host.piece size) ((stream_of host role).room - length (stream_of host role).written)

-- a call touched one role alone
pub record Touches (role : Role) (old new : MemoryHostView) : Type 0 where
  pub others : (other : Role) → other ≢ role → stream_of new other ≡ stream_of old other
  pub fails : new.fails ≡ old.fails
  pub piece : new.piece ≡ old.piece

-- the bytes that a role is given at first
abbrev pub given_bytes : List ℕ → List ℕ → List ℕ → Role → List ℕ
given_bytes topology trace directory Topology = topology
given_bytes topology trace directory Trace = trace
given_bytes topology trace directory Directory = directory
given_bytes topology trace directory _ = []
