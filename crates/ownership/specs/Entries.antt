-- Entry cores: where the packets of a node begin.
use Rattle.std.specs.Prelude.{ℕ, ◌==◌, Bool, false, List, length, map, find, slice_get, slice_index}
use Rattle.std.specs.List.{range_with_len}
use Rattle.std.specs.Option.{option_map_or}
use Rattle.distill.specs.declared.pipes.DistilledPipe.{DistilledPipe}
use Rattle.distill.specs.Distilled.{DistilledView}

-- whether pipe q leaves the node
abbrev pub leaves : List DistilledPipe → ℕ → ℕ → Bool
leaves pipes node q = option_map_or (λ pipe. pipe.from == node) (slice_get pipes q) false

-- the owner of the least-numbered pipe that leaves the node, or core 0 where none does
abbrev pub entry_at : List DistilledPipe → List ℕ → ℕ → ℕ
entry_at pipes owners node = option_map_or (slice_index owners) (find (leaves pipes node) (range_with_len 0 (length pipes))) 0

-- the entry core of each node
abbrev pub entries_of : DistilledView → List ℕ → List ℕ
entries_of d owners = map (entry_at d.pipes owners) (range_with_len 0 d.nodes)
