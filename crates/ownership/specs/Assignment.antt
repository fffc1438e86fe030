-- The assignment of pipes to cores, turn by turn.
use Rattle.std.specs.Prelude.{ℕ, zero, suc, ◌*◌, ◌/◌, ◌%◌, ◌==◌, Bool, false, not, ◌&&◌, ◌||◌, List, [], ◌∷◌, ◌++◌, length, map, find, Option, slice_get}
use Rattle.std.specs.List.{list_any, range_with_len}
use Rattle.std.specs.Option.{option_map_or, option_or}
use Rattle.distill.specs.declared.pipes.DistilledPipe.{DistilledPipe}
use Rattle.distill.specs.Distilled.{DistilledView}
use Rattle.ownership.specs.Directory.{DirectoryView}
use Rattle.ownership.specs.Entries.{entries_of}
pub use Rattle.ownership.specs.Owned.{Owned, is_owned, owner_in}

-- whether pipe q has an end that passes
abbrev pub has_end : List DistilledPipe → (ℕ → Bool) → ℕ → Bool
has_end pipes set q = option_map_or (λ pipe. set pipe.from || set pipe.to) (slice_get pipes q) false

-- a core starts with one edge node: of m edge nodes and k cores, core i with edge node number i * m / k. Without edge nodes it starts
-- with nothing.
abbrev pub starts_at : DistilledView → ℕ → ℕ → ℕ → Bool
starts_at d cores core v = option_map_or (λ u. u == v) (slice_get d.edge_nodes (core * length d.edge_nodes / cores)) false

-- whether node v is an end of pipe q
abbrev pub is_end : List DistilledPipe → ℕ → ℕ → Bool
is_end pipes v q = has_end pipes (λ u. u == v) q

-- the node set of a core: where it starts, and both ends of each pipe that it owns
abbrev pub is_in_set : DistilledView → ℕ → List Owned → ℕ → ℕ → Bool
is_in_set d cores owned core v = starts_at d cores core v || list_any (λ o. (o.core == core) && is_end d.pipes v o.pipe) owned

-- the numbers of all pipes
abbrev pub pipe_numbers : DistilledView → List ℕ
pipe_numbers d = range_with_len 0 (length d.pipes)

-- the least-numbered unowned pipe with an end in the core's node set
abbrev pub nearest : DistilledView → ℕ → List Owned → ℕ → Option ℕ
nearest d cores owned core =
    find (λ q. not (is_owned owned q) && has_end d.pipes (is_in_set d cores owned core) q) (pipe_numbers d)

-- the least-numbered unowned pipe
abbrev pub least_unowned : DistilledView → List Owned → Option ℕ
least_unowned d owned = find (λ q. not (is_owned owned q)) (pipe_numbers d)

-- the pipe that a core takes in its turn: the nearest, or the least where none is near, or none where all are owned
abbrev pub pipe_of_turn : DistilledView → ℕ → List Owned → ℕ → Option ℕ
pipe_of_turn d cores owned core = option_or (nearest d cores owned core) (least_unowned d owned)

-- what is owned after a core's turn
abbrev pub after_turn : DistilledView → ℕ → List Owned → ℕ → List Owned
after_turn d cores owned core = option_map_or (λ q. owned ++ record { pipe = q; core = core } ∷ []) (pipe_of_turn d cores owned core) owned

-- what is owned after so many turns; turn r is that of core r % cores
unfoldable pub owned_after : DistilledView → ℕ → ℕ → List Owned
owned_after d cores zero = []
owned_after d cores (suc r) = after_turn d cores (owned_after d cores r) (r % cores)

-- what is owned in the end, after as many turns as there are pipes
abbrev pub assigned : DistilledView → ℕ → List Owned
assigned d cores = owned_after d cores (length d.pipes)

abbrev pub owners_of : DistilledView → ℕ → List ℕ
owners_of d cores = map (owner_in (assigned d cores)) (pipe_numbers d)

-- the directory of the assignment
abbrev pub assignment : DistilledView → ℕ → DirectoryView
assignment d cores = record { cores = cores; owners = owners_of d cores; entries = entries_of d (owners_of d cores) }
