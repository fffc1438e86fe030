-- Sets of nodes: a mark for each node, and which nodes links join to a set.
use Rattle.std.specs.Prelude.{ℕ, ◌==◌, Bool, false, ◌&&◌, ◌||◌, List, slice_index_or}
use Rattle.std.specs.List.{list_any}
use Rattle.topo.specs.declared.parts.Link.{Link}

-- whether node v is marked
abbrev pub has : List Bool → ℕ → Bool
has marks v = slice_index_or marks v false

-- whether v stands in a list of nodes
abbrev pub is_in : ℕ → List ℕ → Bool
is_in v nodes = list_any (λ u. u == v) nodes

-- whether v stands in one of the lists
abbrev pub is_in_one : ℕ → List (List ℕ) → Bool
is_in_one v lists = list_any (is_in v) lists

-- whether a link, in either direction, joins v to a node of the set
abbrev pub joins_to : (ℕ → Bool) → ℕ → Link → Bool
joins_to set v link = ((link.from == v) && set link.to) || ((link.to == v) && set link.from)

-- whether some link does
abbrev pub is_beside : List Link → (ℕ → Bool) → ℕ → Bool
is_beside links set v = list_any (joins_to set v) links
