-- Which nodes are outer, and which are the border, by the frontiers.
use Rattle.std.specs.Prelude.{ℕ, ◌+◌, ◌-◌, max, nat_lt, Bool, true, not, ◌&&◌, ◌||◌, List, [], length, filter, take, drop, count_by, slice_index_or}
use Rattle.std.specs.List.{range_with_len}
use Rattle.mn_base.specs.declared.limits.TheConstants.{FRONTIERS_MAX}
use Rattle.topo.specs.TopologyView.{TopologyView}
use Rattle.frontier.specs.NodeSets.{is_in, is_in_one, is_beside}
use Rattle.frontier.specs.Frontiers.{frontiers_of}
use Rattle.walk_out.specs.Parts.{PartsView, parts_around}

-- each node is outer, so each link is kept
abbrev pub hop_parts : TopologyView → PartsView
hop_parts t = parts_around t.links (λ v. true) []

-- outer are the nodes of F_1 to F_w; the border is F_(w+1)
abbrev pub walk_parts : TopologyView → ℕ → PartsView
walk_parts t w =
    let fs = frontiers_of t w in
    parts_around t.links (λ v. is_in_one v (take w fs)) (slice_index_or fs w [])

-- how many frontiers have a node
abbrev pub nonempty_count : List (List ℕ) → ℕ
nonempty_count fs = count_by (λ f. nat_lt 0 (length f)) fs

-- the innermost `o` of the frontiers that have a node, but none of F_1 to F_(w+1): with c of them, each F_k with
-- c - o < k, w + 2 ≤ k and k ≤ c
abbrev pub core_of : List (List ℕ) → ℕ → ℕ → List (List ℕ)
core_of fs w o = drop (max (nonempty_count fs - o) (w + 1)) (take (nonempty_count fs) fs)

-- outer are the nodes of F_1 to F_w and of the core
abbrev pub is_outer : List (List ℕ) → ℕ → ℕ → ℕ → Bool
is_outer fs w o v = is_in_one v (take w fs) || is_in_one v (core_of fs w o)

-- on the border are the nodes of F_(w+1), and those that aren't outer and that a link in either direction joins to the core
abbrev pub walk_out_border : TopologyView → List (List ℕ) → ℕ → ℕ → List ℕ
walk_out_border t fs w o =
    filter (λ v. is_in v (slice_index_or fs w [])
    || (not (is_outer fs w o v) && is_beside t.links (λ u. is_in_one u (core_of fs w o)) v)) (range_with_len 0 (length t.nodes))

abbrev pub walk_out_parts : TopologyView → ℕ → ℕ → PartsView
walk_out_parts t w o =
    let fs = frontiers_of t FRONTIERS_MAX in
    parts_around t.links (is_outer fs w o) (walk_out_border t fs w o)
