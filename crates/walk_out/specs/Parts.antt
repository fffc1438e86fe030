-- What a mode keeps of a topology: links that stay, and a middle that is replaced by pipes between the nodes of its border.
use Rattle.std.specs.Prelude.{ℕ, Bool, not, ◌||◌, List, length, filter, slice_index_or}
use Rattle.std.specs.List.{range_with_len}
use Rattle.topo.specs.declared.parts.Link.{Link}

-- numbers of links, nodes, and numbers of links, each list in number order
pub record PartsView : Type 0 where
  pub kept : List ℕ
  pub border : List ℕ
  pub middle : List ℕ

-- what stands at numbers that no link has
abbrev pub no_link : Link
no_link = record { from = 0; to = 0; bps = 0; latency_us = 0; queue = 0; ppm = 0 }

abbrev pub link_at : List Link → ℕ → Link
link_at links e = slice_index_or links e no_link

-- whether a link has an end among the outer nodes
abbrev pub is_outer_link : (ℕ → Bool) → Link → Bool
is_outer_link outer link = outer link.from || outer link.to

-- the links with an end among the outer nodes are kept; the middle has all others, between nodes that aren't outer
abbrev pub parts_around : List Link → (ℕ → Bool) → List ℕ → PartsView
parts_around links outer border = record {
  kept = filter (λ e. is_outer_link outer (link_at links e)) (range_with_len 0 (length links));
  border = border;
  middle = filter (λ e. not (is_outer_link outer (link_at links e))) (range_with_len 0 (length links));
}
