-- The due visits that are held: the first ones of packets in order, and the later ones as tuples in a heap.
use Rattle.std.specs.Prelude.{ℕ, ◌≤◌, ◌==◌, Bool, true, not, drop, Option, Some, None, List, ◌++◌, length, map, sum_by, AllPairs, if◌then◌else◌}
use Rattle.std.specs.declared.cmp.Ordering.{Ordering}
use Rattle.std.specs.declared.cmp.Reverse.{Reverse}
use Rattle.std.specs.Ordering.{nat_cmp, ordering_then}
use Rattle.std.specs.BinaryHeap.{IsHeap, heap_items}
use Rattle.mn_base.specs.Canonical.{Before, is_before}
use Rattle.pipe.specs.declared.due_visits.DueVisit.{DueVisit}
use Rattle.pipe.specs.declared.due_visits.DueVisits.TheInside.{Inside}

-- a due visit as it is ordered: tick and packet, then hop and index
abbrev pub HeapEntry : Type 0
HeapEntry = (ℕ × ℕ) × (ℕ × ℕ)

abbrev pub due_from_entry : HeapEntry → DueVisit
due_from_entry e = record { due = record { tick = e.0.0; packet = e.0.1; hop = e.1.0 }; index = e.1.1 }

abbrev pub pair_cmp : ℕ × ℕ → ℕ × ℕ → Ordering
pair_cmp x y = ordering_then (nat_cmp x.0 y.0) (nat_cmp x.1 y.1)

-- the heap's order, in which the least entry is on top
abbrev pub top_cmp : Reverse HeapEntry → Reverse HeapEntry → Ordering
top_cmp x y = ordering_then (pair_cmp y.0.0 x.0.0) (pair_cmp y.0.1 x.0.1)

abbrev pub later_visits : List (Reverse HeapEntry) → List DueVisit
later_visits rs = map (λ r. due_from_entry r.0) rs

-- of the first visits those from an index on are held, and all later ones
abbrev pub held_visits : Inside → List DueVisit
held_visits q = drop q.next q.firsts.items ++ later_visits (heap_items q.laters)

-- 1 for a visit of this packet, and 0 for any other
abbrev pub of_packet : ℕ → DueVisit → ℕ
of_packet packet w = if w.due.packet == packet then 1 else 0

-- first visits are in canonical order, the least of the others is on top of the heap, and no packet has two visits
pub record AreOrdered (q : Inside) : Type 0 where
  pub within : q.next ≤ length q.firsts.items
  pub rising : AllPairs (λ v w. Before v.due w.due) q.firsts.items
  pub heap : IsHeap top_cmp (heap_items q.laters)
  pub once : (packet : ℕ) → sum_by (of_packet packet) (held_visits q) ≤ 1

-- whether a first visit is made before the least of the later ones, if there is any
abbrev pub comes_first : DueVisit → Option (Reverse HeapEntry) → Bool
comes_first first None = true
comes_first first (Some top) = not (is_before (due_from_entry top.0).due first.due)

-- the next first visit, if it is made before the least of the later ones
abbrev pub early_of : Option DueVisit → Option (Reverse HeapEntry) → Option DueVisit
early_of None later = None
early_of (Some first) later = if comes_first first later then Some first else None
