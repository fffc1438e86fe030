-- What the assignment keeps from turn to turn: the owners so far, and for each core its node set and the pipes there that it may
-- take.
use Rattle.std.specs.Prelude.{ℕ, ◌≡◌, ◌≢◌, ◌⊎◌, ◌↔◌, ◌<◌, ◌≤◌, ◌==◌, ◌||◌, true, false, List, [], length, map, Option, Some, None, slice_index_or, Vec}
use Rattle.mn_base.specs.Among.{Among}
use Rattle.distill.specs.declared.pipes.DistilledPipe.{DistilledPipe}
use Rattle.distill.specs.Distilled.{DistilledView}
use Rattle.frontier.specs.NodeSets.{has}
use Rattle.ownership.specs.declared.reach.Reach.{Reach}
use Rattle.ownership.specs.declared.turns.Turns.{Turns}
use Rattle.ownership.specs.Owners.{IsFree, AreOwners}
use Rattle.ownership.specs.Assignment.{Owned, is_owned, has_end, is_end, is_in_set}

-- ---- the pipes at each node
-- the row has exactly the pipes of which node v is an end
pub record IsRowOf (pipes : List DistilledPipe) (v : ℕ) (row : List ℕ) : Type 0 where
  pub all : (q : ℕ) → is_end pipes v q ≡ true → Among q row
  pub ends : (q : ℕ) → Among q row → is_end pipes v q ≡ true

-- a row for each node
pub record AreRows (d : DistilledView) (rows : List (List ℕ)) : Type 0 where
  pub len : length rows ≡ d.nodes
  pub rows_are : (v : ℕ) → v < d.nodes → IsRowOf d.pipes v (slice_index_or rows v [])

-- the lists of a list of vectors
abbrev pub row_lists : {A : Type 0} → List (Vec ℕ A) → List (List ℕ)
row_lists {A} rows = map (λ (row : Vec ℕ A). row.items) rows

-- ---- the pipes that a core may take
-- the pipe was put in, if it is free
pub record AddsIfFree (owners : List (Option ℕ)) (pipe : ℕ) (old new : List ℕ) : Type 0 where
  pub from : (k : ℕ) → Among k new → Among k old ⊎ (k ≡ pipe)
  pub kept : (k : ℕ) → Among k old → Among k new
  pub added : IsFree owners pipe → Among pipe new

-- nothing was there to be taken out
pub record AreEmpty (old new : List ℕ) : Type 0 where
  pub before : old ≡ []
  pub after : new ≡ []

-- the first of rising numbers was taken out
pub record PopsLeast (old : List ℕ) (first : ℕ) (new : List ℕ) : Type 0 where
  pub there : Among first old
  pub rest : (k : ℕ) → Among k new ↔ (Among k old × (k ≢ first))
  pub least : (k : ℕ) → Among k old → first ≤ k
  pub fewer : length new < length old

-- every pipe had an owner
pub record FindsNone (owners : List (Option ℕ)) (old new : List ℕ) : Type 0 where
  pub none_free : (k : ℕ) → Among k old → IsFree owners k → ⊥
  pub none_left : new ≡ []

-- the least pipe without an owner was taken out, and each below it
pub record FindsLeast (owners : List (Option ℕ)) (old : List ℕ) (pipe : ℕ) (new : List ℕ) : Type 0 where
  pub there : Among pipe old
  pub free : IsFree owners pipe
  pub least : (k : ℕ) → Among k old → IsFree owners k → pipe ≤ k
  pub old_ones : (k : ℕ) → Among k new → Among k old
  pub kept : (k : ℕ) → Among k old → IsFree owners k → k ≢ pipe → Among k new

-- the first number from `from` on that is free, or their number where none is
pub record IsNextUnowned (owners : List (Option ℕ)) (from next : ℕ) : Type 0 where
  pub least : from ≤ next
  pub most : next ≤ length owners
  pub owned : (q : ℕ) → from ≤ q → q < next → IsFree owners q → ⊥
  pub free : next < length owners → IsFree owners next

-- node v was added to the set, and if it is new there, the free pipes at it to those that may be taken
pub record AddsNode (v : ℕ) (row : List ℕ) (owners : List (Option ℕ)) (old new : Reach) : Type 0 where
  pub size : length new.nodes ≡ length old.nodes
  pub nodes : (u : ℕ) → has new.nodes u ≡ (has old.nodes u || v == u)
  pub from : (k : ℕ) → Among k new.near → Among k old.near ⊎ Among k row
  pub kept : (k : ℕ) → Among k old.near → Among k new.near
  pub added : has old.nodes v ≡ false → (k : ℕ) → Among k row → IsFree owners k → Among k new.near

-- ---- after some turns
-- a core's node set, and at least all unowned pipes with an end there but for the one that is being taken
pub record IsReach (d : DistilledView) (cores : ℕ) (owned : List Owned) (gone : Option ℕ) (core : ℕ) (reach : Reach) : Type 0 where
  pub size : length reach.nodes ≡ d.nodes
  pub nodes : (v : ℕ) → v < d.nodes → has reach.nodes v ≡ is_in_set d cores owned core v
  pub near : (q : ℕ) → Among q reach.near → has_end d.pipes (has reach.nodes) q ≡ true
  pub all : (q : ℕ) → is_owned owned q ≡ false → gone ≢ Some q → has_end d.pipes (has reach.nodes) q ≡ true → Among q reach.near

-- the first cores reach the nodes that they start with
pub record HaveStarted (d : DistilledView) (cores n : ℕ) (reaches : List Reach) : Type 0 where
  pub len : length reaches ≡ n
  pub each : (core : ℕ) (other : Reach) → core < n → IsReach d cores [] None core (slice_index_or reaches core other)

pub record HoldsTurns (d : DistilledView) (cores : ℕ) (owned : List Owned) (gone : Option ℕ) (t : Turns) : Type 0 where
  pub owners : AreOwners (length d.pipes) owned t.owners.items
  pub len : length t.reaches.items ≡ cores
  pub reaches : (core : ℕ) (other : Reach) → core < cores → IsReach d cores owned gone core (slice_index_or t.reaches.items core other)
  pub below : (q : ℕ) → q < t.least → is_owned owned q ≡ true
  pub least : t.least ≤ length d.pipes
