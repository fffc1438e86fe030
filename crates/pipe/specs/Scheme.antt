-- Journals of any kind of visits: which visits are due at first, which one is due after a visit, and which visit comes of a due one
-- after those of a list. What the step of a visit may be is left open.
use Rattle.std.specs.Prelude.{false, ◌≡◌, ℕ, zero, suc, ◌+◌, ◌<◌, ◌==◌, Bool, ◌&&◌, not, List, [], ◌∷◌, ◌++◌, map, filter, filter_map, Option, Some, None, ◌⊎◌, ◌↔◌}
use Rattle.std.specs.List.{list_any}
use Rattle.mn_base.specs.Among.{Among}
use Rattle.mn_base.specs.declared.due.Due.{Due}
use Rattle.mn_base.specs.Canonical.{Before}
use Rattle.pipe.specs.Dues.{least}

pub record Scheme (V : Type 0) : Type 0 where
  -- the visits that are due before any visit is made
  pub first : List Due
  -- the due visit that a visit was
  pub due_of : V → Due
  -- the visit that follows on the packet's way; none where the way ends
  pub next : V → Option Due
  -- the visit that comes of a due one after all visits of a list
  pub make : List V → Due → V

-- all that is due by the visits of J, made or not
abbrev pub dues_by : {V : Type 0} → Scheme V → List V → List Due
dues_by s J = s.first ++ filter_map s.next J

-- each visit is before all that follow it in the list
abbrev pub Rises : {V : Type 0} → Scheme V → List V → Type 0
Rises {V} s [] = Unit {0}
Rises {V} s (v ∷ J) = ((w : V) → Among w J → Before (s.due_of v) (s.due_of w)) × Rises s J

-- each visit of J is what the visits before it make of it
abbrev pub AreMade : {V : Type 0} → Scheme V → List V → Type 0
AreMade {V} s J = (front rest : List V) (v : V) → J ≡ front ++ v ∷ rest → v ≡ s.make front (s.due_of v)

pub record IsJournalBy {V : Type 0} (s : Scheme V) (J : List V) : Type 0 where
  -- strictly by tick, then by packet number
  pub rises : Rises s J
  -- what is due by the journal's own visits is among them
  pub complete : (x : Due) → Among x (dues_by s J) → Among x (map s.due_of J)
  -- and there is no other visit
  pub sound : (x : Due) → Among x (map s.due_of J) → Among x (dues_by s J)
  -- each visit is what the visits before it make of it
  pub made : AreMade s J

-- J has the visit of this packet to this hop
abbrev pub is_done_by : {V : Type 0} → Scheme V → List V → Due → Bool
is_done_by s J x = list_any (λ v. ((s.due_of v).packet == x.packet) && ((s.due_of v).hop == x.hop)) J

-- what is due and isn't made yet
abbrev pub pending_by : {V : Type 0} → Scheme V → List V → List Due
pending_by s J = filter (λ x. not (is_done_by s J x)) (dues_by s J)

-- J with the visit that comes of this due one, if there is one
abbrev pub more_by : {V : Type 0} → Scheme V → List V → Option Due → List V
more_by s J None = J
more_by s J (Some x) = J ++ s.make J x ∷ []

-- J after so many times of adding the least visit that is pending
abbrev pub grown_by : {V : Type 0} → Scheme V → ℕ → List V → List V
grown_by s zero J = J
grown_by s (suc n) J = grown_by s n (more_by s J (least (pending_by s J)))

-- J grows into a journal: each visit was due by those of J, is what the visits before it make of it, and is before all that is pending
pub record IsGrowingBy {V : Type 0} (s : Scheme V) (J : List V) : Type 0 where
  pub rises : Rises s J
  pub sound : (v : V) → Among v J → Among (s.due_of v) (dues_by s J)
  pub made : AreMade s J
  pub ahead : (v : V) (x : Due) → Among v J → Among x (dues_by s J) → is_done_by s J x ≡ false → Before (s.due_of v) x

-- all that the laws on journals ask of a scheme
pub record IsOrderly {V : Type 0} (s : Scheme V) : Type 0 where
  -- a visit is of the due visit that it is made of
  pub due : (front : List V) (x : Due) → s.due_of (s.make front x) ≡ x
  -- at first a packet is due at hop 0
  pub start : (x : Due) → Among x s.first → x.hop ≡ 0
  -- and at no more than one tick
  pub apart : (x y : Due) → Among x s.first → Among y s.first → x.packet ≡ y.packet → x ≡ y
  -- after a visit the same packet is due at the next hop, and later
  pub later : (front : List V) (x y : Due) → s.next (s.make front x) ≡ Some y → x.tick < y.tick
  pub packet : (v : V) (y : Due) → s.next v ≡ Some y → y.packet ≡ (s.due_of v).packet
  pub hop : (v : V) (y : Due) → s.next v ≡ Some y → y.hop ≡ (s.due_of v).hop + 1

-- a list of due visits, in any order, has what is pending after J and nothing else
abbrev pub HoldsPending : {V : Type 0} → Scheme V → List V → List Due → Type 0
HoldsPending s J held = (x : Due) → Among x held ↔ Among x (pending_by s J)

-- the first is taken out of the list, and the packet of no other is the same
pub record TakesFirst (held : List Due) (x : Due) (rest : List Due) : Type 0 where
  pub taken : (y : Due) → Among y held ↔ ((x ≡ y) ⊎ Among y rest)
  pub first : (y : Due) → Among y rest → Before x y

-- what follows a visit is put into the list, if anything follows
abbrev pub AddsNext : Option Due → List Due → List Due → Type 0
AddsNext next rest new = (y : Due) → Among y new ↔ ((next ≡ Some y) ⊎ Among y rest)
