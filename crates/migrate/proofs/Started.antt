-- The cores before the first window: pipes are put to their owners one by one, and packets enter one by one.
use Rattle.std.proofs.Common.{◌≡◌, ◌≢◌, ◌⊎◌, inl, inr, ⊎_elim, ℕ, zero, suc, ◌+◌, ◌-◌, ◌*◌, ◌^◌, ◌<◌, ◌≤◌, ◌==◌, Bool, true, false, cond, List, [], ◌∷◌, length, map, find, Option, Some, None, slice_get, slice_index_or, refl, sym, ap, ◌∙◌, subst, arith, lt-ltb}
use Rattle.std.specs.Prelude.{◌↔◌, IsSome, unwrap_or}
use Rattle.std.specs.Option.{option_map_or}
use Rattle.std.specs.List.{zip}
use Rattle.std.specs.FinMap as fin
use Rattle.std.proofs.lemmas.Bool.{cases_eq, cases_order, cases_lt}
use Rattle.std.proofs.lemmas.List.{length-map, get_or_default}
use Rattle.std.proofs.lemmas.Nat.{mul-le}
use Rattle.std.proofs.lemmas.Option.{slice_get_within, get_or_from_slice_get}
use Rattle.mn_base.specs.Among.{Among}
use Rattle.mn_base.specs.declared.due.Due.{Due}
use Rattle.journal.specs.declared.setup.PacketPlan.{PacketPlan}
use Rattle.journal.specs.declared.fate.Fate.{Fate}
use Rattle.journal.specs.declared.fate.Fate.TheVariants.{Left}
use Rattle.journal.specs.SetupView.{SetupView, route_of}
use Rattle.journal.specs.IsSetup.{IsSetup}
use Rattle.journal.specs.Hops.{pipe_of, entry}
use Rattle.journal.specs.IsPipe.{SetupPipeView, IsPipe}
use Rattle.parcel.specs.declared.core_result.Settled.{Settled}
use Rattle.parcel.specs.Owners.{owner_of}
use Rattle.parcel.specs.Results.{packet_bytes}
use Rattle.payload_store.specs.StoreView.{StoreView}
use Rattle.deadline_heap.specs.Canonical.{HasNoneOf, IsCanonical}
use Rattle.journal.proofs.Delays.{entry_parts}
use Rattle.mn_base.specs.declared.limits.TheConstants.{TIME_NS_END, ROUTE_DELAY_NS_END}
use Rattle.mn_base.proofs.Members.{All-Among}
use Rattle.journal.proofs.HeldFirst.{at-within}
use Rattle.journal.proofs.Orderly.{tick-pos}
use Rattle.journal.proofs.Ends.{fates_hold}
use Rattle.journal.proofs.Packets.{among-get, packet-known}
use Rattle.core_loop.specs.Stocked.{Enters, HoldsEntrants, AreBytesOf, AreStores, AreBytesIn}
use Rattle.core_loop.specs.WorldState.{AreSettled}
use Rattle.core_loop.specs.Work.{Settling}
use Rattle.core_loop.proofs.Settlings.{still-held, settled-more}
use Rattle.migrate.specs.ShelvesView.{ShelfView, pipe_in}
use Rattle.migrate.specs.Running.{HoldsPipe, ChangesAt, PutsDue, SettlesPacket, entrants_of}
use Rattle.migrate.specs.Starting.{PutsPipe, AreLaidOut, SameButPipes, HasEnteredBy, IsFirstVisit, IsWayless, PacketsEntered}
use Rattle.migrate.proofs.OneVisit.{IsChanged, changed-at}
use Rattle.migrate.proofs.After.{settled-alike, undecided-fresh}

-- ---- pipes

module _ (S : SetupView) (many : ℕ) (p : SetupPipeView) (old new : List ShelfView)
    (c : ChangesAt (owner_of S many) (PutsPipe many p) old new) where
  pub laid-more : IsPipe S [] many p → AreLaidOut S many old → AreLaidOut S (many + 1) new
  laid-more is a = record { there = there; nowhere_else = nowhere_else }
    where
      there : (q : ℕ) (t : ShelfView) → q < many + 1 → slice_get new (owner_of S q) ≡ Some t → HoldsPipe S [] q t.pipes
      there q t below e =
          go (changed-at (owner_of S many) (PutsPipe many p) old new c (owner_of S q) t e) (cases_eq q many)
          (cases_eq (owner_of S q) (owner_of S many))
        where
          go : IsChanged (owner_of S many) (PutsPipe many p) old (owner_of S q) t → (q ≡ many) ⊎ (q ≢ many)
              → (owner_of S q ≡ owner_of S many) ⊎ (owner_of S q ≢ owner_of S many) → HoldsPipe S [] q t.pipes
          go k (inl same) o =
              subst (λ (n : ℕ). HoldsPipe S [] n t.pipes) (sym same) (p, (k.here (ap (owner_of S) same)).here, is)
          go k (inr differ) (inl here) =
              let h = a.there q k.was (omega (arith, below, differ)) k.there in
              (h.0, (k.here here).others q differ ∙ h.1, h.2)
          go k (inr differ) (inr apart) =
              let h = a.there q k.was (omega (arith, below, differ)) k.there in
              (h.0, ap (λ (s : ShelfView). pipe_in s.pipes q) (k.other apart) ∙ h.1, h.2)

      nowhere_else : (core q : ℕ) (t : ShelfView) (m : SetupPipeView) → slice_get new core ≡ Some t → pipe_in t.pipes q ≡ Some m
          → (q < many + 1) × (owner_of S q ≡ core)
      nowhere_else core q t m e l =
          go (changed-at (owner_of S many) (PutsPipe many p) old new c core t e) (cases_eq q many) (cases_eq core (owner_of S many))
        where
          go : IsChanged (owner_of S many) (PutsPipe many p) old core t → (q ≡ many) ⊎ (q ≢ many)
              → (core ≡ owner_of S many) ⊎ (core ≢ owner_of S many) → (q < many + 1) × (owner_of S q ≡ core)
          go k (inl same) (inl here) = (omega (arith, same), ap (owner_of S) same ∙ sym here)
          go k (inr differ) (inl here) =
              let h = a.nowhere_else core q k.was m k.there (sym ((k.here here).others q differ) ∙ l) in
              (omega (arith, h.0), h.1)
          go k n (inr apart) =
              let h = a.nowhere_else core q k.was m k.there (ap (λ (s : ShelfView). pipe_in s.pipes q) (sym (k.other apart)) ∙ l) in
              (omega (arith, h.0), h.1)

  pub same-more : (first : List ShelfView) → SameButPipes first old → SameButPipes first new
  same-more first a = record { as_many = c.as_many ∙ a.as_many; each = each }
    where
      each : (core : ℕ) (s t : ShelfView) → slice_get first core ≡ Some s → slice_get new core ≡ Some t → t ≡ record s { pipes = t.pipes }
      each core s t e f =
          go (changed-at (owner_of S many) (PutsPipe many p) old new c core t f) (cases_eq core (owner_of S many))
        where
          go : IsChanged (owner_of S many) (PutsPipe many p) old core t → (core ≡ owner_of S many) ⊎ (core ≢ owner_of S many)
              → t ≡ record s { pipes = t.pipes }
          go k (inl here) =
              (k.here here).same
              ∙ ap (λ (u : ShelfView). record u { pipes = t.pipes }) (a.each core s k.was e k.there)
          go k (inr apart) = k.other apart ∙ a.each core s k.was e k.there ∙ ap (λ (u : ShelfView). record s { pipes = u.pipes })
              (sym (k.other apart))

-- before any pipe is put
pub laid-none : (S : SetupView) (shelves : List ShelfView) → ((core : ℕ) (s : ShelfView) → slice_get shelves core ≡ Some s → s.pipes ≡ [])
    → AreLaidOut S 0 shelves
laid-none S shelves empty = record {
  there = λ pipe s below e. absurd (omega (arith, below));
  nowhere_else = λ core pipe s m e l.
      (let none : None ≡ Some m = ap (λ ps. pipe_in ps pipe) (sym (empty core s e)) ∙ l in cc);
}

pub same-none : (shelves : List ShelfView) → SameButPipes shelves shelves
same-none shelves = record {
  as_many = refl;
  each = λ core s t e f. (let both : Some s ≡ Some t = sym e ∙ f in let same : s ≡ t = cc in
      sym same ∙ ap (λ (u : ShelfView). record s { pipes = u.pipes }) same);
}

-- ---- packets

-- numbers rise, so a packet stands at one index
pub one-index : (S : SetupView) → IsSetup S → (i j : ℕ) (p q : PacketPlan) → slice_get S.packets i ≡ Some p
    → slice_get S.packets j ≡ Some q → p.number ≡ q.number → i ≡ j
one-index S is i j p q e f same = go (cases_order i j)
  where
    at-i : slice_index_or S.packets i p ≡ p
    at-i = get_or_from_slice_get S.packets i p p e

    at-j : slice_index_or S.packets j p ≡ q
    at-j = get_or_from_slice_get S.packets j q p f

    go : (i ≡ j) ⊎ ((i < j) ⊎ (j < i)) → i ≡ j
    go (inl k) = k
    go (inr (inl l)) =
        let rise : (slice_index_or S.packets i p).number < (slice_index_or S.packets j p).number =
        is.numbers_rise i j p l (slice_get_within S.packets j q f) in
        absurd (omega (arith, rise, same, ap (λ (r : PacketPlan). r.number) at-i, ap (λ (r : PacketPlan). r.number) at-j))
    go (inr (inr l)) =
        let rise : (slice_index_or S.packets j p).number < (slice_index_or S.packets i p).number =
        is.numbers_rise j i p l (slice_get_within S.packets i p e) in
        absurd (omega (arith, rise, same, ap (λ (r : PacketPlan). r.number) at-i, ap (λ (r : PacketPlan). r.number) at-j))

pub entry-packet : (S : SetupView) (p : PacketPlan) (x : Due) → Among p S.packets → entry S p ≡ Some x → x.packet ≡ p.number
entry-packet S p x a e = ap (λ (d : Due). d.packet) (entry_parts S p x a e).is

-- a packet without a first visit has no way to go, and back
pub no-entry : (S : SetupView) (p : PacketPlan) → entry S p ≡ None → route_of S p.number ≡ []
no-entry S p e = go (route_of S p.number) refl
  where
    go : (route : List ℕ) → route_of S p.number ≡ route → route_of S p.number ≡ []
    go [] r = r
    go (q ∷ route) r =
        let first : Due = record { tick = p.entry_tick; packet = p.number; hop = 0 } in
        let some : entry S p ≡ Some first =
        ap (λ (b : Bool). cond b (Some first) None)
        (lt-ltb 0 (length (route_of S p.number)) (subst (λ (l : List ℕ). 0 < length l) (sym r) (omega arith))) in
        let clash : None ≡ Some first = sym e ∙ some in
        cc

module _ {S : SetupView} (is : IsSetup S) (many : ℕ) {p : PacketPlan} (at : slice_get S.packets many ≡ Some p) where
  planned : Among p S.packets
  planned = among-get S.packets many p at

  -- one packet more
  pub first-more : (y : Due) → IsFirstVisit S (many + 1) y ↔ ((entry S p ≡ Some y) ⊎ IsFirstVisit S many y)
  first-more y = (into, out)
    where
      into : IsFirstVisit S (many + 1) y → (entry S p ≡ Some y) ⊎ IsFirstVisit S many y
      into (i, q, l, e, f) = go (cases_lt i many)
        where
          go : (i < many) ⊎ (many ≤ i) → (entry S p ≡ Some y) ⊎ IsFirstVisit S many y
          go (inl below) = inr (i, q, below, e, f)
          go (inr above) =
              let same : many ≡ i = omega (arith, l, above) in
              let both : Some p ≡ Some q = sym at ∙ ap (slice_get S.packets) same ∙ e in
              let plan : p ≡ q = cc in
              inl (ap (entry S) plan ∙ f)

      out : (entry S p ≡ Some y) ⊎ IsFirstVisit S many y → IsFirstVisit S (many + 1) y
      out (inl e) = (many, p, omega arith, at, e)
      out (inr (i, q, l, e, f)) = (i, q, omega (arith, l), e, f)

  pub wayless-more : route_of S p.number ≡ [] → (q : PacketPlan) → IsWayless S (many + 1) q ↔ (IsWayless S many q ⊎ (q ≡ p))
  wayless-more none q = (into, out)
    where
      into : IsWayless S (many + 1) q → IsWayless S many q ⊎ (q ≡ p)
      into (i, l, e, r) = go (cases_lt i many)
        where
          go : (i < many) ⊎ (many ≤ i) → IsWayless S many q ⊎ (q ≡ p)
          go (inl below) = inl (i, below, e, r)
          go (inr above) =
              let same : i ≡ many = omega (arith, l, above) in
              let both : Some q ≡ Some p = sym e ∙ ap (slice_get S.packets) same ∙ at in
              inr cc

      out : IsWayless S many q ⊎ (q ≡ p) → IsWayless S (many + 1) q
      out (inl (i, l, e, r)) = (i, omega (arith, l), e, r)
      out (inr same) =
          (many, omega arith, at ∙ ap Some (sym same), ap (λ (r : PacketPlan). route_of S r.number) same ∙ none)

  pub wayless-same : (x : Due) → entry S p ≡ Some x → (q : PacketPlan) → IsWayless S many q ↔ IsWayless S (many + 1) q
  wayless-same x some q = ((λ w. (w.0, omega (arith, w.1), w.2, w.3)), λ w. go w (cases_lt w.0 many))
    where
      go : (w : IsWayless S (many + 1) q) → (w.0 < many) ⊎ (many ≤ w.0) → IsWayless S many q
      go w (inl below) = (w.0, below, w.2, w.3)
      go w (inr above) =
          let same : w.0 ≡ many = omega (arith, w.1, above) in
          let both : Some q ≡ Some p = sym w.2 ∙ ap (slice_get S.packets) same ∙ at in
          let plan : q ≡ p = cc in
          let long : 0 < length (route_of S p.number) = (entry_parts S p x planned some).within in
          let none : length (route_of S p.number) ≡ 0 = ap (λ (r : PacketPlan). length (route_of S r.number)) (sym plan) ∙ ap length w.3 in
          absurd (omega (arith, long, none))

  wayless-not : IsWayless S many p → ⊥
  wayless-not (i, l, e, r) = let same : i ≡ many = one-index S is i many p p e at refl in omega (arith, l, same)

  module _ {old mid : List ShelfView} (h : PacketsEntered S many old mid) where
    was-at : (core : ℕ) (t : ShelfView) → slice_get mid core ≡ Some t → (s : ShelfView) × (slice_get old core ≡ Some s)
    was-at core t e =
        at-within old core (let l = slice_get_within mid core t e in omega (arith, l, h.as_many))

    -- no visit of the packet is due yet
    pub enter-alone : (core : ℕ) (s : ShelfView) → slice_get mid core ≡ Some s → HasNoneOf p.number s.due
    enter-alone core s e y m same =
        let v = ((h.members core s y e).0 m).0 in
        let packet = entry-packet S v.1 y (among-get S.packets v.0 v.1 v.3) v.4 in
        let i = one-index S is v.0 many v.1 p v.3 at (sym packet ∙ same) in
        omega (arith, v.2, i)

    -- its payload is held
    pub enter-held : (bytes : List (List ℕ))
        → ((core : ℕ) (s : ShelfView) → slice_get old core ≡ Some s → AreSettled S bytes core (λ q. ⊥) s.settled s.store)
        → (t : ShelfView) → slice_get mid p.core ≡ Some t → IsSome (fin.get t.store.held p.number)
    enter-held bytes before t e =
        let s = was-at p.core t e in
        let a = h.settled bytes p.core s.0 t s.1 e (before p.core s.0 s.1) in
        still-held S bytes p.core (IsWayless S many) (IsWayless S many) (entrants_of t) (entrants_of t) p a
        (record { among = planned; entered = refl })
        (undecided-fresh S is bytes p.core (IsWayless S many) t.settled t.store a p planned wayless-not)

    -- where its first visit is due
    module _ (new : List ShelfView) (x : Due) (some : entry S p ≡ Some x)
        (c : ChangesAt (owner_of S (pipe_of S x)) (PutsDue x) mid new) where
      abbrev owner : ℕ
      owner = owner_of S (pipe_of S x)

      abbrev Now : ℕ → ShelfView → Type 0
      Now core t = IsChanged (owner_of S (pipe_of S x)) (PutsDue x) mid core t

      now : (core : ℕ) (t : ShelfView) → slice_get new core ≡ Some t → Now core t
      now core t e = changed-at owner (PutsDue x) mid new c core t e

      put-same : (core : ℕ) (s t : ShelfView) → slice_get old core ≡ Some s → Now core t → (core ≡ owner) ⊎ (core ≢ owner)
          → (t.pipes ≡ s.pipes) × (t.visits ≡ s.visits)
      put-same core s t e k (inl here) =
          let b = h.same core s k.was e k.there in ((k.here here).pipes ∙ b.0, (k.here here).visits ∙ b.1)
      put-same core s t e k (inr apart) =
          let b = h.same core s k.was e k.there in
          (ap (λ (u : ShelfView). u.pipes) (k.other apart) ∙ b.0, ap (λ (u : ShelfView). u.visits) (k.other apart) ∙ b.1)

      put-canonical : (core : ℕ) (t : ShelfView) → Now core t → (core ≡ owner) ⊎ (core ≢ owner) → IsCanonical t.due
      put-canonical core t k (inl here) = (k.here here).canonical
      put-canonical core t k (inr apart) =
          subst (λ (u : ShelfView). IsCanonical u.due) (sym (k.other apart)) (h.canonical core k.was k.there)

      put-members : (core : ℕ) (t : ShelfView) (y : Due) → Now core t → (core ≡ owner) ⊎ (core ≢ owner)
          → Among y t.due ↔ (IsFirstVisit S (many + 1) y × (owner_of S (pipe_of S y) ≡ core))
      put-members core t y k (inl here) = (
        (λ m. ⊎_elim
            (λ n. ((first-more y).1 (inl (some ∙ ap Some n)), ap (λ (z : Due). owner_of S (pipe_of S z)) (sym n) ∙ sym here))
            (λ n. let b = (h.members core k.was y k.there).0 n in ((first-more y).1 (inr b.0), b.1))
            (((k.here here).members y).0 m)),
        λ m. ((k.here here).members y).1 (⊎_elim
            (λ n. let both : Some x ≡ Some y = sym some ∙ n in let is : x ≡ y = cc in inl is)
            (λ n. inr ((h.members core k.was y k.there).1 (n, m.1))) ((first-more y).0 m.0)),
      )
      put-members core t y k (inr apart) = (
        (λ m. let b = (h.members core k.was y k.there).0 (subst (λ (u : ShelfView). Among y u.due) (k.other apart) m) in
            ((first-more y).1 (inr b.0), b.1)),
        λ m. ⊎_elim
            (λ n. let both : Some x ≡ Some y = sym some ∙ n in let is : x ≡ y = cc in
            absurd (apart (sym m.1 ∙ ap (λ (z : Due). owner_of S (pipe_of S z)) (sym is))))
            (λ n. subst (λ (u : ShelfView). Among y u.due) (sym (k.other apart)) ((h.members core k.was y k.there).1 (n, m.1)))
            ((first-more y).0 m.0),
      )

      put-settled : (bytes : List (List ℕ)) (core : ℕ) (s t : ShelfView) → slice_get old core ≡ Some s
          → AreSettled S bytes core (λ q. ⊥) s.settled s.store → Now core t → (core ≡ owner) ⊎ (core ≢ owner)
          → AreSettled S bytes core (IsWayless S many) t.settled t.store
      put-settled bytes core s t e a k (inl here) =
          subst (λ (l : List Settled). AreSettled S bytes core (IsWayless S many) l t.store) (sym (k.here here).settled)
          (subst (λ (l : StoreView). AreSettled S bytes core (IsWayless S many) k.was.settled l) (sym (k.here here).store)
          (h.settled bytes core s k.was e k.there a))
      put-settled bytes core s t e a k (inr apart) =
          subst (λ (u : ShelfView). AreSettled S bytes core (IsWayless S many) u.settled u.store) (sym (k.other apart))
          (h.settled bytes core s k.was e k.there a)

      pub enters-put : PacketsEntered S (many + 1) old new
      enters-put = record {
        as_many = c.as_many ∙ h.as_many;
        same = λ core s t e f. put-same core s t e (now core t f) (cases_eq core owner);
        canonical = λ core t e. put-canonical core t (now core t e) (cases_eq core owner);
        members = λ core t y e. put-members core t y (now core t e) (cases_eq core owner);
        settled = λ bytes core s t e f a.
            settled-alike S bytes core (IsWayless S many) (IsWayless S (many + 1)) t.settled t.store (λ q k. wayless-same x some q)
            (put-settled bytes core s t e a (now core t f) (cases_eq core owner));
      }

    -- where it has no way to go
    module _ (new : List ShelfView) (none : entry S p ≡ None)
        (c : ChangesAt p.core (SettlesPacket p.number (Left p.entry_tick)) mid new) where
      abbrev Then : ℕ → ShelfView → Type 0
      Then core t = IsChanged p.core (SettlesPacket p.number (Left p.entry_tick)) mid core t

      then-at : (core : ℕ) (t : ShelfView) → slice_get new core ≡ Some t → Then core t
      then-at core t e = changed-at p.core (SettlesPacket p.number (Left p.entry_tick)) mid new c core t e

      stays : (core : ℕ) (t : ShelfView) → (k : Then core t) → (core ≡ p.core) ⊎ (core ≢ p.core)
          → (t.due ≡ k.was.due) × (t.pipes ≡ k.was.pipes) × (t.visits ≡ k.was.visits)
      stays core t k (inl here) = ((k.here here).due, (k.here here).pipes, (k.here here).visits)
      stays core t k (inr apart) = (
        ap (λ (u : ShelfView). u.due) (k.other apart),
        ap (λ (u : ShelfView). u.pipes) (k.other apart),
        ap (λ (u : ShelfView). u.visits) (k.other apart),
      )

      no-first : (y : Due) → entry S p ≡ Some y → ⊥
      no-first y n = (let both : None ≡ Some y = sym none ∙ n in cc)

      settle-members : (core : ℕ) (t : ShelfView) (y : Due) (k : Then core t) → t.due ≡ k.was.due
          → Among y t.due ↔ (IsFirstVisit S (many + 1) y × (owner_of S (pipe_of S y) ≡ core))
      settle-members core t y k due = (
        (λ m. let b = (h.members core k.was y k.there).0 (subst (Among y) due m) in ((first-more y).1 (inr b.0), b.1)),
        λ m. ⊎_elim (λ n. absurd (no-first y n))
            (λ n. subst (Among y) (sym due) ((h.members core k.was y k.there).1 (n, m.1))) ((first-more y).0 m.0),
      )

      route : route_of S p.number ≡ []
      route = no-entry S p none

      settle-settled : (bytes : List (List ℕ)) (core : ℕ) (s t : ShelfView) → slice_get old core ≡ Some s
          → AreSettled S bytes core (λ q. ⊥) s.settled s.store → Then core t → (core ≡ p.core) ⊎ (core ≢ p.core)
          → AreSettled S bytes core (IsWayless S (many + 1)) t.settled t.store
      settle-settled bytes core s t e a k (inl here) =
          let before : AreSettled S bytes core (IsWayless S many) k.was.settled k.was.store = h.settled bytes core s k.was e k.there a in
          settled-more S bytes core (IsWayless S many) (IsWayless S (many + 1)) (entrants_of k.was) (entrants_of t) p before
          (record { among = planned; entered = sym here })
          (undecided-fresh S is bytes core (IsWayless S many) k.was.settled k.was.store before p planned wayless-not)
          (subst (λ (x : Fate). Settling (entrants_of k.was) p.number x (entrants_of t)) (sym ((fates_hold S is).at_once p route))
          (k.here here).settling)
          (λ q n. wayless-more route q)
      settle-settled bytes core s t e a k (inr apart) =
          settled-alike S bytes core (IsWayless S many) (IsWayless S (many + 1)) t.settled t.store
          (λ q n. (
            (λ w. (wayless-more route q).1 (inl w)),
            λ w. ⊎_elim (λ o. o) (λ same. absurd (apart (sym n.entered ∙ ap (λ (r : PacketPlan). r.core) same)))
                ((wayless-more route q).0 w),
          ))
          (subst (λ (u : ShelfView). AreSettled S bytes core (IsWayless S many) u.settled u.store) (sym (k.other apart))
          (h.settled bytes core s k.was e k.there a))

      pub enters-settle : PacketsEntered S (many + 1) old new
      enters-settle = record {
        as_many = c.as_many ∙ h.as_many;
        same = λ core s t e f.
            (let k = then-at core t f in
            let b = h.same core s k.was e k.there in
            let d = stays core t k (cases_eq core p.core) in
            (d.1 ∙ b.0, d.2 ∙ b.1));
        canonical = λ core t e.
            (let k = then-at core t e in
            subst IsCanonical (sym (stays core t k (cases_eq core p.core)).0) (h.canonical core k.was k.there));
        members = λ core t y e.
            (let k = then-at core t e in settle-members core t y k (stays core t k (cases_eq core p.core)).0);
        settled = λ bytes core s t e f a. settle-settled bytes core s t e a (then-at core t f) (cases_eq core p.core);
      }

    -- either way
    pub enters-more : {new : List ShelfView} → HasEnteredBy S p (entry S p) mid new → PacketsEntered S (many + 1) old new
    enters-more {new} by = go (entry S p) refl by
      where
        go : (o : Option Due) → entry S p ≡ o → HasEnteredBy S p o mid new → PacketsEntered S (many + 1) old new
        go (Some x) e c = enters-put new x e c
        go None e c = enters-settle new e c

-- before any packet has entered
pub entered-none : (S : SetupView) (shelves : List ShelfView) → ((core : ℕ) (s : ShelfView) → slice_get shelves core ≡ Some s → s.due ≡ [])
    → PacketsEntered S 0 shelves shelves
entered-none S shelves empty = record {
  as_many = refl;
  same = λ core s t e f.
      (let both : Some s ≡ Some t = sym e ∙ f in let same : s ≡ t = cc in
      (ap (λ (u : ShelfView). u.pipes) (sym same), ap (λ (u : ShelfView). u.visits) (sym same)));
  canonical = λ core t e. subst IsCanonical (sym (empty core t e)) tt;
  members = λ core t x e. (
    (λ m. absurd (subst (Among x) (empty core t e) m)),
    λ m. absurd (omega (arith, m.0.2)),
  );
  settled = λ bytes core s t e f a.
      (let both : Some s ≡ Some t = sym e ∙ f in let same : s ≡ t = cc in
      settled-alike S bytes core (λ q. ⊥) (IsWayless S 0) t.settled t.store
      (λ q n. ((λ w. absurd w), λ w. absurd (omega (arith, w.1))))
      (subst (λ (u : ShelfView). AreSettled S bytes core (λ q. ⊥) u.settled u.store) same a));
}

-- ---- stores

-- of the packets that enter at a core none is settled yet
pub none-settled : (S : SetupView) (core : ℕ) (store : StoreView) (bytes : List (List ℕ)) → HoldsEntrants S core store
    → AreBytesOf S core store bytes → AreSettled S bytes core (λ p. ⊥) [] store
none-settled S core store bytes holds are = record {
  each_has_bytes = are.each_has_bytes;
  sound = λ t m. absurd m;
  decided = λ t m. absurd m;
  all = λ p n d. absurd d;
  once = λ i j d l m. absurd (omega (arith, m));
  released_are = holds.released;
  held_are = λ p n f. are.in_store p n;
  no_other = λ number some. (holds.only number some, λ m. absurd (subst (Among number) holds.released m));
}

-- the stores say what the bytes of all packets may be
module _ (S : SetupView) (is : IsSetup S) (stores : List StoreView) (are : AreStores S stores) where
  abbrev pub held_at : Option StoreView → ℕ → List ℕ
  held_at None number = []
  held_at (Some store) number = unwrap_or (fin.get store.held number) []

  abbrev held_bytes : PacketPlan → List ℕ
  held_bytes p = held_at (slice_get stores p.core) p.number

  abbrev pub stored_bytes : List (List ℕ)
  stored_bytes = map held_bytes S.packets

  find-zip : (ps : List PacketPlan) (n : ℕ)
      → option_map_or (λ e. e.1) (find (λ e. e.0.number == n) (zip ps (map held_bytes ps))) []
      ≡ option_map_or held_bytes (find (λ p. p.number == n) ps) []
  find-zip [] n = refl
  find-zip (p ∷ ps) n = go (p.number == n) (find-zip ps n)
    where
      go : (b : Bool)
          → option_map_or (λ e. e.1) (find (λ e. e.0.number == n) (zip ps (map held_bytes ps))) []
          ≡ option_map_or held_bytes (find (λ p. p.number == n) ps) []
          → option_map_or (λ e. e.1) (cond b (Some (p, held_bytes p)) (find (λ e. e.0.number == n) (zip ps (map held_bytes ps)))) []
          ≡ option_map_or held_bytes (cond b (Some p) (find (λ p. p.number == n) ps)) []
      go true deeper = refl
      go false deeper = deeper

  pub stored-are : AreBytesIn S stores stored_bytes
  stored-are core store e = record { each_has_bytes = length-map S.packets held_bytes; in_store = in_store }
    where
      in_store : (p : PacketPlan) → Enters S core p → fin.get store.held p.number ≡ Some (packet_bytes S stored_bytes p.number)
      in_store p n =
          some (fin.get store.held p.number) refl ((are.holds core store e).all p n)
          ∙ ap Some (sym (find-zip S.packets p.number
          ∙ ap (λ (o : Option PacketPlan). option_map_or held_bytes o []) (packet-known S is p n.among)
          ∙ ap (λ (c : ℕ). held_at (slice_get stores c) p.number) n.entered
          ∙ ap (λ (o : Option StoreView). held_at o p.number) e))
        where
          some : (o : Option (List ℕ)) → fin.get store.held p.number ≡ o → IsSome o
              → fin.get store.held p.number ≡ Some (unwrap_or (fin.get store.held p.number) [])
          some (Some l) f there = f ∙ ap (λ (o : Option (List ℕ)). Some (unwrap_or o [])) (sym f)
          some None f there = cc

-- ---- reads

abbrev pub no_plan : PacketPlan
no_plan = record { entry_tick = 0; number = 0; len = 0; route = 0; core = 0 }

get-or-plan : (xs : List PacketPlan) (i : ℕ) → i < length xs → slice_get xs i ≡ Some (slice_index_or xs i no_plan)
get-or-plan [] i l = absurd (omega (arith, l))
get-or-plan (x ∷ xs) zero l = refl
get-or-plan (x ∷ xs) (suc i) l = get-or-plan xs i (omega (arith, l))

-- the packet at an index of a list that is the setup's
pub plan-at : (S : SetupView) (items : List PacketPlan) (i : ℕ) → items ≡ S.packets → i < length items
    → slice_get S.packets i ≡ Some (slice_index_or items i no_plan)
plan-at S items i is l = ap (λ (ps : List PacketPlan). slice_get ps i) (sym is) ∙ get-or-plan items i l

-- the owner at an index of a list that is the setup's
pub owner-is : (S : SetupView) (owners : List ℕ) (i o : ℕ) → owners ≡ S.owners → i < length S.owners → o ≡ slice_index_or owners i o
    → o ≡ owner_of S i
owner-is S owners i o is l read =
    read ∙ ap (λ (os : List ℕ). slice_index_or os i o) is ∙ get_or_default S.owners i o 0 l

-- the tick of a packet's first visit fits
pub first-fits : (S : SetupView) → IsSetup S → (p : PacketPlan) (x : Due) → Among p S.packets → entry S p ≡ Some x → x.tick < 2 ^ 64 - 1
first-fits S is p x a e =
    let tick : x.tick ≡ p.entry_tick = ap (λ (d : Due). d.tick) (entry_parts S p x a e).is in
    let fits : p.entry_tick * S.tick_ns < TIME_NS_END - ROUTE_DELAY_NS_END =
    All-Among (λ (q : PacketPlan). q.entry_tick * S.tick_ns < TIME_NS_END - ROUTE_DELAY_NS_END) p S.packets is.entries_fit a in
    let pos = tick-pos S is in
    let grow : p.entry_tick * 1 ≤ p.entry_tick * S.tick_ns = mul-le p.entry_tick 1 p.entry_tick S.tick_ns (omega arith) pos in
    omega (arith, tick, fits, grow)
