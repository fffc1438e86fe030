-- What is told between two windows, once it is handed out: to the core itself what it settles, and to the others their parcels.
use Rattle.std.proofs.Common.{◌≡◌, ◌≢◌, ◌⊎◌, inl, inr, ℕ, ◌+◌, ◌<◌, ◌≤◌, ◌==◌, Bool, true, false, not, List, map, filter, length, Option, Some, AllPairs, refl, sym, ap, ◌∙◌, subst, arith, eqb-true, eq-eqb}
use Rattle.std.proofs.lemmas.Bool.{true≢false, cases_lt, ne_eqb, or_right}
use Rattle.std.proofs.lemmas.List.Sorted.{IsPermutation-sym}
use Rattle.std.specs.Prelude.{◌↔◌, ◌||◌, IsSome, option_map, slice_get}
use Rattle.std.specs.FinMap as fin
use Rattle.mn_base.specs.Among.{Among}
use Rattle.mn_base.specs.declared.due.Due.{Due}
use Rattle.journal.specs.declared.setup.PacketPlan.{PacketPlan}
use Rattle.journal.specs.declared.visit.Visit.{Visit}
use Rattle.journal.specs.declared.fate.Fate.{Fate}
use Rattle.journal.specs.SetupView.{SetupView, route_of}
use Rattle.journal.specs.IsSetup.{IsSetup}
use Rattle.journal.specs.Journal.{journal_of}
use Rattle.journal.specs.Fates.{fate_of}
use Rattle.parcel.specs.declared.note.Note.{Note}
use Rattle.parcel.specs.declared.note.Note.TheVariants.{Arrive, Settle}
use Rattle.parcel.specs.Owners.{owner_of}
use Rattle.parcel.specs.Windows.{window_of}
use Rattle.parcel.specs.Known.{origin_of, IsLeastKnown}
use Rattle.parcel.specs.Parcels.{IsDecided, IsNote, settle_note, note_packet, IsParcel}
use Rattle.parcel.specs.ParcelView.{ParcelView}
use Rattle.parcel.specs.DueAt.{WasTold, IsDueAt}
use Rattle.parcel.specs.Told.{Told}
use Rattle.parcel.specs.declared.core_result.Settled.{Settled}
use Rattle.core_loop.specs.Stocked.{Enters}
use Rattle.core_loop.specs.WorldState.{IsHeapAt, IsDecidedBy, AreSettled}
use Rattle.core_loop.specs.Work.{EntrantsView, is_settle, is_left_to_tell}
use Rattle.core_loop.specs.Trading.{IsLeastBy}
use Rattle.core_loop.specs.Handing.{TakesNotes, CanTake, CanTakeAll, earlier_of, IsDueTick, IsToldTick, notes_for, AreTold, WasDecidedBy, IsParcelOf}
use Rattle.mn_base.proofs.Members.{Among-map, Among-from-map, Among-filter, Among-from-filter}
use Rattle.pipe.proofs.HeldOrder.{among-permuted}
use Rattle.journal.proofs.Orderly.{one_packet}
use Rattle.journal.proofs.Count.{hop-within}
use Rattle.journal.proofs.Meets.{journal-grows}
use Rattle.parcel.proofs.Notes.{last-ends, notes_differ}
use Rattle.parcel.proofs.Origins.{owner-below, origin-below}
use Rattle.core_loop.proofs.Differ.{AllDiffer, differ-from, pairs-from, differ-map, differ-filter}
use Rattle.core_loop.proofs.Earliest.{least-both, heap-least}
use Rattle.core_loop.proofs.LeastTicks.{least-known}
use Rattle.core_loop.proofs.Takes.{settled-as, settle-all}

-- what is due at a core is said by how many parcels it has taken of the setup's other cores alone
pub heap-alike : {S : SetupView} {core n : ℕ} {a b : ℕ → ℕ} {heap : List Due} → IsSetup S
    → ((other : ℕ) → other < S.cores → other ≢ core → b other ≡ a other) → IsHeapAt S core n a heap → IsHeapAt S core n b heap
heap-alike {S} {core} {n} {a} {b} is same h = record {
  canonical = h.canonical;
  members = λ x. (
    (λ m. let d = (h.members x).0 m in (d.0, turn a b (λ o l d. same o l d) d.0 d.1, d.2)),
    λ d. (h.members x).1 (d.0, turn b a (λ o l d. sym (same o l d)) d.0 d.1, d.2),
  );
}
  where
    turn : (a b : ℕ → ℕ) → ((other : ℕ) → other < S.cores → other ≢ core → b other ≡ a other) → (v : Visit) → IsDueAt S core n a v
        → IsDueAt S core n b v
    turn a b same v d = record { among = d.among; owner = d.owner; window = d.window; told = go d.told }
      where
        go : WasTold S core n a v → WasTold S core n b v
        go (inl m) = inl m
        go (inr m) =
            let l : (origin_of S v).number < a (origin_of S v).core = m.1 in
            let e : b (origin_of S v).core ≡ a (origin_of S v).core =
            same (origin_of S v).core (origin-below S is v d.among) m.0 in
            inr (m.0, omega (arith, l, e))

module _ {S : SetupView} {core n : ℕ} {told : List Told} (is : IsSetup S) (are : AreTold S core n told) where
  -- the notes for a core are those that are told it
  told-to : (j : ℕ) (note : Note) → Among note (notes_for told j) ↔ Among (record { receiver = j; note = note }) told
  told-to j note = (there, back)
    where
      there : Among note (notes_for told j) → Among (record { receiver = j; note = note }) told
      there a =
          let m = Among-from-map (λ (t : Told). t.note) note (filter (λ (t : Told). t.receiver == j) told) a in
          let f = Among-from-filter (λ (t : Told). t.receiver == j) m.0 told m.1 in
          subst (λ (t : Told). Among t told)
          (ap (λ (k : ℕ). record { receiver = k; note = m.0.note }) (eqb-true _ _ f.1) ∙ ap (λ (x : Note). record { receiver = j; note = x }) m.2)
          f.0

      back : Among (record { receiver = j; note = note }) told → Among note (notes_for told j)
      back a =
          Among-map (λ (t : Told). t.note) (record { receiver = j; note = note }) (filter (λ (t : Told). t.receiver == j) told)
          (Among-filter (λ (t : Told). t.receiver == j) (record { receiver = j; note = note }) told a (eq-eqb j j refl))

  left-other : (j : ℕ) (note : Note) → j ≢ core → is_left_to_tell core (record { receiver = j; note = note }) ≡ true
  left-other j note other = or_right (is_settle note) (not (j == core)) (ap not (ne_eqb j core other))

  -- another core is told the notes of its parcel
  pub told-other : (j : ℕ) (note : Note) → j ≢ core → Among (record { receiver = j; note = note }) told ↔ IsNote S core j n note
  told-other j note other = (
    (λ a. ((are.members (record { receiver = j; note = note })).0 a).1),
    λ i. (are.members (record { receiver = j; note = note })).1 (left-other j note other, i),
  )

  pub for-other : (j : ℕ) (note : Note) → j ≢ core → Among note (notes_for told j) ↔ IsNote S core j n note
  for-other j note other = (
    (λ a. (told-other j note other).0 ((told-to j note).0 a)),
    λ i. (told-to j note).1 ((told-other j note other).1 i),
  )

  left-own : (note : Note) → is_left_to_tell core (record { receiver = core; note = note }) ≡ true → is_settle note ≡ true
  left-own note left = go (is_settle note) refl
    where
      go : (b : Bool) → is_settle note ≡ b → is_settle note ≡ true
      go true e = e
      go false e =
          absurd (true≢false (sym left ∙ ap (λ (b : Bool). b || not (core == core)) e ∙ ap not (eq-eqb core core refl)))

  -- the core tells itself which packets of its own are decided
  pub for-own : (note : Note) → Among note (notes_for told core) → (p : PacketPlan) × IsDecided S core core n p × (settle_note S p ≡ note)
  for-own note a = go m.1
    where
      m : (is_left_to_tell core (record { receiver = core; note = note }) ≡ true) × IsNote S core core n note
      m = (are.members (record { receiver = core; note = note })).0 ((told-to core note).0 a)

      go : IsNote S core core n note → (p : PacketPlan) × IsDecided S core core n p × (settle_note S p ≡ note)
      go (inl v) = absurd (true≢false (sym (left-own note m.0) ∙ ap is_settle (sym v.2)))
      go (inr p) = p

  pub own-decided : (p : PacketPlan) → IsDecided S core core n p → Among (settle_note S p) (notes_for told core)
  own-decided p d =
      (told-to core (settle_note S p)).1 ((are.members (record { receiver = core; note = settle_note S p })).1 (refl, inr (p, d, refl)))

  pub own-settles : (packet hop tick : ℕ) → Among (Arrive packet hop tick) (notes_for told core) → ⊥
  own-settles packet hop tick a = let p = for-own (Arrive packet hop tick) a in let e : Settle p.0.number (fate_of S p.0) ≡ Arrive packet hop tick = p.2 in cc

  -- no packet has two notes for one core
  apart-by : (j : ℕ) → ((a b : Note) → Among a (notes_for told j) → Among b (notes_for told j) → note_packet a ≡ note_packet b → a ≡ b)
      → AllDiffer (map note_packet (notes_for told j))
  apart-by j one =
      differ-map note_packet (notes_for told j) one
      (differ-map (λ (t : Told). t.note) (filter (λ (t : Told). t.receiver == j) told) alike
      (differ-filter (λ (t : Told). t.receiver == j) told (differ-from told are.once)))
    where
      alike : (t u : Told) → Among t (filter (λ (x : Told). x.receiver == j) told) → Among u (filter (λ (x : Told). x.receiver == j) told)
          → t.note ≡ u.note → t ≡ u
      alike t u a b e =
          let f : t.receiver ≡ j = eqb-true _ _ (Among-from-filter (λ (x : Told). x.receiver == j) t told a).1 in
          let g : u.receiver ≡ j = eqb-true _ _ (Among-from-filter (λ (x : Told). x.receiver == j) u told b).1 in
          ap (λ (k : ℕ). record { receiver = k; note = t.note }) (f ∙ sym g) ∙ ap (λ (x : Note). record { receiver = u.receiver; note = x }) e

  pub apart-other : (j : ℕ) → j ≢ core → AllPairs (λ a b. a ≢ b) (map note_packet (notes_for told j))
  apart-other j other =
      pairs-from (map note_packet (notes_for told j))
      (apart-by j (λ a b x y e. notes_differ S is core j n a b (λ s. other (sym s)) ((for-other j a other).0 x) ((for-other j b other).0 y) e))

  apart-own : AllPairs (λ a b. a ≢ b) (map note_packet (notes_for told core))
  apart-own = pairs-from (map note_packet (notes_for told core)) (apart-by core one)
    where
      one : (a b : Note) → Among a (notes_for told core) → Among b (notes_for told core) → note_packet a ≡ note_packet b → a ≡ b
      one a b x y e =
          let p = for-own a x in
          let q = for-own b y in
          let numbers : p.0.number ≡ q.0.number = ap note_packet p.2 ∙ e ∙ sym (ap note_packet q.2) in
          sym p.2 ∙ ap (settle_note S) (one_packet S is p.0 q.0 p.1.among q.1.among numbers) ∙ q.2

  -- what is decided now wasn't before
  pub not-before : (taken : ℕ → ℕ) (p : PacketPlan) → IsDecided S core core n p → WasDecidedBy S core n taken p → ⊥
  not-before taken p d (inl none) =
      let e = last-ends S is p d.last d.among d.is_last in
      let w : d.last.hop < length (route_of S d.last.packet) = hop-within S is (journal_of S) (journal-grows S is) d.last e.among in
      let l : length (route_of S d.last.packet) ≡ 0 = ap (λ (k : ℕ). length (route_of S k)) e.packet ∙ ap length none in
      omega (arith, w, l)
  not-before taken p d (inr (inl o)) =
      let both : Some d.last ≡ Some o.2.last = sym d.is_last ∙ o.2.is_last in
      let same : d.last ≡ o.2.last = cc in
      let a : window_of S d.last.tick + 1 ≡ n = d.window in
      let b : window_of S o.2.last.tick + 1 ≡ o.0 = o.2.window in
      let l : o.0 < n = o.1 in
      let c : window_of S d.last.tick ≡ window_of S o.2.last.tick = ap (λ (v : Visit). window_of S v.tick) same in
      omega (arith, a, b, c, l)
  not-before taken p d (inr (inr t)) =
      let both : Some d.last ≡ Some t.4.last = sym d.is_last ∙ t.4.is_last in
      let same : d.last ≡ t.4.last = cc in
      t.2 (sym t.4.owner ∙ ap (λ (v : Visit). owner_of S v.pipe) (sym same) ∙ d.owner)

  module _ {bytes : List (List ℕ)} (e : EntrantsView)
      (settled : AreSettled S bytes core (WasDecidedBy S core n (λ other. n)) e.settled e.store) where
    -- so its payload is held
    own-held : (p : PacketPlan) → IsDecided S core core n p → IsSome (fin.get e.store.held p.number)
    own-held p d =
        subst (λ (o : Option (List ℕ)). IsSome o) (sym (settled.held_are p (record { among = d.among; entered = d.entered }) fresh)) refl
      where
        fresh : Among p.number e.store.released → ⊥
        fresh a =
            let m = Among-from-map (λ (t : Settled). t.packet) p.number e.settled (subst (Among p.number) settled.released_are a) in
            let q = settled.decided m.0 m.1 in
            let same : q.0 ≡ p = one_packet S is q.0 p q.1.among d.among (q.3 ∙ m.2) in
            not-before (λ other. n) p d (subst (WasDecidedBy S core n (λ other. n)) same q.2)

    -- and the core can take in what it tells itself
    pub can-own : (heap : List Due) → CanTakeAll (notes_for told core) heap e
    can-own heap = record { each = each; apart = apart-own }
      where
        each : (note : Note) → Among note (notes_for told core) → CanTake note heap e
        each (Arrive packet hop tick) a = absurd (own-settles packet hop tick a)
        each (Settle packet fate) a =
            let p = for-own (Settle packet fate) a in
            let number : p.0.number ≡ packet = ap note_packet p.2 in
            subst (λ (k : ℕ). IsSome (fin.get e.store.held k)) number (own-held p.0 p.1)

  -- with it, what is decided by these parcels is settled
  decided-now : (taken : ℕ → ℕ) → ((other : ℕ) → other < S.cores → other ≢ core → taken other ≡ n) → (p : PacketPlan) → Enters S core p
      → (WasDecidedBy S core n (λ other. n) p ⊎ Among (settle_note S p) (notes_for told core)) ↔ IsDecidedBy S core n taken p
  decided-now taken all p enters = (there, back)
    where
      at : (sender number : ℕ) → sender ≢ core → IsDecided S sender core number p → taken sender ≡ n
      at sender number other d =
          all sender
          (subst (λ (k : ℕ). k < S.cores) d.owner (owner-below S is d.last (last-ends S is p d.last d.among d.is_last).among)) other

      there : WasDecidedBy S core n (λ other. n) p ⊎ Among (settle_note S p) (notes_for told core) → IsDecidedBy S core n taken p
      there (inl (inl r)) = inl r
      there (inl (inr (inl o))) = let l : o.0 < n = o.1 in inr (inl (o.0, omega (arith, l), o.2))
      there (inl (inr (inr t))) =
          let l : t.1 < n = t.3 in
          let e : taken t.0 ≡ n = at t.0 t.1 t.2 t.4 in
          inr (inr (t.0, t.1, t.2, omega (arith, l, e), t.4))
      there (inr m) =
          let q = for-own (settle_note S p) m in
          let same : q.0 ≡ p = one_packet S is q.0 p q.1.among enters.among (ap note_packet q.2) in
          inr (inl (n, omega arith, subst (IsDecided S core core n) same q.1))

      back : IsDecidedBy S core n taken p → WasDecidedBy S core n (λ other. n) p ⊎ Among (settle_note S p) (notes_for told core)
      back (inl r) = inl (inl r)
      back (inr (inl o)) = go (cases_lt o.0 n)
        where
          l : o.0 ≤ n
          l = o.1

          go : (o.0 < n) ⊎ (n ≤ o.0) → WasDecidedBy S core n (λ other. n) p ⊎ Among (settle_note S p) (notes_for told core)
          go (inl early) = inl (inr (inl (o.0, early, o.2)))
          go (inr late) =
              let e : o.0 ≡ n = omega (arith, late, l) in
              inr (own-decided p (subst (λ (k : ℕ). IsDecided S core core k p) e o.2))
      back (inr (inr t)) =
          let l : t.1 < taken t.0 = t.3 in
          let e : taken t.0 ≡ n = at t.0 t.1 t.2 t.4 in
          inl (inr (inr (t.0, t.1, t.2, omega (arith, l, e), t.4)))

  pub settled-now : (bytes : List (List ℕ)) (taken : ℕ → ℕ) → ((other : ℕ) → other < S.cores → other ≢ core → taken other ≡ n)
      → (g h : List Due) (d e : EntrantsView) → TakesNotes (notes_for told core) g d h e
      → AreSettled S bytes core (WasDecidedBy S core n (λ other. n)) d.settled d.store
      → AreSettled S bytes core (IsDecidedBy S core n taken) e.settled e.store
  settled-now bytes taken all g h d e t a =
      settled-as S bytes core (λ p. WasDecidedBy S core n (λ other. n) p ⊎ Among (settle_note S p) (notes_for told core))
      (IsDecidedBy S core n taken) e.settled e.store (decided-now taken all)
      (settle-all S is bytes core (notes_for told core) (WasDecidedBy S core n (λ other. n)) g h d e t tells a)
    where
      tells : (packet : ℕ) (fate : Fate) → Among (Settle packet fate) (notes_for told core)
          → (p : PacketPlan) × Enters S core p × (settle_note S p ≡ Settle packet fate)
      tells packet fate m =
          let p = for-own (Settle packet fate) m in (p.0, record { among = p.1.among; entered = p.1.entered }, p.2)

  -- the least tick that the core knows of
  pub least-now : {heap : List Due} (least : Option ℕ) → IsHeapAt S core n (λ other. n) heap → IsLeastBy (IsToldTick core told) least
      → IsLeastKnown S core n (earlier_of (option_map (λ due. due.tick) (slice_get heap 0)) least)
  least-now {heap} least h l =
      least-known S is core n heap told h told-other _
      (least-both (IsDueTick heap) (IsToldTick core told) (option_map (λ due. due.tick) (slice_get heap 0)) least (heap-least heap h.canonical) l)

  -- and the parcel for another core
  pub parcel-now : {j : ℕ} → j ≢ core → {least : Option ℕ} → IsLeastKnown S core n least → {p : ParcelView}
      → IsParcelOf (notes_for told j) least p → IsParcel S core j n p
  parcel-now {j} other known {p} i = record {
    rises = i.rises;
    notes = λ note. (
      (λ a. (for-other j note other).0 (among-permuted note p.notes (notes_for told j) (IsPermutation-sym (notes_for told j) p.notes i.same) a)),
      λ m. among-permuted note (notes_for told j) p.notes i.same ((for-other j note other).1 m),
    );
    least = subst (IsLeastKnown S core n) (sym i.least_is) known;
  }
