-- A core takes a parcel in: its notes can be taken in, and the core stands for the journal then.
use Rattle.std.proofs.Common.{◌≡◌, ◌≢◌, ◌⊎◌, inl, inr, ⊎_elim, ℕ, ◌+◌, ◌^◌, ◌<◌, ◌≤◌, Bool, false, List, length, map, get_or, set, slice_index_or, Option, Some, AllPairs, get_or-set_same, get_or-set_other, refl, sym, ap, ◌∙◌, subst, arith}
use Rattle.std.proofs.lemmas.Bool.{cases_eq, cases_lt}
use Rattle.std.proofs.lemmas.List.{get_or_past, get_or_default}
use Rattle.std.specs.Prelude.{IsSome}
use Rattle.std.specs.FinMap as fin
use Rattle.mn_base.specs.Among.{Among}
use Rattle.mn_base.specs.declared.due.Due.{Due}
use Rattle.journal.specs.declared.setup.PacketPlan.{PacketPlan}
use Rattle.journal.specs.declared.visit.Visit.{Visit}
use Rattle.journal.specs.declared.fate.Fate.{Fate}
use Rattle.journal.specs.SetupView.{SetupView, route_of}
use Rattle.journal.specs.IsSetup.{IsSetup}
use Rattle.journal.specs.Journal.{journal_of}
use Rattle.journal.specs.Fates.{fate_of}
use Rattle.parcel.specs.declared.note.Note.{Note}
use Rattle.parcel.specs.declared.note.Note.TheVariants.{Arrive, Settle}
use Rattle.parcel.specs.declared.core_result.Settled.{Settled}
use Rattle.parcel.specs.Owners.{owner_of}
use Rattle.parcel.specs.Windows.{window_of, window_count}
use Rattle.parcel.specs.Known.{IsLeastKnown}
use Rattle.parcel.specs.Parcels.{IsDecided, IsNote, settle_note, note_tick, note_packet, NoteBefore, IsParcel}
use Rattle.parcel.specs.DueAt.{IsDueAt}
use Rattle.parcel.specs.ParcelView.{ParcelView}
use Rattle.deadline_heap.specs.Canonical.{HasNoneOf}
use Rattle.mn_base.proofs.Members.{Among-from-map}
use Rattle.journal.proofs.Orderly.{one_packet}
use Rattle.journal.proofs.Count.{hop-within}
use Rattle.journal.proofs.Meets.{journal-grows}
use Rattle.parcel.proofs.Notes.{last-ends, notes_differ}
use Rattle.parcel.proofs.FewWindows.{few_windows}
use Rattle.parcel.proofs.Taking.{TakesOne, arrival-fresh}
use Rattle.core_loop.specs.CoreView.{CoreView, PeerView, no_peer, windows_of, peer_at, posted_of, taken_of, IsOtherCore}
use Rattle.core_loop.specs.Stocked.{Enters}
use Rattle.core_loop.specs.WorldState.{IsDecidedBy, IsNumber, CoreStands}
use Rattle.core_loop.specs.Turns.{OwesTake}
use Rattle.core_loop.specs.Work.{EntrantsView, WorkView}
use Rattle.core_loop.specs.Handing.{TakesNotes, CanTake, CanTakeAll, SameButHeap}
use Rattle.core_loop.proofs.Differ.{differ-from, pairs-from, differ-map}
use Rattle.core_loop.proofs.Takes.{taken-due, taken-canonical, settled-as, settle-all}
use Rattle.core_loop.proofs.TakingIn.{heap-takes, decided-takes}

-- what a core has of the packets that entered there
abbrev pub entrants_of : CoreView → EntrantsView
entrants_of c = record { settled = c.settled; store = c.store }

-- a core that is to take a parcel of another
pub record IsTakingIn (c : CoreView) (other : ℕ) (p : ParcelView) : Type 0 where
  pub is_setup : IsSetup c.setup
  pub one_peer_each : length c.peers ≡ c.setup.cores
  pub owed : OwesTake c other
  pub parcel : IsParcel c.setup other c.number (windows_of c) p

module _ {c : CoreView} {other : ℕ} {p : ParcelView} (t : IsTakingIn c other p) where
  other-is : IsOtherCore c other
  other-is = t.owed.0

  apart : other ≢ c.number
  apart = t.owed.0.1

  at : taken_of c other ≡ windows_of c
  at = t.owed.1

  -- no parcel is taken further ahead
  most : (bytes : List (List ℕ)) → CoreStands bytes c → (o : ℕ) → o ≢ c.number → taken_of c o ≤ windows_of c + 1
  most bytes s o d = go (cases_lt o c.setup.cores)
    where
      number : IsNumber (windows_of c) (taken_of c o) → taken_of c o ≤ windows_of c + 1
      number (inl e) = omega (arith, e)
      number (inr e) = omega (arith, e)

      go : (o < c.setup.cores) ⊎ (c.setup.cores ≤ o) → taken_of c o ≤ windows_of c + 1
      go (inl l) = number (s.in_step.taken o (l, d))
      go (inr l) =
          let long = t.one_peer_each in
          let none : taken_of c o ≡ 0 = ap (λ (q : PeerView). q.taken) (get_or_past c.peers o no_peer (omega (arith, l, long))) in
          omega (arith, none)

  -- a fate of which the parcel tells wasn't known before
  not-known : (q : PacketPlan) → IsDecided c.setup other c.number (windows_of c) q
      → IsDecidedBy c.setup c.number (windows_of c) (taken_of c) q → ⊥
  not-known q d (inl none) =
      let e = last-ends c.setup t.is_setup q d.last d.among d.is_last in
      let w : d.last.hop < length (route_of c.setup d.last.packet) =
      hop-within c.setup t.is_setup (journal_of c.setup) (journal-grows c.setup t.is_setup) d.last e.among in
      let l : length (route_of c.setup d.last.packet) ≡ 0 = ap (λ (k : ℕ). length (route_of c.setup k)) e.packet ∙ ap length none in
      omega (arith, w, l)
  not-known q d (inr (inl o)) =
      let both : Some d.last ≡ Some o.2.last = sym d.is_last ∙ o.2.is_last in
      let same : d.last ≡ o.2.last = cc in
      apart (sym d.owner ∙ ap (λ (v : Visit). owner_of c.setup v.pipe) same ∙ o.2.owner)
  not-known q d (inr (inr m)) =
      let both : Some d.last ≡ Some m.4.last = sym d.is_last ∙ m.4.is_last in
      let same : d.last ≡ m.4.last = cc in
      let sender : m.0 ≡ other = sym m.4.owner ∙ ap (λ (v : Visit). owner_of c.setup v.pipe) (sym same) ∙ d.owner in
      let a : window_of c.setup d.last.tick + 1 ≡ windows_of c = d.window in
      let b : window_of c.setup m.4.last.tick + 1 ≡ m.1 = m.4.window in
      let e : window_of c.setup d.last.tick ≡ window_of c.setup m.4.last.tick = ap (λ (v : Visit). window_of c.setup v.tick) same in
      let l : m.1 < taken_of c m.0 = m.3 in
      let n : taken_of c m.0 ≡ taken_of c other = ap (taken_of c) sender in
      let k = at in
      omega (arith, a, b, e, l, n, k)

  -- the packets of the notes differ
  notes-apart : AllPairs (λ a b. a ≢ b) (map note_packet p.notes)
  notes-apart =
      pairs-from (map note_packet p.notes)
      (differ-map note_packet p.notes
      (λ a b x y e. notes_differ c.setup t.is_setup other c.number (windows_of c) a b apart ((t.parcel.notes a).0 x) ((t.parcel.notes b).0 y) e)
      (differ-from p.notes (λ i j d lt within same. never (slice_index_or p.notes i d) (slice_index_or p.notes j d) same (t.parcel.rises i j d lt within))))
    where
      never : (a b : Note) → a ≡ b → NoteBefore a b → ⊥
      never a b same (inl l) = let e : note_tick a ≡ note_tick b = ap note_tick same in omega (arith, l, e)
      never a b same (inr l) =
          let e : note_packet a ≡ note_packet b = ap note_packet same in
          let m : note_packet a < note_packet b = l.1 in
          omega (arith, m, e)

  -- they can be taken in
  pub can-parcel : (bytes : List (List ℕ)) → CoreStands bytes c → CanTakeAll p.notes c.heap (entrants_of c)
  can-parcel bytes s = record { each = λ note a. each note ((t.parcel.notes note).0 a); apart = notes-apart }
    where
      fresh : (v : Visit) (packet : ℕ) → v.packet ≡ packet
          → ((w : Visit) → IsDueAt c.setup c.number (windows_of c) (taken_of c) w → v.packet ≢ w.packet) → HasNoneOf packet c.heap
      fresh v packet number differ = λ x a e.
          let m = (s.knows.heap.members x).0 a in
          differ m.0 m.1 (number ∙ sym e ∙ sym (ap (λ (y : Due). y.packet) m.2))

      each : (note : Note) → IsNote c.setup other c.number (windows_of c) note → CanTake note c.heap (entrants_of c)
      each (Arrive packet hop tick) (inl v) =
          fresh v.0 packet (ap note_packet v.2)
          (λ w d. arrival-fresh c.setup t.is_setup c.number (windows_of c) other (taken_of c) (most bytes s) apart at v.0 w v.1 d)
      each (Arrive packet hop tick) (inr q) = let e : Settle q.0.number (fate_of c.setup q.0) ≡ Arrive packet hop tick = q.2 in cc
      each (Settle packet fate) (inl v) = let e : Arrive v.0.packet v.0.hop v.0.tick ≡ Settle packet fate = v.2 in cc
      each (Settle packet fate) (inr q) =
          subst (λ (k : ℕ). IsSome (fin.get c.store.held k)) (ap note_packet q.2)
          (subst (λ (o : Option (List ℕ)). IsSome o)
          (sym (s.settles.held_are q.0 (record { among = q.1.among; entered = q.1.entered }) unknown)) refl)
        where
          unknown : Among q.0.number c.store.released → ⊥
          unknown a =
              let m = Among-from-map (λ (u : Settled). u.packet) q.0.number c.settled (subst (Among q.0.number) s.settles.released_are a) in
              let r = s.settles.decided m.0 m.1 in
              let same : r.0 ≡ q.0 = one_packet c.setup t.is_setup r.0 q.0 r.1.among q.1.among (r.3 ∙ m.2) in
              not-known q.0 q.1 (subst (IsDecidedBy c.setup c.number (windows_of c) (taken_of c)) same r.2)

  -- the core when the parcel is taken in
  abbrev pub peer_then : PeerView
  peer_then = record (peer_at c other) { taken = taken_of c other + 1; least = p.least }

  abbrev pub taken_then : List Due → EntrantsView → CoreView
  taken_then h e = record c { peers = set c.peers other peer_then; heap = h; settled = e.settled; store = e.store }

  pub within : other < length c.peers
  within = let l : other < c.setup.cores = t.owed.0.0 in let long = t.one_peer_each in omega (arith, l, long)

  here : (h : List Due) (e : EntrantsView) → peer_at (taken_then h e) other ≡ peer_then
  here h e = get_or-set_same c.peers other peer_then no_peer within

  elsewhere : (h : List Due) (e : EntrantsView) (o : ℕ) → o ≢ other → peer_at (taken_then h e) o ≡ peer_at c o
  elsewhere h e o d = get_or-set_other c.peers other o peer_then no_peer d

  pub takes-one : (h : List Due) (e : EntrantsView) → TakesOne (taken_of c) (taken_of (taken_then h e)) other
  takes-one h e = record {
    here = ap (λ (q : PeerView). q.taken) (here h e);
    others = λ o d. ap (λ (q : PeerView). q.taken) (elsewhere h e o d);
  }

  pub same-posts : (h : List Due) (e : EntrantsView) (o : ℕ) → posted_of (taken_then h e) o ≡ posted_of c o
  same-posts h e o = go (cases_eq o other)
    where
      go : (o ≡ other) ⊎ (o ≢ other) → posted_of (taken_then h e) o ≡ posted_of c o
      go (inl same) =
          ap (posted_of (taken_then h e)) same ∙ ap (λ (q : PeerView). q.posted) (here h e) ∙ ap (posted_of c) (sym same)
      go (inr d) = ap (λ (q : PeerView). q.posted) (elsewhere h e o d)

  same-owed : (h : List Due) (e : EntrantsView) (o : ℕ) → (peer_at (taken_then h e) o).owed ≡ (peer_at c o).owed
  same-owed h e o = go (cases_eq o other)
    where
      go : (o ≡ other) ⊎ (o ≢ other) → (peer_at (taken_then h e) o).owed ≡ (peer_at c o).owed
      go (inl same) =
          ap (λ (k : ℕ). (peer_at (taken_then h e) k).owed) same ∙ ap (λ (q : PeerView). q.owed) (here h e)
          ∙ ap (λ (k : ℕ). (peer_at c k).owed) (sym same)
      go (inr d) = ap (λ (q : PeerView). q.owed) (elsewhere h e o d)

  -- it stands for the journal
  pub stands-then : (bytes : List (List ℕ)) → CoreStands bytes c → (h : List Due) (e : EntrantsView)
      → TakesNotes p.notes c.heap (entrants_of c) h e → CoreStands bytes (taken_then h e)
  stands-then bytes s h e took = record {
    in_step = record {
      within = s.in_step.within;
      posted = λ o d. subst (IsNumber (windows_of c)) (sym (same-posts h e o)) (s.in_step.posted o d);
      taken = λ o d. taken o d (cases_eq o other);
    };
    knows = record {
      heap = heap-takes t.is_setup (takes-one h e) apart at p.notes t.parcel.notes s.knows.heap
          (taken-canonical p.notes c.heap h (entrants_of c) e (can-parcel bytes s) took s.knows.heap.canonical)
          (taken-due p.notes c.heap h (entrants_of c) e took);
      least = subst (IsLeastKnown c.setup c.number (windows_of c))
          (sym (ap (λ (q : PeerView). q.least) (elsewhere h e c.number (λ same. apart (sym same))))) s.knows.least;
      owed = λ o d posted. (let q = s.knows.owed o d (sym (same-posts h e o) ∙ posted) in (q.0, same-owed h e o ∙ q.1, q.2));
      told = λ o d taken. told o d taken (cases_eq o other);
    };
    works = record { pipes = s.works.pipes; pipe_counts = s.works.pipe_counts; counts = s.works.counts };
    settles =
        settled-as c.setup bytes c.number
        (λ q. IsDecidedBy c.setup c.number (windows_of c) (taken_of c) q ⊎ Among (settle_note c.setup q) p.notes)
        (IsDecidedBy c.setup c.number (windows_of c) (taken_of (taken_then h e))) e.settled e.store (λ q n. (decided q n, known q))
        (settle-all c.setup t.is_setup bytes c.number p.notes (IsDecidedBy c.setup c.number (windows_of c) (taken_of c)) c.heap h
        (entrants_of c) e took tells s.settles);
  }
    where
      new : ℕ → ℕ
      new = taken_of (taken_then h e)

      taken : (o : ℕ) → IsOtherCore c o → (o ≡ other) ⊎ (o ≢ other) → IsNumber (windows_of c) (new o)
      taken o d (inl same) = inr (ap new same ∙ (takes-one h e).here ∙ ap (λ (k : ℕ). k + 1) at)
      taken o d (inr away) = subst (IsNumber (windows_of c)) (sym ((takes-one h e).others o away)) (s.in_step.taken o d)

      told : (o : ℕ) → IsOtherCore c o → new o ≡ windows_of c + 1 → (o ≡ other) ⊎ (o ≢ other)
          → IsLeastKnown c.setup o (windows_of c) (peer_at (taken_then h e) o).least
      told o d is (inl same) =
          subst (λ (k : ℕ). IsLeastKnown c.setup k (windows_of c) (peer_at (taken_then h e) k).least) (sym same)
          (subst (IsLeastKnown c.setup other (windows_of c)) (sym (ap (λ (q : PeerView). q.least) (here h e))) t.parcel.least)
      told o d is (inr away) =
          subst (IsLeastKnown c.setup o (windows_of c)) (sym (ap (λ (q : PeerView). q.least) (elsewhere h e o away)))
          (s.knows.told o d (sym ((takes-one h e).others o away) ∙ is))

      its : (q : PacketPlan) → Among q c.setup.packets → IsNote c.setup other c.number (windows_of c) (settle_note c.setup q)
          → IsDecided c.setup other c.number (windows_of c) q
      its q a (inl v) = let x : Arrive v.0.packet v.0.hop v.0.tick ≡ Settle q.number (fate_of c.setup q) = v.2 in cc
      its q a (inr r) =
          subst (IsDecided c.setup other c.number (windows_of c)) (one_packet c.setup t.is_setup r.0 q r.1.among a (ap note_packet r.2)) r.1

      decided : (q : PacketPlan) → Enters c.setup c.number q
          → IsDecidedBy c.setup c.number (windows_of c) (taken_of c) q ⊎ Among (settle_note c.setup q) p.notes
          → IsDecidedBy c.setup c.number (windows_of c) new q
      decided q n (inl b) =
          (decided-takes t.is_setup (takes-one h e) apart at q).1 (inl b)
      decided q n (inr a) =
          (decided-takes t.is_setup (takes-one h e) apart at q).1
          (inr (its q n.among ((t.parcel.notes (settle_note c.setup q)).0 a)))

      known : (q : PacketPlan) → IsDecidedBy c.setup c.number (windows_of c) new q
          → IsDecidedBy c.setup c.number (windows_of c) (taken_of c) q ⊎ Among (settle_note c.setup q) p.notes
      known q b =
          ⊎_elim (λ o. inl o) (λ d. inr ((t.parcel.notes (settle_note c.setup q)).1 (inr (q, d, refl))))
          ((decided-takes t.is_setup (takes-one h e) apart at q).0 b)

      tells : (packet : ℕ) (fate : Fate) → Among (Settle packet fate) p.notes
          → (q : PacketPlan) × Enters c.setup c.number q × (settle_note c.setup q ≡ Settle packet fate)
      tells packet fate a = go ((t.parcel.notes (Settle packet fate)).0 a)
        where
          go : IsNote c.setup other c.number (windows_of c) (Settle packet fate)
              → (q : PacketPlan) × Enters c.setup c.number q × (settle_note c.setup q ≡ Settle packet fate)
          go (inl v) = let x : Arrive v.0.packet v.0.hop v.0.tick ≡ Settle packet fate = v.2 in cc
          go (inr q) = (q.0, record { among = q.1.among; entered = q.1.entered }, q.2)

-- ---- the same, by the parts of a core

abbrev pub view_of : SetupView → ℕ → List PeerView → WorkView → EntrantsView → Bool → CoreView
view_of S number peers w e failed = record {
  setup = S;
  number = number;
  peers = peers;
  heap = w.heap;
  pipes = w.pipes.pipes;
  pipe_counts = w.pipes.counts;
  settled = e.settled;
  store = e.store;
  counts = w.counts;
  failed = failed;
}

-- what is read at the core's index is what is kept of it
pub peer-read : {c : CoreView} {other : ℕ} {p : ParcelView} → IsTakingIn c other p → {peer : PeerView} → peer ≡ get_or c.peers other peer
    → peer ≡ peer_at c other
peer-read {c} {other} t {peer} is = is ∙ get_or_default c.peers other peer no_peer (within t)

-- the count of takes has room for one more
pub take-room : {c : CoreView} {other : ℕ} {p : ParcelView} → IsTakingIn c other p → (bytes : List (List ℕ)) → CoreStands bytes c
    → taken_of c other + 1 < 2 ^ 64
take-room {c} {other} t bytes s =
    let few : window_count c.setup < 2 ^ 28 = few_windows c.setup t.is_setup in
    let l : windows_of c ≤ window_count c.setup = s.in_step.within in
    let e : taken_of c other ≡ windows_of c = t.owed.1 in
    omega (arith, few, l, e)

-- the parcel is taken in: w was the work, and e what entered; x is the work then, f what entered, and q what is kept of the other core
pub record HasTakenIn (S : SetupView) (number : ℕ) (peers : List PeerView) (w : WorkView) (e : EntrantsView) (failed : Bool) (other : ℕ)
    (p : ParcelView) (x : WorkView) (f : EntrantsView) (q : PeerView) : Type 0 where
  pub taking : IsTakingIn (view_of S number peers w e failed) other p
  pub works : failed ≡ false
  pub same : SameButHeap w x
  pub peer_is : q ≡ record (slice_index_or peers other no_peer) { taken = (slice_index_or peers other no_peer).taken + 1; least = p.least }
  pub took : TakesNotes p.notes w.heap e x.heap f

pub stands-taken : {S : SetupView} {number : ℕ} {peers : List PeerView} {w x : WorkView} {e f : EntrantsView} {failed : Bool} {other : ℕ}
    {p : ParcelView} {q : PeerView} → HasTakenIn S number peers w e failed other p x f q
    → (bytes : List (List ℕ)) → CoreStands bytes (view_of S number peers w e failed)
    → CoreStands bytes (view_of S number (set peers other q) x f false)
stands-taken {S} {number} {peers} {w} {x} {e} {f} {failed} {other} {p} {q} h bytes s =
    subst (CoreStands bytes)
    (ap (λ (b : Bool). view_of S number (set peers other (peer_then h.taking)) (record w { heap = x.heap }) f b) h.works
    ∙ ap (λ (y : WorkView). view_of S number (set peers other (peer_then h.taking)) y f false) (sym h.same)
    ∙ ap (λ (r : PeerView). view_of S number (set peers other r) x f false) (sym h.peer_is))
    (stands-then h.taking bytes s x.heap f h.took)
