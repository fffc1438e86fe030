-- A core at its start: what it has noted of the packets that enter there is to be handed out.
use Rattle.std.proofs.Common.{◌≡◌, ◌≢◌, ◌⊎◌, inl, inr, ⊎_elim, ℕ, suc, ◌<◌, ◌≤◌, ◌==◌, nat_lt, Bool, true, false, cond, not, List, [], ◌∷◌, ◌++◌, length, map, filter, filter_map, find, replicate, slice_index_or, Option, Some, None, AllPairs, refl, sym, ap, ◌∙◌, subst, arith, eqb-true, eq-eqb}
use Rattle.std.proofs.lemmas.Bool.{true≢false, false≢true, cases_lt, ne_eqb, lt-ltb, le-ltb}
use Rattle.std.proofs.lemmas.List.{length-map, length-replicate, get_or-replicate, get_or_past}
use Rattle.std.specs.Prelude.{◌↔◌, ◌||◌, IsSome, unwrap_or}
use Rattle.std.specs.Option.{option_map_or}
use Rattle.std.specs.List.{zip, AllZip}
use Rattle.std.specs.FinMap as fin
use Rattle.mn_base.specs.Among.{Among}
use Rattle.mn_base.specs.declared.due.Due.{Due}
use Rattle.journal.specs.declared.setup.PacketPlan.{PacketPlan}
use Rattle.journal.specs.declared.visit.Visit.{Visit}
use Rattle.journal.specs.SetupView.{SetupView, route_of}
use Rattle.journal.specs.IsSetup.{IsSetup}
use Rattle.journal.specs.Hops.{due_of, pipe_of, entry}
use Rattle.journal.specs.Journal.{journal_of}
use Rattle.journal.specs.Fates.{fate_of}
use Rattle.parcel.specs.declared.note.Note.TheVariants.{Arrive, Settle}
use Rattle.parcel.specs.declared.counts.CoreCounts.{CoreCounts}
use Rattle.parcel.specs.Owners.{owner_of, own_pipes}
use Rattle.parcel.specs.Windows.{window_of}
use Rattle.parcel.specs.Known.{origin_of}
use Rattle.parcel.specs.Parcels.{IsNote, arrive_note}
use Rattle.parcel.specs.DueAt.{WasTold, IsDueAt}
use Rattle.parcel.specs.Told.{Told, told_due}
use Rattle.payload_store.specs.StoreView.{StoreView}
use Rattle.deadline_heap.specs.Canonical.{IsCanonical}
use Rattle.mn_base.proofs.Members.{Among-filter_map, Among-from-filter_map}
use Rattle.journal.proofs.Ends.{fates_hold}
use Rattle.journal.proofs.Packets.{packet-known}
use Rattle.parcel.proofs.Sending.{IsEntrant, first_parcel}
use Rattle.core_loop.specs.CoreView.{CoreView, PeerView, no_peer}
use Rattle.core_loop.specs.Stocked.{Enters, HoldsEntrants, AreBytesOf}
use Rattle.core_loop.specs.WorldState.{IsHeapAt, visits_below, counts_below, AreSettled, CoreStands}
use Rattle.core_loop.specs.Work.{EntrantsView, HaveRun, WorkView, is_settle, is_left_to_tell}
use Rattle.core_loop.specs.Entering.{EntersAll, CanEnterAll}
use Rattle.core_loop.specs.Handing.{AreTold, arrivals_told, counts_before, WasDecidedBy, IsToHandOut, IsToSettle, SameWindows}
use Rattle.core_loop.proofs.Counted.{arrivals-first, settles-first}
use Rattle.core_loop.proofs.Differ.{pairs-from}
use Rattle.core_loop.proofs.Entered.{IsFirstHere, told_first, told_entry, enters-same, enters-due, enters-canonical, enters-told, told-once, enters-settled, StaysHere}
use Rattle.core_loop.proofs.Kept.{filter-none}
use Rattle.core_loop.proofs.Takes.{settled-as}
use Rattle.core_loop.proofs.TakingIn.{due_note, due_in}

-- a packet without a first visit has no way to go, and back
pub entry-none : (S : SetupView) (p : PacketPlan) → entry S p ≡ None → route_of S p.number ≡ []
entry-none S p e = go (route_of S p.number) refl
  where
    go : (route : List ℕ) → route_of S p.number ≡ route → route_of S p.number ≡ []
    go [] r = r
    go (q ∷ route) r =
        let first : Due = record { tick = p.entry_tick; packet = p.number; hop = 0 } in
        let some : entry S p ≡ Some first =
        ap (λ (b : Bool). cond b (Some first) None) (lt-ltb 0 (length (route_of S p.number)) (subst (λ (l : List ℕ). 0 < length l) (sym r) (omega arith))) in
        let clash : None ≡ Some first = sym e ∙ some in
        cc

pub none-entry : (S : SetupView) (p : PacketPlan) → route_of S p.number ≡ [] → entry S p ≡ None
none-entry S p r =
    let first : Due = record { tick = p.entry_tick; packet = p.number; hop = 0 } in
    ap (λ (l : List ℕ). cond (nat_lt 0 (length l)) (Some first) None) r

module _ (S : SetupView) (is : IsSetup S) (core : ℕ) where
  -- the first visits of the packets that enter here, to own pipes, are due
  first-due-here : (x : Due) → ((p : PacketPlan) × Among p S.packets × IsFirstHere S core p x)
      ↔ ((v : Visit) × IsDueAt S core 0 (λ other. 0) v × (due_of v ≡ x))
  first-due-here x = (there, back)
    where
      there : (p : PacketPlan) × Among p S.packets × IsFirstHere S core p x → (v : Visit) × IsDueAt S core 0 (λ other. 0) v × (due_of v ≡ x)
      there (p, a, f) = go ((first_parcel S is core core (due_note x)).1 entrant)
        where
          entrant : IsEntrant S core core (due_note x)
          entrant = record {
            plan = p;
            among = a;
            entered = f.0;
            due = x;
            first = f.1;
            sends = ap (λ (k : ℕ). record { receiver = k; note = due_note x }) f.2;
          }

          go : IsNote S core core 0 (due_note x) → (v : Visit) × IsDueAt S core 0 (λ other. 0) v × (due_of v ≡ x)
          go (inl v) = (
            v.0,
            record {
              among = v.1.among;
              owner = v.1.owner;
              window = omega arith;
              told = inl (v.1.from_core, (let e = v.1.from_number in omega (arith, e)));
            },
            ap due_in v.2,
          )
          go (inr q) = let e : Settle q.0.number (fate_of S q.0) ≡ Arrive x.packet x.hop x.tick = q.2 in cc

      back : (v : Visit) × IsDueAt S core 0 (λ other. 0) v × (due_of v ≡ x) → (p : PacketPlan) × Among p S.packets × IsFirstHere S core p x
      back (v, d, e) = go d.told
        where
          entrant : (origin_of S v).core ≡ core → (origin_of S v).number ≤ 0 → IsEntrant S core core (arrive_note v)
          entrant from number =
              (first_parcel S is core core (arrive_note v)).0
              (inl (v, record { among = d.among; owner = d.owner; from_core = from; from_number = omega (arith, number) }, refl))

          read : IsEntrant S core core (arrive_note v) → (p : PacketPlan) × Among p S.packets × IsFirstHere S core p x
          read i =
              let notes : due_note i.due ≡ arrive_note v = ap (λ (t : Told). t.note) i.sends in
              let same : i.due ≡ x = ap due_in notes ∙ e in (
                i.plan,
                i.among,
                (
                  i.entered,
                  i.first ∙ ap Some same,
                  ap (λ (y : Due). owner_of S (pipe_of S y)) (sym same) ∙ ap (λ (t : Told). t.receiver) i.sends,
                ),
              )

          go : WasTold S core 0 (λ other. 0) v → (p : PacketPlan) × Among p S.packets × IsFirstHere S core p x
          go (inl m) = read (entrant m.0 m.1)
          go (inr m) = let l : (origin_of S v).number < 0 = m.1 in absurd (omega (arith, l))

  -- what is told of a packet that enters
  told-entry-is : (p : PacketPlan) (t : Told) → told_entry S core p ≡ Some t
      → (p.core ≡ core) × ((x : Due) × (entry S p ≡ Some x) × (owner_of S (pipe_of S x) ≢ core) × (told_due S x ≡ t))
  told-entry-is p t e = go (p.core == core) refl e
    where
      first : (o : Option Due) → entry S p ≡ o → told_first S core o ≡ Some t
          → (x : Due) × (entry S p ≡ Some x) × (owner_of S (pipe_of S x) ≢ core) × (told_due S x ≡ t)
      first None f g = cc
      first (Some x) f g = split (owner_of S (pipe_of S x) == core) refl g
        where
          split : (c : Bool) → (owner_of S (pipe_of S x) == core) ≡ c → cond c None (Some (told_due S x)) ≡ Some t
              → (x : Due) × (entry S p ≡ Some x) × (owner_of S (pipe_of S x) ≢ core) × (told_due S x ≡ t)
          split true h k = cc
          split false h k = (x, f, (λ same. true≢false (sym (eq-eqb _ _ same) ∙ h)), cc)

      go : (c : Bool) → (p.core == core) ≡ c → cond c (told_first S core (entry S p)) None ≡ Some t
          → (p.core ≡ core) × ((x : Due) × (entry S p ≡ Some x) × (owner_of S (pipe_of S x) ≢ core) × (told_due S x ≡ t))
      go true f g = (eqb-true p.core core f, first (entry S p) refl g)
      go false f g = cc

  is-told-entry : (p : PacketPlan) (x : Due) → p.core ≡ core → entry S p ≡ Some x → owner_of S (pipe_of S x) ≢ core
      → told_entry S core p ≡ Some (told_due S x)
  is-told-entry p x own e other =
      ap (λ (c : Bool). cond c (told_first S core (entry S p)) None) (eq-eqb p.core core own)
      ∙ ap (told_first S core) e
      ∙ ap (λ (c : Bool). cond c None (Some (told_due S x))) (ne_eqb _ _ other)

  told-at-start : AreTold S core 0 (filter_map (told_entry S core) S.packets)
  told-at-start = record {
    members = λ t. (there t, back t);
    once = pairs-from (filter_map (told_entry S core) S.packets) (told-once S core S.packets (λ p a. a) apart);
  }
    where
      apart : AllPairs (λ p q. p.number ≢ q.number) S.packets
      apart i j d lt within same = let l = is.numbers_rise i j d lt within in omega (arith, l, same)

      there : (t : Told) → Among t (filter_map (told_entry S core) S.packets)
          → (is_left_to_tell core t ≡ true) × IsNote S core t.receiver 0 t.note
      there t a =
          let m = Among-from-filter_map (told_entry S core) t S.packets a in
          let f = told-entry-is m.0 t m.2 in
          let receiver : owner_of S (pipe_of S f.1.0) ≡ t.receiver = ap (λ (u : Told). u.receiver) f.1.3 in
          let note : due_note f.1.0 ≡ t.note = ap (λ (u : Told). u.note) f.1.3 in (
            ap (λ (u : Told). is_left_to_tell core u) (sym f.1.3) ∙ ap not (ne_eqb _ _ f.1.2),
            (first_parcel S is core t.receiver t.note).1
                (record { plan = m.0; among = m.1; entered = f.0; due = f.1.0; first = f.1.1; sends = f.1.3 }),
          )

      back : (t : Told) → (is_left_to_tell core t ≡ true) × IsNote S core t.receiver 0 t.note
          → Among t (filter_map (told_entry S core) S.packets)
      back t (left, n) = go ((first_parcel S is core t.receiver t.note).0 n)
        where
          go : IsEntrant S core t.receiver t.note → Among t (filter_map (told_entry S core) S.packets)
          go i =
              Among-filter_map (told_entry S core) i.plan t S.packets i.among
              (is-told-entry i.plan i.due i.entered i.first other ∙ ap Some i.sends)
            where
              settles : is_settle t.note ≡ false
              settles = ap (λ (u : Told). is_settle u.note) (sym i.sends)

              other : owner_of S (pipe_of S i.due) ≢ core
              other same =
                  let receiver : t.receiver ≡ core = sym (ap (λ (u : Told). u.receiver) i.sends) ∙ same in
                  true≢false (sym left ∙ ap (λ (b : Bool). b || not (t.receiver == core)) settles ∙ ap not (eq-eqb _ _ receiver))

-- the work of a core before anything has entered
pub record IsIdle (S : SetupView) (core : ℕ) (w : WorkView) : Type 0 where
  pub same_setup : w.setup ≡ S
  pub same_number : w.number ≡ core
  pub heap_empty : w.heap ≡ []
  pub none_told : w.told ≡ []
  pub pipes_idle : HaveRun S core [] w.pipes
  pub counts_are : w.counts
      ≡ record { pipes = length w.pipes.pipes; entered = length (filter (λ p. p.core == core) S.packets); visits = 0; arrivals = 0; settles = 0; windows = 0 }

-- nothing is settled yet
abbrev pub unsettled : StoreView → EntrantsView
unsettled store = record { settled = []; store = store }

-- a core at its start: v is its work before anything enters, and w and e are its work and its packets once all have entered
pub record HasEntered (S : SetupView) (core : ℕ) (store : StoreView) (v w : WorkView) (e : EntrantsView) : Type 0 where
  pub is_setup : IsSetup S
  pub holds : HoldsEntrants S core store
  pub idle : IsIdle S core v
  pub entered : EntersAll S S.packets v (unsettled store) w e

-- lists that go together are equally long
zip-length : {X Y : Type 0} (R : X → Y → Type 0) (xs : List X) (ys : List Y) → AllZip R xs ys → length ys ≡ length xs
zip-length R [] [] z = refl
zip-length R [] (y ∷ ys) z = absurd z
zip-length R (x ∷ xs) [] z = absurd z
zip-length R (x ∷ xs) (y ∷ ys) z = ap suc (zip-length R xs ys z.1)

module _ {S : SetupView} {core : ℕ} {store : StoreView} (is : IsSetup S) (holds : HoldsEntrants S core store) where
  -- all packets can enter
  pub can-enter-all : (w : WorkView) → w.heap ≡ [] → CanEnterAll core S.packets w.heap (unsettled store)
  can-enter-all w e = record {
    each = λ p a own. record {
      alone = λ x m. absurd (subst (Among x) e m);
      held = holds.all p (record { among = a; entered = own });
    };
    apart = λ i j d lt within same. (let l = is.numbers_rise i j d lt within in omega (arith, l, same));
  }

  -- the bytes that are held, each at its packet's place
  abbrev pub held_bytes : PacketPlan → List ℕ
  held_bytes p = unwrap_or (fin.get store.held p.number) []

  abbrev pub bytes_held : List (List ℕ)
  bytes_held = map held_bytes S.packets

  find-zip : (ps : List PacketPlan) (n : ℕ)
      → option_map_or (λ e. e.1) (find (λ e. e.0.number == n) (zip ps (map held_bytes ps))) []
      ≡ option_map_or held_bytes (find (λ p. p.number == n) ps) []
  find-zip [] n = refl
  find-zip (p ∷ ps) n = go (p.number == n) (find-zip ps n)
    where
      go : (b : Bool)
          → option_map_or (λ e. e.1) (find (λ e. e.0.number == n) (zip ps (map held_bytes ps))) []
          ≡ option_map_or held_bytes (find (λ p. p.number == n) ps) []
          → option_map_or (λ e. e.1) (cond b (Some (p, held_bytes p)) (find (λ e. e.0.number == n) (zip ps (map held_bytes ps)))) []
          ≡ option_map_or held_bytes (cond b (Some p) (find (λ p. p.number == n) ps)) []
      go true rest = refl
      go false rest = rest

  pub bytes-are : AreBytesOf S core store bytes_held
  bytes-are = record {
    each_has_bytes = length-map S.packets held_bytes;
    in_store = λ p n.
        read (fin.get store.held p.number) (holds.all p n)
        ∙ ap Some (sym (find-zip S.packets p.number ∙ ap (λ (o : Option PacketPlan). option_map_or held_bytes o []) (packet-known S is p n.among)));
  }
    where
      read : (o : Option (List ℕ)) → IsSome o → o ≡ Some (unwrap_or o [])
      read None some = absurd (false≢true some)
      read (Some b) some = refl

  -- at first nothing is settled
  none-settled : (bytes : List (List ℕ)) → AreBytesOf S core store bytes → AreSettled S bytes core (λ p. ⊥) [] store
  none-settled bytes are = record {
    each_has_bytes = are.each_has_bytes;
    sound = λ t a. absurd a;
    decided = λ t a. absurd a;
    all = λ p n d. absurd d;
    once = λ i j d lt within. absurd (omega (arith, lt, within));
    released_are = holds.released;
    held_are = λ p n fresh. are.in_store p n;
    no_other = λ number some. (holds.only number some, λ a. absurd (subst (Among number) holds.released a));
  }

module _ {S : SetupView} {core : ℕ} {store : StoreView} {v w : WorkView} {e : EntrantsView} (h : HasEntered S core store v w e) where
  same : (w.setup ≡ v.setup) × (w.number ≡ v.number) × (w.pipes ≡ v.pipes) × (w.counts ≡ v.counts)
  same = enters-same S core S.packets v w (unsettled store) e h.entered h.idle.same_setup h.idle.same_number

  pub setup : w.setup ≡ S
  setup = same.0 ∙ h.idle.same_setup

  pub number : w.number ≡ core
  number = same.1 ∙ h.idle.same_number

  counts : w.counts ≡ v.counts
  counts = same.3

  turned : (P : SetupView → ℕ → ℕ → Type 0) → P S core 0 → P w.setup w.number w.counts.windows
  turned P p =
      subst (λ (T : SetupView). P T w.number w.counts.windows) (sym setup)
      (subst (λ (k : ℕ). P S k w.counts.windows) (sym number)
      (subst (P S core) (sym (ap (λ (c : CoreCounts). c.windows) (counts ∙ h.idle.counts_are))) p))

  none-run : visits_below S 0 ≡ []
  none-run = filter-none (λ (u : Visit). nat_lt (window_of S u.tick) 0) (journal_of S) (λ u a. le-ltb (window_of S u.tick) 0 (omega arith))

  due : IsHeapAt S core 0 (λ other. 0) w.heap
  due = record {
    canonical =
        enters-canonical S core S.packets v w (unsettled store) e h.entered h.idle.same_setup h.idle.same_number (λ p a. a)
        (can-enter-all h.is_setup h.holds v h.idle.heap_empty) (subst IsCanonical (sym h.idle.heap_empty) tt);
    members = λ x. (there x, back x);
  }
    where
      m : (x : Due) → Among x w.heap ↔ (Among x v.heap ⊎ ((p : PacketPlan) × Among p S.packets × IsFirstHere S core p x))
      m = enters-due S core S.packets v w (unsettled store) e h.entered h.idle.same_setup h.idle.same_number

      there : (x : Due) → Among x w.heap → (u : Visit) × IsDueAt S core 0 (λ other. 0) u × (due_of u ≡ x)
      there x a =
          ⊎_elim (λ o. absurd (subst (Among x) h.idle.heap_empty o)) (λ f. (first-due-here S h.is_setup core x).0 f) ((m x).0 a)

      back : (x : Due) → (u : Visit) × IsDueAt S core 0 (λ other. 0) u × (due_of u ≡ x) → Among x w.heap
      back x d = (m x).1 (inr ((first-due-here S h.is_setup core x).1 d))

  told : w.told ≡ filter_map (told_entry S core) S.packets
  told =
      enters-told S core S.packets v w (unsettled store) e h.entered h.idle.same_setup h.idle.same_number
      ∙ ap (λ (l : List Told). l ++ filter_map (told_entry S core) S.packets) h.idle.none_told

  pipes-run : HaveRun S core (visits_below S 0) w.pipes
  pipes-run = subst (HaveRun S core (visits_below S 0)) (sym same.2) (subst (λ (J : List Visit). HaveRun S core J v.pipes) (sym none-run) h.idle.pipes_idle)

  counts-at : w.counts ≡ counts_before S core 0
  counts-at =
      counts ∙ h.idle.counts_are
      ∙ ap (λ (n : ℕ). record {
        pipes = n;
        entered = length (filter (λ p. p.core == core) S.packets);
        visits = 0;
        arrivals = 0;
        settles = 0;
        windows = 0;
      }) (zip-length _ (own_pipes S core) v.pipes.pipes h.idle.pipes_idle.pipes_are)
      ∙ ap (λ (J : List Visit). record {
        pipes = length (own_pipes S core);
        entered = length (filter (λ p. p.core == core) S.packets);
        visits = length (filter (λ u. owner_of S u.pipe == core) J);
        arrivals = 0;
        settles = 0;
        windows = 0;
      }) (sym none-run)
      ∙ ap (λ (n : ℕ). record (counts_below S core 0) { arrivals = n; settles = 0 }) (sym (arrivals-first S core))
      ∙ ap (λ (n : ℕ). record (counts_below S core 0) { arrivals = arrivals_told S core 0; settles = n }) (sym (settles-first S core))

  pub windows : w.counts.windows ≡ 0
  windows = ap (λ (c : CoreCounts). c.windows) (counts ∙ h.idle.counts_are)

  -- a core that has entered its packets is to hand out what it has noted
  pub ready : core < S.cores → (peers : List PeerView) → peers ≡ replicate S.cores no_peer → IsToHandOut w peers
  ready known peers are = record {
    is_setup = subst IsSetup (sym setup) h.is_setup;
    known = turned (λ T k n. k < T.cores) known;
    within = (let e = windows in omega (arith, e));
    one_peer_each = ap length are ∙ length-replicate S.cores no_peer ∙ ap (λ (T : SetupView). T.cores) (sym setup);
    posted = λ other l d. ap (λ (p : PeerView). p.posted) (peer other l) ∙ sym windows;
    taken = λ other l d. ap (λ (p : PeerView). p.taken) (peer other l) ∙ sym windows;
    heap_is = turned (λ T k n. IsHeapAt T k n (λ other. n) w.heap) due;
    pipes_have_run = turned (λ T k n. HaveRun T k (visits_below T n) w.pipes) pipes-run;
    counts_are = turned (λ T k n. w.counts ≡ counts_before T k n) counts-at;
    told_are = turned (λ T k n. AreTold T k n w.told) (subst (AreTold S core 0) (sym told) (told-at-start S h.is_setup core));
  }
    where
      peer : (other : ℕ) → other < w.setup.cores → slice_index_or peers other no_peer ≡ no_peer
      peer other l =
          let c : w.setup.cores ≡ S.cores = ap (λ (T : SetupView). T.cores) setup in
          ap (λ (ps : List PeerView). slice_index_or ps other no_peer) are
          ∙ get_or-replicate S.cores other no_peer no_peer (omega (arith, l, c))

  -- and the packets that have no way to go are settled
  pub ready-settled : (bytes : List (List ℕ)) → AreBytesOf S core store bytes → IsToSettle bytes w e
  ready-settled bytes are =
      turned (λ T k n. AreSettled T bytes k (WasDecidedBy T k n (λ other. n)) e.settled e.store)
      (settled-as S bytes core (λ p. ⊥ ⊎ StaysHere S core S.packets p) (WasDecidedBy S core 0 (λ other. 0)) e.settled e.store
      (λ p n. (there p, back p n))
      (enters-settled S core (λ p a none. (fates_hold S h.is_setup).at_once p (entry-none S p none)) bytes (λ p. ⊥) S.packets v w (unsettled store) e
      h.entered h.idle.same_setup h.idle.same_number (λ p a. a) (none-settled h.is_setup h.holds bytes are)))
    where
      there : (p : PacketPlan) → ⊥ ⊎ StaysHere S core S.packets p → WasDecidedBy S core 0 (λ other. 0) p
      there p (inl none) = absurd none
      there p (inr f) = inl (entry-none S p f.1)

      back : (p : PacketPlan) → Enters S core p → WasDecidedBy S core 0 (λ other. 0) p → ⊥ ⊎ StaysHere S core S.packets p
      back p n (inl r) = inr (n.among, none-entry S p r)
      back p n (inr (inl o)) = let l : o.0 < 0 = o.1 in absurd (omega (arith, l))
      back p n (inr (inr t)) = let l : t.1 < 0 = t.3 in absurd (omega (arith, l))

  -- what is handed out then is of this core
  pub setup-then : {x : WorkView} → SameWindows w x → x.setup ≡ S
  setup-then same = same.same_setup ∙ setup

  pub number-then : {x : WorkView} → SameWindows w x → x.number ≡ core
  number-then same = same.same_number ∙ number

  pub stands-then : {x : WorkView} → SameWindows w x → (view : CoreView) (bytes : List (List ℕ))
      → CoreStands bytes (record view { setup = x.setup; number = x.number }) → CoreStands bytes (record view { setup = S; number = core })
  stands-then {x} same view bytes stands =
      subst (λ (k : ℕ). CoreStands bytes (record view { setup = S; number = k })) (number-then same)
      (subst (λ (T : SetupView). CoreStands bytes (record view { setup = T; number = x.number })) (setup-then same) stands)

-- what is kept of a core at the start, or of none
pub peer-at-start : (n other : ℕ) → slice_index_or (replicate n no_peer) other no_peer ≡ no_peer
peer-at-start n other = go (cases_lt other n)
  where
    go : (other < n) ⊎ (n ≤ other) → slice_index_or (replicate n no_peer) other no_peer ≡ no_peer
    go (inl l) = get_or-replicate n other no_peer no_peer l
    go (inr l) = get_or_past (replicate n no_peer) other no_peer (let e = length-replicate n no_peer in omega (arith, l, e))
