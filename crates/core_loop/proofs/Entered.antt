-- Packets that enter at a core, one after the other: what is due, told and settled then.
use Rattle.std.proofs.Common.{◌≡◌, ◌≢◌, ◌⊎◌, inl, inr, ⊎_elim, ℕ, suc, ◌+◌, ◌<◌, ◌≤◌, ◌==◌, Bool, true, false, cond, List, [], ◌∷◌, ◌++◌, length, drop, get_or, slice_index_or, filter_map, Option, Some, None, AllPairs, append-nil, append_assoc, refl, sym, ap, ◌∙◌, subst, arith, drop-cons, eq-eqb}
use Rattle.std.proofs.lemmas.Bool.{ne_eqb}
use Rattle.std.proofs.lemmas.List.{drop_all}
use Rattle.std.specs.Prelude.{◌↔◌, IsSome, if◌then◌else◌}
use Rattle.std.specs.List.{cons_option}
use Rattle.std.specs.FinMap as fin
use Rattle.mn_base.specs.Among.{Among}
use Rattle.mn_base.specs.declared.due.Due.{Due}
use Rattle.journal.specs.declared.setup.PacketPlan.{PacketPlan}
use Rattle.journal.specs.declared.fate.Fate.TheVariants.{Left}
use Rattle.journal.specs.SetupView.{SetupView}
use Rattle.journal.specs.Hops.{pipe_of, entry}
use Rattle.journal.specs.Fates.{fate_of}
use Rattle.parcel.specs.Owners.{owner_of}
use Rattle.parcel.specs.Parcels.{note_packet}
use Rattle.parcel.specs.Told.{Told, told_due}
use Rattle.deadline_heap.specs.Canonical.{HasNoneOf, IsCanonical}
use Rattle.deadline_heap.proofs.Orders.{canonical-placed}
use Rattle.mn_base.proofs.Members.{Among-from-filter_map, Among-index}
use Rattle.journal.proofs.Delays.{entry_parts}
use Rattle.parcel.proofs.InOrder.{before-rest, rest-ordered}
use Rattle.core_loop.specs.Stocked.{Enters}
use Rattle.core_loop.specs.WorldState.{AreSettled}
use Rattle.core_loop.specs.Work.{EntrantsView, Settling, WorkView}
use Rattle.core_loop.specs.Entering.{EntersBy, MayEnter, EntersAll, CanEnter, CanEnterAll}
use Rattle.core_loop.proofs.Differ.{AllDiffer}
use Rattle.core_loop.proofs.Settlings.{get-other, settled-more}
use Rattle.core_loop.proofs.Takes.{settled-as}

-- ---- one packet

-- its first visit, if it is to an own pipe
abbrev pub IsFirstHere : SetupView → ℕ → PacketPlan → Due → Type 0
IsFirstHere S core p x = (p.core ≡ core) × (entry S p ≡ Some x) × (owner_of S (pipe_of S x) ≡ core)

-- what another core is told of it
abbrev pub told_first : SetupView → ℕ → Option Due → Option Told
told_first S core None = None
told_first S core (Some x) = if owner_of S (pipe_of S x) == core then None else Some (told_due S x)

abbrev pub told_entry : SetupView → ℕ → PacketPlan → Option Told
told_entry S core p = if p.core == core then told_first S core (entry S p) else None

-- a packet has its turn at a core: work and packets were v and d before it, and are u and b then
pub record HasItsTurn (S : SetupView) (core : ℕ) (p : PacketPlan) (v u : WorkView) (d b : EntrantsView) : Type 0 where
  pub may : MayEnter S p v d u b
  pub same_setup : v.setup ≡ S
  pub same_number : v.number ≡ core

module _ {S : SetupView} {core : ℕ} {p : PacketPlan} {v u : WorkView} {d b : EntrantsView} (turn : HasItsTurn S core p v u d b) where
  -- setup, number, pipes and counts stay
  pub enter-same : (u.setup ≡ v.setup) × (u.number ≡ v.number) × (u.pipes ≡ v.pipes) × (u.counts ≡ v.counts)
  enter-same = go turn.may
    where
      all : u ≡ v → (u.setup ≡ v.setup) × (u.number ≡ v.number) × (u.pipes ≡ v.pipes) × (u.counts ≡ v.counts)
      all e = (ap (λ (w : WorkView). w.setup) e, ap (λ (w : WorkView). w.number) e, ap (λ (w : WorkView). w.pipes) e, ap (λ (w : WorkView). w.counts) e)

      by : (o : Option Due) → EntersBy p o v d u b → (u.setup ≡ v.setup) × (u.number ≡ v.number) × (u.pipes ≡ v.pipes) × (u.counts ≡ v.counts)
      by None n = all n.0
      by (Some x) (inl n, f) = (
        ap (λ (w : WorkView). w.setup) n.same,
        ap (λ (w : WorkView). w.number) n.same,
        ap (λ (w : WorkView). w.pipes) n.same,
        ap (λ (w : WorkView). w.counts) n.same,
      )
      by (Some x) (inr n, f) = (
        ap (λ (w : WorkView). w.setup) n.tells,
        ap (λ (w : WorkView). w.number) n.tells,
        ap (λ (w : WorkView). w.pipes) n.tells,
        ap (λ (w : WorkView). w.counts) n.tells,
      )

      go : MayEnter S p v d u b → (u.setup ≡ v.setup) × (u.number ≡ v.number) × (u.pipes ≡ v.pipes) × (u.counts ≡ v.counts)
      go (inl i) = by (entry S p) i.1
      go (inr i) = all i.1

  owner-same : (x : Due) → owner_of v.setup (pipe_of v.setup x) ≡ owner_of S (pipe_of S x)
  owner-same x = ap (λ (s : SetupView). owner_of s (pipe_of s x)) turn.same_setup

  enter-due : (x : Due) → Among x u.heap ↔ (Among x v.heap ⊎ IsFirstHere S core p x)
  enter-due x = go turn.may
    where
      stays : u.heap ≡ v.heap → (IsFirstHere S core p x → ⊥) → Among x u.heap ↔ (Among x v.heap ⊎ IsFirstHere S core p x)
      stays e never = (
        (λ a. inl (subst (Among x) e a)),
        λ k. ⊎_elim (λ a. subst (Among x) (sym e) a) (λ f. absurd (never f)) k,
      )

      by : (o : Option Due) → entry S p ≡ o → p.core ≡ core → EntersBy p o v d u b → Among x u.heap ↔ (Among x v.heap ⊎ IsFirstHere S core p x)
      by None e own n = stays (ap (λ (w : WorkView). w.heap) n.0) (λ f. let clash : None ≡ Some x = sym e ∙ f.1 in cc)
      by (Some y) e own (inl n, f) = (
        (λ a. ⊎_elim
            (λ (same : y ≡ x).
            inr (own, e ∙ ap Some same, subst (λ (z : Due). owner_of S (pipe_of S z) ≡ core) same (sym (owner-same y) ∙ n.own ∙ turn.same_number)))
            (λ k. inl k) ((n.members x).0 a)),
        λ k. (n.members x).1 (⊎_elim (λ a. inr a) (λ g. let both : Some y ≡ Some x = sym e ∙ g.1 in let same : y ≡ x = cc in inl same) k),
      )
      by (Some y) e own (inr n, f) =
          stays (ap (λ (w : WorkView). w.heap) n.tells)
          (λ g. let both : Some y ≡ Some x = sym e ∙ g.1 in let same : y ≡ x = cc in
          n.other (owner-same y ∙ subst (λ (z : Due). owner_of S (pipe_of S z) ≡ core) (sym same) g.2 ∙ sym turn.same_number))

      go : MayEnter S p v d u b → Among x u.heap ↔ (Among x v.heap ⊎ IsFirstHere S core p x)
      go (inl i) = by (entry S p) refl (i.0 ∙ turn.same_number) i.1
      go (inr i) = stays (ap (λ (w : WorkView). w.heap) i.1) (λ f. i.0 (f.0 ∙ sym turn.same_number))

  enter-told : u.told ≡ v.told ++ cons_option (told_entry S core p) []
  enter-told = go turn.may
    where
      stays : (o : Option Told) → told_entry S core p ≡ o → o ≡ None → u.told ≡ v.told → u.told ≡ v.told ++ cons_option (told_entry S core p) []
      stays o e n t = t ∙ sym (append-nil v.told) ∙ ap (λ (q : Option Told). v.told ++ cons_option q []) (sym (e ∙ n))

      own-test : (p.core ≡ core) → told_entry S core p ≡ told_first S core (entry S p)
      own-test e = ap (λ (c : Bool). cond c (told_first S core (entry S p)) None) (eq-eqb p.core core e)

      by : (o : Option Due) → entry S p ≡ o → p.core ≡ core → EntersBy p o v d u b → u.told ≡ v.told ++ cons_option (told_entry S core p) []
      by None e own n = stays None (own-test own ∙ ap (told_first S core) e) refl (ap (λ (w : WorkView). w.told) n.0)
      by (Some y) e own (inl n, f) =
          stays None
          (own-test own ∙ ap (told_first S core) e
          ∙ ap (λ (c : Bool). cond c None (Some (told_due S y))) (eq-eqb _ _ (sym (owner-same y) ∙ n.own ∙ turn.same_number)))
          refl (ap (λ (w : WorkView). w.told) n.same)
      by (Some y) e own (inr n, f) =
          ap (λ (w : WorkView). w.told) n.tells
          ∙ ap (λ (s : SetupView). v.told ++ told_due s y ∷ []) turn.same_setup
          ∙ ap (λ (q : Option Told). v.told ++ cons_option q [])
          (sym (own-test own ∙ ap (told_first S core) e
          ∙ ap (λ (c : Bool). cond c None (Some (told_due S y))) (ne_eqb _ _ (λ same. n.other (owner-same y ∙ same ∙ sym turn.same_number)))))

      go : MayEnter S p v d u b → u.told ≡ v.told ++ cons_option (told_entry S core p) []
      go (inl i) = by (entry S p) refl (i.0 ∙ turn.same_number) i.1
      go (inr i) =
          stays None (ap (λ (c : Bool). cond c (told_first S core (entry S p)) None) (ne_eqb p.core core (λ e. i.0 (e ∙ sym turn.same_number)))) refl
          (ap (λ (w : WorkView). w.told) i.1)

  -- what is due stays in canonical order
  enter-canonical : Among p S.packets → CanEnterAll core (p ∷ []) v.heap d → IsCanonical v.heap → IsCanonical u.heap
  enter-canonical a can c = go turn.may
    where
      by : (o : Option Due) → entry S p ≡ o → p.core ≡ core → EntersBy p o v d u b → IsCanonical u.heap
      by None e own n = subst IsCanonical (sym (ap (λ (w : WorkView). w.heap) n.0)) c
      by (Some y) e own (inl n, f) =
          let packet : y.packet ≡ p.number = ap (λ (x : Due). x.packet) (entry_parts S p y a e).is in
          subst IsCanonical (sym (ap (λ (w : WorkView). w.heap) n.same))
          (canonical-placed y v.heap (subst (λ (k : ℕ). HasNoneOf k v.heap) (sym packet) (can.each p (inl refl) own).alone) c)
      by (Some y) e own (inr n, f) = subst IsCanonical (sym (ap (λ (w : WorkView). w.heap) n.tells)) c

      go : MayEnter S p v d u b → IsCanonical u.heap
      go (inl i) = by (entry S p) refl (i.0 ∙ turn.same_number) i.1
      go (inr i) = subst IsCanonical (sym (ap (λ (w : WorkView). w.heap) i.1)) c

  -- another packet still can enter
  enter-can : Among p S.packets → (q : PacketPlan) → p.number ≢ q.number → CanEnter q v.heap d → CanEnter q u.heap b
  enter-can a q differ can = record { alone = alone; held = held turn.may }
    where
      alone : HasNoneOf q.number u.heap
      alone x k =
          ⊎_elim (λ o. can.alone x o)
          (λ f. λ e. differ (sym (ap (λ (y : Due). y.packet) (entry_parts S p x a f.1).is) ∙ e)) ((enter-due x).0 k)

      by : (o : Option Due) → EntersBy p o v d u b → IsSome (fin.get b.store.held q.number)
      by None n =
          subst (λ (o : Option (List ℕ)). IsSome o)
          (sym (ap (λ h. fin.get h q.number) n.1.held ∙ get-other d.store.held p.number q.number (λ e. differ (sym e)))) can.held
      by (Some x) n = subst (λ (z : EntrantsView). IsSome (fin.get z.store.held q.number)) (sym n.1) can.held

      held : MayEnter S p v d u b → IsSome (fin.get b.store.held q.number)
      held (inl i) = by (entry S p) i.1
      held (inr i) = subst (λ (z : EntrantsView). IsSome (fin.get z.store.held q.number)) (sym i.2) can.held

-- ---- all packets

can-enter-next : {S : SetupView} {core : ℕ} {p : PacketPlan} {ps : List PacketPlan} {v u : WorkView} {d b : EntrantsView}
    → HasItsTurn S core p v u d b → Among p S.packets → CanEnterAll core (p ∷ ps) v.heap d → CanEnterAll core ps u.heap b
can-enter-next {p = p} {ps = ps} turn a can = record {
  each = λ q k own.
      enter-can turn a q (before-rest (λ (x y : PacketPlan). x.number ≢ y.number) p ps can.apart q k)
      (can.each q (inr k) own);
  apart = rest-ordered (λ (x y : PacketPlan). x.number ≢ y.number) p ps can.apart;
}

module _ (S : SetupView) (core : ℕ) where
  pub enters-same : (ps : List PacketPlan) (v w : WorkView) (d e : EntrantsView) → EntersAll S ps v d w e → v.setup ≡ S → v.number ≡ core
      → (w.setup ≡ v.setup) × (w.number ≡ v.number) × (w.pipes ≡ v.pipes) × (w.counts ≡ v.counts)
  enters-same [] v w d e t vs vn =
      (ap (λ (x : WorkView). x.setup) t.0, ap (λ (x : WorkView). x.number) t.0, ap (λ (x : WorkView). x.pipes) t.0, ap (λ (x : WorkView). x.counts) t.0)
  enters-same (p ∷ ps) v w d e t vs vn =
      let turn : HasItsTurn S core p v t.0 d t.1 = record { may = t.2; same_setup = vs; same_number = vn } in
      let s = enter-same turn in
      let r = enters-same ps t.0 w t.1 e t.3 (s.0 ∙ vs) (s.1 ∙ vn) in
      (r.0 ∙ s.0, r.1 ∙ s.1, r.2 ∙ s.2, r.3 ∙ s.3)

  -- what is due then
  pub enters-due : (ps : List PacketPlan) (v w : WorkView) (d e : EntrantsView) → EntersAll S ps v d w e → v.setup ≡ S → v.number ≡ core
      → (x : Due) → Among x w.heap ↔ (Among x v.heap ⊎ ((p : PacketPlan) × Among p ps × IsFirstHere S core p x))
  enters-due [] v w d e t vs vn x = (
    (λ a. inl (subst (λ (y : WorkView). Among x y.heap) t.0 a)),
    λ k. ⊎_elim (λ a. subst (λ (y : WorkView). Among x y.heap) (sym t.0) a) (λ f. absurd f.1) k,
  )
  enters-due (p ∷ ps) v w d e t vs vn x =
      let turn : HasItsTurn S core p v t.0 d t.1 = record { may = t.2; same_setup = vs; same_number = vn } in
      let s = enter-same turn in
      let r = enters-due ps t.0 w t.1 e t.3 (s.0 ∙ vs) (s.1 ∙ vn) x in
      let n = enter-due turn x in
      (there r n, back r n)
    where
      there : Among x w.heap ↔ (Among x t.0.heap ⊎ ((q : PacketPlan) × Among q ps × IsFirstHere S core q x))
          → Among x t.0.heap ↔ (Among x v.heap ⊎ IsFirstHere S core p x)
          → Among x w.heap → Among x v.heap ⊎ ((q : PacketPlan) × Among q (p ∷ ps) × IsFirstHere S core q x)
      there r n a = ⊎_elim (λ k. ⊎_elim (λ o. inl o) (λ f. inr (p, inl refl, f)) (n.0 k)) (λ f. inr (f.0, inr f.1, f.2)) (r.0 a)

      back : Among x w.heap ↔ (Among x t.0.heap ⊎ ((q : PacketPlan) × Among q ps × IsFirstHere S core q x))
          → Among x t.0.heap ↔ (Among x v.heap ⊎ IsFirstHere S core p x)
          → Among x v.heap ⊎ ((q : PacketPlan) × Among q (p ∷ ps) × IsFirstHere S core q x) → Among x w.heap
      back r n (inl a) = r.1 (inl (n.1 (inl a)))
      back r n (inr (q, inl same, f)) = r.1 (inl (n.1 (inr (subst (λ (z : PacketPlan). IsFirstHere S core z x) (sym same) f))))
      back r n (inr (q, inr a, f)) = r.1 (inr (q, a, f))

  pub enters-canonical : (ps : List PacketPlan) (v w : WorkView) (d e : EntrantsView) → EntersAll S ps v d w e → v.setup ≡ S → v.number ≡ core
      → ((p : PacketPlan) → Among p ps → Among p S.packets) → CanEnterAll core ps v.heap d → IsCanonical v.heap → IsCanonical w.heap
  enters-canonical [] v w d e t vs vn known can c = subst (λ (y : WorkView). IsCanonical y.heap) (sym t.0) c
  enters-canonical (p ∷ ps) v w d e t vs vn known can c =
      let turn : HasItsTurn S core p v t.0 d t.1 = record { may = t.2; same_setup = vs; same_number = vn } in
      let s = enter-same turn in
      enters-canonical ps t.0 w t.1 e t.3 (s.0 ∙ vs) (s.1 ∙ vn) (λ q a. known q (inr a))
      (can-enter-next turn (known p (inl refl)) can)
      (enter-canonical turn (known p (inl refl)) one c)
    where
      one : CanEnterAll core (p ∷ []) v.heap d
      one = record {
        each = λ q a own. can.each q (inl (⊎_elim (λ y. y) (λ none. absurd none) a)) own;
        apart = λ i j x lt within. absurd (omega (arith, lt, within));
      }

  -- what is told then
  pub enters-told : (ps : List PacketPlan) (v w : WorkView) (d e : EntrantsView) → EntersAll S ps v d w e → v.setup ≡ S → v.number ≡ core
      → w.told ≡ v.told ++ filter_map (told_entry S core) ps
  enters-told [] v w d e t vs vn = ap (λ (y : WorkView). y.told) t.0 ∙ sym (append-nil v.told)
  enters-told (p ∷ ps) v w d e t vs vn =
      let turn : HasItsTurn S core p v t.0 d t.1 = record { may = t.2; same_setup = vs; same_number = vn } in
      let s = enter-same turn in
      enters-told ps t.0 w t.1 e t.3 (s.0 ∙ vs) (s.1 ∙ vn)
      ∙ ap (λ (l : List Told). l ++ filter_map (told_entry S core) ps) (enter-told turn)
      ∙ append_assoc v.told (cons_option (told_entry S core p) []) (filter_map (told_entry S core) ps)
      ∙ ap (λ (l : List Told). v.told ++ l) (joined (told_entry S core p))
    where
      joined : (o : Option Told) → cons_option o [] ++ filter_map (told_entry S core) ps ≡ cons_option o (filter_map (told_entry S core) ps)
      joined None = refl
      joined (Some u) = refl

  told-packet : (p : PacketPlan) (t : Told) → Among p S.packets → told_entry S core p ≡ Some t → note_packet t.note ≡ p.number
  told-packet p t a e = go (p.core == core) refl e
    where
      first : (o : Option Due) → entry S p ≡ o → told_first S core o ≡ Some t → note_packet t.note ≡ p.number
      first None f g = cc
      first (Some x) f g = split (owner_of S (pipe_of S x) == core) g
        where
          split : (c : Bool) → cond c None (Some (told_due S x)) ≡ Some t → note_packet t.note ≡ p.number
          split true h = cc
          split false h =
              let same : told_due S x ≡ t = cc in
              sym (ap (λ (u : Told). note_packet u.note) same) ∙ ap (λ (y : Due). y.packet) (entry_parts S p x a f).is

      go : (c : Bool) → (p.core == core) ≡ c → cond c (told_first S core (entry S p)) None ≡ Some t → note_packet t.note ≡ p.number
      go true f g = first (entry S p) refl g
      go false f g = cc

  -- each once
  pub told-once : (ps : List PacketPlan) → ((p : PacketPlan) → Among p ps → Among p S.packets) → AllPairs (λ p q. p.number ≢ q.number) ps
      → AllDiffer (filter_map (told_entry S core) ps)
  told-once [] known apart = tt
  told-once (p ∷ ps) known apart =
      go (told_entry S core p) refl
      (told-once ps (λ q a. known q (inr a)) (rest-ordered (λ (x y : PacketPlan). x.number ≢ y.number) p ps apart))
    where
      go : (o : Option Told) → told_entry S core p ≡ o → AllDiffer (filter_map (told_entry S core) ps)
          → AllDiffer (cons_option o (filter_map (told_entry S core) ps))
      go None e rest = rest
      go (Some t) e rest = (head, rest)
        where
          head : (u : Told) → Among u (filter_map (told_entry S core) ps) → t ≢ u
          head u a same =
              let m = Among-from-filter_map (told_entry S core) u ps a in
              before-rest (λ (x y : PacketPlan). x.number ≢ y.number) p ps apart m.0 m.1
              (sym (told-packet p t (known p (inl refl)) e) ∙ ap (λ (y : Told). note_packet y.note) same
              ∙ told-packet m.0 u (known m.0 (inr m.1)) m.2)

  -- and the packets that have no way to go are settled
  abbrev pub StaysHere : List PacketPlan → PacketPlan → Type 0
  StaysHere ps q = Among q ps × (entry S q ≡ None)

  pub enters-settled : (fates : (p : PacketPlan) → Among p S.packets → entry S p ≡ None → fate_of S p ≡ Left p.entry_tick)
      (bytes : List (List ℕ)) (D : PacketPlan → Type 0) (ps : List PacketPlan) (v w : WorkView) (d e : EntrantsView)
      → EntersAll S ps v d w e → v.setup ≡ S → v.number ≡ core → ((p : PacketPlan) → Among p ps → Among p S.packets)
      → AreSettled S bytes core D d.settled d.store → AreSettled S bytes core (λ q. D q ⊎ StaysHere ps q) e.settled e.store
  enters-settled fates bytes D [] v w d e t vs vn known a =
      settled-as S bytes core D (λ q. D q ⊎ StaysHere [] q) e.settled e.store
      (λ q n. ((λ k. inl k), λ k. ⊎_elim (λ y. y) (λ f. absurd f.0) k))
      (subst (λ (z : EntrantsView). AreSettled S bytes core D z.settled z.store) (sym t.1) a)
  enters-settled fates bytes D (p ∷ ps) v w d e t vs vn known a =
      let turn : HasItsTurn S core p v t.0 d t.1 = record { may = t.2; same_setup = vs; same_number = vn } in
      let s = enter-same turn in
      settled-as S bytes core (λ q. (D q ⊎ StaysHere (p ∷ []) q) ⊎ StaysHere ps q) (λ q. D q ⊎ StaysHere (p ∷ ps) q) e.settled e.store
      (λ q n. (there q, back q))
      (enters-settled fates bytes (λ q. D q ⊎ StaysHere (p ∷ []) q) ps t.0 w t.1 e t.3 (s.0 ∙ vs) (s.1 ∙ vn) (λ q k. known q (inr k)) (one t.2))
    where
      there : (q : PacketPlan) → (D q ⊎ StaysHere (p ∷ []) q) ⊎ StaysHere ps q → D q ⊎ StaysHere (p ∷ ps) q
      there q (inl (inl y)) = inl y
      there q (inl (inr (inl same, f))) = inr (inl same, f)
      there q (inl (inr (inr none, f))) = absurd none
      there q (inr f) = inr (inr f.0, f.1)

      back : (q : PacketPlan) → D q ⊎ StaysHere (p ∷ ps) q → (D q ⊎ StaysHere (p ∷ []) q) ⊎ StaysHere ps q
      back q (inl y) = inl (inl y)
      back q (inr (inl same, f)) = inl (inr (inl same, f))
      back q (inr (inr k, f)) = inr (k, f)

      -- it is none that stays
      passes : d ≡ t.1 → (Enters S core p → entry S p ≡ None → ⊥)
          → AreSettled S bytes core (λ q. D q ⊎ StaysHere (p ∷ []) q) t.1.settled t.1.store
      passes same never =
          settled-as S bytes core D (λ q. D q ⊎ StaysHere (p ∷ []) q) t.1.settled t.1.store
          (λ q n. ((λ k. inl k), λ k. ⊎_elim (λ y. y) (λ f. absurd (clash q n f.0 f.1)) k))
          (subst (λ (z : EntrantsView). AreSettled S bytes core D z.settled z.store) same a)
        where
          clash : (q : PacketPlan) → Enters S core q → Among q (p ∷ []) → entry S q ≡ None → ⊥
          clash q n (inl same) f =
              never (subst (Enters S core) (sym same) n) (subst (λ (z : PacketPlan). entry S z ≡ None) (sym same) f)
          clash q n (inr none) f = none

      by : (o : Option Due) → entry S p ≡ o → p.core ≡ core → EntersBy p o v d t.0 t.1
          → AreSettled S bytes core (λ q. D q ⊎ StaysHere (p ∷ []) q) t.1.settled t.1.store
      by (Some x) f own n = passes (sym n.1) (λ i none. let clash : None ≡ Some x = sym none ∙ f in cc)
      by None f own n =
          settled-as S bytes core (λ q. D q ⊎ (q ≡ p)) (λ q. D q ⊎ StaysHere (p ∷ []) q) t.1.settled t.1.store
          (λ q i. (forth q, hither q))
          (settled-more S bytes core D (λ q. D q ⊎ (q ≡ p)) d t.1 p a enters
          (a.no_other p.number (subst (λ (o : Option (List ℕ)). IsSome o) (sym settling.was_held) refl)).1 settling
          (λ q i. ((λ k. k), λ k. k)))
        where
          enters : Enters S core p
          enters = record { among = known p (inl refl); entered = own }

          settling : Settling d p.number (fate_of S p) t.1
          settling = subst (λ z. Settling d p.number z t.1) (sym (fates p (known p (inl refl)) f)) n.1

          forth : (q : PacketPlan) → D q ⊎ (q ≡ p) → D q ⊎ StaysHere (p ∷ []) q
          forth q (inl y) = inl y
          forth q (inr same) = inr (inl (sym same), subst (λ (z : PacketPlan). entry S z ≡ None) (sym same) f)

          hither : (q : PacketPlan) → D q ⊎ StaysHere (p ∷ []) q → D q ⊎ (q ≡ p)
          hither q (inl y) = inl y
          hither q (inr (inl same, g)) = inr (sym same)
          hither q (inr (inr none, g)) = absurd none

      one : MayEnter S p v d t.0 t.1 → AreSettled S bytes core (λ q. D q ⊎ StaysHere (p ∷ []) q) t.1.settled t.1.store
      one (inl i) = by (entry S p) refl (i.0 ∙ vn) i.1
      one (inr i) = passes (sym i.2) (λ n none. i.0 (n.entered ∙ sym vn))

-- ---- how far packets have entered

-- what stands for a plan that isn't there
abbrev pub no_plan : PacketPlan
no_plan = record { entry_tick = 0; number = 0; len = 0; route = 0; core = 0 }

-- the plan that is read at an index is one of the setup's
pub plan-among : (S : SetupView) (items : List PacketPlan) (i : ℕ) → items ≡ S.packets → i < length items
    → Among (slice_index_or items i no_plan) S.packets
plan-among S items i is within = subst (Among (slice_index_or items i no_plan)) is (Among-index items i no_plan within)

pub record IsEntering (S : SetupView) (core : ℕ) (ps : List PacketPlan) (i : ℕ) (v w : WorkView) (d e : EntrantsView) : Type 0 where
  pub same_setup : w.setup ≡ S
  pub same_number : w.number ≡ core
  pub left : CanEnterAll core (drop i ps) w.heap e
  pub done : (x : WorkView) (f : EntrantsView) → EntersAll S (drop i ps) w e x f → EntersAll S ps v d x f

pub entering-starts : (S : SetupView) (core : ℕ) (ps : List PacketPlan) (v : WorkView) (d : EntrantsView) → v.setup ≡ S → v.number ≡ core
    → CanEnterAll core ps v.heap d → IsEntering S core ps 0 v v d d
entering-starts S core ps v d vs vn can = record { same_setup = vs; same_number = vn; left = can; done = λ x f t. t }

rest-is : (ps : List PacketPlan) (i : ℕ) (p : PacketPlan) → i < length ps → p ≡ get_or ps i p → drop i ps ≡ p ∷ drop (i + 1) ps
rest-is ps i p within is =
    drop-cons ps i p within
    ∙ ap (λ (q : PacketPlan). q ∷ drop (suc i) ps) (sym is)
    ∙ ap (λ (k : ℕ). p ∷ drop k ps) (let e : suc i ≡ i + 1 = omega arith in e)

pub entering-can : {S : SetupView} {core : ℕ} {ps : List PacketPlan} {i : ℕ} {v w : WorkView} {d e : EntrantsView} {p : PacketPlan}
    → IsEntering S core ps i v w d e → i < length ps → p ≡ get_or ps i p → p.core ≡ core → CanEnter p w.heap e
entering-can {ps = ps} {i = i} {p = p} t within is own =
    t.left.each p (subst (Among p) (sym (rest-is ps i p within is)) (inl refl)) own

pub entering-more : {S : SetupView} {core : ℕ} {ps : List PacketPlan} {i : ℕ} {v w x : WorkView} {d e f : EntrantsView} {p : PacketPlan}
    → IsEntering S core ps i v w d e → i < length ps → p ≡ get_or ps i p → Among p S.packets → MayEnter S p w e x f
    → IsEntering S core ps (i + 1) v x d f
entering-more {S} {core} {ps} {i} {v} {w} {x} {d} {e} {f} {p} t within is a m = record {
  same_setup = s.0 ∙ t.same_setup;
  same_number = s.1 ∙ t.same_number;
  left = can-enter-next turn a
      (subst (λ (l : List PacketPlan). CanEnterAll core l w.heap e) rest t.left);
  done = λ y g more. t.done y g (subst (λ (l : List PacketPlan). EntersAll S l w e y g) (sym rest) (x, f, m, more));
}
  where
    rest : drop i ps ≡ p ∷ drop (i + 1) ps
    rest = rest-is ps i p within is

    turn : HasItsTurn S core p w x e f
    turn = record { may = m; same_setup = t.same_setup; same_number = t.same_number }

    s : (x.setup ≡ w.setup) × (x.number ≡ w.number) × (x.pipes ≡ w.pipes) × (x.counts ≡ w.counts)
    s = enter-same turn

pub entering-ends : (S : SetupView) (core : ℕ) (ps : List PacketPlan) (i : ℕ) (v w : WorkView) (d e : EntrantsView)
    → IsEntering S core ps i v w d e → length ps ≤ i → EntersAll S ps v d w e
entering-ends S core ps i v w d e t all =
    t.done w e (subst (λ (l : List PacketPlan). EntersAll S l w e w e) (sym (drop_all i ps all)) (refl, refl))
