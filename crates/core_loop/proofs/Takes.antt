-- Notes that are taken in one after the other: what is due and what is settled then.
use Rattle.std.proofs.Common.{◌≡◌, ◌≢◌, ◌⊎◌, inl, inr, ⊎_elim, ℕ, suc, ◌+◌, ◌<◌, ◌≤◌, List, [], ◌∷◌, length, map, drop, get_or, Option, refl, sym, ap, ◌∙◌, subst, arith, drop-cons}
use Rattle.std.proofs.lemmas.List.{drop_all}
use Rattle.std.specs.Prelude.{◌↔◌, IsSome}
use Rattle.std.specs.FinMap as fin
use Rattle.mn_base.specs.Among.{Among}
use Rattle.mn_base.specs.declared.due.Due.{Due}
use Rattle.journal.specs.declared.setup.PacketPlan.{PacketPlan}
use Rattle.journal.specs.declared.fate.Fate.{Fate}
use Rattle.journal.specs.declared.fate.Fate.TheVariants.{Left}
use Rattle.journal.specs.SetupView.{SetupView}
use Rattle.journal.specs.IsSetup.{IsSetup}
use Rattle.journal.specs.Fates.{fate_of}
use Rattle.parcel.specs.declared.note.Note.{Note}
use Rattle.parcel.specs.declared.note.Note.TheVariants.{Arrive, Settle}
use Rattle.parcel.specs.declared.core_result.Settled.{Settled}
use Rattle.parcel.specs.Parcels.{note_packet, settle_note}
use Rattle.payload_store.specs.StoreView.{StoreView}
use Rattle.deadline_heap.specs.Canonical.{HasNoneOf, IsCanonical}
use Rattle.core_loop.specs.Stocked.{Enters}
use Rattle.core_loop.specs.WorldState.{AreSettled}
use Rattle.core_loop.specs.Work.{EntrantsView, Settling, WorkView}
use Rattle.core_loop.specs.Handing.{TakesNote, TakesNotes, CanTake, CanTakeAll, SameButHeap}
use Rattle.mn_base.proofs.Members.{Among-map}
use Rattle.journal.proofs.Orderly.{one_packet}
use Rattle.parcel.proofs.InOrder.{before-rest, rest-ordered}
use Rattle.deadline_heap.proofs.Orders.{Among-placed, canonical-placed}
use Rattle.core_loop.proofs.Settlings.{get-other, settled-more}
use Rattle.core_loop.proofs.TakingIn.{due_note, due_in}

-- what is due then was due before, or a note told of it
pub taken-due : (notes : List Note) (g h : List Due) (d e : EntrantsView) → TakesNotes notes g d h e
    → (x : Due) → Among x h ↔ (Among x g ⊎ Among (due_note x) notes)
taken-due [] g h d e t x = (
  (λ a. inl (subst (Among x) t.0 a)),
  λ m. ⊎_elim (λ a. subst (Among x) (sym t.0) a) (λ none. absurd none) m,
)
taken-due (note ∷ notes) g h d e t x = step note t.2 (taken-due notes t.0 h t.1 e t.3 x)
  where
    step : (note : Note) → TakesNote note g d t.0 t.1 → Among x h ↔ (Among x t.0 ⊎ Among (due_note x) notes)
        → Among x h ↔ (Among x g ⊎ Among (due_note x) (note ∷ notes))
    step (Settle packet fate) n r = (there, back)
      where
        there : Among x h → Among x g ⊎ Among (due_note x) (Settle packet fate ∷ notes)
        there a = ⊎_elim (λ k. inl (subst (Among x) n.0 k)) (λ k. inr (inr k)) (r.0 a)

        later : Among (due_note x) (Settle packet fate ∷ notes) → Among (due_note x) notes
        later (inl e) = cc
        later (inr k) = k

        back : Among x g ⊎ Among (due_note x) (Settle packet fate ∷ notes) → Among x h
        back m = r.1 (⊎_elim (λ k. inl (subst (Among x) (sym n.0) k)) (λ k. inr (later k)) m)
    step (Arrive packet hop tick) n r = (there, back)
      where
        y : Due
        y = record { tick = tick; packet = packet; hop = hop }

        there : Among x h → Among x g ⊎ Among (due_note x) (Arrive packet hop tick ∷ notes)
        there a =
            ⊎_elim
            (λ k. ⊎_elim (λ (same : y ≡ x). inr (inl (ap due_note same))) (λ o. inl o) ((Among-placed x y g).0 (subst (Among x) n.0 k)))
            (λ k. inr (inr k)) (r.0 a)

        placed-in : (y ≡ x) ⊎ Among x g → Among x t.0
        placed-in m = subst (Among x) (sym n.0) ((Among-placed x y g).1 m)

        back : Among x g ⊎ Among (due_note x) (Arrive packet hop tick ∷ notes) → Among x h
        back (inl a) = r.1 (inl (placed-in (inr a)))
        back (inr (inl same)) = r.1 (inl (placed-in (inl (is same))))
          where
            is : Arrive packet hop tick ≡ Arrive x.packet x.hop x.tick → y ≡ x
            is e = ap due_in e
        back (inr (inr k)) = r.1 (inr k)

-- one note is taken in, and the others still can be
pub can-next : (note : Note) (notes : List Note) (g k : List Due) (d b : EntrantsView) → CanTakeAll (note ∷ notes) g d → TakesNote note g d k b
    → CanTakeAll notes k b
can-next note notes g k d b can t = record {
  each = λ m a. step note m t (can.each m (inr a)) (before-rest (λ (a b : ℕ). a ≢ b) (note_packet note) (map note_packet notes) can.apart
      (note_packet m) (Among-map note_packet m notes a));
  apart = rest-ordered (λ (a b : ℕ). a ≢ b) (note_packet note) (map note_packet notes) can.apart;
}
  where
    step : (note m : Note) → TakesNote note g d k b → CanTake m g d → note_packet note ≢ note_packet m → CanTake m k b
    step (Arrive p hop tick) (Arrive q hop' tick') t alone differ = λ other a.
        ⊎_elim
        (λ (same : record { tick = tick; packet = p; hop = hop } ≡ other). λ e. differ (ap (λ (x : Due). x.packet) same ∙ e))
        (λ o. alone other o)
        ((Among-placed other (record { tick = tick; packet = p; hop = hop }) g).0 (subst (Among other) t.0 a))
    step (Arrive p hop tick) (Settle q fate) t held differ =
        subst (λ (z : EntrantsView). IsSome (fin.get z.store.held q)) (sym t.1) held
    step (Settle p fate) (Arrive q hop tick) t alone differ = subst (HasNoneOf q) (sym t.0) alone
    step (Settle p fate) (Settle q fate') t held differ =
        let s = t.1 in
        subst (λ (o : Option (List ℕ)). IsSome o)
        (sym (ap (λ m. fin.get m q) s.held ∙ get-other d.store.held p q (λ e. differ (sym e)))) held

-- what is due stays in canonical order
pub taken-canonical : (notes : List Note) (g h : List Due) (d e : EntrantsView) → CanTakeAll notes g d → TakesNotes notes g d h e
    → IsCanonical g → IsCanonical h
taken-canonical [] g h d e can t c = subst IsCanonical (sym t.0) c
taken-canonical (note ∷ notes) g h d e can t c =
    taken-canonical notes t.0 h t.1 e (can-next note notes g t.0 d t.1 can t.2) t.3 (step note t.2 (can.each note (inl refl)))
  where
    step : (note : Note) → TakesNote note g d t.0 t.1 → CanTake note g d → IsCanonical t.0
    step (Arrive packet hop tick) n alone =
        subst IsCanonical (sym n.0) (canonical-placed (record { tick = tick; packet = packet; hop = hop }) g alone c)
    step (Settle packet fate) n held = subst IsCanonical (sym n.0) c

-- notes that tell of fates alone leave what is due
pub taken-settles : (notes : List Note) (g h : List Due) (d e : EntrantsView) → TakesNotes notes g d h e
    → ((packet hop tick : ℕ) → Among (Arrive packet hop tick) notes → ⊥) → h ≡ g
taken-settles [] g h d e t none = t.0
taken-settles (note ∷ notes) g h d e t none =
    taken-settles notes t.0 h t.1 e t.3 (λ packet hop tick a. none packet hop tick (inr a))
    ∙ step note t.2 (λ packet hop tick same. none packet hop tick (inl same))
  where
    step : (note : Note) → TakesNote note g d t.0 t.1 → ((packet hop tick : ℕ) → note ≡ Arrive packet hop tick → ⊥) → t.0 ≡ g
    step (Arrive packet hop tick) n never = absurd (never packet hop tick refl)
    step (Settle packet fate) n never = n.0

-- packets are settled by whatever says that they are decided
pub settled-as : (S : SetupView) (bytes : List (List ℕ)) (core : ℕ) (D E : PacketPlan → Type 0) (settled : List Settled) (store : StoreView)
    → ((p : PacketPlan) → Enters S core p → D p ↔ E p) → AreSettled S bytes core D settled store → AreSettled S bytes core E settled store
settled-as S bytes core D E settled store same a = record {
  each_has_bytes = a.each_has_bytes;
  sound = a.sound;
  decided = λ t m. (let d = a.decided t m in (d.0, d.1, (same d.0 d.1).0 d.2, d.3));
  all = λ p n e. a.all p n ((same p n).1 e);
  once = a.once;
  released_are = a.released_are;
  held_are = a.held_are;
  no_other = a.no_other;
}

-- the fate of which a note tells
abbrev note_fate : Note → Fate
note_fate (Arrive packet hop tick) = Left tick
note_fate (Settle packet fate) = fate

module _ (S : SetupView) (is : IsSetup S) (bytes : List (List ℕ)) (core : ℕ) where
  -- a note tells of the fate of a packet that entered here
  abbrev pub TellsFates : List Note → Type 0
  TellsFates notes =
      (packet : ℕ) (fate : Fate) → Among (Settle packet fate) notes
      → (p : PacketPlan) × Enters S core p × (settle_note S p ≡ Settle packet fate)

  -- one packet more is settled
  one-settled : (D : PacketPlan → Type 0) (p : PacketPlan) (d b : EntrantsView) → Enters S core p
      → Settling d p.number (fate_of S p) b → AreSettled S bytes core D d.settled d.store
      → AreSettled S bytes core (λ q. D q ⊎ (q ≡ p)) b.settled b.store
  one-settled D p d b enters s a =
      settled-more S bytes core D (λ q. D q ⊎ (q ≡ p)) d b p a enters
      (a.no_other p.number (subst (λ (o : Option (List ℕ)). IsSome o) (sym s.was_held) refl)).1
      s (λ q n. ((λ m. m), λ m. m))

  -- with notes the packets of whose fates they tell are settled, too
  pub settle-all : (notes : List Note) (D : PacketPlan → Type 0) (g h : List Due) (d e : EntrantsView) → TakesNotes notes g d h e
      → TellsFates notes → AreSettled S bytes core D d.settled d.store
      → AreSettled S bytes core (λ p. D p ⊎ Among (settle_note S p) notes) e.settled e.store
  settle-all [] D g h d e t tells a =
      settled-as S bytes core D (λ p. D p ⊎ Among (settle_note S p) []) e.settled e.store
      (λ p n. ((λ m. inl m), λ m. ⊎_elim (λ y. y) (λ none. absurd none) m))
      (subst (λ (z : EntrantsView). AreSettled S bytes core D z.settled z.store) (sym t.1) a)
  settle-all (Arrive packet hop tick ∷ notes) D g h d e t tells a =
      settled-as S bytes core (λ p. D p ⊎ Among (settle_note S p) notes) (λ p. D p ⊎ Among (settle_note S p) (Arrive packet hop tick ∷ notes))
      e.settled e.store
      (λ p n. ((λ m. ⊎_elim (λ y. inl y) (λ y. inr (inr y)) m), λ m. ⊎_elim (λ y. inl y) (λ y. inr (later p y)) m))
      (settle-all notes D t.0 h t.1 e t.3 (λ q fate m. tells q fate (inr m))
      (subst (λ (z : EntrantsView). AreSettled S bytes core D z.settled z.store) (sym t.2.1) a))
    where
      later : (p : PacketPlan) → Among (settle_note S p) (Arrive packet hop tick ∷ notes) → Among (settle_note S p) notes
      later p (inl e) = cc
      later p (inr m) = m
  settle-all (Settle packet fate ∷ notes) D g h d e t tells a =
      settled-as S bytes core (λ q. (D q ⊎ (q ≡ p)) ⊎ Among (settle_note S q) notes)
      (λ q. D q ⊎ Among (settle_note S q) (Settle packet fate ∷ notes)) e.settled e.store
      (λ q n. (there q, back q n))
      (settle-all notes (λ q. D q ⊎ (q ≡ p)) t.0 h t.1 e t.3 (λ q f m. tells q f (inr m))
      (one-settled D p d t.1 f.1 settling a))
    where
      f : (p : PacketPlan) × Enters S core p × (settle_note S p ≡ Settle packet fate)
      f = tells packet fate (inl refl)

      p : PacketPlan
      p = f.0

      its : Settle p.number (fate_of S p) ≡ Settle packet fate
      its = f.2

      settling : Settling d p.number (fate_of S p) t.1
      settling =
          let number : packet ≡ p.number = sym (ap note_packet its) in
          let its_fate : fate ≡ fate_of S p = sym (ap note_fate its) in
          subst (λ (n : ℕ). Settling d n (fate_of S p) t.1) number (subst (λ (x : Fate). Settling d packet x t.1) its_fate t.2.1)

      there : (q : PacketPlan) → (D q ⊎ (q ≡ p)) ⊎ Among (settle_note S q) notes → D q ⊎ Among (settle_note S q) (Settle packet fate ∷ notes)
      there q (inl (inl y)) = inl y
      there q (inl (inr same)) = inr (inl (sym its ∙ ap (settle_note S) (sym same)))
      there q (inr m) = inr (inr m)

      back : (q : PacketPlan) → Enters S core q → D q ⊎ Among (settle_note S q) (Settle packet fate ∷ notes)
          → (D q ⊎ (q ≡ p)) ⊎ Among (settle_note S q) notes
      back q n (inl y) = inl (inl y)
      back q n (inr (inl same)) =
          let both : Settle packet fate ≡ Settle q.number (fate_of S q) = same in
          let numbers : q.number ≡ p.number = sym (ap note_packet (its ∙ both)) in
          inl (inr (one_packet S is q p n.among f.1.among numbers))
      back q n (inr (inr m)) = inr m

-- ---- how far notes are taken in

-- the notes below an index are taken in, and the others can be
pub record IsTaking (notes : List Note) (i : ℕ) (v w : WorkView) (d e : EntrantsView) : Type 0 where
  pub left : CanTakeAll (drop i notes) w.heap e
  pub done : (h : List Due) (f : EntrantsView) → TakesNotes (drop i notes) w.heap e h f → TakesNotes notes v.heap d h f
  pub same : SameButHeap v w

pub taking-starts : (notes : List Note) (v : WorkView) (d : EntrantsView) → CanTakeAll notes v.heap d → IsTaking notes 0 v v d d
taking-starts notes v d can = record { left = can; done = λ h f t. t; same = refl }

rest-is : (notes : List Note) (i : ℕ) (note : Note) → i < length notes → note ≡ get_or notes i note → drop i notes ≡ note ∷ drop (i + 1) notes
rest-is notes i note within is =
    drop-cons notes i note within
    ∙ ap (λ (n : Note). n ∷ drop (suc i) notes) (sym is)
    ∙ ap (λ (k : ℕ). note ∷ drop k notes) (let e : suc i ≡ i + 1 = omega arith in e)

pub taking-can : (notes : List Note) (i : ℕ) (v w : WorkView) (d e : EntrantsView) (note : Note) → IsTaking notes i v w d e
    → i < length notes → note ≡ get_or notes i note → CanTake note w.heap e
taking-can notes i v w d e note t within is =
    t.left.each note (subst (Among note) (sym (rest-is notes i note within is)) (inl refl))

pub taking-more : {notes : List Note} {i : ℕ} {v w x : WorkView} {d e f : EntrantsView} {note : Note} → IsTaking notes i v w d e
    → i < length notes → note ≡ get_or notes i note → TakesNote note w.heap e x.heap f → SameButHeap w x
    → IsTaking notes (i + 1) v x d f
taking-more {notes} {i} {v} {w} {x} {d} {e} {f} {note} t within is took same = record {
  left = can-next note (drop (i + 1) notes) w.heap x.heap e f (subst (λ (l : List Note). CanTakeAll l w.heap e) rest t.left) took;
  done = λ h g more. t.done h g (subst (λ (l : List Note). TakesNotes l w.heap e h g) (sym rest) (x.heap, f, took, more));
  same = same ∙ ap (λ (y : WorkView). record y { heap = x.heap }) t.same;
}
  where
    rest : drop i notes ≡ note ∷ drop (i + 1) notes
    rest = rest-is notes i note within is

pub taking-ends : (notes : List Note) (i : ℕ) (v w : WorkView) (d e : EntrantsView) → IsTaking notes i v w d e → length notes ≤ i
    → TakesNotes notes v.heap d w.heap e
taking-ends notes i v w d e t all =
    t.done w.heap e (subst (λ (l : List Note). TakesNotes l w.heap e w.heap e) (sym (drop_all i notes all)) (refl, refl))
