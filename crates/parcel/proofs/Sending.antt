-- The notes of a parcel are what the visits of the sender in one window have to tell the receiver.
use Rattle.std.proofs.Common.{◌≡◌, inl, inr, ℕ, ◌+◌, Option, Some, None, refl, sym, ap, ◌∙◌, arith}
use Rattle.std.specs.Prelude.{◌↔◌}
use Rattle.std.specs.Option.{option_map_or}
use Rattle.mn_base.specs.Among.{Among}
use Rattle.mn_base.specs.declared.due.Due.{Due}
use Rattle.journal.specs.declared.setup.PacketPlan.{PacketPlan}
use Rattle.journal.specs.declared.visit.Visit.{Visit}
use Rattle.journal.specs.declared.fate.Fate.{Fate}
use Rattle.journal.specs.SetupView.{SetupView}
use Rattle.journal.specs.IsSetup.{IsSetup}
use Rattle.journal.specs.Hops.{due_of, entry, next_hop}
use Rattle.journal.specs.IsJournal.{scheme_of}
use Rattle.journal.specs.Journal.{journal_of}
use Rattle.journal.specs.Fates.{fate_of_visit, fate_of}
use Rattle.journal.specs.Laws.{EndsWay}
use Rattle.parcel.specs.declared.note.Note.{Note}
use Rattle.parcel.specs.declared.note.Note.TheVariants.{Settle}
use Rattle.parcel.specs.Owners.{owner_of, entry_core}
use Rattle.parcel.specs.Windows.{window_of}
use Rattle.parcel.specs.Known.{Origin}
use Rattle.parcel.specs.Parcels.{arrive_note, IsNote}
use Rattle.parcel.specs.Told.{Told, told_due, told_after, told_by}
use Rattle.mn_base.proofs.Members.{Among-from-map}
use Rattle.pipe.proofs.Origins.{due_from-first, due_from-visit}
use Rattle.journal.proofs.Delays.{entry_parts, entry-is}
use Rattle.journal.proofs.Orderly.{IsGrowing, Origin as OriginOf, origin, first-due, visit-pipe}
use Rattle.journal.proofs.Meets.{meets, journal-grows}
use Rattle.journal.proofs.Packets.{packet-known}
use Rattle.journal.proofs.Count.{packet-of_visit}
use Rattle.journal.proofs.Ends.{end-last, fates_hold}
use Rattle.parcel.proofs.Origins.{Comes, comes, origin-first, origin-next, predecessor-follows, follower-predecessor}
use Rattle.parcel.proofs.Notes.{last-ends}

-- a visit of the sender in this window that has this note for the receiver
pub record IsSender (S : SetupView) (sender receiver window : ℕ) (note : Note) : Type 0 where
  pub visit : Visit
  pub among : Among visit (journal_of S)
  pub owner : owner_of S visit.pipe ≡ sender
  pub in_window : window_of S visit.tick ≡ window
  pub sends : told_by S visit ≡ record { receiver = receiver; note = note }

-- a packet that enters at the sender and comes to a pipe of the receiver first
pub record IsEntrant (S : SetupView) (sender receiver : ℕ) (note : Note) : Type 0 where
  pub plan : PacketPlan
  pub among : Among plan S.packets
  pub entered : plan.core ≡ sender
  pub due : Due
  pub first : entry S plan ≡ Some due
  pub sends : told_due S due ≡ record { receiver = receiver; note = note }

module _ (S : SetupView) (is : IsSetup S) where
  grows : IsGrowing S (journal_of S)
  grows = journal-grows S is

  -- the packet of a number enters at the core of its plan
  pub entry-core : (p : PacketPlan) → Among p S.packets → entry_core S p.number ≡ p.core
  entry-core p a = ap (λ (o : Option PacketPlan). option_map_or (λ q. q.core) o 0) (packet-known S is p a)

  -- what is due next, or at first, is visited
  pub next-visited : (u : Visit) (x : Due) → Among u (journal_of S) → next_hop S u ≡ Some x
      → (v : Visit) × Among v (journal_of S) × (due_of v ≡ x)
  next-visited u x a e =
      Among-from-map due_of x (journal_of S) ((meets S is).complete x (due_from-visit (scheme_of S) (journal_of S) u x a e))

  pub first-visited : (p : PacketPlan) (x : Due) → Among p S.packets → entry S p ≡ Some x
      → (v : Visit) × Among v (journal_of S) × (due_of v ≡ x)
  first-visited p x a e =
      Among-from-map due_of x (journal_of S)
      ((meets S is).complete x (due_from-first (scheme_of S) (journal_of S) x (first-due S p x (entry_parts S p x a e))))

  -- the note of a visit is that of the due visit that it was
  note-is : (v : Visit) → Among v (journal_of S)
      → told_due S (due_of v) ≡ record { receiver = owner_of S v.pipe; note = arrive_note v }
  note-is v a = ap (λ (q : ℕ). record { receiver = owner_of S q; note = arrive_note v }) (sym (visit-pipe S (journal_of S) v grows.made a))

  told_by-next : (u : Visit) (x : Due) → next_hop S u ≡ Some x → told_by S u ≡ told_due S x
  told_by-next u x e = ap (told_after S u) e

  told_by-last : (u : Visit) → next_hop S u ≡ None
      → told_by S u ≡ record { receiver = entry_core S u.packet; note = Settle u.packet (fate_of_visit u) }
  told_by-last u e = ap (told_after S u) e

  -- a note of a visit that follows, and back
  next_parcel-from : (sender receiver window : ℕ) (note : Note) → IsNote S sender receiver (window + 1) note
      → IsSender S sender receiver window note
  next_parcel-from sender receiver window note (inl w) = go (comes S is w.0 w.1.among)
    where
      go : Comes S w.0 → IsSender S sender receiver window note
      go (inl e) =
          let number : 0 ≡ window + 1 = sym (ap (λ (o : Origin). o.number) (origin-first S is w.0 e)) ∙ w.1.from_number in
          absurd (omega (arith, number))
      go (inr b) =
          let o = origin-next S is b.0 w.0 b.1 in
          let number : window_of S b.0.tick + 1 ≡ window + 1 = sym (ap (λ (x : Origin). x.number) o) ∙ w.1.from_number in
          let follows = predecessor-follows S is b.0 w.0 b.1 w.1.among in
          record {
            visit = b.0;
            among = b.1.among;
            owner = sym (ap (λ (x : Origin). x.core) o) ∙ w.1.from_core;
            in_window = omega (arith, number);
            sends = told_by-next b.0 (due_of w.0) follows ∙ note-is w.0 w.1.among
                ∙ ap (λ (k : ℕ). record { receiver = k; note = arrive_note w.0 }) w.1.owner
                ∙ ap (λ (m : Note). record { receiver = receiver; note = m }) w.2;
          }
  next_parcel-from sender receiver window note (inr q) =
      let d = q.1 in
      let e = last-ends S is q.0 d.last d.among d.is_last in
      let number : window_of S d.last.tick + 1 ≡ window + 1 = d.window in
      let core : entry_core S d.last.packet ≡ receiver = ap (entry_core S) e.packet ∙ entry-core q.0 d.among ∙ d.entered in
      let fate : fate_of_visit d.last ≡ fate_of S q.0 = sym ((fates_hold S is).by_end q.0 d.last e) in
      let told : Settle d.last.packet (fate_of_visit d.last) ≡ note =
      ap (λ (n : ℕ). Settle n (fate_of_visit d.last)) e.packet ∙ ap (λ (f : Fate). Settle q.0.number f) fate ∙ q.2 in
      record {
        visit = d.last;
        among = e.among;
        owner = d.owner;
        in_window = omega (arith, number);
        sends = told_by-last d.last e.last
            ∙ ap (λ (k : ℕ). record { receiver = k; note = Settle d.last.packet (fate_of_visit d.last) }) core
            ∙ ap (λ (m : Note). record { receiver = receiver; note = m }) told;
      }

  next_parcel-note : (sender receiver window : ℕ) (note : Note) → IsSender S sender receiver window note
      → IsNote S sender receiver (window + 1) note
  next_parcel-note sender receiver window note s = go (next_hop S s.visit) refl
    where
      go : (o : Option Due) → next_hop S s.visit ≡ o → IsNote S sender receiver (window + 1) note
      go (Some x) e =
          let w = next-visited s.visit x s.among e in
          let due : due_of w.0 ≡ x = w.2 in
          let i = follower-predecessor S is s.visit w.0 s.among (e ∙ ap Some (sym due)) in
          let o = origin-next S is s.visit w.0 i in
          let is_told : told_by S s.visit ≡ record { receiver = owner_of S w.0.pipe; note = arrive_note w.0 } =
          told_by-next s.visit x e ∙ ap (told_due S) (sym due) ∙ note-is w.0 w.1 in
          let both : record { receiver = owner_of S w.0.pipe; note = arrive_note w.0 } ≡ record { receiver = receiver; note = note } =
          sym is_told ∙ s.sends in
          inl (
            w.0,
            record {
              among = w.1;
              owner = ap (λ (t : Told). t.receiver) both;
              from_core = ap (λ (x : Origin). x.core) o ∙ s.owner;
              from_number = ap (λ (x : Origin). x.number) o ∙ ap (λ (n : ℕ). n + 1) s.in_window;
            },
            ap (λ (t : Told). t.note) both,
          )
      go None e =
          let p = packet-of_visit S is (journal_of S) grows s.visit s.among in
          let ends : EndsWay S p.0 s.visit = record { among = s.among; packet = sym p.2; last = e } in
          let fate : fate_of_visit s.visit ≡ fate_of S p.0 = sym ((fates_hold S is).by_end p.0 s.visit ends) in
          let both : record { receiver = entry_core S s.visit.packet; note = Settle s.visit.packet (fate_of_visit s.visit) }
          ≡ record { receiver = receiver; note = note } = sym (told_by-last s.visit e) ∙ s.sends in
          inr (
            p.0,
            record {
              among = p.1;
              entered = sym (entry-core p.0 p.1) ∙ ap (entry_core S) p.2 ∙ ap (λ (t : Told). t.receiver) both;
              last = s.visit;
              is_last = end-last S is p.0 s.visit ends;
              owner = s.owner;
              window = ap (λ (n : ℕ). n + 1) s.in_window;
            },
            ap (λ (n : ℕ). Settle n (fate_of S p.0)) p.2 ∙ ap (λ (f : Fate). Settle s.visit.packet f) (sym fate)
                ∙ ap (λ (t : Told). t.note) both,
          )

  -- the notes of a parcel after a window are those of the sender's visits in it
  pub next_parcel : (sender receiver window : ℕ) (note : Note)
      → IsNote S sender receiver (window + 1) note ↔ IsSender S sender receiver window note
  next_parcel sender receiver window note =
      (next_parcel-from sender receiver window note, next_parcel-note sender receiver window note)

  first_parcel-from : (sender receiver : ℕ) (note : Note) → IsNote S sender receiver 0 note → IsEntrant S sender receiver note
  first_parcel-from sender receiver note (inr q) = let number : window_of S q.1.last.tick + 1 ≡ 0 = q.1.window in absurd (omega (arith, number))
  first_parcel-from sender receiver note (inl w) = go (comes S is w.0 w.1.among)
    where
      go : Comes S w.0 → IsEntrant S sender receiver note
      go (inr b) =
          let number : window_of S b.0.tick + 1 ≡ 0 =
          sym (ap (λ (x : Origin). x.number) (origin-next S is b.0 w.0 b.1)) ∙ w.1.from_number in
          absurd (omega (arith, number))
      go (inl e) = start (origin S (journal_of S) (due_of w.0) (grows.sound w.0 w.1.among))
        where
          start : OriginOf S (journal_of S) (due_of w.0) → IsEntrant S sender receiver note
          start (inr m) =
              let hop : w.0.hop ≡ m.0.hop + 1 = ap (λ (d : Due). d.hop) m.2.is in
              absurd (omega (arith, hop, e))
          start (inl m) =
              let number : w.0.packet ≡ m.0.number = ap (λ (d : Due). d.packet) m.1.is in
              let core : entry_core S w.0.packet ≡ sender = sym (ap (λ (x : Origin). x.core) (origin-first S is w.0 e)) ∙ w.1.from_core in
              record {
                plan = m.0;
                among = m.1.among;
                entered = sym (entry-core m.0 m.1.among) ∙ ap (entry_core S) (sym number) ∙ core;
                due = due_of w.0;
                first = entry-is S m.0 (due_of w.0) m.1;
                sends = note-is w.0 w.1.among
                    ∙ ap (λ (k : ℕ). record { receiver = k; note = arrive_note w.0 }) w.1.owner
                    ∙ ap (λ (m : Note). record { receiver = receiver; note = m }) w.2;
              }

  first_parcel-note : (sender receiver : ℕ) (note : Note) → IsEntrant S sender receiver note → IsNote S sender receiver 0 note
  first_parcel-note sender receiver note i =
      let x = i.due in
      let w = first-visited i.plan x i.among i.first in
      let due : due_of w.0 ≡ i.due = w.2 in
      let entered = entry_parts S i.plan i.due i.among i.first in
      let hop : w.0.hop ≡ 0 = ap (λ (d : Due). d.hop) due ∙ ap (λ (d : Due). d.hop) entered.is in
      let number : w.0.packet ≡ i.plan.number = ap (λ (d : Due). d.packet) due ∙ ap (λ (d : Due). d.packet) entered.is in
      let o = origin-first S is w.0 hop in
      let both : record { receiver = owner_of S w.0.pipe; note = arrive_note w.0 } ≡ record { receiver = receiver; note = note } =
      sym (note-is w.0 w.1) ∙ ap (told_due S) due ∙ i.sends in
      inl (
        w.0,
        record {
          among = w.1;
          owner = ap (λ (t : Told). t.receiver) both;
          from_core = ap (λ (x : Origin). x.core) o ∙ ap (entry_core S) number ∙ entry-core i.plan i.among ∙ i.entered;
          from_number = ap (λ (x : Origin). x.number) o;
        },
        ap (λ (t : Told). t.note) both,
      )

  -- the notes of the first parcel are of the packets that enter at the sender and come to a pipe of the receiver first
  pub first_parcel : (sender receiver : ℕ) (note : Note) → IsNote S sender receiver 0 note ↔ IsEntrant S sender receiver note
  first_parcel sender receiver note = (first_parcel-from sender receiver note, first_parcel-note sender receiver note)
