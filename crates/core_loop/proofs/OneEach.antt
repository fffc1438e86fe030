-- The visits of a journal and the packets of a setup differ, and so do the notes that the visits have to tell.
use Rattle.std.proofs.Common.{◌≡◌, ◌+◌, slice_index_or, Option, Some, None, refl, sym, ap, ◌∙◌, subst, arith}
use Rattle.mn_base.specs.Among.{Among}
use Rattle.mn_base.specs.Canonical.{Before}
use Rattle.mn_base.specs.declared.due.Due.{Due}
use Rattle.journal.specs.declared.setup.PacketPlan.{PacketPlan}
use Rattle.journal.specs.declared.visit.Visit.{Visit}
use Rattle.journal.specs.SetupView.{SetupView}
use Rattle.journal.specs.IsSetup.{IsSetup}
use Rattle.journal.specs.Hops.{due_of, next_hop}
use Rattle.journal.specs.IsJournal.{scheme_of}
use Rattle.journal.specs.Journal.{journal_of}
use Rattle.journal.specs.Fates.{fate_of_visit}
use Rattle.journal.specs.Laws.{EndsWay}
use Rattle.parcel.specs.declared.note.Note.TheVariants.{Arrive, Settle}
use Rattle.parcel.specs.Parcels.{note_packet}
use Rattle.parcel.specs.Told.{Told, told_due, told_after, told_by}
use Rattle.pipe.proofs.CanonicalOrder.{before-irreflexive}
use Rattle.pipe.proofs.Growing.{one_visit}
use Rattle.journal.proofs.Orderly.{orderly}
use Rattle.journal.proofs.Meets.{journal-grows}
use Rattle.journal.proofs.Delays.{next_parts}
use Rattle.journal.proofs.Count.{packet-of_visit}
use Rattle.journal.proofs.Ends.{visits_rise, one_end}
use Rattle.core_loop.proofs.Differ.{AllDiffer, differ-from}

module _ (S : SetupView) (is : IsSetup S) where
  pub visits-differ : AllDiffer (journal_of S)
  visits-differ =
      differ-from (journal_of S) (λ i j d lt within same. before-irreflexive (due_of (slice_index_or (journal_of S) j d))
      (subst (λ (v : Visit). Before (due_of v) (due_of (slice_index_or (journal_of S) j d))) same (visits_rise S is i j d lt within)))

  pub packets-differ : AllDiffer S.packets
  packets-differ =
      differ-from S.packets (λ i j d lt within same.
      let rises = is.numbers_rise i j d lt within in
      let numbers = ap (λ (p : PacketPlan). p.number) same in
      omega (arith, rises, numbers))

  -- of two visits with one note one is the other
  pub told-differ : (u w : Visit) → Among u (journal_of S) → Among w (journal_of S) → told_by S u ≡ told_by S w → u ≡ w
  told-differ u w a b e = go (next_hop S u) refl (next_hop S w) refl
    where
      go : (o : Option Due) → next_hop S u ≡ o → (q : Option Due) → next_hop S w ≡ q → u ≡ w
      go (Some x) f (Some y) g =
          let both : told_due S x ≡ told_due S y = sym (ap (told_after S u) f) ∙ e ∙ ap (told_after S w) g in
          let notes : Arrive x.packet x.hop x.tick ≡ Arrive y.packet y.hop y.tick = ap (λ (t : Told). t.note) both in
          let packets : x.packet ≡ y.packet = cc in
          let hops : x.hop ≡ y.hop = cc in
          let n = next_parts S u x f in
          let m = next_parts S w y g in
          let at_x : x.hop ≡ u.hop + 1 = ap (λ (d : Due). d.hop) n.is in
          let at_y : y.hop ≡ w.hop + 1 = ap (λ (d : Due). d.hop) m.is in
          one_visit (scheme_of S) (orderly S is) (journal_of S) (journal-grows S is) u w a b
          (sym (ap (λ (d : Due). d.packet) n.is) ∙ packets ∙ ap (λ (d : Due). d.packet) m.is)
          (omega (arith, hops, at_x, at_y))
      go None f None g =
          let both : told_after S u None ≡ told_after S w None = sym (ap (told_after S u) f) ∙ e ∙ ap (told_after S w) g in
          let packets : u.packet ≡ w.packet = ap (λ (t : Told). note_packet t.note) both in
          let p = packet-of_visit S is (journal_of S) (journal-grows S is) w b in
          let ends : EndsWay S p.0 u = record { among = a; packet = packets ∙ sym p.2; last = f } in
          let also : EndsWay S p.0 w = record { among = b; packet = sym p.2; last = g } in
          one_end S is p.0 w u also ends
      go (Some x) f None g =
          let both : told_due S x ≡ told_after S w None = sym (ap (told_after S u) f) ∙ e ∙ ap (told_after S w) g in
          let notes : Arrive x.packet x.hop x.tick ≡ Settle w.packet (fate_of_visit w) = ap (λ (t : Told). t.note) both in
          cc
      go None f (Some y) g =
          let both : told_after S u None ≡ told_due S y = sym (ap (told_after S u) f) ∙ e ∙ ap (told_after S w) g in
          let notes : Settle u.packet (fate_of_visit u) ≡ Arrive y.packet y.hop y.tick = ap (λ (t : Told). t.note) both in
          cc
