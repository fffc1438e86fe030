-- The least tick that a core gives with its parcels: of what is due there, and of what it tells others to run.
use Rattle.std.proofs.Common.{◌≡◌, ◌≢◌, ◌⊎◌, inl, inr, ℕ, List, Option, Some, None, refl, ap, ◌∙◌}
use Rattle.std.specs.Prelude.{◌↔◌}
use Rattle.mn_base.specs.Among.{Among}
use Rattle.mn_base.specs.declared.due.Due.{Due}
use Rattle.journal.specs.declared.visit.Visit.{Visit}
use Rattle.journal.specs.SetupView.{SetupView}
use Rattle.journal.specs.IsSetup.{IsSetup}
use Rattle.journal.specs.Hops.{due_of}
use Rattle.parcel.specs.declared.note.Note.{Note}
use Rattle.parcel.specs.declared.note.Note.TheVariants.{Arrive}
use Rattle.parcel.specs.Known.{IsKnown, IsLeastKnown}
use Rattle.parcel.specs.Parcels.{IsNote, arrive_note, note_tick}
use Rattle.parcel.specs.Told.{Told}
use Rattle.parcel.proofs.Due.{IsKnownBy, known-by, known-from}
use Rattle.core_loop.specs.WorldState.{IsHeapAt}
use Rattle.core_loop.specs.Trading.{IsLeastBy}
use Rattle.core_loop.specs.Handing.{IsDueTick, IsToldTick}

module _ (S : SetupView) (is : IsSetup S) (core number : ℕ) (heap : List Due) (told : List Told)
    (due : IsHeapAt S core number (λ other. number) heap)
    (notes : (receiver : ℕ) (note : Note) → receiver ≢ core
    → Among (record { receiver = receiver; note = note }) told ↔ IsNote S core receiver number note) where
  known-tick : (t : ℕ) → IsDueTick heap t ⊎ IsToldTick core told t → (v : Visit) × IsKnown S core number v × (v.tick ≡ t)
  known-tick t (inl m) =
      let v = (due.members m.0).0 m.1 in
      (v.0, known-from S is core number v.0 (inl v.1), ap (λ (x : Due). x.tick) v.2 ∙ m.2)
  known-tick t (inr m) = go ((notes m.0 (Arrive m.2.0 m.2.1 t) m.1).0 m.2.2)
    where
      go : IsNote S core m.0 number (Arrive m.2.0 m.2.1 t) → (v : Visit) × IsKnown S core number v × (v.tick ≡ t)
      go (inl v) = (v.0, known-from S is core number v.0 (inr (m.0, m.1, v.1)), ap note_tick v.2)
      go (inr p) = cc

  tick-known : (v : Visit) → IsKnown S core number v → IsDueTick heap v.tick ⊎ IsToldTick core told v.tick
  tick-known v k = go (known-by S is core number v k)
    where
      go : IsKnownBy S core number v → IsDueTick heap v.tick ⊎ IsToldTick core told v.tick
      go (inl d) = inl (due_of v, (due.members (due_of v)).1 (v, d, refl), refl)
      go (inr t) = inr (t.0, t.1, (v.packet, v.hop, (notes t.0 (arrive_note v) t.1).1 (inl (v, t.2, refl))))

  pub least-known : (least : Option ℕ) → IsLeastBy (λ t. IsDueTick heap t ⊎ IsToldTick core told t) least → IsLeastKnown S core number least
  least-known None l = λ v k. l v.tick (tick-known v k)
  least-known (Some tick) l = (known-tick tick l.0, λ v k. l.1 v.tick (tick-known v k))
