-- A parcel is taken in: its arrivals come to be due, and the packets of which it tells the fates come to be decided.
use Rattle.std.proofs.Common.{◌≡◌, ◌≢◌, ◌⊎◌, inl, inr, ℕ, ◌+◌, ◌<◌, ◌≤◌, List, ap, subst, arith}
use Rattle.std.proofs.lemmas.Bool.{cases_eq, cases_lt}
use Rattle.std.specs.Prelude.{◌↔◌}
use Rattle.mn_base.specs.Among.{Among}
use Rattle.mn_base.specs.declared.due.Due.{Due}
use Rattle.journal.specs.declared.setup.PacketPlan.{PacketPlan}
use Rattle.journal.specs.declared.visit.Visit.{Visit}
use Rattle.journal.specs.SetupView.{SetupView}
use Rattle.journal.specs.IsSetup.{IsSetup}
use Rattle.journal.specs.Hops.{due_of}
use Rattle.parcel.specs.declared.note.Note.{Note}
use Rattle.parcel.specs.declared.note.Note.TheVariants.{Arrive, Settle}
use Rattle.parcel.specs.DueAt.{IsDueAt}
use Rattle.parcel.specs.Parcels.{IsArrival, IsDecided, IsNote}
use Rattle.parcel.proofs.Taking.{TakesOne, due-takes}
use Rattle.deadline_heap.specs.Canonical.{IsCanonical}
use Rattle.core_loop.specs.WorldState.{IsHeapAt, IsDecidedBy}

-- the note of a due visit
abbrev pub due_note : Due → Note
due_note x = Arrive x.packet x.hop x.tick

-- and back
abbrev pub due_in : Note → Due
due_in (Arrive packet hop tick) = record { tick = tick; packet = packet; hop = hop }
due_in (Settle packet fate) = record { tick = 0; packet = packet; hop = 0 }

module _ {S : SetupView} {core windows sender : ℕ} {old new : ℕ → ℕ} (is : IsSetup S) (takes : TakesOne old new sender)
    (other : sender ≢ core) (at : old sender ≡ windows) where
  due-more : (v : Visit) → IsDueAt S core windows new v ↔ (IsDueAt S core windows old v ⊎ IsArrival S sender core windows v)
  due-more v = due-takes S is core windows sender old new takes other at v

  -- the heap has what was due, and what arrives
  pub heap-takes : (notes : List Note) → ((note : Note) → Among note notes ↔ IsNote S sender core windows note)
      → {before after : List Due} → IsHeapAt S core windows old before → IsCanonical after
      → ((x : Due) → Among x after ↔ (Among x before ⊎ Among (due_note x) notes))
      → IsHeapAt S core windows new after
  heap-takes notes are {before} {after} h canonical members = record { canonical = canonical; members = λ x. (there x, back x) }
    where
      there : (x : Due) → Among x after → (v : Visit) × IsDueAt S core windows new v × (due_of v ≡ x)
      there x a = go ((members x).0 a)
        where
          note : IsNote S sender core windows (due_note x) → (v : Visit) × IsDueAt S core windows new v × (due_of v ≡ x)
          note (inl v) = (v.0, (due-more v.0).1 (inr v.1), due_is v.2)
            where
              due_is : Arrive v.0.packet v.0.hop v.0.tick ≡ Arrive x.packet x.hop x.tick → due_of v.0 ≡ x
              due_is e = ap due_in e
          note (inr p) = cc

          go : Among x before ⊎ Among (due_note x) notes → (v : Visit) × IsDueAt S core windows new v × (due_of v ≡ x)
          go (inl b) =
              let m = (h.members x).0 b in
              (m.0, (due-more m.0).1 (inl m.1), m.2)
          go (inr n) = note ((are (due_note x)).0 n)

      back : (x : Due) → (v : Visit) × IsDueAt S core windows new v × (due_of v ≡ x) → Among x after
      back x m = (members x).1 (go ((due-more m.0).0 m.1))
        where
          go : IsDueAt S core windows old m.0 ⊎ IsArrival S sender core windows m.0 → Among x before ⊎ Among (due_note x) notes
          go (inl d) = inl ((h.members x).1 (m.0, d, m.2))
          go (inr i) = inr ((are (due_note x)).1 (inl (m.0, i, ap due_note m.2)))

  -- a packet is decided now if it was, or if this parcel tells of it
  pub decided-takes : (p : PacketPlan)
      → IsDecidedBy S core windows new p ↔ (IsDecidedBy S core windows old p ⊎ IsDecided S sender core windows p)
  decided-takes p = (there, back)
    where
      here : new sender ≡ windows + 1
      here = let e : new sender ≡ old sender + 1 = takes.here in omega (arith, e, at)

      there : IsDecidedBy S core windows new p → IsDecidedBy S core windows old p ⊎ IsDecided S sender core windows p
      there (inl r) = inl (inl r)
      there (inr (inl o)) = inl (inr (inl o))
      there (inr (inr t)) = go (cases_eq t.0 sender)
        where
          l : t.1 < new t.0
          l = t.3

          go : (t.0 ≡ sender) ⊎ (t.0 ≢ sender) → IsDecidedBy S core windows old p ⊎ IsDecided S sender core windows p
          go (inr n) =
              let e : new t.0 ≡ old t.0 = takes.others t.0 n in
              inl (inr (inr (t.0, t.1, t.2, omega (arith, l, e), t.4)))
          go (inl s) = split (cases_lt t.1 windows)
            where
              e : new t.0 ≡ new sender
              e = ap new s

              f : old t.0 ≡ old sender
              f = ap old s

              split : (t.1 < windows) ⊎ (windows ≤ t.1) → IsDecidedBy S core windows old p ⊎ IsDecided S sender core windows p
              split (inl early) = inl (inr (inr (t.0, t.1, t.2, omega (arith, early, f, at), t.4)))
              split (inr late) =
                  let n : t.1 ≡ windows = omega (arith, late, l, e, here) in
                  inr (subst (λ (k : ℕ). IsDecided S k core windows p) s (subst (λ (k : ℕ). IsDecided S t.0 core k p) n t.4))

      back : IsDecidedBy S core windows old p ⊎ IsDecided S sender core windows p → IsDecidedBy S core windows new p
      back (inl (inl r)) = inl r
      back (inl (inr (inl o))) = inr (inl o)
      back (inl (inr (inr t))) = inr (inr (t.0, t.1, t.2, more (cases_eq t.0 sender), t.4))
        where
          l : t.1 < old t.0
          l = t.3

          more : (t.0 ≡ sender) ⊎ (t.0 ≢ sender) → t.1 < new t.0
          more (inr n) = let e : new t.0 ≡ old t.0 = takes.others t.0 n in omega (arith, l, e)
          more (inl s) =
              let e : new t.0 ≡ new sender = ap new s in
              let f : old t.0 ≡ old sender = ap old s in
              omega (arith, l, e, f, here, at)
      back (inr d) = inr (inr (sender, windows, other, omega (arith, here), d))

-- with one window more run, the packets of which the core itself has made the last visit in it are decided, too
pub decided-runs : (S : SetupView) (core windows : ℕ) (taken : ℕ → ℕ) (p : PacketPlan)
    → IsDecidedBy S core (windows + 1) taken p ↔ (IsDecidedBy S core windows taken p ⊎ IsDecided S core core (windows + 1) p)
decided-runs S core windows taken p = (there, back)
  where
    there : IsDecidedBy S core (windows + 1) taken p → IsDecidedBy S core windows taken p ⊎ IsDecided S core core (windows + 1) p
    there (inl r) = inl (inl r)
    there (inr (inr t)) = inl (inr (inr t))
    there (inr (inl o)) = go (cases_lt o.0 (windows + 1))
      where
        l : o.0 ≤ windows + 1
        l = o.1

        go : (o.0 < windows + 1) ⊎ (windows + 1 ≤ o.0) → IsDecidedBy S core windows taken p ⊎ IsDecided S core core (windows + 1) p
        go (inl early) = inl (inr (inl (o.0, omega (arith, early), o.2)))
        go (inr late) = let n : o.0 ≡ windows + 1 = omega (arith, late, l) in inr (subst (λ (k : ℕ). IsDecided S core core k p) n o.2)

    back : IsDecidedBy S core windows taken p ⊎ IsDecided S core core (windows + 1) p → IsDecidedBy S core (windows + 1) taken p
    back (inl (inl r)) = inl r
    back (inl (inr (inr t))) = inr (inr t)
    back (inl (inr (inl o))) = let l : o.0 ≤ windows = o.1 in inr (inl (o.0, omega (arith, l), o.2))
    back (inr d) = inr (inl (windows + 1, omega arith, d))
