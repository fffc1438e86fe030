-- A packet has at most one note in a parcel, so a parcel's notes rise strictly, and there is one parcel of each number.
use Rattle.std.proofs.Common.{◌≡◌, ◌≢◌, ◌⊎◌, inl, inr, ℕ, ◌+◌, ◌<◌, ◌≤◌, ◌==◌, List, length, reverse, Option, Some, None, sym, ap, ◌∙◌, subst, arith, eqb-true}
use Rattle.std.proofs.lemmas.Bool.{cases_order, cases_lt}
use Rattle.mn_base.specs.Among.{Among}
use Rattle.journal.specs.declared.setup.PacketPlan.{PacketPlan}
use Rattle.journal.specs.declared.visit.Visit.{Visit}
use Rattle.journal.specs.SetupView.{SetupView, route_of}
use Rattle.journal.specs.IsSetup.{IsSetup}
use Rattle.journal.specs.Hops.{due_of, next_hop}
use Rattle.journal.specs.IsJournal.{scheme_of}
use Rattle.journal.specs.Journal.{journal_of}
use Rattle.journal.specs.Fates.{last_visit}
use Rattle.journal.specs.Laws.{EndsWay}
use Rattle.parcel.specs.declared.note.Note.{Note}
use Rattle.parcel.specs.Owners.{owner_of}
use Rattle.parcel.specs.Windows.{window_of}
use Rattle.parcel.specs.Known.{Origin, origin_of}
use Rattle.parcel.specs.Parcels.{IsArrival, IsDecided, arrive_note, settle_note, IsNote, note_tick, note_packet, NoteBefore}
use Rattle.parcel.specs.Laws.{NotesDiffer, ParcelsAreOne}
use Rattle.mn_base.proofs.Members.{Among-find, Among-reverse}
use Rattle.pipe.proofs.Growing.{one_visit, earlier, follows}
use Rattle.journal.proofs.Orderly.{IsGrowing, orderly, one_packet}
use Rattle.journal.proofs.Meets.{journal-grows}
use Rattle.journal.proofs.Count.{hop-within}
use Rattle.journal.proofs.Ends.{hops_are_later, ways_end, end-last}
use Rattle.parcel.proofs.InOrder.{same_list}
use Rattle.parcel.proofs.WindowLaws.{window-rises}
use Rattle.parcel.proofs.Origins.{Comes, comes, origin-next}
use Rattle.parcel.proofs.Crossings.{lookahead_holds}
use Rattle.parcel.proofs.Leasts.{one_least}

module _ (S : SetupView) (is : IsSetup S) where
  grows : IsGrowing S (journal_of S)
  grows = journal-grows S is

  -- a visit of a packet to the same hop or a later one isn't earlier
  pub hops-order : (v w : Visit) → Among v (journal_of S) → Among w (journal_of S) → v.packet ≡ w.packet → v.hop ≤ w.hop → v.tick ≤ w.tick
  hops-order v w a b p l = go (cases_order v.hop w.hop)
    where
      go : (v.hop ≡ w.hop) ⊎ ((v.hop < w.hop) ⊎ (w.hop < v.hop)) → v.tick ≤ w.tick
      go (inl e) =
          let same : v ≡ w = one_visit (scheme_of S) (orderly S is) (journal_of S) grows v w a b p e in
          let ticks : v.tick ≡ w.tick = ap (λ (u : Visit). u.tick) same in
          omega (arith, ticks)
      go (inr (inl m)) = let t : v.tick < w.tick = hops_are_later S is v w a b p m in omega (arith, t)
      go (inr (inr m)) = absurd (omega arith)

  -- the last visit of a packet ends its way
  pub last-ends : (p : PacketPlan) (x : Visit) → Among p S.packets → last_visit (journal_of S) p.number ≡ Some x → EndsWay S p x
  last-ends p x a e =
      let f = Among-find (λ (u : Visit). u.packet == p.number) x (reverse (journal_of S)) e in
      let number : x.packet ≡ p.number = eqb-true _ _ f.1 in
      let within : x.hop < length (route_of S x.packet) = hop-within S is (journal_of S) grows x (Among-reverse x (journal_of S) f.0) in
      let route : length (route_of S x.packet) ≡ length (route_of S p.number) = ap (λ (n : ℕ). length (route_of S n)) number in
      let w = ways_end S is p a (omega (arith, within, route)) in
      let both : Some w.0 ≡ Some x = sym (end-last S is p w.0 w.1) ∙ e in
      let same : w.0 ≡ x = cc in
      subst (λ (u : Visit). EndsWay S p u) same w.1

  -- and no visit of the packet is after it
  pub end-latest : (p : PacketPlan) (x v : Visit) → EndsWay S p x → Among v (journal_of S) → v.packet ≡ p.number → v.tick ≤ x.tick
  end-latest p x v e a n = go (cases_lt x.hop v.hop)
    where
      go : (x.hop < v.hop) ⊎ (v.hop ≤ x.hop) → v.tick ≤ x.tick
      go (inr l) = hops-order v x a e.among (n ∙ sym e.packet) l
      go (inl l) =
          let u = earlier (scheme_of S) (orderly S is) (journal_of S) grows (x.hop + 1) v a (omega arith) in
          let next : next_hop S x ≡ Some (due_of u.visit) =
          follows (scheme_of S) (orderly S is) (journal_of S) grows x u.visit e.among u.among (e.packet ∙ sym n ∙ sym u.packet) u.at in
          let clash : None ≡ Some (due_of u.visit) = sym e.last ∙ next in
          cc

  -- an arrival isn't in a window before its parcel's number
  pub arrival-late : (sender receiver number : ℕ) (v : Visit) → sender ≢ receiver → IsArrival S sender receiver number v
      → number ≤ window_of S v.tick
  arrival-late sender receiver number v other i =
      let l : (origin_of S v).number ≤ window_of S v.tick =
      lookahead_holds S is v i.among (λ same. other (sym i.from_core ∙ same ∙ i.owner)) in
      let e : (origin_of S v).number ≡ number = i.from_number in
      omega (arith, l, e)

  -- no packet arrives twice by one parcel
  arrivals-apart : (sender receiver number : ℕ) (v w : Visit) → sender ≢ receiver → IsArrival S sender receiver number v
      → IsArrival S sender receiver number w → v.packet ≡ w.packet → v.hop < w.hop → ⊥
  arrivals-apart sender receiver number v w other i j p l = go (comes S is w j.among)
    where
      go : Comes S w → ⊥
      go (inl e) = omega (arith, e, l)
      go (inr b) =
          let o = origin-next S is b.0 w b.1 in
          let core : owner_of S b.0.pipe ≡ sender = sym (ap (λ (x : Origin). x.core) o) ∙ j.from_core in
          let window : window_of S b.0.tick + 1 ≡ number = sym (ap (λ (x : Origin). x.number) o) ∙ j.from_number in
          let hop : w.hop ≡ b.0.hop + 1 = b.1.hop in
          let early : v.tick ≤ b.0.tick = hops-order v b.0 i.among b.1.among (p ∙ sym b.1.packet) (omega (arith, l, hop)) in
          let rises : window_of S v.tick ≤ window_of S b.0.tick = window-rises S v.tick b.0.tick early in
          let late : number ≤ window_of S v.tick = arrival-late sender receiver number v other i in
          omega (arith, rises, late, window)

  arrivals-same : (sender receiver number : ℕ) (v w : Visit) → sender ≢ receiver → IsArrival S sender receiver number v
      → IsArrival S sender receiver number w → v.packet ≡ w.packet → v ≡ w
  arrivals-same sender receiver number v w other i j p = go (cases_order v.hop w.hop)
    where
      go : (v.hop ≡ w.hop) ⊎ ((v.hop < w.hop) ⊎ (w.hop < v.hop)) → v ≡ w
      go (inl e) = one_visit (scheme_of S) (orderly S is) (journal_of S) grows v w i.among j.among p e
      go (inr (inl l)) = absurd (arrivals-apart sender receiver number v w other i j p l)
      go (inr (inr l)) = absurd (arrivals-apart sender receiver number w v other j i (sym p) l)

  -- nor does one arrive whose way has ended
  ended-absent : (sender receiver number : ℕ) (v : Visit) (q : PacketPlan) → sender ≢ receiver → IsArrival S sender receiver number v
      → IsDecided S sender receiver number q → v.packet ≡ q.number → ⊥
  ended-absent sender receiver number v q other i d p =
      let early : v.tick ≤ d.last.tick = end-latest q d.last v (last-ends q d.last d.among d.is_last) i.among p in
      let rises : window_of S v.tick ≤ window_of S d.last.tick = window-rises S v.tick d.last.tick early in
      let late : number ≤ window_of S v.tick = arrival-late sender receiver number v other i in
      let window : window_of S d.last.tick + 1 ≡ number = d.window in
      omega (arith, rises, late, window)

  pub notes_differ : NotesDiffer S
  notes_differ sender receiver number a b other m n p = go m n
    where
      go : IsNote S sender receiver number a → IsNote S sender receiver number b → a ≡ b
      go (inl v) (inl w) =
          let packets : v.0.packet ≡ w.0.packet = ap note_packet v.2 ∙ p ∙ sym (ap note_packet w.2) in
          sym v.2 ∙ ap arrive_note (arrivals-same sender receiver number v.0 w.0 other v.1 w.1 packets) ∙ w.2
      go (inl v) (inr q) =
          let packets : v.0.packet ≡ q.0.number = ap note_packet v.2 ∙ p ∙ sym (ap note_packet q.2) in
          absurd (ended-absent sender receiver number v.0 q.0 other v.1 q.1 packets)
      go (inr q) (inl v) =
          let packets : v.0.packet ≡ q.0.number = ap note_packet v.2 ∙ sym p ∙ sym (ap note_packet q.2) in
          absurd (ended-absent sender receiver number v.0 q.0 other v.1 q.1 packets)
      go (inr q) (inr r) =
          let numbers : q.0.number ≡ r.0.number = ap note_packet q.2 ∙ p ∙ sym (ap note_packet r.2) in
          sym q.2 ∙ ap (settle_note S) (one_packet S is q.0 r.0 q.1.among r.1.among numbers) ∙ r.2

  note-before-never_both : (a b : Note) → NoteBefore a b → NoteBefore b a → ⊥
  note-before-never_both a b (inl l) (inl m) = omega arith
  note-before-never_both a b (inl l) (inr m) = let e : note_tick b ≡ note_tick a = m.0 in omega arith
  note-before-never_both a b (inr l) (inl m) = let e : note_tick a ≡ note_tick b = l.0 in omega arith
  note-before-never_both a b (inr l) (inr m) =
      let here : note_packet a < note_packet b = l.1 in let back : note_packet b < note_packet a = m.1 in omega arith

  pub parcels_are_one : ParcelsAreOne S
  parcels_are_one sender receiver number p q i j =
      let notes : p.notes ≡ q.notes =
      same_list NoteBefore note-before-never_both p.notes q.notes i.rises j.rises
      (λ m a. (j.notes m).1 ((i.notes m).0 a)) (λ m a. (i.notes m).1 ((j.notes m).0 a)) in
      let least : p.least ≡ q.least = one_least S is sender number p.least q.least i.least j.least in
      ap (λ (l : List Note). record { notes = l; least = p.least }) notes
      ∙ ap (λ (o : Option ℕ). record { notes = q.notes; least = o }) least
