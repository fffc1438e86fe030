-- Where the knowledge of a visit comes from: a first visit has no predecessor, and any other has the visit before it on the packet's way.
use Rattle.std.proofs.Common.{◌≡◌, ◌⊎◌, inl, inr, ℕ, zero, suc, ◌+◌, ◌<◌, ◌==◌, ◌&&◌, false, List, length, Option, Some, None, slice_index, refl, sym, ap, ◌∙◌, subst, arith, eqb-true, eq-eqb, All}
use Rattle.std.proofs.lemmas.Bool.{and_from, and_parts, and_right, ne_eqb}
use Rattle.std.specs.Option.{option_map_or}
use Rattle.mn_base.specs.Among.{Among}
use Rattle.mn_base.specs.declared.due.Due.{Due}
use Rattle.journal.specs.declared.setup.PacketPlan.{PacketPlan}
use Rattle.journal.specs.declared.visit.Visit.{Visit}
use Rattle.journal.specs.SetupView.{SetupView, packet_of, route_of}
use Rattle.journal.specs.IsSetup.{IsSetup}
use Rattle.journal.specs.Hops.{due_of, next_hop}
use Rattle.journal.specs.IsJournal.{scheme_of}
use Rattle.journal.specs.Journal.{journal_of}
use Rattle.parcel.specs.Owners.{owner_of, entry_core}
use Rattle.parcel.specs.Windows.{window_of}
use Rattle.parcel.specs.Known.{Origin, predecessor, origin_behind, origin_of}
use Rattle.mn_base.proofs.Members.{Among-find, find-some, find-none, All-Among}
use Rattle.pipe.proofs.Growing.{one_visit, earlier, follows}
use Rattle.journal.proofs.Orderly.{IsGrowing, orderly, visit-pipe}
use Rattle.journal.proofs.Delays.{next_parts}
use Rattle.journal.proofs.Meets.{journal-grows}
use Rattle.journal.proofs.Packets.{packet-known, packet-route}
use Rattle.journal.proofs.Count.{hop-within, packet-of_visit}

-- u is the visit before v on the packet's way
pub record IsPredecessor (S : SetupView) (u v : Visit) : Type 0 where
  pub among : Among u (journal_of S)
  pub packet : u.packet ≡ v.packet
  pub hop : v.hop ≡ u.hop + 1

-- a visit is the first of its packet, or has a predecessor
abbrev pub Comes : SetupView → Visit → Type 0
Comes S v = (v.hop ≡ 0) ⊎ ((u : Visit) × IsPredecessor S u v)

module _ (S : SetupView) (is : IsSetup S) where
  grows : IsGrowing S (journal_of S)
  grows = journal-grows S is

  pub comes : (v : Visit) → Among v (journal_of S) → Comes S v
  comes v a = go v.hop refl
    where
      go : (h : ℕ) → v.hop ≡ h → Comes S v
      go zero e = inl e
      go (suc h) e =
          let u = earlier (scheme_of S) (orderly S is) (journal_of S) grows h v a (omega (arith, e)) in
          let at : u.visit.hop ≡ h = u.at in
          inr (u.visit, record { among = u.among; packet = u.packet; hop = omega (arith, e, at) })

  pub predecessor-first : (v : Visit) → v.hop ≡ 0 → predecessor S v ≡ None
  predecessor-first v e = find-none (λ (u : Visit). (u.packet == v.packet) && (u.hop + 1 == v.hop)) (journal_of S) none
    where
      none : (u : Visit) → Among u (journal_of S) → ((u.packet == v.packet) && (u.hop + 1 == v.hop)) ≡ false
      none u a = and_right (u.packet == v.packet) (u.hop + 1 == v.hop) (ne_eqb (u.hop + 1) v.hop (λ same. omega (arith, e, same)))

  pub predecessor-is : (u v : Visit) → IsPredecessor S u v → predecessor S v ≡ Some u
  predecessor-is u v i =
      let test = λ (w : Visit). (w.packet == v.packet) && (w.hop + 1 == v.hop) in
      let hop : v.hop ≡ u.hop + 1 = i.hop in
      let f = find-some test u (journal_of S) i.among (and_from _ _ (eq-eqb _ _ i.packet) (eq-eqb _ _ (sym hop))) in
      let w = Among-find test f.0 (journal_of S) f.1 in
      let t = and_parts (f.0.packet == v.packet) (f.0.hop + 1 == v.hop) w.1 in
      let at : f.0.hop + 1 ≡ v.hop = eqb-true _ _ t.1 in
      let same : f.0 ≡ u =
      one_visit (scheme_of S) (orderly S is) (journal_of S) grows f.0 u w.0 i.among (eqb-true _ _ t.0 ∙ sym i.packet) (omega (arith, at, hop)) in
      f.1 ∙ ap Some same

  -- a first visit is known at its packet's entry, from the start
  pub origin-first : (v : Visit) → v.hop ≡ 0 → origin_of S v ≡ record { core = entry_core S v.packet; number = 0 }
  unfolding origin_of
  origin-first v e = ap (origin_behind S v) (predecessor-first v e)

  -- any other is known to the owner of its predecessor, once that one's window is run
  pub origin-next : (u v : Visit) → IsPredecessor S u v
      → origin_of S v ≡ record { core = owner_of S u.pipe; number = window_of S u.tick + 1 }
  unfolding origin_of
  origin-next u v i = ap (origin_behind S v) (predecessor-is u v i)

  -- what follows a visit has it as its predecessor, and back
  pub predecessor-follows : (u v : Visit) → IsPredecessor S u v → Among v (journal_of S) → next_hop S u ≡ Some (due_of v)
  predecessor-follows u v i a = follows (scheme_of S) (orderly S is) (journal_of S) grows u v i.among a i.packet i.hop

  pub follower-predecessor : (u v : Visit) → Among u (journal_of S) → next_hop S u ≡ Some (due_of v) → IsPredecessor S u v
  follower-predecessor u v a e =
      let n = next_parts S u (due_of v) e in
      record { among = a; packet = sym (ap (λ (d : Due). d.packet) n.is); hop = ap (λ (d : Due). d.hop) n.is }

  -- visits are to pipes that the setup has
  pub visit-named : (v : Visit) → Among v (journal_of S) → v.pipe < length S.pipes
  visit-named v a =
      let p = packet-of_visit S is (journal_of S) grows v a in
      let r = packet-route S is p.0 (packet-known S is p.0 p.1) in
      let within : v.hop < length (route_of S v.packet) = hop-within S is (journal_of S) grows v a in
      let named : All (λ (q : ℕ). q < length S.pipes) (route_of S v.packet) =
      subst (λ (n : ℕ). All (λ (q : ℕ). q < length S.pipes) (route_of S n)) p.2
      (subst (λ (l : List ℕ). All (λ (q : ℕ). q < length S.pipes) l) r.is r.named) in
      let here : slice_index (route_of S v.packet) v.hop < length S.pipes = named v.hop 0 within in
      let at : v.pipe ≡ slice_index (route_of S v.packet) v.hop = visit-pipe S (journal_of S) v grows.made a in
      omega (arith, here, at)

  pub owner-below : (v : Visit) → Among v (journal_of S) → owner_of S v.pipe < S.cores
  owner-below v a =
      let n : v.pipe < length S.pipes = visit-named v a in
      let e : length S.owners ≡ length S.pipes = is.one_owner in
      is.owners v.pipe 0 (omega (arith, n, e))

  pub entry-below : (v : Visit) → Among v (journal_of S) → entry_core S v.packet < S.cores
  entry-below v a =
      let p = packet-of_visit S is (journal_of S) grows v a in
      let known : packet_of S v.packet ≡ Some p.0 = subst (λ (n : ℕ). packet_of S n ≡ Some p.0) p.2 (packet-known S is p.0 p.1) in
      let core : p.0.core < S.cores = All-Among (λ (q : PacketPlan). q.core < S.cores) p.0 S.packets is.packet_cores p.1 in
      let same : entry_core S v.packet ≡ p.0.core = ap (λ (o : Option PacketPlan). option_map_or (λ q. q.core) o 0) known in
      omega (arith, core, same)

  pub origin-below : (v : Visit) → Among v (journal_of S) → (origin_of S v).core < S.cores
  origin-below v a = go (comes v a)
    where
      go : Comes S v → (origin_of S v).core < S.cores
      go (inl e) = subst (λ (o : Origin). o.core < S.cores) (sym (origin-first v e)) (entry-below v a)
      go (inr b) = subst (λ (o : Origin). o.core < S.cores) (sym (origin-next b.0 v b.1)) (owner-below b.0 b.1.among)
