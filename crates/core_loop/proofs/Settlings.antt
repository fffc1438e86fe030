-- One packet more is settled.
use Rattle.std.proofs.Common.{◌≡◌, ◌≢◌, ◌⊎◌, inl, inr, ⊎_elim, ℕ, ◌<◌, Bool, cond, List, [], ◌∷◌, ◌++◌, length, map, slice_index_or, Option, Some, None, AllPairs, eq-eqb, refl, sym, ap, ◌∙◌, subst}
use Rattle.std.specs.Prelude.{◌↔◌, IsSome}
use Rattle.std.specs.Ordering.{nat_cmp}
use Rattle.std.specs.Cmp.{nat_cmp_total}
use Rattle.std.specs.FinMap as fin
use Rattle.std.proofs.lemmas.Bool.{cases_eq, ne_eqb, false≢true}
use Rattle.std.proofs.lemmas.List.{map-append}
use Rattle.std.proofs.lemmas.List.Quantifiers.{all_pairs_push}
use Rattle.mn_base.specs.Among.{Among}
use Rattle.journal.specs.declared.setup.PacketPlan.{PacketPlan}
use Rattle.journal.specs.SetupView.{SetupView}
use Rattle.journal.specs.Fates.{fate_of}
use Rattle.parcel.specs.declared.core_result.Settled.{Settled}
use Rattle.parcel.specs.Results.{packet_bytes, bytes_by_fate, IsSettled}
use Rattle.payload_store.proofs.Held.{same_test}
use Rattle.core_loop.specs.Stocked.{Enters}
use Rattle.core_loop.specs.WorldState.{AreSettled}
use Rattle.core_loop.specs.Work.{EntrantsView, Settling}
use Rattle.mn_base.proofs.Members.{Among-append-left, Among-append-right, Among-map, Among-push, Among-index}

-- a map without a key
pub get-other : (m : fin.FinMap nat_cmp (List ℕ)) (k q : ℕ) → q ≢ k → fin.get (fin.remove m k) q ≡ fin.get m q
get-other m k q other =
    fin.get-remove nat_cmp_total m k q ∙ ap (λ (b : Bool). cond b None (fin.get m q)) (same_test q k ∙ ne_eqb q k other)

get-removed : (m : fin.FinMap nat_cmp (List ℕ)) (k : ℕ) → fin.get (fin.remove m k) k ≡ None
get-removed m k =
    fin.get-remove nat_cmp_total m k k ∙ ap (λ (b : Bool). cond b None (fin.get m k)) (same_test k k ∙ eq-eqb k k refl)

module _ (S : SetupView) (bytes : List (List ℕ)) (core : ℕ) (D E : PacketPlan → Type 0) (old new : EntrantsView) (p : PacketPlan) where
  -- a packet that is not settled yet has its payload held
  pub still-held : AreSettled S bytes core D old.settled old.store → Enters S core p → (Among p.number old.store.released → ⊥)
      → IsSome (fin.get old.store.held p.number)
  still-held a enters fresh = subst (λ (o : Option (List ℕ)). IsSome o) (sym (a.held_are p enters fresh)) refl

  pub settled-more : AreSettled S bytes core D old.settled old.store → Enters S core p → (Among p.number old.store.released → ⊥)
      → Settling old p.number (fate_of S p) new
      → ((q : PacketPlan) → Enters S core q → E q ↔ (D q ⊎ (q ≡ p)))
      → AreSettled S bytes core E new.settled new.store
  settled-more a enters fresh s more = record {
    each_has_bytes = a.each_has_bytes;
    sound = sound;
    decided = decided;
    all = all;
    once = subst (AllPairs (λ (t u : Settled). t.packet ≢ u.packet)) (sym s.settled)
        (all_pairs_push (λ (t u : Settled). t.packet ≢ u.packet) old.settled one a.once apart);
    released_are = released;
    held_are = held;
    no_other = no_other;
  }
    where
      one : Settled
      one = record { packet = p.number; fate = fate_of S p; bytes = bytes_by_fate (fate_of S p) s.payload }

      payload : s.payload ≡ packet_bytes S bytes p.number
      payload = let e : Some s.payload ≡ Some (packet_bytes S bytes p.number) = sym s.was_held ∙ a.held_are p enters fresh in cc

      split : (t : Settled) → Among t new.settled → Among t old.settled ⊎ (one ≡ t)
      split t m = Among-push t old.settled one (subst (Among t) s.settled m)

      sound : (t : Settled) → Among t new.settled → IsSettled S bytes core t
      sound t m = ⊎_elim (a.sound t) (λ e. subst (IsSettled S bytes core) e this) (split t m)
        where
          this : IsSettled S bytes core one
          this = record {
            plan = p;
            among = enters.among;
            entered = enters.entered;
            packet = refl;
            fate = refl;
            its_bytes = ap (bytes_by_fate (fate_of S p)) payload;
          }

      decided : (t : Settled) → Among t new.settled → (q : PacketPlan) × Enters S core q × E q × (q.number ≡ t.packet)
      decided t m =
          ⊎_elim (λ o. let d = a.decided t o in (d.0, d.1, (more d.0 d.1).1 (inl d.2), d.3))
          (λ e. (p, enters, (more p enters).1 (inr refl), ap (λ (u : Settled). u.packet) e)) (split t m)

      all : (q : PacketPlan) → Enters S core q → E q → Among q.number (map (λ (t : Settled). t.packet) new.settled)
      all q n e = subst (λ (l : List Settled). Among q.number (map (λ (t : Settled). t.packet) l)) (sym s.settled)
          (subst (Among q.number) (sym (map-append (λ (t : Settled). t.packet) old.settled (one ∷ [])))
          (⊎_elim
          (λ d. Among-append-left q.number (map (λ (t : Settled). t.packet) old.settled) (p.number ∷ []) (a.all q n d))
          (λ same. Among-append-right q.number (map (λ (t : Settled). t.packet) old.settled) (p.number ∷ [])
          (inl (ap (λ (r : PacketPlan). r.number) (sym same))))
          ((more q n).0 e)))

      apart : (k : ℕ) (d : Settled) → k < length old.settled → (slice_index_or old.settled k d).packet ≢ one.packet
      apart k d within e =
          let t : Settled = slice_index_or old.settled k d in
          let m : Among t old.settled = Among-index old.settled k d within in
          fresh (subst (Among p.number) (sym a.released_are)
          (subst (λ (n : ℕ). Among n (map (λ (u : Settled). u.packet) old.settled)) e (Among-map (λ (u : Settled). u.packet) t old.settled m)))

      released : new.store.released ≡ map (λ (t : Settled). t.packet) new.settled
      released =
          s.released
          ∙ ap (λ (l : List ℕ). l ++ p.number ∷ []) a.released_are
          ∙ sym (map-append (λ (t : Settled). t.packet) old.settled (one ∷ []))
          ∙ ap (map (λ (t : Settled). t.packet)) (sym s.settled)

      was : (n : ℕ) → (Among n new.store.released → ⊥) → (Among n old.store.released → ⊥) × (n ≢ p.number)
      was n f = (
        (λ o. f (subst (Among n) (sym s.released) (Among-append-left n old.store.released (p.number ∷ []) o))),
        λ e. f (subst (Among n) (sym s.released) (Among-append-right n old.store.released (p.number ∷ []) (inl (sym e)))),
      )

      held : (q : PacketPlan) → Enters S core q → (Among q.number new.store.released → ⊥)
          → fin.get new.store.held q.number ≡ Some (packet_bytes S bytes q.number)
      held q n f =
          let w = was q.number f in
          ap (λ (m : fin.FinMap nat_cmp (List ℕ)). fin.get m q.number) s.held
          ∙ get-other old.store.held p.number q.number w.1
          ∙ a.held_are q n w.0

      no_other : (n : ℕ) → IsSome (fin.get new.store.held n)
          → ((q : PacketPlan) × Enters S core q × (q.number ≡ n)) × (Among n new.store.released → ⊥)
      no_other n some = go (cases_eq n p.number)
        where
          now : IsSome (fin.get (fin.remove old.store.held p.number) n)
          now = subst (λ (m : fin.FinMap nat_cmp (List ℕ)). IsSome (fin.get m n)) s.held some

          go : (n ≡ p.number) ⊎ (n ≢ p.number)
              → ((q : PacketPlan) × Enters S core q × (q.number ≡ n)) × (Among n new.store.released → ⊥)
          go (inl e) =
              absurd (false≢true (subst (λ (o : Option (List ℕ)). IsSome o)
              (ap (fin.get (fin.remove old.store.held p.number)) e ∙ get-removed old.store.held p.number) now))
          go (inr other) =
              let o =
              a.no_other n (subst (λ (o : Option (List ℕ)). IsSome o) (get-other old.store.held p.number n other) now) in
              (o.0, λ m. ⊎_elim o.1 (λ e. other (sym e)) (Among-push n old.store.released p.number (subst (Among n) s.released m)))
