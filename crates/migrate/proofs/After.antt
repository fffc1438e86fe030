-- All cores after one visit more: its pipe and its counts, what follows it, and the packet that it settles.
use Rattle.std.proofs.Common.{◌≡◌, ◌≢◌, ◌⊎◌, inl, inr, ⊎_elim, ℕ, ◌+◌, List, [], ◌∷◌, ◌++◌, length, map, Some, None, slice_get, slice_set, slice_index, refl, sym, ap, ap₂, ◌∙◌, subst, eq-eqb, cond, add-zero}
use Rattle.std.specs.Prelude.{◌↔◌, IsSome}
use Rattle.std.specs.List.{range_with_len}
use Rattle.std.specs.FinMap as fin
use Rattle.std.proofs.lemmas.Bool.{cases_eq, ne_eqb}
use Rattle.mn_base.specs.Among.{Among}
use Rattle.mn_base.specs.declared.due.Due.{Due}
use Rattle.journal.specs.declared.setup.PacketPlan.{PacketPlan}
use Rattle.journal.specs.declared.visit.Visit.{Visit}
use Rattle.journal.specs.declared.fate.Fate.{Fate}
use Rattle.journal.specs.SetupView.{SetupView}
use Rattle.journal.specs.IsSetup.{IsSetup}
use Rattle.journal.specs.Hops.{pipe_of, next_hop}
use Rattle.journal.specs.Fates.{fate_of, fate_of_step}
use Rattle.journal.specs.Steps.{visit_of}
use Rattle.parcel.specs.declared.counts.PipeCounts.{PipeCounts}
use Rattle.parcel.specs.declared.core_result.Settled.{Settled}
use Rattle.parcel.specs.Counts.{counts_of}
use Rattle.payload_store.specs.StoreView.{StoreView}
use Rattle.journal.proofs.Ends.{fates_hold}
use Rattle.journal.proofs.Orderly.{IsGrowing, one_packet}
use Rattle.parcel.specs.Counts.{counted}
use Rattle.core_loop.specs.Stocked.{Enters}
use Rattle.core_loop.specs.WorldState.{AreSettled}
use Rattle.core_loop.specs.Work.{Settling}
use Rattle.core_loop.proofs.Settlings.{still-held, settled-more}
use Rattle.mn_base.proofs.Members.{Among-from-map}
use Rattle.migrate.specs.ShelvesView.{ShelfView}
use Rattle.migrate.specs.declared.window.Head.{Head}
use Rattle.migrate.specs.Windows.{visits_of_core}
use Rattle.migrate.specs.Running.{IsDecidedIn, IsAfter, ChangesAt, VisitsAt, PutsDue, SettlesPacket, entrants_of, IsHeadOf}
use Rattle.migrate.proofs.Counts.{counts-next}
use Rattle.migrate.proofs.Deciding.{decided-still, decided-more, decided-not, visit-ends}
use Rattle.migrate.proofs.NextVisit.{next-grows}
use Rattle.migrate.proofs.OneVisit.{IsChanged, changed-at, head-pending, head-owner, head-named, head-first, IsFollowed, followed-due, put-followed, settle-followed, followed-pipes}

-- where the same packets are decided, the same are settled
pub settled-alike : (S : SetupView) (bytes : List (List ℕ)) (core : ℕ) (D E : PacketPlan → Type 0) (settled : List Settled)
    (store : StoreView) → ((p : PacketPlan) → Enters S core p → D p ↔ E p) → AreSettled S bytes core D settled store
    → AreSettled S bytes core E settled store
settled-alike S bytes core D E settled store same a = record {
  each_has_bytes = a.each_has_bytes;
  sound = a.sound;
  decided = λ t m. (let d = a.decided t m in (d.0, d.1, (same d.0 d.1).0 d.2, d.3));
  all = λ p n e. a.all p n ((same p n).1 e);
  once = a.once;
  released_are = a.released_are;
  held_are = a.held_are;
  no_other = a.no_other;
}

-- a packet that isn't decided is not released
pub undecided-fresh : (S : SetupView) → IsSetup S → (bytes : List (List ℕ)) (core : ℕ) (D : PacketPlan → Type 0) (settled : List Settled)
    (store : StoreView) → AreSettled S bytes core D settled store → (p : PacketPlan) → Among p S.packets → (D p → ⊥)
    → Among p.number store.released → ⊥
undecided-fresh S is bytes core D settled store a p planned not m =
    let t = Among-from-map (λ (t : Settled). t.packet) p.number settled (subst (Among p.number) a.released_are m) in
    let d = a.decided t.0 t.1 in
    not (subst D (one_packet S is d.0 p d.1.among planned (d.3 ∙ t.2)) d.2)

module _ {S : SetupView} (is : IsSetup S) {bytes : List (List ℕ)} {J : List Visit} {owners : List ℕ} {counts : List PipeCounts}
    {shelves : List ShelfView} (a : IsAfter S bytes J owners counts shelves) {head : Head} (f : IsHeadOf shelves head)
    {mid : List ShelfView} (m : ChangesAt head.core (VisitsAt S head.due (pipe_of S head.due)) shelves mid) where
  abbrev v : Visit
  v = visit_of S J head.due

  grown : IsGrowing S (J ++ v ∷ [])
  grown = next-grows S is J a.growing head.due (head-pending is a f) (head-first is a f)

  -- what entered at a core stays at its visit
  mid-entrants : (core : ℕ) (t : ShelfView) → slice_get mid core ≡ Some t
      → (s : ShelfView) × (slice_get shelves core ≡ Some s) × (t.settled ≡ s.settled) × (t.store ≡ s.store)
  mid-entrants core t e =
      go (changed-at head.core (VisitsAt S head.due (pipe_of S head.due)) shelves mid m core t e) (cases_eq core head.core)
    where
      go : IsChanged head.core (VisitsAt S head.due (pipe_of S head.due)) shelves core t → (core ≡ head.core) ⊎ (core ≢ head.core)
          → (s : ShelfView) × (slice_get shelves core ≡ Some s) × (t.settled ≡ s.settled) × (t.store ≡ s.store)
      go c (inl here) = (c.was, c.there, (c.here here).settled, (c.here here).store)
      go c (inr apart) = (
        c.was,
        c.there,
        ap (λ (s : ShelfView). s.settled) (c.other apart),
        ap (λ (s : ShelfView). s.store) (c.other apart),
      )

  pub mid-settled : (core : ℕ) (t : ShelfView) → slice_get mid core ≡ Some t
      → AreSettled S bytes core (IsDecidedIn S J) t.settled t.store
  mid-settled core t e =
      let s = mid-entrants core t e in
      subst (λ (l : List Settled). AreSettled S bytes core (IsDecidedIn S J) l t.store) (sym s.2)
      (subst (λ (k : StoreView). AreSettled S bytes core (IsDecidedIn S J) s.0.settled k) (sym s.3) (a.settled core s.0 s.1))

  pub mid-length : length mid ≡ S.cores
  mid-length = m.as_many ∙ a.one_a_core

  -- the counts with the visit
  pub counts-after : (old new : PipeCounts) → old ≡ counts_of J (pipe_of S head.due) → new ≡ counted old (visit_of S J head.due).step
      → slice_set counts (pipe_of S head.due) new ≡ map (counts_of (J ++ visit_of S J head.due ∷ [])) (range_with_len 0 (length S.pipes))
  counts-after old new at is_new =
      ap₂ (λ (l : List PipeCounts) (c : PipeCounts). slice_set l (pipe_of S head.due) c) a.counted
      (is_new ∙ ap (λ (c : PipeCounts). counted c v.step) at)
      ∙ counts-next J v (length S.pipes) (head-named is a f)

  module _ {more : List PipeCounts}
      (counted_is : more ≡ map (counts_of (J ++ visit_of S J head.due ∷ [])) (range_with_len 0 (length S.pipes))) where
    after-of : (new : List ShelfView) → length new ≡ length mid
        → ((core : ℕ) (u : ShelfView) → slice_get new core ≡ Some u → IsFollowed is a f m core u)
        → ((core : ℕ) (u : ShelfView) → slice_get new core ≡ Some u
        → AreSettled S bytes core (IsDecidedIn S (J ++ v ∷ [])) u.settled u.store)
        → IsAfter S bytes (J ++ v ∷ []) owners more new
    after-of new as_many follows settles = record {
      growing = grown;
      one_a_core = as_many ∙ mid-length;
      one_a_pipe = a.one_a_pipe;
      owned = a.owned;
      pipes = followed-pipes is a f m new follows;
      due = λ core u e. followed-due is a f m core u (follows core u e);
      settled = settles;
      counted = counted_is;
    }

    -- where a visit follows
    pub after-put : (z : Due) (new : List ShelfView) → next_hop S (visit_of S J head.due) ≡ Some z
        → ChangesAt (slice_index owners (pipe_of S z)) (PutsDue z) mid new
        → IsAfter S bytes (J ++ visit_of S J head.due ∷ []) owners more new
    after-put z new some n = after-of new n.as_many (put-followed is a f m z new some n) settles
      where
        settles : (core : ℕ) (u : ShelfView) → slice_get new core ≡ Some u
            → AreSettled S bytes core (IsDecidedIn S (J ++ v ∷ [])) u.settled u.store
        settles core u e =
            settled-alike S bytes core (IsDecidedIn S J) (IsDecidedIn S (J ++ v ∷ [])) u.settled u.store
            (λ q k. let d = decided-still is J v grown z some q k.among in (d.1, d.0))
            (go (changed-at (slice_index owners (pipe_of S z)) (PutsDue z) mid new n core u e)
            (cases_eq core (slice_index owners (pipe_of S z))))
          where
            go : IsChanged (slice_index owners (pipe_of S z)) (PutsDue z) mid core u
                → (core ≡ slice_index owners (pipe_of S z)) ⊎ (core ≢ slice_index owners (pipe_of S z))
                → AreSettled S bytes core (IsDecidedIn S J) u.settled u.store
            go c (inl here) =
                subst (λ (l : List Settled). AreSettled S bytes core (IsDecidedIn S J) l u.store) (sym (c.here here).settled)
                (subst (λ (k : StoreView). AreSettled S bytes core (IsDecidedIn S J) c.was.settled k) (sym (c.here here).store)
                (mid-settled core c.was c.there))
            go c (inr apart) =
                subst (λ (s : ShelfView). AreSettled S bytes core (IsDecidedIn S J) s.settled s.store) (sym (c.other apart))
                (mid-settled core c.was c.there)

    -- where the way ends and the packet is settled
    pub after-settle : (p : PacketPlan) (fate : Fate) (new : List ShelfView) → Among p S.packets → p.number ≡ head.due.packet
        → next_hop S (visit_of S J head.due) ≡ None → fate ≡ fate_of_step (pipe_of S head.due) head.due.tick (visit_of S J head.due).step
        → ChangesAt p.core (SettlesPacket p.number fate) mid new
        → IsAfter S bytes (J ++ visit_of S J head.due ∷ []) owners more new
    after-settle p fate new planned number none fate_is n =
        after-of new n.as_many
        (settle-followed is a f m p.core (SettlesPacket p.number fate) (λ s t c. (c.due, c.pipes, c.visits)) new none n) settles
      where
        fates : fate ≡ fate_of S p
        fates = fate_is ∙ sym ((fates_hold S is).by_end p v (visit-ends is J v grown p planned number none))

        settles : (core : ℕ) (u : ShelfView) → slice_get new core ≡ Some u
            → AreSettled S bytes core (IsDecidedIn S (J ++ v ∷ [])) u.settled u.store
        settles core u e = go (changed-at p.core (SettlesPacket p.number fate) mid new n core u e) (cases_eq core p.core)
          where
            more-decided : (q : PacketPlan) → Enters S core q → IsDecidedIn S (J ++ v ∷ []) q ↔ (IsDecidedIn S J q ⊎ (q ≡ p))
            more-decided q k = decided-more is J v grown p planned number none q k.among

            go : IsChanged p.core (SettlesPacket p.number fate) mid core u → (core ≡ p.core) ⊎ (core ≢ p.core)
                → AreSettled S bytes core (IsDecidedIn S (J ++ v ∷ [])) u.settled u.store
            go c (inl here) =
                settled-more S bytes core (IsDecidedIn S J) (IsDecidedIn S (J ++ v ∷ [])) (entrants_of c.was) (entrants_of u) p
                (mid-settled core c.was c.there) (record { among = planned; entered = sym here })
                (undecided-fresh S is bytes core (IsDecidedIn S J) c.was.settled c.was.store (mid-settled core c.was c.there) p planned
                (decided-not is J v grown p planned number none))
                (subst (λ (x : Fate). Settling (entrants_of c.was) p.number x (entrants_of u)) fates (c.here here).settling)
                more-decided
            go c (inr apart) =
                settled-alike S bytes core (IsDecidedIn S J) (IsDecidedIn S (J ++ v ∷ [])) u.settled u.store
                (λ q k. (
                  (λ d. (more-decided q k).1 (inl d)),
                  λ d. ⊎_elim (λ o. o) (λ same. absurd (apart (sym k.entered ∙ ap (λ (r : PacketPlan). r.core) same)))
                      ((more-decided q k).0 d),
                ))
                (subst (λ (s : ShelfView). AreSettled S bytes core (IsDecidedIn S J) s.settled s.store) (sym (c.other apart))
                (mid-settled core c.was c.there))

  -- the payload of the packet is held where it entered, as long as its way hasn't ended
  pub held-still : (p : PacketPlan) → Among p S.packets → p.number ≡ head.due.packet → next_hop S (visit_of S J head.due) ≡ None
      → (t : ShelfView) → slice_get mid p.core ≡ Some t → IsSome (fin.get t.store.held p.number)
  held-still p planned number none t e =
      still-held S bytes p.core (IsDecidedIn S J) (IsDecidedIn S J) (entrants_of t) (entrants_of t) p (mid-settled p.core t e)
      (record { among = planned; entered = refl })
      (undecided-fresh S is bytes p.core (IsDecidedIn S J) t.settled t.store (mid-settled p.core t e) p planned
      (decided-not is J v grown p planned number none))

  -- the owner of the pipe ran the visit, and no other core did
  pub visits-after : (core : ℕ) (u : ShelfView) → IsFollowed is a f m core u
      → (s : ShelfView) → slice_get shelves core ≡ Some s → u.visits ≡ s.visits + visits_of_core owners core (visit_of S J head.due ∷ [])
  visits-after core u i s e =
      i.same_visits
      ∙ go (changed-at head.core (VisitsAt S head.due (pipe_of S head.due)) shelves mid m core i.mid_was i.mid_there)
      (cases_eq core head.core)
    where
      owner : slice_index owners v.pipe ≡ head.core
      owner = head-owner is a f

      go : IsChanged head.core (VisitsAt S head.due (pipe_of S head.due)) shelves core i.mid_was → (core ≡ head.core) ⊎ (core ≢ head.core)
          → i.mid_was.visits ≡ s.visits + visits_of_core owners core (v ∷ [])
      go c (inl here) =
          let both : Some c.was ≡ Some s = sym c.there ∙ e in
          let same : c.was ≡ s = cc in
          (c.here here).visits
          ∙ ap₂ (λ (k : ShelfView) (n : ℕ). k.visits + n) same
          (sym (ap (λ b. length (cond b (v ∷ []) [])) (eq-eqb (slice_index owners v.pipe) core (owner ∙ sym here))))
      go c (inr apart) =
          let both : Some c.was ≡ Some s = sym c.there ∙ e in
          let same : c.was ≡ s = cc in
          ap (λ (k : ShelfView). k.visits) (c.other apart ∙ same)
          ∙ sym (add-zero s.visits)
          ∙ ap (λ (n : ℕ). s.visits + n)
          (sym (ap (λ b. length (cond b (v ∷ []) [])) (ne_eqb (slice_index owners v.pipe) core (λ o. apart (sym o ∙ owner)))))
