-- The visits before a tick are a front of the journal. What is pending after them is due from that tick on.
use Rattle.std.proofs.Common.{◌≡◌, ◌⊎◌, inl, inr, ⊎_elim, ℕ, ◌+◌, ◌<◌, ◌≤◌, ◌==◌, nat_lt, Bool, true, false, cond, List, [], ◌∷◌, ◌++◌, filter, reverse, Some, refl, sym, ap, ◌∙◌, subst, arith, true≢false}
use Rattle.std.specs.Prelude.{◌↔◌}
use Rattle.std.proofs.lemmas.Bool.{lt-ltb, ltb-true, le-ltb, cases_lt}
use Rattle.mn_base.specs.Among.{Among}
use Rattle.mn_base.specs.Canonical.{Before}
use Rattle.mn_base.specs.declared.due.Due.{Due}
use Rattle.pipe.specs.Scheme.{Scheme, is_done_by, Rises}
use Rattle.journal.specs.declared.setup.PacketPlan.{PacketPlan}
use Rattle.journal.specs.declared.visit.Visit.{Visit}
use Rattle.journal.specs.SetupView.{SetupView}
use Rattle.journal.specs.IsSetup.{IsSetup}
use Rattle.journal.specs.Hops.{due_of}
use Rattle.journal.specs.IsJournal.{IsJournal, scheme_of, dues}
use Rattle.journal.specs.Journal.{journal_of, pending}
use Rattle.journal.specs.Fates.{last_visit}
use Rattle.mn_base.proofs.Members.{Among-append-left, Among-append-right, Among-append, Among-from-map, Among-filter, Among-from-filter, Among-find, Among-reverse}
use Rattle.pipe.proofs.CanonicalOrder.{before-irreflexive, before-tick}
use Rattle.pipe.proofs.Growing.{done-true, done_parts, one_visit, follows}
use Rattle.pipe.proofs.Grown.{pending_from, pending_parts}
use Rattle.pipe.proofs.Origins.{OriginBy, origin_by, due_from-first, due_from-visit, later_by, rises-across, rises-rest, rises-in_front}
use Rattle.journal.proofs.Orderly.{IsGrowing, orderly}
use Rattle.journal.proofs.Meets.{meets, grows_to_journal, journal-grows}
use Rattle.migrate.specs.Windows.{visits_before, IsBehind, IsDueFrom, IsDecidedBefore}
use Rattle.migrate.specs.Running.{IsDecidedIn}

-- a filter that all pass, and one that none passes
pub filter-whole : {X : Type 0} (p : X → Bool) (xs ys : List X) → ((x : X) → Among x xs → p x ≡ true)
    → ((y : X) → Among y ys → p y ≡ false) → filter p (xs ++ ys) ≡ xs
filter-whole p [] [] pass fail = refl
filter-whole p [] (y ∷ ys) pass fail =
    ap (λ (b : Bool). cond b (y ∷ filter p ys) (filter p ys)) (fail y (inl refl)) ∙ filter-whole p [] ys pass (λ z m. fail z (inr m))
filter-whole p (x ∷ xs) ys pass fail =
    ap (λ (b : Bool). cond b (x ∷ filter p (xs ++ ys)) (filter p (xs ++ ys))) (pass x (inl refl))
    ∙ ap (λ (l : List _). x ∷ l) (filter-whole p xs ys (λ z m. pass z (inr m)) fail)

module _ (S : SetupView) (is : IsSetup S) where
  abbrev scheme : Scheme Visit
  scheme = scheme_of S

  whole : IsJournal S (journal_of S)
  whole = meets S is

  grows : IsGrowing S (journal_of S)
  grows = journal-grows S is

  -- a visit is before the tick exactly where it is among the visits before it
  pub before-among : (end : ℕ) (v : Visit) → Among v (journal_of S) → v.tick < end → Among v (visits_before S end)
  before-among end v a l = Among-filter (λ (u : Visit). nat_lt u.tick end) v (journal_of S) a (lt-ltb v.tick end l)

  pub among-before : (end : ℕ) (v : Visit) → Among v (visits_before S end) → Among v (journal_of S) × (v.tick < end)
  among-before end v a =
      let t = Among-from-filter (λ (u : Visit). nat_lt u.tick end) v (journal_of S) a in
      (t.0, ltb-true v.tick end t.1)

  -- all of a journal's front that is after it comes of the front, and is after what is pending
  module _ (J : List Visit) (g : IsGrowing S J) where
    pub rest-of : (rest : List Visit) × (journal_of S ≡ J ++ rest)
    rest-of = grows_to_journal S is J g

    pub front-among : (v : Visit) → Among v J → Among v (journal_of S)
    front-among v m = subst (Among v) (sym rest-of.1) (Among-append-left v J rest-of.0 m)

    -- the visit after the front is pending
    next-pending : (r : Visit) (rest : List Visit) → journal_of S ≡ J ++ r ∷ rest → Among (due_of r) (pending S J)
    next-pending r rest e = pending_from scheme J (due_of r) is-due (undone (is_done_by scheme J (due_of r)) refl)
      where
        rises : Rises scheme (J ++ r ∷ rest)
        rises = subst (Rises scheme) e whole.rises

        among : Among r (journal_of S)
        among = subst (Among r) (sym e) (Among-append-right r J (r ∷ rest) (inl refl))

        is-due : Among (due_of r) (dues S J)
        is-due = go (origin_by scheme (journal_of S) (due_of r) (grows.sound r among))
          where
            go : OriginBy scheme (journal_of S) (due_of r) → Among (due_of r) (dues S J)
            go (inl m) = due_from-first scheme J (due_of r) m
            go (inr m) =
                let before : Before (due_of m.0) (due_of r) =
                inl (later_by scheme (orderly S is) (journal_of S) m.0 (due_of r) whole.made m.1 m.2) in
                due_from-visit scheme J m.0 (due_of r)
                (rises-in_front scheme J rest m.0 r rises (subst (Among m.0) e m.1) before) m.2

        undone : (b : Bool) → is_done_by scheme J (due_of r) ≡ b → is_done_by scheme J (due_of r) ≡ false
        undone false d = d
        undone true d =
            let q = done_parts scheme J (due_of r) d in
            let same : q.visit ≡ r =
            one_visit scheme (orderly S is) (journal_of S) grows q.visit r (front-among q.visit q.among) among q.packet q.hop in
            absurd (before-irreflexive (due_of r)
            (subst (λ (u : Visit). Before (due_of u) (due_of r)) same
            (rises-across scheme J (r ∷ rest) q.visit r rises q.among (inl refl))))

    -- visits after the front are no earlier than all that is pending
    pub rest-late : (bound : ℕ) → ((x : Due) → Among x (pending S J) → bound ≤ x.tick) → (rest : List Visit) → journal_of S ≡ J ++ rest
        → (v : Visit) → Among v rest → bound ≤ v.tick
    rest-late bound late [] e v m = absurd m
    rest-late bound late (r ∷ rest) e v (inl same) =
        subst (λ (u : Visit). bound ≤ u.tick) same (late (due_of r) (next-pending r rest e))
    rest-late bound late (r ∷ rest) e v (inr m) =
        let first : bound ≤ r.tick = late (due_of r) (next-pending r rest e) in
        let rises : Rises scheme (r ∷ rest) = rises-rest scheme J (r ∷ rest) (subst (Rises scheme) e whole.rises) in
        let later : r.tick ≤ v.tick = before-tick (due_of r) (due_of v) (rises.0 v m) in
        omega (arith, first, later)

    -- the journal's visits that the front doesn't have
    pub others-late : (bound : ℕ) → ((x : Due) → Among x (pending S J) → bound ≤ x.tick) → (v : Visit) → Among v (journal_of S)
        → (Among v J → ⊥) → bound ≤ v.tick
    others-late bound late v m not =
        ⊎_elim (λ a. absurd (not a)) (λ a. rest-late bound late rest-of.0 rest-of.1 v a)
        (Among-append v J rest-of.0 (subst (Among v) rest-of.1 m))

    -- a front whose visits are before a tick, where nothing before it is pending, is all that is before it
    pub front-is : (end : ℕ) → ((v : Visit) → Among v J → v.tick < end) → ((x : Due) → Among x (pending S J) → end ≤ x.tick)
        → J ≡ visits_before S end
    front-is end early late =
        sym (ap (filter (λ (u : Visit). nat_lt u.tick end)) rest-of.1
        ∙ filter-whole (λ (u : Visit). nat_lt u.tick end) J rest-of.0 (λ v m. lt-ltb v.tick end (early v m))
        (λ v m. le-ltb v.tick end (rest-late end late rest-of.0 rest-of.1 v m)))

  -- ---- what is pending after the visits before a tick

  module _ (end : ℕ) (g : IsGrowing S (visits_before S end)) where
    abbrev front : List Visit
    front = visits_before S end

    pub pending-due : (x : Due) → Among x (pending S (visits_before S end)) ↔ ((v : Visit) × IsDueFrom S end v × (due_of v ≡ x))
    pending-due x = (into, out)
      where
        into : Among x (pending S front) → (v : Visit) × IsDueFrom S end v × (due_of v ≡ x)
        into m = (v.0, record { among = v.1; late = late (cases_lt v.0.tick end); come = come (origin_by scheme front x p.0) }, v.2)
          where
            p : Among x (dues S front) × (is_done_by scheme front x ≡ false)
            p = pending_parts scheme front x m

            in-all : OriginBy scheme front x → Among x (dues S (journal_of S))
            in-all (inl f) = due_from-first scheme (journal_of S) x f
            in-all (inr f) = due_from-visit scheme (journal_of S) f.0 x (among-before end f.0 f.1).0 f.2

            v : (v : Visit) × Among v (journal_of S) × (due_of v ≡ x)
            v = Among-from-map due_of x (journal_of S) (whole.complete x (in-all (origin_by scheme front x p.0)))

            late : (v.0.tick < end) ⊎ (end ≤ v.0.tick) → end ≤ v.0.tick
            late (inr l) = l
            late (inl l) =
                absurd (true≢false (sym (done-true scheme front v.0 x (before-among end v.0 v.1 l)
                (ap (λ (d : Due). d.packet) v.2) (ap (λ (d : Due). d.hop) v.2)) ∙ p.1))

            come : OriginBy scheme front x → (v.0.hop ≡ 0) ⊎ ((u : Visit) × IsBehind S u v.0 × (u.tick < end))
            come (inl f) = inl (ap (λ (d : Due). d.hop) v.2 ∙ (orderly S is).start x f)
            come (inr f) =
                let b = among-before end f.0 f.1 in
                inr (
                  f.0,
                  record {
                    among = b.0;
                    packet = sym (ap (λ (d : Due). d.packet) v.2 ∙ (orderly S is).packet f.0 x f.2);
                    hop = ap (λ (d : Due). d.hop) v.2 ∙ (orderly S is).hop f.0 x f.2;
                  },
                  b.1,
                )

        out : (v : Visit) × IsDueFrom S end v × (due_of v ≡ x) → Among x (pending S front)
        out (v, d, e) = subst (λ (y : Due). Among y (pending S front)) e
            (pending_from scheme front (due_of v) (is-due d.come (origin_by scheme (journal_of S) (due_of v) (grows.sound v d.among)))
            (undone (is_done_by scheme front (due_of v)) refl))
          where
            is-due : (v.hop ≡ 0) ⊎ ((u : Visit) × IsBehind S u v × (u.tick < end)) → OriginBy scheme (journal_of S) (due_of v)
                → Among (due_of v) (dues S front)
            is-due c (inl f) = due_from-first scheme front (due_of v) f
            is-due (inl z) (inr f) =
                let h : v.hop ≡ f.0.hop + 1 = (orderly S is).hop f.0 (due_of v) f.2 in absurd (omega (arith, h, z))
            is-due (inr u) (inr f) =
                due_from-visit scheme front u.0 (due_of v) (before-among end u.0 u.1.among u.2)
                (follows scheme (orderly S is) (journal_of S) grows u.0 v u.1.among d.among u.1.packet u.1.hop)

            undone : (b : Bool) → is_done_by scheme front (due_of v) ≡ b → is_done_by scheme front (due_of v) ≡ false
            undone false n = n
            undone true n =
                let q = done_parts scheme front (due_of v) n in
                let b = among-before end q.visit q.among in
                let same : q.visit ≡ v =
                one_visit scheme (orderly S is) (journal_of S) grows q.visit v b.0 d.among q.packet q.hop in
                let tick : q.visit.tick ≡ v.tick = ap (λ (u : Visit). u.tick) same in
                let l = d.late in
                absurd (omega (arith, b.1, tick, l))

  -- a packet is decided before the tick exactly where it is decided by those visits
  pub decided-same : (end : ℕ) (p : PacketPlan) → IsDecidedIn S (visits_before S end) p ↔ IsDecidedBefore S end p
  decided-same end p = (
    (λ d. ⊎_elim (λ e. inl e) (λ m. inr (m.0, m.1, (among-before end m.0 m.2).1)) d),
    λ d. ⊎_elim (λ e. inl e) (λ m. inr (m.0, m.1, before-among end m.0 (last-among m.0 m.1) m.2)) d,
  )
    where
      last-among : (v : Visit) → last_visit (journal_of S) p.number ≡ Some v → Among v (journal_of S)
      last-among v e =
          Among-reverse v (journal_of S)
          (Among-find (λ (u : Visit). u.packet == p.number) v (reverse (journal_of S)) e).0
