-- A pipe has moved: what each core has then, and that all stands as before.
use Rattle.std.proofs.Common.{◌≡◌, ◌≢◌, ◌⊎◌, inl, inr, ⊎_elim, ℕ, ◌<◌, ◌==◌, List, length, Option, Some, None, slice_get, slice_set, slice_index, slice_index_or, get_or-set_same, get_or-set_other, length-set, refl, sym, ap, ◌∙◌, subst, arith, eq-eqb, eqb-true}
use Rattle.std.specs.Prelude.{◌↔◌, All, IsSome}
use Rattle.std.proofs.lemmas.Bool.{cases_eq}
use Rattle.std.proofs.lemmas.Option.{slice_get_within}
use Rattle.mn_base.specs.Among.{Among}
use Rattle.mn_base.specs.declared.due.Due.{Due}
use Rattle.journal.specs.declared.visit.Visit.{Visit}
use Rattle.journal.specs.SetupView.{SetupView, packet_of}
use Rattle.journal.specs.IsSetup.{IsSetup}
use Rattle.journal.specs.Hops.{pipe_of}
use Rattle.journal.specs.Journal.{pending}
use Rattle.journal.specs.IsPipe.{SetupPipeView}
use Rattle.parcel.specs.declared.counts.PipeCounts.{PipeCounts}
use Rattle.deadline_heap.specs.Canonical.{HasNoneOf, IsCanonical}
use Rattle.core_loop.specs.WorldState.{AreSettled}
use Rattle.mn_base.proofs.Members.{Among-filter, Among-from-filter}
use Rattle.pipe.proofs.Grown.{pending_parts}
use Rattle.journal.specs.IsJournal.{scheme_of}
use Rattle.journal.proofs.HeldFirst.{at-within}
use Rattle.journal.proofs.Packets.{packet-known}
use Rattle.journal.proofs.Times.{on_way}
use Rattle.migrate.specs.ShelvesView.{ShelfView, pipe_in}
use Rattle.migrate.specs.Moving.{MovesAt, IsOnRoute, GivesPipe, ReceivesPipe, CarriesPipe}
use Rattle.migrate.specs.Running.{HoldsPipe, IsDecidedIn, ArePending, IsAfter}
use Rattle.migrate.proofs.NextVisit.{pending-one}

module _ {S : SetupView} (is : IsSetup S) {bytes : List (List ℕ)} {J : List Visit} {owners : List ℕ} {counts : List PipeCounts}
    {shelves : List ShelfView} (a : IsAfter S bytes J owners counts shelves) where
  -- what is due is of a packet of the setup
  pub due-routed : (core : ℕ) (s : ShelfView) (x : Due) → slice_get shelves core ≡ Some s → Among x s.due → IsOnRoute S x
  due-routed core s x e m =
      let p = (((a.due core s e).members x).0 m).0 in
      let w = on_way S is J a.growing x (pending_parts (scheme_of S) J x p).0 in (
        subst (λ (n : ℕ). IsSome (packet_of S n)) w.number
            (subst (λ o. IsSome o) (sym (packet-known S is w.plan w.among)) refl),
        w.within,
      )

  -- and of no packet that is due at another core
  pub due-alone : (core other : ℕ) (s t : ShelfView) (x : Due) → core ≢ other → slice_get shelves core ≡ Some s
      → slice_get shelves other ≡ Some t → Among x s.due → HasNoneOf x.packet t.due
  due-alone core other s t x differ e f m y k same =
      let p = ((a.due core s e).members x).0 m in
      let q = ((a.due other t f).members y).0 k in
      let one : y ≡ x = pending-one S is J a.growing y x q.0 p.0 same in
      differ (sym p.1 ∙ ap (λ (z : Due). slice_index owners (pipe_of S z)) (sym one) ∙ q.1)

  pub due-owner : (core : ℕ) (s : ShelfView) (x : Due) → slice_get shelves core ≡ Some s → Among x s.due
      → slice_index owners (pipe_of S x) ≡ core
  due-owner core s x e m = (((a.due core s e).members x).0 m).1

  module _ {pipe giver taker : ℕ} (named : pipe < length S.pipes) (owned : slice_index owners pipe ≡ giver)
      (within : taker < S.cores) (apart : giver ≢ taker) {new : List ShelfView} (c : CarriesPipe S pipe giver taker shelves new) where
    -- the giver has the pipe
    giver-within : giver < length shelves
    giver-within =
        let l : slice_index owners pipe < S.cores = a.owned pipe 0 (omega (arith, named, a.one_a_pipe)) in
        omega (arith, l, owned, a.one_a_core)

    was : (s : ShelfView) × (slice_get shelves giver ≡ Some s)
    was = at-within shelves giver giver-within

    has : HoldsPipe S J pipe was.0.pipes
    has = a.pipes.there pipe was.0 named (ap (slice_get shelves) owned ∙ was.1)

    now : (t : ShelfView) × (slice_get new giver ≡ Some t)
    now = at-within new giver (let l = giver-within in omega (arith, l, c.as_many))

    given : GivesPipe S pipe was.0 c.load now.0
    given = c.gives was.0 now.0 was.1 now.1

    load-state : c.load.state ≡ Some has.0
    load-state = given.state ∙ has.1

    load-due : (x : Due) → Among x c.load.due ↔ (Among x was.0.due × (pipe_of S x ≡ pipe))
    load-due x = (
      (λ m.
          let t = Among-from-filter (λ (y : Due). pipe_of S y == pipe) x was.0.due (subst (Among x) given.parts.going_are m) in
          (t.0, eqb-true (pipe_of S x) pipe t.1)),
      λ m. subst (Among x) (sym given.parts.going_are)
          (Among-filter (λ (y : Due). pipe_of S y == pipe) x was.0.due m.0 (eq-eqb (pipe_of S x) pipe m.1)),
    )

    same-shelf : (core : ℕ) (s t : ShelfView) → slice_get shelves core ≡ Some s → slice_get shelves core ≡ Some t → s ≡ t
    same-shelf core s t e f = (let both : Some s ≡ Some t = sym e ∙ f in cc)

    -- what each core has
    pub moved-at : (core : ℕ) (g s t : ShelfView) → slice_get shelves giver ≡ Some g → slice_get shelves core ≡ Some s
        → slice_get new core ≡ Some t → MovesAt S pipe taker core g s t × IsCanonical t.due
    moved-at core g s t e f n = go (cases_eq core giver) (cases_eq core taker)
      where
        same : was.0 ≡ g
        same = same-shelf giver was.0 g was.1 e

        -- the giver's
        gave : core ≡ giver → MovesAt S pipe taker core g s t × IsCanonical t.due
        gave here = (
          record {
            state = λ to. absurd (apart (sym here ∙ to));
            gone = λ not. p.gone;
            other_pipes = p.other_pipes;
            due = λ x at. (
              (λ m. absurd (((p.parts.members x).0 m).1 at)),
              λ m. absurd (apart (sym here ∙ m.0)),
            );
            other_due = λ x not. ((λ m. ((p.parts.members x).0 m).0), λ m. (p.parts.members x).1 (m, not));
            settled = p.settled;
            store = p.store;
            visits = p.visits;
          },
          p.parts.canonical,
        )
          where
            p : GivesPipe S pipe s c.load t
            p = c.gives s t (ap (slice_get shelves) (sym here) ∙ f) (ap (slice_get new) (sym here) ∙ n)

        -- the taker's
        took : core ≡ taker → MovesAt S pipe taker core g s t × IsCanonical t.due
        took here = (
          record {
            state = λ to. p.state has.0 load-state ∙ sym has.1 ∙ ap (λ (u : ShelfView). pipe_in u.pipes pipe) same;
            gone = λ not. absurd (not here);
            other_pipes = p.other_pipes;
            due = λ x at. (
              (λ m. (
                here,
                ⊎_elim
                    (λ l. subst (λ (u : ShelfView). Among x u.due) same ((load-due x).0 l).0)
                    (λ o. absurd (mine x at o)) ((p.members x).0 m),
              )),
              λ m. (p.members x).1 (inl ((load-due x).1 (subst (λ (u : ShelfView). Among x u.due) (sym same) m.1, at))),
            );
            other_due = λ x not. (
              (λ m. ⊎_elim (λ l. absurd (not ((load-due x).0 l).1)) (λ o. o) ((p.members x).0 m)),
              λ m. (p.members x).1 (inr m),
            );
            settled = p.settled;
            store = p.store;
            visits = p.visits;
          },
          p.canonical,
        )
          where
            p : ReceivesPipe pipe c.load s t
            p = c.receives s t (ap (slice_get shelves) (sym here) ∙ f) (ap (slice_get new) (sym here) ∙ n)

            mine : (x : Due) → pipe_of S x ≡ pipe → Among x s.due → ⊥
            mine x at o = apart (sym owned ∙ ap (slice_index owners) (sym at) ∙ due-owner core s x f o ∙ here)

        -- any other
        stays : core ≢ giver → core ≢ taker → MovesAt S pipe taker core g s t × IsCanonical t.due
        stays not other = (
          record {
            state = λ to. absurd (other to);
            gone = λ k. ap (λ (u : ShelfView). pipe_in u.pipes pipe) is-same ∙ none (pipe_in s.pipes pipe) refl;
            other_pipes = λ q k. ap (λ (u : ShelfView). pipe_in u.pipes q) is-same;
            due = λ x at. (
              (λ m. absurd (not (sym (due-owner core s x f (subst (λ (u : ShelfView). Among x u.due) is-same m))
                  ∙ ap (slice_index owners) at ∙ owned))),
              λ m. absurd (other m.0),
            );
            other_due = λ x k. (
              (λ m. subst (λ (u : ShelfView). Among x u.due) is-same m),
              λ m. subst (λ (u : ShelfView). Among x u.due) (sym is-same) m,
            );
            settled = ap (λ (u : ShelfView). u.settled) is-same;
            store = ap (λ (u : ShelfView). u.store) is-same;
            visits = ap (λ (u : ShelfView). u.visits) is-same;
          },
          subst (λ (u : ShelfView). IsCanonical u.due) (sym is-same) (a.due core s f).canonical,
        )
          where
            is-same : t ≡ s
            is-same = (let both : Some t ≡ Some s = sym n ∙ c.others core not other ∙ f in cc)

            none : (o : Option SetupPipeView) → pipe_in s.pipes pipe ≡ o → pipe_in s.pipes pipe ≡ None
            none None k = k
            none (Some m) k = absurd (not (sym (a.pipes.nowhere_else core pipe s m f k).1 ∙ owned))

        go : (core ≡ giver) ⊎ (core ≢ giver) → (core ≡ taker) ⊎ (core ≢ taker) → MovesAt S pipe taker core g s t × IsCanonical t.due
        go (inl here) k = gave here
        go (inr not) (inl here) = took here
        go (inr not) (inr other) = stays not other

    abbrev moved_owners : List ℕ
    moved_owners = slice_set owners pipe taker

    here-owner : (q : ℕ) → q ≡ pipe → slice_index moved_owners q ≡ taker
    here-owner q e =
        ap (slice_index moved_owners) e ∙ get_or-set_same owners pipe taker 0 (omega (arith, named, a.one_a_pipe))

    other-owner : (q : ℕ) → q ≢ pipe → slice_index moved_owners q ≡ slice_index owners q
    other-owner q not = get_or-set_other owners pipe q taker 0 not

    old-at : (core : ℕ) (t : ShelfView) → slice_get new core ≡ Some t → (s : ShelfView) × (slice_get shelves core ≡ Some s)
    old-at core t n = at-within shelves core (let l = slice_get_within new core t n in omega (arith, l, c.as_many))

    abbrev At : ℕ → ShelfView → ShelfView → Type 0
    At core s t = MovesAt S pipe taker core was.0 s t

    at : (core : ℕ) (t : ShelfView) (n : slice_get new core ≡ Some t) → At core (old-at core t n).0 t
    at core t n = (moved-at core was.0 (old-at core t n).0 t was.1 (old-at core t n).1 n).0

    -- all stands as it did, with the new owner
    pub moved-after : IsAfter S bytes J (slice_set owners pipe taker) counts new
    moved-after = record {
      growing = a.growing;
      one_a_core = c.as_many ∙ a.one_a_core;
      one_a_pipe = length-set owners pipe taker ∙ a.one_a_pipe;
      owned = all-owned;
      pipes = record { there = there; nowhere_else = nowhere_else };
      due = due;
      settled = λ core t n.
          (let s = old-at core t n in
          let k = at core t n in
          subst (λ l. AreSettled S bytes core (IsDecidedIn S J) l t.store) (sym k.settled)
          (subst (λ l. AreSettled S bytes core (IsDecidedIn S J) s.0.settled l) (sym k.store) (a.settled core s.0 s.1)));
      counted = a.counted;
    }
      where
        all-owned : All (λ core. core < S.cores) moved_owners
        all-owned q d below = go (cases_eq q pipe)
          where
            inside : q < length owners
            inside = omega (arith, below, length-set owners pipe taker)

            go : (q ≡ pipe) ⊎ (q ≢ pipe) → slice_index_or moved_owners q d < S.cores
            go (inl same) =
                let e : slice_index_or moved_owners q d ≡ taker =
                ap (λ (n : ℕ). slice_index_or moved_owners n d) same ∙ get_or-set_same owners pipe taker d (omega (arith, inside, same)) in
                omega (arith, e, within)
            go (inr not) =
                let e : slice_index_or moved_owners q d ≡ slice_index_or owners q d = get_or-set_other owners pipe q taker d not in
                let l : slice_index_or owners q d < S.cores = a.owned q d inside in
                omega (arith, e, l)

        there : (q : ℕ) (t : ShelfView) → q < length S.pipes → slice_get new (slice_index moved_owners q) ≡ Some t
            → HoldsPipe S J q t.pipes
        there q t known n = go (cases_eq q pipe)
          where
            go : (q ≡ pipe) ⊎ (q ≢ pipe) → HoldsPipe S J q t.pipes
            go (inl same) =
                let core = here-owner q same in
                let k = at (slice_index moved_owners q) t n in
                subst (λ (m : ℕ). HoldsPipe S J m t.pipes) (sym same) (has.0, k.state core ∙ has.1, has.2)
            go (inr not) =
                let s = old-at (slice_index moved_owners q) t n in
                let k = at (slice_index moved_owners q) t n in
                let h = a.pipes.there q s.0 known (ap (slice_get shelves) (sym (other-owner q not)) ∙ s.1) in
                (h.0, k.other_pipes q not ∙ h.1, h.2)

        nowhere_else : (core q : ℕ) (t : ShelfView) (m : SetupPipeView) → slice_get new core ≡ Some t → pipe_in t.pipes q ≡ Some m
            → (q < length S.pipes) × (slice_index moved_owners q ≡ core)
        nowhere_else core q t m n l = go (cases_eq q pipe) (cases_eq core taker)
          where
            go : (q ≡ pipe) ⊎ (q ≢ pipe) → (core ≡ taker) ⊎ (core ≢ taker)
                → (q < length S.pipes) × (slice_index moved_owners q ≡ core)
            go (inl same) (inl here) = (subst (λ (k : ℕ). k < length S.pipes) (sym same) named, here-owner q same ∙ sym here)
            go (inl same) (inr other) =
                let none : None ≡ Some m =
                sym ((at core t n).gone other) ∙ ap (pipe_in t.pipes) (sym same) ∙ l in
                cc
            go (inr not) k =
                let s = old-at core t n in
                let h = a.pipes.nowhere_else core q s.0 m s.1 (sym ((at core t n).other_pipes q not) ∙ l) in
                (h.0, other-owner q not ∙ h.1)

        due : (core : ℕ) (t : ShelfView) → slice_get new core ≡ Some t → ArePending S J moved_owners core t.due
        due core t n = record {
          canonical = (moved-at core was.0 s.0 t was.1 s.1 n).1;
          members = λ x. go x (cases_eq (pipe_of S x) pipe);
        }
          where
            s : (s : ShelfView) × (slice_get shelves core ≡ Some s)
            s = old-at core t n

            k : At core s.0 t
            k = at core t n

            go : (x : Due) → (pipe_of S x ≡ pipe) ⊎ (pipe_of S x ≢ pipe)
                → Among x t.due ↔ (Among x (pending S J) × (slice_index moved_owners (pipe_of S x) ≡ core))
            go x (inl same) = (
              (λ m. let d = (k.due x same).0 m in
                  ((((a.due giver was.0 was.1).members x).0 d.1).0, here-owner (pipe_of S x) same ∙ sym d.0)),
              λ m. (k.due x same).1 (
                sym m.1 ∙ here-owner (pipe_of S x) same,
                ((a.due giver was.0 was.1).members x).1 (m.0, ap (slice_index owners) same ∙ owned),
              ),
            )
            go x (inr not) = (
              (λ m. let d = ((a.due core s.0 s.1).members x).0 ((k.other_due x not).0 m) in
                  (d.0, other-owner (pipe_of S x) not ∙ d.1)),
              λ m. (k.other_due x not).1 (((a.due core s.0 s.1).members x).1 (m.0, sym (other-owner (pipe_of S x) not) ∙ m.1)),
            )
