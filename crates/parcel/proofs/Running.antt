-- What is due at a core while it runs a window, visit by visit: the next visit that it has to make is the first of what is due, and
-- after it what follows it is due, too. At both ends of the window it is what is due between windows.
use Rattle.std.proofs.Common.{◌≡◌, ◌≢◌, ◌⊎◌, inl, inr, ⊎_elim, ℕ, zero, suc, ◌+◌, ◌<◌, ◌≤◌, List, [], ◌∷◌, ◌++◌, Option, Some, None, append_assoc, refl, sym, ap, ◌∙◌, subst, arith}
use Rattle.std.proofs.lemmas.Bool.{cases_eq, cases_lt}
use Rattle.std.specs.Prelude.{◌↔◌}
use Rattle.mn_base.specs.Among.{Among}
use Rattle.mn_base.specs.Canonical.{Before}
use Rattle.pipe.specs.Scheme.{Rises}
use Rattle.journal.specs.declared.visit.Visit.{Visit}
use Rattle.journal.specs.SetupView.{SetupView}
use Rattle.journal.specs.IsSetup.{IsSetup}
use Rattle.journal.specs.Hops.{due_of}
use Rattle.journal.specs.IsJournal.{scheme_of}
use Rattle.journal.specs.Journal.{journal_of}
use Rattle.parcel.specs.Owners.{owner_of}
use Rattle.parcel.specs.Windows.{window_of}
use Rattle.parcel.specs.Lookahead.{lookahead_of}
use Rattle.parcel.specs.Known.{Origin, predecessor, origin_of}
use Rattle.parcel.specs.DueAt.{WasTold, IsDueAt, HasComeBy, IsDueAfter}
use Rattle.parcel.specs.Laws.{Starts}
use Rattle.mn_base.proofs.Members.{Among-append-left, Among-append-right, Among-append}
use Rattle.pipe.proofs.CanonicalOrder.{before-irreflexive, before-tick}
use Rattle.pipe.proofs.Origins.{rises-across, rises-rest}
use Rattle.journal.proofs.Meets.{meets}
use Rattle.parcel.proofs.Starts.{TicksRise}
use Rattle.parcel.proofs.WindowLaws.{ticks-rise, window-rises, starts-window, window-early}
use Rattle.parcel.proofs.Origins.{IsPredecessor, Comes, comes, predecessor-first, predecessor-is, origin-first, origin-next}
use Rattle.parcel.proofs.Crossings.{crossing-window}
use Rattle.parcel.proofs.Due.{predecessor-earlier, predecessor-window, window-ends}

-- the journal is cut where a core has run so many windows
pub record IsCut (S : SetupView) (core windows : ℕ) (front rest : List Visit) : Type 0 where
  pub split : front ++ rest ≡ journal_of S
  pub early : (u : Visit) → Among u front → owner_of S u.pipe ≡ core → window_of S u.tick < windows
  pub late : (u : Visit) → Among u rest → owner_of S u.pipe ≡ core → windows ≤ window_of S u.tick

-- v is the next visit that the core makes
pub record IsNextOwn (S : SetupView) (core : ℕ) (rest skipped : List Visit) (v : Visit) (behind : List Visit) : Type 0 where
  pub split : rest ≡ skipped ++ v ∷ behind
  pub others : (u : Visit) → Among u skipped → owner_of S u.pipe ≢ core
  pub owner : owner_of S v.pipe ≡ core

-- visits below a tick, and the others
pub cut-at : (bound : ℕ) (J : List Visit) → TicksRise J
    → (front rest : List Visit) × (front ++ rest ≡ J) × ((u : Visit) → Among u front → u.tick < bound) × ((u : Visit) → Among u rest → bound ≤ u.tick)
cut-at bound [] r = ([], [], refl, (λ u a. absurd a), λ u a. absurd a)
cut-at bound (v ∷ J) r = go (cases_lt v.tick bound) (cut-at bound J r.1)
  where
    go : (v.tick < bound) ⊎ (bound ≤ v.tick)
        → (front rest : List Visit) × (front ++ rest ≡ J) × ((u : Visit) → Among u front → u.tick < bound) × ((u : Visit) → Among u rest → bound ≤ u.tick)
        → (front rest : List Visit) × (front ++ rest ≡ v ∷ J) × ((u : Visit) → Among u front → u.tick < bound) × ((u : Visit) → Among u rest → bound ≤ u.tick)
    go (inl l) c = (v ∷ c.0, c.1, ap (λ (xs : List Visit). v ∷ xs) c.2, early, c.4)
      where
        early : (u : Visit) → Among u (v ∷ c.0) → u.tick < bound
        early u (inl e) = subst (λ (w : Visit). w.tick < bound) e l
        early u (inr a) = c.3 u a
    go (inr l) c = ([], v ∷ J, refl, (λ u a. absurd a), late)
      where
        late : (u : Visit) → Among u (v ∷ J) → bound ≤ u.tick
        late u (inl e) = subst (λ (w : Visit). bound ≤ w.tick) e l
        late u (inr a) = let o : v.tick ≤ u.tick = r.0 u a in omega (arith, o, l)

module _ (S : SetupView) (is : IsSetup S) where
  rises : Rises (scheme_of S) (journal_of S)
  rises = (meets S is).rises

  -- at the start of a window the journal is cut for every core
  pub cut-start : (number start : ℕ) → Starts S number start
      → (front rest : List Visit) × ((core : ℕ) → IsCut S core number front rest)
  cut-start number start s =
      let c = cut-at start (journal_of S) (ticks-rise S (journal_of S) rises) in (
        c.0,
        c.1,
        λ core. record {
          split = c.2;
          early = λ u a own. window-early S is number start u s (subst (Among u) c.2 (Among-append-left u c.0 c.1 a)) (c.3 u a);
          late = λ u a own. (let up : window_of S start ≤ window_of S u.tick = window-rises S start u.tick (c.4 u a) in
              let e : window_of S start ≡ number = starts-window S number start s in
              omega (arith, up, e));
        },
      )

  -- what comes before a visit has come, where it was told by then, and back
  told-come : (core windows window : ℕ) (taken : ℕ → ℕ) {front rest : List Visit} → IsCut S core windows front rest
      → ((other : ℕ) → other ≢ core → taken other ≡ window + 1)
      → (v : Visit) → Among v (journal_of S) → WasTold S core windows taken v → HasComeBy S core window front (predecessor S v)
  told-come core windows window taken {front} {rest} cut all v a told = go (comes S is v a)
    where
      go : Comes S v → HasComeBy S core window front (predecessor S v)
      go (inl e) = subst (HasComeBy S core window front) (sym (predecessor-first S is v e)) tt
      go (inr b) = subst (HasComeBy S core window front) (sym (predecessor-is S is b.0 v b.1)) (split told)
        where
          o : origin_of S v ≡ record { core = owner_of S b.0.pipe; number = window_of S b.0.tick + 1 }
          o = origin-next S is b.0 v b.1

          number : (origin_of S v).number ≡ window_of S b.0.tick + 1
          number = ap (λ (x : Origin). x.number) o

          owner : (origin_of S v).core ≡ owner_of S b.0.pipe
          owner = ap (λ (x : Origin). x.core) o

          split : WasTold S core windows taken v → HasComeBy S core window front (Some b.0)
          split (inl m) = inl (sym owner ∙ m.0, here (Among-append b.0 front rest (subst (Among b.0) (sym cut.split) b.1.among)))
            where
              here : Among b.0 front ⊎ Among b.0 rest → Among b.0 front
              here (inl f) = f
              here (inr r) =
                  let late : windows ≤ window_of S b.0.tick = cut.late b.0 r (sym owner ∙ m.0) in
                  let l : (origin_of S v).number ≤ windows = m.1 in
                  absurd (omega (arith, late, l, number))
          split (inr m) =
              let l : (origin_of S v).number < taken (origin_of S v).core = m.1 in
              let t : taken (origin_of S v).core ≡ window + 1 = all (origin_of S v).core m.0 in
              inr ((λ same. m.0 (owner ∙ same)), omega (arith, l, t, number))

  come-told : (core windows window : ℕ) (taken : ℕ → ℕ) {front rest : List Visit} → IsCut S core windows front rest
      → ((other : ℕ) → other ≢ core → taken other ≡ window + 1)
      → (v : Visit) → Among v (journal_of S) → HasComeBy S core window front (predecessor S v) → WasTold S core windows taken v
  come-told core windows window taken {front} {rest} cut all v a come = go (comes S is v a)
    where
      go : Comes S v → WasTold S core windows taken v
      go (inl e) = split (cases_eq (origin_of S v).core core)
        where
          number : (origin_of S v).number ≡ 0
          number = ap (λ (x : Origin). x.number) (origin-first S is v e)

          split : ((origin_of S v).core ≡ core) ⊎ ((origin_of S v).core ≢ core) → WasTold S core windows taken v
          split (inl own) = inl (own, omega (arith, number))
          split (inr other) =
              let t : taken (origin_of S v).core ≡ window + 1 = all (origin_of S v).core other in
              inr (other, omega (arith, number, t))
      go (inr b) = split (subst (HasComeBy S core window front) (predecessor-is S is b.0 v b.1) come)
        where
          o : origin_of S v ≡ record { core = owner_of S b.0.pipe; number = window_of S b.0.tick + 1 }
          o = origin-next S is b.0 v b.1

          number : (origin_of S v).number ≡ window_of S b.0.tick + 1
          number = ap (λ (x : Origin). x.number) o

          owner : (origin_of S v).core ≡ owner_of S b.0.pipe
          owner = ap (λ (x : Origin). x.core) o

          split : HasComeBy S core window front (Some b.0) → WasTold S core windows taken v
          split (inl m) =
              let l : window_of S b.0.tick < windows = cut.early b.0 m.1 m.0 in inl (owner ∙ m.0, omega (arith, l, number))
          split (inr m) =
              let other : (origin_of S v).core ≢ core = λ same. m.0 (sym owner ∙ same) in
              let t : taken (origin_of S v).core ≡ window + 1 = all (origin_of S v).core other in
              let l : window_of S b.0.tick < window = m.1 in
              inr (other, omega (arith, l, t, number))

  -- between windows, with all parcels up to `window` taken, what is due is the same, said either way: at the start of a window
  -- as many are run as its number says, and at its end one more
  pub due-cut : (core windows window : ℕ) (taken : ℕ → ℕ) (front rest : List Visit) → IsCut S core windows front rest
      → ((other : ℕ) → other ≢ core → taken other ≡ window + 1)
      → (v : Visit) → IsDueAfter S core window front rest v ↔ IsDueAt S core windows taken v
  due-cut core windows window taken front rest cut all v = (there, back)
    where
      there : IsDueAfter S core window front rest v → IsDueAt S core windows taken v
      there d =
          let a : Among v (journal_of S) = subst (Among v) cut.split (Among-append-right v front rest d.among) in
          record {
            among = a;
            owner = d.owner;
            window = cut.late v d.among d.owner;
            told = come-told core windows window taken cut all v a d.come;
          }

      back : IsDueAt S core windows taken v → IsDueAfter S core window front rest v
      back d = record {
        among = here (Among-append v front rest (subst (Among v) (sym cut.split) d.among));
        owner = d.owner;
        come = told-come core windows window taken cut all v d.among d.told;
      }
        where
          here : Among v front ⊎ Among v rest → Among v rest
          here (inr r) = r
          here (inl f) =
              let early : window_of S v.tick < windows = cut.early v f d.owner in
              let late : windows ≤ window_of S v.tick = d.window in
              absurd (omega (arith, early, late))

  module _ (core window : ℕ) (front rest : List Visit) (whole : front ++ rest ≡ journal_of S) where
    rise : Rises (scheme_of S) (front ++ rest)
    rise = subst (Rises (scheme_of S)) (sym whole) rises

    among-rest : (v : Visit) → Among v rest → Among v (journal_of S)
    among-rest v a = subst (Among v) whole (Among-append-right v front rest a)

    -- a visit of the core in this window that is still to be made is due, or follows one that is
    pub due-now : (v : Visit) → Among v rest → owner_of S v.pipe ≡ core → window_of S v.tick ≡ window
        → IsDueAfter S core window front rest v
        ⊎ ((u : Visit) × IsPredecessor S u v × Among u rest × (owner_of S u.pipe ≡ core))
    due-now v a own here = go (comes S is v (among-rest v a))
      where
        due : HasComeBy S core window front (predecessor S v)
            → IsDueAfter S core window front rest v
            ⊎ ((u : Visit) × IsPredecessor S u v × Among u rest × (owner_of S u.pipe ≡ core))
        due come = inl (record { among = a; owner = own; come = come })

        go : Comes S v
            → IsDueAfter S core window front rest v
            ⊎ ((u : Visit) × IsPredecessor S u v × Among u rest × (owner_of S u.pipe ≡ core))
        go (inl e) = due (subst (HasComeBy S core window front) (sym (predecessor-first S is v e)) tt)
        go (inr b) = split (cases_eq (owner_of S b.0.pipe) core)
          where
            come : HasComeBy S core window front (Some b.0)
                → IsDueAfter S core window front rest v
                ⊎ ((u : Visit) × IsPredecessor S u v × Among u rest × (owner_of S u.pipe ≡ core))
            come h = due (subst (HasComeBy S core window front) (sym (predecessor-is S is b.0 v b.1)) h)

            split : (owner_of S b.0.pipe ≡ core) ⊎ (owner_of S b.0.pipe ≢ core)
                → IsDueAfter S core window front rest v
                ⊎ ((u : Visit) × IsPredecessor S u v × Among u rest × (owner_of S u.pipe ≡ core))
            split (inr other) =
                let l : window_of S b.0.tick < window_of S v.tick =
                crossing-window S is b.0 v b.1 (among-rest v a) (λ same. other (same ∙ own)) in
                come (inr (other, omega (arith, l, here)))
            split (inl mine) = place (Among-append b.0 front rest (subst (Among b.0) (sym whole) b.1.among))
              where
                place : Among b.0 front ⊎ Among b.0 rest
                    → IsDueAfter S core window front rest v
                    ⊎ ((u : Visit) × IsPredecessor S u v × Among u rest × (owner_of S u.pipe ≡ core))
                place (inl f) = come (inl (mine, f))
                place (inr r) = inr (b.0, b.1, r, mine)

    -- where nothing that is due is before the end of the window, the core has made all its visits of it
    none_left_by : (n start : ℕ) → Starts S window start
        → ((u : Visit) → Among u rest → owner_of S u.pipe ≡ core → window ≤ window_of S u.tick)
        → ((u : Visit) → IsDueAfter S core window front rest u → start + lookahead_of S ≤ u.tick)
        → (v : Visit) → Among v rest → owner_of S v.pipe ≡ core → window_of S v.tick ≡ window → v.hop < n → ⊥
    none_left_by zero start s late ends v a own here fuel = omega arith
    none_left_by (suc n) start s late ends v a own here fuel =
        go (due-now v a own here) (λ u b mine at l. none_left_by n start s late ends u b mine at l)
      where
        go : IsDueAfter S core window front rest v ⊎ ((u : Visit) × IsPredecessor S u v × Among u rest × (owner_of S u.pipe ≡ core))
            → ((u : Visit) → Among u rest → owner_of S u.pipe ≡ core → window_of S u.tick ≡ window → u.hop < n → ⊥) → ⊥
        go (inl d) again =
            let end : start + lookahead_of S ≤ v.tick = ends v d in
            let high : v.tick < start + lookahead_of S = window-ends S is window start v s (among-rest v a) here in
            omega (arith, end, high)
        go (inr u) again =
            let up : window_of S u.0.tick ≤ window_of S v.tick = predecessor-window S is u.0 v u.1 (among-rest v a) in
            let low : window ≤ window_of S u.0.tick = late u.0 u.2 u.3 in
            let hop : v.hop ≡ u.0.hop + 1 = u.1.hop in
            again u.0 u.2 u.3 (omega (arith, up, low, here)) (omega (arith, hop, fuel))

    pub none_left : (start : ℕ) → Starts S window start
        → ((u : Visit) → Among u rest → owner_of S u.pipe ≡ core → window ≤ window_of S u.tick)
        → ((u : Visit) → IsDueAfter S core window front rest u → start + lookahead_of S ≤ u.tick)
        → (v : Visit) → Among v rest → owner_of S v.pipe ≡ core → window + 1 ≤ window_of S v.tick
    none_left start s late ends v a own = go (cases_eq (window_of S v.tick) window)
      where
        go : (window_of S v.tick ≡ window) ⊎ (window_of S v.tick ≢ window) → window + 1 ≤ window_of S v.tick
        go (inl here) = absurd (none_left_by (v.hop + 1) start s late ends v a own here (omega arith))
        go (inr other) = let low : window ≤ window_of S v.tick = late v a own in omega (arith, low, other)

    module _ (skipped : List Visit) (v : Visit) (behind : List Visit) (next : IsNextOwn S core rest skipped v behind) where
      v-among : Among v rest
      v-among = subst (Among v) (sym next.split) (Among-append-right v skipped (v ∷ behind) (inl refl))

      before-v : (u : Visit) → IsPredecessor S u v → owner_of S u.pipe ≡ core → Among u rest → ⊥
      before-v u i mine r = go (Among-append u skipped (v ∷ behind) (subst (Among u) next.split r))
        where
          early : u.tick < v.tick
          early = predecessor-earlier S is u v i (among-rest v v-among)

          order : Rises (scheme_of S) (v ∷ behind)
          order =
              rises-rest (scheme_of S) skipped (v ∷ behind)
              (subst (Rises (scheme_of S)) next.split (rises-rest (scheme_of S) front rest rise))

          go : Among u skipped ⊎ ((v ≡ u) ⊎ Among u behind) → ⊥
          go (inl s) = next.others u s mine
          go (inr (inl e)) = let t : v.tick ≡ u.tick = ap (λ (w : Visit). w.tick) e in omega (arith, t, early)
          go (inr (inr b)) = let o : v.tick ≤ u.tick = before-tick (due_of v) (due_of u) (order.0 u b) in omega (arith, o, early)

      -- the next visit of the core, if it is in this window, is due
      pub next-due : window_of S v.tick ≡ window → IsDueAfter S core window front rest v
      next-due here = ⊎_elim (λ d. d) (λ u. absurd (before-v u.0 u.1 u.3 u.2)) (due-now v v-among next.owner here)

      -- and before all else that is due
      pub next-first : (w : Visit) → IsDueAfter S core window front rest w → (v ≡ w) ⊎ Before (due_of v) (due_of w)
      next-first w d = go (Among-append w skipped (v ∷ behind) (subst (Among w) next.split d.among))
        where
          order : Rises (scheme_of S) (v ∷ behind)
          order =
              rises-rest (scheme_of S) skipped (v ∷ behind)
              (subst (Rises (scheme_of S)) next.split (rises-rest (scheme_of S) front rest rise))

          go : Among w skipped ⊎ ((v ≡ w) ⊎ Among w behind) → (v ≡ w) ⊎ Before (due_of v) (due_of w)
          go (inl s) = absurd (next.others w s d.owner)
          go (inr (inl e)) = inl e
          go (inr (inr b)) = inr (order.0 w b)

      -- once it is made, what follows it is due, and it is not
      abbrev made : List Visit
      made = front ++ (skipped ++ v ∷ [])

      whole-then : made ++ behind ≡ journal_of S
      whole-then =
          append_assoc front (skipped ++ v ∷ []) behind
          ∙ ap (λ (l : List Visit). front ++ l) (append_assoc skipped (v ∷ []) behind)
          ∙ ap (λ (l : List Visit). front ++ l) (sym next.split)
          ∙ whole

      rise-then : Rises (scheme_of S) (made ++ behind)
      rise-then = subst (Rises (scheme_of S)) (sym whole-then) rises

      v-made : Among v (front ++ (skipped ++ v ∷ []))
      v-made = Among-append-right v front (skipped ++ v ∷ []) (Among-append-right v skipped (v ∷ []) (inl refl))

      -- a visit that was due before v was made, and isn't v; or one of the core's that follows v
      abbrev pub WasDueOrFollows : Visit → Type 0
      WasDueOrFollows w =
          (IsDueAfter S core window front rest w × (v ≢ w))
          ⊎ (Among w (journal_of S) × (owner_of S w.pipe ≡ core) × (predecessor S w ≡ Some v))

      pub due-then : (w : Visit) → IsDueAfter S core window (front ++ (skipped ++ v ∷ [])) behind w
          ↔ WasDueOrFollows w
      due-then w = (there, back)
        where
          in-rest : Among w behind → Among w rest
          in-rest b = subst (Among w) (sym next.split) (Among-append-right w skipped (v ∷ behind) (inr b))

          apart : Among w behind → v ≢ w
          apart b e =
              before-irreflexive (due_of w)
              (subst (λ (x : Visit). Before (due_of x) (due_of w)) e (rises-across (scheme_of S) made behind v w rise-then v-made b))

          there : IsDueAfter S core window made behind w
              → WasDueOrFollows w
          there d = go (predecessor S w) refl d.come
            where
              old : (o : Option Visit) → predecessor S w ≡ o → HasComeBy S core window front o
                  → WasDueOrFollows w
              old o e h =
                  inl
                  (record { among = in-rest d.among; owner = d.owner; come = subst (HasComeBy S core window front) (sym e) h }, apart d.among)

              go : (o : Option Visit) → predecessor S w ≡ o → HasComeBy S core window made o
                  → WasDueOrFollows w
              go None e h = old None e tt
              go (Some u) e (inr m) = old (Some u) e (inr m)
              go (Some u) e (inl m) = split (Among-append u front (skipped ++ v ∷ []) m.1)
                where
                  split : Among u front ⊎ Among u (skipped ++ v ∷ [])
                      → WasDueOrFollows w
                  split (inl f) = old (Some u) e (inl (m.0, f))
                  split (inr b) = last (Among-append u skipped (v ∷ []) b)
                    where
                      last : Among u skipped ⊎ ((v ≡ u) ⊎ ⊥)
                          → WasDueOrFollows w
                      last (inl s) = absurd (next.others u s m.0)
                      last (inr (inl same)) = inr (among-rest w (in-rest d.among), d.owner, e ∙ ap Some (sym same))
                      last (inr (inr none)) = absurd none

          back : WasDueOrFollows w
              → IsDueAfter S core window made behind w
          back (inl m) = record { among = here; owner = m.0.owner; come = more (predecessor S w) m.0.come }
            where
              here : Among w behind
              here = go (Among-append w skipped (v ∷ behind) (subst (Among w) next.split m.0.among))
                where
                  go : Among w skipped ⊎ ((v ≡ w) ⊎ Among w behind) → Among w behind
                  go (inl s) = absurd (next.others w s m.0.owner)
                  go (inr (inl e)) = absurd (m.1 e)
                  go (inr (inr b)) = b

              more : (o : Option Visit) → HasComeBy S core window front o → HasComeBy S core window made o
              more None h = tt
              more (Some u) (inl h) = inl (h.0, Among-append-left u front (skipped ++ v ∷ []) h.1)
              more (Some u) (inr h) = inr h
          back (inr m) = record {
            among = here (Among-append w made behind (subst (Among w) (sym whole-then) m.0));
            owner = m.1;
            come = subst (HasComeBy S core window made) (sym m.2) (inl (next.owner, v-made));
          }
            where
              follows : v.tick < w.tick
              follows = go (comes S is w m.0)
                where
                  go : Comes S w → v.tick < w.tick
                  go (inl e) = let clash : None ≡ Some v = sym (predecessor-first S is w e) ∙ m.2 in cc
                  go (inr b) =
                      let both : Some b.0 ≡ Some v = sym (predecessor-is S is b.0 w b.1) ∙ m.2 in
                      let same : b.0 ≡ v = cc in
                      subst (λ (x : Visit). x.tick < w.tick) same (predecessor-earlier S is b.0 w b.1 m.0)

              in_front : Among w made → w.tick ≤ v.tick
              in_front f = go (Among-append w front (skipped ++ v ∷ []) f)
                where
                  go : Among w front ⊎ Among w (skipped ++ v ∷ []) → w.tick ≤ v.tick
                  go (inl a) = before-tick (due_of w) (due_of v) (rises-across (scheme_of S) front rest w v rise a v-among)
                  go (inr b) = split (Among-append w skipped (v ∷ []) b)
                    where
                      split : Among w skipped ⊎ ((v ≡ w) ⊎ ⊥) → w.tick ≤ v.tick
                      split (inl s) =
                          before-tick (due_of w) (due_of v)
                          (rises-across (scheme_of S) skipped (v ∷ behind) w v
                          (subst (Rises (scheme_of S)) next.split (rises-rest (scheme_of S) front rest rise)) s (inl refl))
                      split (inr (inl e)) = let t : v.tick ≡ w.tick = ap (λ (x : Visit). x.tick) e in omega (arith, t)
                      split (inr (inr none)) = absurd none

              here : Among w made ⊎ Among w behind → Among w behind
              here (inl f) = let l : w.tick ≤ v.tick = in_front f in absurd (omega (arith, l, follows))
              here (inr b) = b
