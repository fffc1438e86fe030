-- What is due at a core: which visits it learns of, when, and that those of a window are all known when it is run.
use Rattle.std.proofs.Common.{◌≡◌, ◌≢◌, ◌⊎◌, inl, inr, ℕ, ◌+◌, ◌<◌, ◌≤◌, Option, Some, None, refl, sym, ap, ◌∙◌, subst, arith}
use Rattle.std.proofs.lemmas.Bool.{cases_eq, cases_lt}
use Rattle.mn_base.specs.Among.{Among}
use Rattle.journal.specs.declared.visit.Visit.{Visit}
use Rattle.journal.specs.SetupView.{SetupView}
use Rattle.journal.specs.IsSetup.{IsSetup}
use Rattle.journal.specs.Journal.{journal_of}
use Rattle.parcel.specs.Owners.{owner_of}
use Rattle.parcel.specs.Lookahead.{lookahead_of}
use Rattle.parcel.specs.Windows.{window_count, window_of}
use Rattle.parcel.specs.Known.{Origin, origin_of, KnowsOf, IsKnown, IsLeastKnown}
use Rattle.parcel.specs.Parcels.{IsArrival}
use Rattle.parcel.specs.DueAt.{WasTold, IsDueAt}
use Rattle.parcel.specs.Laws.{Starts}
use Rattle.journal.proofs.Ends.{hops_are_later}
use Rattle.parcel.proofs.WindowLaws.{window-rises, window-in, counted-starts, in-window, window-late}
use Rattle.parcel.proofs.Origins.{IsPredecessor, Comes, comes, origin-first, origin-next}
use Rattle.parcel.proofs.Crossings.{lookahead_holds}
use Rattle.parcel.proofs.Leasts.{least-late, least-reached, known-none, one_least}

-- what is known when the parcels of a number are made: what is due at the core, having taken all earlier parcels, and what it tells
abbrev pub IsKnownBy : SetupView → ℕ → ℕ → Visit → Type 0
IsKnownBy S core number v =
    IsDueAt S core number (λ other. number) v ⊎ ((receiver : ℕ) × (receiver ≢ core) × IsArrival S core receiver number v)

module _ (S : SetupView) (is : IsSetup S) where
  -- the visit after this one is later, and in this window or a later one
  pub predecessor-earlier : (u v : Visit) → IsPredecessor S u v → Among v (journal_of S) → u.tick < v.tick
  predecessor-earlier u v i a =
      let hop : v.hop ≡ u.hop + 1 = i.hop in hops_are_later S is u v i.among a i.packet (omega (arith, hop))

  pub predecessor-window : (u v : Visit) → IsPredecessor S u v → Among v (journal_of S) → window_of S u.tick ≤ window_of S v.tick
  predecessor-window u v i a =
      let l : u.tick < v.tick = predecessor-earlier u v i a in window-rises S u.tick v.tick (omega (arith, l))

  -- of what is in this window or later, what is before its end is in it
  pub window-here : (number start : ℕ) (v : Visit) → Starts S number start → Among v (journal_of S) → number ≤ window_of S v.tick
      → v.tick < start + lookahead_of S → window_of S v.tick ≡ number
  window-here number start v s a low high =
      window-in S number v.tick (record { start = start; starts = s; low = window-late S is number start v s a low; high = high })

  -- and what is in it is before its end
  pub window-ends : (number start : ℕ) (v : Visit) → Starts S number start → Among v (journal_of S) → window_of S v.tick ≡ number
      → v.tick < start + lookahead_of S
  window-ends number start v s a e =
      let i = in-window S is v a in
      let there : Starts S number i.start = subst (λ (n : ℕ). Starts S n i.start) e i.starts in
      let both : Some i.start ≡ Some start = sym there ∙ s in
      let same : i.start ≡ start = cc in
      let high : v.tick < i.start + lookahead_of S = i.high in
      omega (arith, same, high)

  -- a visit that a core is to run in a window is known by then, or follows one that it runs in the same window
  pub due-or-follows : (core number : ℕ) (taken : ℕ → ℕ) → ((other : ℕ) → other ≢ core → taken other ≡ number + 1)
      → (v : Visit) → Among v (journal_of S) → owner_of S v.pipe ≡ core → window_of S v.tick ≡ number
      → IsDueAt S core number taken v
      ⊎ ((u : Visit) × IsPredecessor S u v × (owner_of S u.pipe ≡ core) × (window_of S u.tick ≡ number))
  due-or-follows core number taken all v a mine here = go (cases_eq (origin_of S v).core core)
    where
      due : WasTold S core number taken v
          → IsDueAt S core number taken v
          ⊎ ((u : Visit) × IsPredecessor S u v × (owner_of S u.pipe ≡ core) × (window_of S u.tick ≡ number))
      due told = inl (record { among = a; owner = mine; window = omega (arith, here); told = told })

      go : ((origin_of S v).core ≡ core) ⊎ ((origin_of S v).core ≢ core)
          → IsDueAt S core number taken v
          ⊎ ((u : Visit) × IsPredecessor S u v × (owner_of S u.pipe ≡ core) × (window_of S u.tick ≡ number))
      go (inr other) =
          let l : (origin_of S v).number ≤ window_of S v.tick = lookahead_holds S is v a (λ same. other (same ∙ mine)) in
          let t : taken (origin_of S v).core ≡ number + 1 = all (origin_of S v).core other in
          due (inr (other, omega (arith, l, t, here)))
      go (inl own) = split (comes S is v a)
        where
          split : Comes S v
              → IsDueAt S core number taken v
              ⊎ ((u : Visit) × IsPredecessor S u v × (owner_of S u.pipe ≡ core) × (window_of S u.tick ≡ number))
          split (inl e) =
              let zero : (origin_of S v).number ≡ 0 = ap (λ (o : Origin). o.number) (origin-first S is v e) in
              due (inl (own, omega (arith, zero)))
          split (inr b) = choose (cases_lt (window_of S b.0.tick) number)
            where
              o : origin_of S v ≡ record { core = owner_of S b.0.pipe; number = window_of S b.0.tick + 1 }
              o = origin-next S is b.0 v b.1

              count : (origin_of S v).number ≡ window_of S b.0.tick + 1
              count = ap (λ (x : Origin). x.number) o

              choose : (window_of S b.0.tick < number) ⊎ (number ≤ window_of S b.0.tick)
                  → IsDueAt S core number taken v
                  ⊎ ((u : Visit) × IsPredecessor S u v × (owner_of S u.pipe ≡ core) × (window_of S u.tick ≡ number))
              choose (inl l) = due (inl (own, omega (arith, l, count)))
              choose (inr l) =
                  let below : window_of S b.0.tick ≤ window_of S v.tick = predecessor-window b.0 v b.1 a in
                  inr (b.0, b.1, sym (ap (λ (x : Origin). x.core) o) ∙ own, omega (arith, l, below, here))

  -- what a core knows as it makes its parcels: what is due there, and what it tells
  pub known-by : (core number : ℕ) (v : Visit) → IsKnown S core number v → IsKnownBy S core number v
  known-by core number v k = go k.knows
    where
      go : KnowsOf S core number v → IsKnownBy S core number v
      go (inl m) = inl (record { among = k.among; owner = m.0; window = k.window; told = inl (m.1, m.2) })
      go (inr (inl m)) = inl (record { among = k.among; owner = m.0; window = k.window; told = inr (m.1, m.2) })
      go (inr (inr m)) =
          inr (owner_of S v.pipe, m.0, record { among = k.among; owner = refl; from_core = m.1; from_number = m.2 })

  pub known-from : (core number : ℕ) (v : Visit) → IsKnownBy S core number v → IsKnown S core number v
  known-from core number v (inl d) = record { among = d.among; window = d.window; knows = go d.told }
    where
      go : WasTold S core number (λ other. number) v → KnowsOf S core number v
      go (inl m) = inl (d.owner, m.0, m.1)
      go (inr m) = inr (inl (d.owner, m.0, m.1))
  known-from core number v (inr t) =
      let i = t.2 in
      let away : owner_of S v.pipe ≢ core = λ same. t.1 (sym i.owner ∙ same) in
      let l : (origin_of S v).number ≤ window_of S v.tick =
      lookahead_holds S is v i.among (λ same. away (sym same ∙ i.from_core)) in
      let e : (origin_of S v).number ≡ number = i.from_number in
      record { among = i.among; window = omega (arith, l, e); knows = inr (inr (away, i.from_core, i.from_number)) }

  -- the least of all cores' least ticks starts the next window
  pub least-starts : (number : ℕ) (leasts : ℕ → Option ℕ) → ((core : ℕ) → core < S.cores → IsLeastKnown S core number (leasts core))
      → (start who : ℕ) → who < S.cores → leasts who ≡ Some start
      → ((core tick : ℕ) → core < S.cores → leasts core ≡ Some tick → start ≤ tick)
      → Starts S number start
  least-starts number leasts all start who below here least = go (cases_lt number (window_count S))
    where
      of_who : IsLeastKnown S who number (Some start)
      of_who = subst (IsLeastKnown S who number) here (all who below)

      go : (number < window_count S) ⊎ (window_count S ≤ number) → Starts S number start
      go (inr over) = absurd (known-none S is number who over of_who.0.0 of_who.0.1)
      go (inl l) =
          let s = counted-starts S number l in
          let low : s.0 ≤ start = least-late S is number s.0 who start s.1 of_who in
          let k = least-reached S is number s.0 s.1 in
          let at : leasts k.0 ≡ Some s.0 = one_least S is k.0 number (leasts k.0) (Some s.0) (all k.0 k.1) k.2 in
          let high : start ≤ s.0 = least k.0 s.0 k.1 at in
          subst (λ (t : ℕ). Starts S number t) (omega (arith, low, high)) s.1

  -- and where no core has one, all windows are run
  pub least-none : (number : ℕ) (leasts : ℕ → Option ℕ) → ((core : ℕ) → core < S.cores → IsLeastKnown S core number (leasts core))
      → ((core : ℕ) → core < S.cores → leasts core ≡ None) → number ≤ window_count S → number ≡ window_count S
  least-none number leasts all none most = go (cases_lt number (window_count S))
    where
      go : (number < window_count S) ⊎ (window_count S ≤ number) → number ≡ window_count S
      go (inr over) = omega arith
      go (inl l) =
          let s = counted-starts S number l in
          let k = least-reached S is number s.0 s.1 in
          let at : leasts k.0 ≡ Some s.0 = one_least S is k.0 number (leasts k.0) (Some s.0) (all k.0 k.1) k.2 in
          let clash : None ≡ Some s.0 = sym (none k.0 k.1) ∙ at in
          cc
