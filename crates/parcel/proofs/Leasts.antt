-- Which core knows of a visit in sight, and that the least tick of which any core knows starts the next window.
use Rattle.std.proofs.Common.{◌≡◌, ◌≢◌, ◌⊎◌, inl, inr, ℕ, ◌+◌, ◌<◌, ◌≤◌, Option, Some, None, refl, sym, ap, ◌∙◌, subst, arith}
use Rattle.std.proofs.lemmas.Bool.{cases_lt, cases_order}
use Rattle.mn_base.specs.Among.{Among}
use Rattle.journal.specs.declared.visit.Visit.{Visit}
use Rattle.journal.specs.SetupView.{SetupView}
use Rattle.journal.specs.IsSetup.{IsSetup}
use Rattle.journal.specs.Journal.{journal_of}
use Rattle.parcel.specs.Owners.{owner_of}
use Rattle.parcel.specs.Windows.{window_count, window_of}
use Rattle.parcel.specs.Known.{Origin, origin_of, KnowsOf, IsKnown, IsLeastKnown}
use Rattle.parcel.specs.Laws.{Starts, IsInSight, LeastHolds}
use Rattle.journal.proofs.Ends.{hops_are_later}
use Rattle.parcel.proofs.WindowLaws.{starts-visit, starts-window, counted-starts, window-late, window-early, windows_hold}
use Rattle.parcel.proofs.Origins.{Comes, comes, origin-first, origin-next, owner-below, origin-below}

module _ (S : SetupView) (is : IsSetup S) where
  pub keeper : (number : ℕ) (v : Visit) → IsInSight S number v → (core : ℕ) × (core < S.cores) × IsKnown S core number v
  keeper number v i = go (cases_order (owner_of S v.pipe) (origin_of S v).core) (cases_order (origin_of S v).number number)
    where
      told : (origin_of S v).number ≤ number
      told = i.told

      known : (core : ℕ) → KnowsOf S core number v → IsKnown S core number v
      known core k = record { among = i.among; window = i.window; knows = k }

      away : owner_of S v.pipe ≢ (origin_of S v).core
          → ((origin_of S v).number ≡ number) ⊎ (((origin_of S v).number < number) ⊎ (number < (origin_of S v).number))
          → (core : ℕ) × (core < S.cores) × IsKnown S core number v
      away other (inl e) = ((origin_of S v).core, origin-below S is v i.among, known _ (inr (inr (other, refl, e))))
      away other (inr (inl l)) =
          (owner_of S v.pipe, owner-below S is v i.among, known _ (inr (inl (refl, (λ same. other (sym same)), l))))
      away other (inr (inr l)) = absurd (omega (arith, told, l))

      go : (owner_of S v.pipe ≡ (origin_of S v).core)
          ⊎ ((owner_of S v.pipe < (origin_of S v).core) ⊎ ((origin_of S v).core < owner_of S v.pipe))
          → ((origin_of S v).number ≡ number) ⊎ (((origin_of S v).number < number) ⊎ (number < (origin_of S v).number))
          → (core : ℕ) × (core < S.cores) × IsKnown S core number v
      go (inl e) n = (owner_of S v.pipe, owner-below S is v i.among, known _ (inl (refl, sym e, told)))
      go (inr (inl l)) n = away (λ same. omega (arith, l, same)) n
      go (inr (inr l)) n = away (λ same. omega (arith, l, same)) n

  -- a visit that a core knows of is in sight
  pub known-told : (number core : ℕ) (v : Visit) → IsKnown S core number v → (origin_of S v).number ≤ number
  known-told number core v k = go k.knows
    where
      go : KnowsOf S core number v → (origin_of S v).number ≤ number
      go (inl m) = m.2
      go (inr (inl m)) = let l : (origin_of S v).number < number = m.2 in omega (arith, l)
      go (inr (inr m)) = let e : (origin_of S v).number ≡ number = m.2 in omega (arith, e)

  pub alone : (number : ℕ) (v : Visit) (core other : ℕ) → IsKnown S core number v → IsKnown S other number v → core ≡ other
  alone number v core other a b = go core other a.knows b.knows
    where
      go : (i j : ℕ) → KnowsOf S i number v → KnowsOf S j number v → i ≡ j
      go i j (inl m) (inl n) = sym m.0 ∙ n.0
      go i j (inl m) (inr (inl n)) = sym m.0 ∙ n.0
      go i j (inl m) (inr (inr n)) = sym m.1 ∙ n.1
      go i j (inr (inl m)) (inl n) = sym m.0 ∙ n.0
      go i j (inr (inl m)) (inr (inl n)) = sym m.0 ∙ n.0
      go i j (inr (inl m)) (inr (inr n)) =
          let l : (origin_of S v).number < number = m.2 in
          let e : (origin_of S v).number ≡ number = n.2 in absurd (omega (arith, l, e))
      go i j (inr (inr m)) (inl n) = sym m.1 ∙ n.1
      go i j (inr (inr m)) (inr (inl n)) =
          let l : (origin_of S v).number < number = n.2 in
          let e : (origin_of S v).number ≡ number = m.2 in absurd (omega (arith, l, e))
      go i j (inr (inr m)) (inr (inr n)) = sym m.1 ∙ n.1

  -- the visit that starts a window comes of an earlier one
  pub start-in_sight : (number : ℕ) (v : Visit) → Among v (journal_of S) → Starts S number v.tick → IsInSight S number v
  start-in_sight number v a s = record { among = a; window = here; told = go (comes S is v a) }
    where
      here : number ≤ window_of S v.tick
      here = let e : window_of S v.tick ≡ number = starts-window S number v.tick s in omega (arith, e)

      go : Comes S v → (origin_of S v).number ≤ number
      go (inl e) = subst (λ (o : Origin). o.number ≤ number) (sym (origin-first S is v e)) (omega arith)
      go (inr b) =
          let hop : v.hop ≡ b.0.hop + 1 = b.1.hop in
          let before : b.0.tick < v.tick = hops_are_later S is b.0 v b.1.among a b.1.packet (omega (arith, hop)) in
          let l : window_of S b.0.tick < number = window-early S is number v.tick b.0 s b.1.among before in
          subst (λ (o : Origin). o.number ≤ number) (sym (origin-next S is b.0 v b.1)) (omega (arith, l))

  -- what a core knows isn't before the start of the window
  pub known-late : (number start core : ℕ) (v : Visit) → Starts S number start → IsKnown S core number v → start ≤ v.tick
  known-late number start core v s k = window-late S is number start v s k.among k.window

  pub least-late : (number start core tick : ℕ) → Starts S number start → IsLeastKnown S core number (Some tick) → start ≤ tick
  least-late number start core tick s l =
      let late : start ≤ l.0.0.tick = known-late number start core l.0.0 s l.0.1 in
      let e : l.0.0.tick ≡ tick = l.0.2 in
      omega (arith, late, e)

  pub least-reached : (number start : ℕ) → Starts S number start
      → (core : ℕ) × (core < S.cores) × IsLeastKnown S core number (Some start)
  least-reached number start s =
      let v = starts-visit S number start s in
      let here : Starts S number v.0.tick = subst (λ (t : ℕ). Starts S number t) (sym v.2) s in
      let k = keeper number v.0 (start-in_sight number v.0 v.1 here) in
      (k.0, k.1, ((v.0, k.2, v.2), λ w j. known-late number start k.0 w s j))

  -- after the last window nothing is known
  pub known-none : (number core : ℕ) → window_count S ≤ number → IsLeastKnown S core number None
  known-none number core l v k =
      let c : window_of S v.tick < window_count S = (windows_hold S is).counted v k.among in
      let w : number ≤ window_of S v.tick = k.window in
      omega (arith, c, w, l)

  pub one_least : (core number : ℕ) (a b : Option ℕ) → IsLeastKnown S core number a → IsLeastKnown S core number b → a ≡ b
  one_least core number None None l m = refl
  one_least core number None (Some t) l m = absurd (l m.0.0 m.0.1)
  one_least core number (Some t) None l m = absurd (m l.0.0 l.0.1)
  one_least core number (Some t) (Some u) l m =
      let low : t ≤ m.0.0.tick = l.1 m.0.0 m.0.1 in
      let high : u ≤ l.0.0.tick = m.1 l.0.0 l.0.1 in
      let d : l.0.0.tick ≡ t = l.0.2 in
      let e : m.0.0.tick ≡ u = m.0.2 in
      ap Some (omega (arith, low, high, d, e))

  pub least_holds : LeastHolds S
  least_holds = record {
    keeper = keeper;
    alone = alone;
    in_sight = start-in_sight;
    bound = least-late;
    reached = least-reached;
    ends = λ number l. (ended number l, λ e core below. known-none number core (omega (arith, e)));
    one = one_least;
  }
    where
      ended : (number : ℕ) → number ≤ window_count S → ((core : ℕ) → core < S.cores → IsLeastKnown S core number None)
          → number ≡ window_count S
      ended number l none = go (cases_lt number (window_count S))
        where
          go : (number < window_count S) ⊎ (window_count S ≤ number) → number ≡ window_count S
          go (inr m) = omega arith
          go (inl m) =
              let s = counted-starts S number m in
              let k = least-reached number s.0 s.1 in
              absurd (none k.0 k.1 k.2.0.0 k.2.0.1)
