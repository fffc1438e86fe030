-- A packet takes at least the lookahead from one core to another.
use Rattle.std.proofs.Common.{◌≡◌, ◌≢◌, inl, inr, ℕ, zero, suc, ◌+◌, ◌<◌, ◌≤◌, ◌==◌, Bool, true, false, cond, nat_le, List, [], ◌∷◌, length, map, slice_index, refl, sym, ap, ◌∙◌, subst, arith, eqb-true}
use Rattle.mn_base.specs.Among.{Among}
use Rattle.mn_base.specs.declared.params.PipeParams.{PipeParams}
use Rattle.pipe.specs.Params.{last_params}
use Rattle.journal.specs.declared.setup.PacketPlan.{PacketPlan}
use Rattle.journal.specs.declared.visit.Visit.{Visit}
use Rattle.journal.specs.SetupView.{SetupView, route_of, params_of, first_params, changes_of}
use Rattle.journal.specs.IsSetup.{IsSetup}
use Rattle.journal.specs.Journal.{journal_of}
use Rattle.std.specs.List.{flat_map}
use Rattle.parcel.specs.Owners.{owner_of}
use Rattle.parcel.specs.Lookahead.{crossed_pipes, latencies_of, crossing_latencies, lookahead_of}
use Rattle.parcel.specs.Windows.{window_of}
use Rattle.parcel.specs.Known.{Origin, origin_of}
use Rattle.parcel.specs.Laws.{LookaheadHolds}
use Rattle.journal.proofs.Orderly.{IsGrowing, visit-pipe}
use Rattle.journal.proofs.Meets.{journal-grows}
use Rattle.journal.proofs.Count.{hop-within, packet-of_visit}
use Rattle.journal.proofs.Ends.{hops_wait}
use Rattle.parcel.proofs.Lookaheads.{Among-flat_map, least_is_lookahead}
use Rattle.parcel.proofs.WindowLaws.{window-behind}
use Rattle.parcel.proofs.Origins.{IsPredecessor, Comes, comes, origin-first, origin-next}

-- the latency at a tick is that of the first parameters or of a change
latency-among : (tick : ℕ) (first : PipeParams) (changes : List (ℕ × PipeParams))
    → Among (last_params tick first changes).latency_ticks (first.latency_ticks ∷ map (λ c. c.1.latency_ticks) changes)
latency-among tick first [] = inl refl
latency-among tick first (c ∷ changes) = go (nat_le c.0 tick) (λ p. latency-among tick p changes)
  where
    go : (b : Bool)
        → ((p : PipeParams) → Among (last_params tick p changes).latency_ticks (p.latency_ticks ∷ map (λ d. d.1.latency_ticks) changes))
        → Among (last_params tick (cond b c.1 first) changes).latency_ticks
        (first.latency_ticks ∷ c.1.latency_ticks ∷ map (λ d. d.1.latency_ticks) changes)
    go true rest = inr (rest c.1)
    go false rest = put (rest first)
      where
        put : Among (last_params tick first changes).latency_ticks (first.latency_ticks ∷ map (λ d. d.1.latency_ticks) changes)
            → Among (last_params tick first changes).latency_ticks
            (first.latency_ticks ∷ c.1.latency_ticks ∷ map (λ d. d.1.latency_ticks) changes)
        put (inl e) = inl e
        put (inr a) = inr (inr a)

-- a pipe that a route leaves for a pipe of another core
crossed-at : (owners : List ℕ) (route : List ℕ) (hop : ℕ) → hop + 1 < length route
    → slice_index owners (slice_index route hop) ≢ slice_index owners (slice_index route (suc hop))
    → Among (slice_index route hop) (crossed_pipes owners route)
crossed-at owners [] hop within other = absurd (omega arith)
crossed-at owners (pipe ∷ []) hop within other = absurd (omega arith)
crossed-at owners (pipe ∷ next ∷ route) zero within other = go (slice_index owners pipe == slice_index owners next) refl
  where
    go : (b : Bool) → (slice_index owners pipe == slice_index owners next) ≡ b
        → Among pipe (cond b (crossed_pipes owners (next ∷ route)) (pipe ∷ crossed_pipes owners (next ∷ route)))
    go true t = absurd (other (eqb-true _ _ t))
    go false t = inl refl
crossed-at owners (pipe ∷ next ∷ route) (suc hop) within other =
    go (slice_index owners pipe == slice_index owners next) (crossed-at owners (next ∷ route) hop (omega arith) other)
  where
    go : (b : Bool) → Among (slice_index (next ∷ route) hop) (crossed_pipes owners (next ∷ route))
        → Among (slice_index (next ∷ route) hop) (cond b (crossed_pipes owners (next ∷ route)) (pipe ∷ crossed_pipes owners (next ∷ route)))
    go true a = a
    go false a = inr a

module _ (S : SetupView) (is : IsSetup S) where
  grows : IsGrowing S (journal_of S)
  grows = journal-grows S is

  -- the latency of a pipe that a visit's packet leaves for a pipe of another core
  crossing-latency : (u v : Visit) → IsPredecessor S u v → Among v (journal_of S) → owner_of S u.pipe ≢ owner_of S v.pipe
      → Among (params_of S u.pipe u.tick).latency_ticks (crossing_latencies S)
  crossing-latency u v i a other =
      let p = packet-of_visit S is (journal_of S) grows v a in
      let within : v.hop < length (route_of S v.packet) = hop-within S is (journal_of S) grows v a in
      let hop : v.hop ≡ u.hop + 1 = i.hop in
      let here : u.pipe ≡ slice_index (route_of S v.packet) u.hop =
      visit-pipe S (journal_of S) u grows.made i.among ∙ ap (λ (n : ℕ). slice_index (route_of S n) u.hop) i.packet in
      let step : u.hop + 1 ≡ suc u.hop = omega arith in
      let next : v.pipe ≡ slice_index (route_of S v.packet) (suc u.hop) =
      visit-pipe S (journal_of S) v grows.made a ∙ ap (λ (h : ℕ). slice_index (route_of S v.packet) h) (hop ∙ step) in
      let crossed : Among u.pipe (crossed_pipes S.owners (route_of S v.packet)) =
      subst (λ (q : ℕ). Among q (crossed_pipes S.owners (route_of S v.packet))) (sym here)
      (crossed-at S.owners (route_of S v.packet) u.hop (omega (arith, within, hop))
      (λ same. other (ap (owner_of S) here ∙ same ∙ sym (ap (owner_of S) next)))) in
      let of_pipe : Among (params_of S u.pipe u.tick).latency_ticks (latencies_of S u.pipe) =
      latency-among u.tick (first_params S u.pipe) (changes_of S u.pipe) in
      let of_route : Among (params_of S u.pipe u.tick).latency_ticks
      (flat_map (latencies_of S) (crossed_pipes S.owners (route_of S v.packet))) =
      Among-flat_map (latencies_of S) u.pipe (params_of S u.pipe u.tick).latency_ticks (crossed_pipes S.owners (route_of S v.packet)) crossed of_pipe in
      Among-flat_map (λ (q : PacketPlan). flat_map (latencies_of S) (crossed_pipes S.owners (route_of S q.number))) p.0
      (params_of S u.pipe u.tick).latency_ticks S.packets p.1
      (subst (λ (n : ℕ). Among (params_of S u.pipe u.tick).latency_ticks (flat_map (latencies_of S) (crossed_pipes S.owners (route_of S n))))
      (sym p.2) of_route)

  -- from a core's pipe to another's a packet takes the lookahead at least
  pub crossing-waits : (u v : Visit) → IsPredecessor S u v → Among v (journal_of S) → owner_of S u.pipe ≢ owner_of S v.pipe
      → u.tick + lookahead_of S ≤ v.tick
  crossing-waits u v i a other =
      let wait : u.tick + (params_of S u.pipe u.tick).latency_ticks ≤ v.tick = hops_wait S is u v i.among a i.packet i.hop in
      let long : lookahead_of S ≤ (params_of S u.pipe u.tick).latency_ticks =
      (least_is_lookahead S).crossing (params_of S u.pipe u.tick).latency_ticks (crossing-latency u v i a other) in
      omega (arith, wait, long)

  -- so it comes in a later window
  pub crossing-window : (u v : Visit) → IsPredecessor S u v → Among v (journal_of S) → owner_of S u.pipe ≢ owner_of S v.pipe
      → window_of S u.tick < window_of S v.tick
  crossing-window u v i a other = window-behind S is u v.tick i.among (crossing-waits u v i a other)

  pub lookahead_holds : LookaheadHolds S
  lookahead_holds v a other = go (comes S is v a)
    where
      go : Comes S v → (origin_of S v).number ≤ window_of S v.tick
      go (inl e) = subst (λ (o : Origin). o.number ≤ window_of S v.tick) (sym (origin-first S is v e)) (omega arith)
      go (inr b) =
          let e = origin-next S is b.0 v b.1 in
          let away : owner_of S b.0.pipe ≢ owner_of S v.pipe = λ same. other (ap (λ (o : Origin). o.core) e ∙ same) in
          let l : window_of S b.0.tick < window_of S v.tick = crossing-window b.0 v b.1 a away in
          subst (λ (o : Origin). o.number ≤ window_of S v.tick) (sym e) (omega (arith, l))
