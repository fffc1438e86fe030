-- The lookahead is the least latency of a pipe that a packet leaves for a pipe of another core, or the greatest length that a window has.
use Rattle.std.proofs.Common.{◌≡◌, ◌⊎◌, inl, inr, ℕ, ◌<◌, ◌≤◌, min, List, [], ◌∷◌, fold, refl, sym, subst, arith}
use Rattle.std.proofs.lemmas.Bool.{cases_lt}
use Rattle.std.specs.List.{flat_map}
use Rattle.mn_base.specs.Among.{Among}
use Rattle.mn_base.specs.declared.params.PipeParams.{PipeParams}
use Rattle.mn_base.specs.declared.limits.TheConstants.{LOOKAHEAD_MAX, PIPE_LATENCY_TICKS_MAX}
use Rattle.journal.specs.declared.setup.PacketPlan.{PacketPlan}
use Rattle.journal.specs.SetupView.{SetupView, route_of, first_params, changes_of}
use Rattle.parcel.specs.Lookahead.{crossed_pipes, latencies_of, crossing_latencies, lookahead_of, IsLookahead, IsWindowLength}
use Rattle.mn_base.proofs.Members.{Among-append-left, Among-append-right, Among-append, Among-from-map}

pub fold-min-bound : (b : ℕ) (xs : List ℕ) → fold min b xs ≤ b
fold-min-bound b [] = omega arith
fold-min-bound b (x ∷ xs) = let r = fold-min-bound (min b x) xs in omega (arith, r)

pub fold-min-among : (b x : ℕ) (xs : List ℕ) → Among x xs → fold min b xs ≤ x
fold-min-among b x [] a = absurd a
fold-min-among b x (y ∷ xs) (inl e) = let r = fold-min-bound (min b y) xs in omega (arith, r, e)
fold-min-among b x (y ∷ xs) (inr a) = fold-min-among (min b y) x xs a

pub fold-min-reached : (b : ℕ) (xs : List ℕ) → (fold min b xs ≡ b) ⊎ Among (fold min b xs) xs
fold-min-reached b [] = inl refl
fold-min-reached b (x ∷ xs) = go (fold-min-reached (min b x) xs) (cases_lt b x)
  where
    go : (fold min (min b x) xs ≡ min b x) ⊎ Among (fold min (min b x) xs) xs → (b < x) ⊎ (x ≤ b)
        → (fold min (min b x) xs ≡ b) ⊎ ((x ≡ fold min (min b x) xs) ⊎ Among (fold min (min b x) xs) xs)
    go (inr a) s = inr (inr a)
    go (inl e) (inl l) = inl (omega (arith, e))
    go (inl e) (inr l) = inr (inl (omega (arith, e)))

-- what stands in a joined list comes from a piece
pub Among-flat_map : {X Y : Type 0} (f : X → List Y) (x : X) (y : Y) (xs : List X) → Among x xs → Among y (f x)
    → Among y (flat_map f xs)
Among-flat_map f x y [] a b = absurd a
Among-flat_map f x y (z ∷ xs) (inl e) b = Among-append-left y (f z) (flat_map f xs) (subst (λ w. Among y (f w)) (sym e) b)
Among-flat_map f x y (z ∷ xs) (inr a) b = Among-append-right y (f z) (flat_map f xs) (Among-flat_map f x y xs a b)

pub Among-from-flat_map : {X Y : Type 0} (f : X → List Y) (y : Y) (xs : List X) → Among y (flat_map f xs)
    → (x : X) × Among x xs × Among y (f x)
Among-from-flat_map f y [] a = absurd a
Among-from-flat_map {X} f y (z ∷ xs) a = go (Among-append y (f z) (flat_map f xs) a) (Among-from-flat_map f y xs)
  where
    go : Among y (f z) ⊎ Among y (flat_map f xs) → (Among y (flat_map f xs) → (x : X) × Among x xs × Among y (f x))
        → (x : X) × ((z ≡ x) ⊎ Among x xs) × Among y (f x)
    go (inl b) rest = (z, inl refl, b)
    go (inr b) rest = let r = rest b in (r.0, inr r.1, r.2)

module _ (S : SetupView) where
  -- a latency of a pipe is one of some parameters, which keep it in bounds
  latency-params : (pipe latency : ℕ) → Among latency (latencies_of S pipe) → (p : PipeParams) × (p.latency_ticks ≡ latency)
  latency-params pipe latency (inl e) = (first_params S pipe, e)
  latency-params pipe latency (inr a) =
      let c = Among-from-map (λ (c : ℕ × PipeParams). c.1.latency_ticks) latency (changes_of S pipe) a in (c.0.1, c.2)

  pub crossing-params : (latency : ℕ) → Among latency (crossing_latencies S) → (p : PipeParams) × (p.latency_ticks ≡ latency)
  crossing-params latency a =
      let packet =
      Among-from-flat_map (λ (p : PacketPlan). flat_map (latencies_of S) (crossed_pipes S.owners (route_of S p.number))) latency S.packets a in
      let pipe = Among-from-flat_map (latencies_of S) latency (crossed_pipes S.owners (route_of S packet.0.number)) packet.2 in
      latency-params pipe.0 latency pipe.2

  crossing-short : (latency : ℕ) → Among latency (crossing_latencies S) → (1 ≤ latency) × (latency < LOOKAHEAD_MAX)
  crossing-short latency a =
      let p = crossing-params latency a in
      let low : 1 ≤ p.0.latency_ticks = p.0.delays.0 in
      let high : p.0.latency_ticks ≤ PIPE_LATENCY_TICKS_MAX = p.0.delays.1 in
      let same : p.0.latency_ticks ≡ latency = p.1 in
      (omega arith, omega arith)

  pub is_lookahead : IsLookahead S (lookahead_of S)
  unfolding lookahead_of
  is_lookahead = record {
    least = λ latency a. fold-min-among LOOKAHEAD_MAX latency (crossing_latencies S) a;
    reached = go (fold-min-reached LOOKAHEAD_MAX (crossing_latencies S)) (crossing_latencies S) refl;
  }
    where
      go : (fold min LOOKAHEAD_MAX (crossing_latencies S) ≡ LOOKAHEAD_MAX)
          ⊎ Among (fold min LOOKAHEAD_MAX (crossing_latencies S)) (crossing_latencies S)
          → (xs : List ℕ) → crossing_latencies S ≡ xs
          → Among (fold min LOOKAHEAD_MAX (crossing_latencies S)) (crossing_latencies S)
          ⊎ ((fold min LOOKAHEAD_MAX (crossing_latencies S) ≡ LOOKAHEAD_MAX) × (crossing_latencies S ≡ []))
      go (inr a) xs e = inl a
      go (inl m) [] e = inr (m, e)
      go (inl m) (x ∷ xs) e =
          let here : Among x (crossing_latencies S) = subst (λ (l : List ℕ). Among x l) (sym e) (inl refl) in
          let low : fold min LOOKAHEAD_MAX (crossing_latencies S) ≤ x = fold-min-among LOOKAHEAD_MAX x (crossing_latencies S) here in
          let high : x < LOOKAHEAD_MAX = (crossing-short x here).1 in
          absurd (omega (arith, m, low, high))

  -- at most the greatest length that a window has
  pub lookahead-most : lookahead_of S ≤ LOOKAHEAD_MAX
  unfolding lookahead_of
  lookahead-most = fold-min-bound LOOKAHEAD_MAX (crossing_latencies S)

  -- so it is a length that windows may have
  pub least_is_lookahead : IsWindowLength S (lookahead_of S)
  least_is_lookahead = record { positive = go is_lookahead.reached; crossing = is_lookahead.least }
    where
      go : Among (lookahead_of S) (crossing_latencies S) ⊎ ((lookahead_of S ≡ LOOKAHEAD_MAX) × (crossing_latencies S ≡ []))
          → 1 ≤ lookahead_of S
      go (inl a) = (crossing-short (lookahead_of S) a).0
      go (inr m) = let e : lookahead_of S ≡ LOOKAHEAD_MAX = m.0 in omega arith
