-- The lookahead as it is found: the pipes that packets leave for a pipe of another core, as a set, and the least of their latencies.
use Rattle.std.proofs.Common.{◌≡◌, ◌≢◌, ◌⊎◌, ◌↔◌, inl, inr, ⊎_elim, ℕ, zero, suc, ◌+◌, ◌-◌, ◌<◌, ◌≤◌, ◌==◌, Bool, true, false, cond, min, List, [], ◌∷◌, ◌++◌, length, take, map, filter, fold, All, slice_get, slice_index, slice_index_or, refl, sym, ap, ◌∙◌, subst, arith, eqb-true, eq-eqb, true≢false, unwrap_or}
use Rattle.std.proofs.lemmas.Bool.{cases_lt, false_from_ne_true}
use Rattle.std.proofs.lemmas.List.{append-nil, get_or-map, length-map, get_or_default}
use Rattle.std.specs.List.{flat_map}
use Rattle.mn_base.specs.Among.{Among}
use Rattle.mn_base.specs.declared.params.PipeParams.{PipeParams}
use Rattle.mn_base.specs.declared.limits.TheConstants.{LOOKAHEAD_MAX}
use Rattle.journal.specs.declared.setup.PacketPlan.{PacketPlan}
use Rattle.journal.specs.declared.setup.PipeChange.{PipeChange}
use Rattle.journal.specs.SetupView.{SetupView, route_of, first_params, no_params, changes_of}
use Rattle.journal.specs.IsSetup.{IsSetup}
use Rattle.parcel.specs.Owners.{owned_by}
use Rattle.parcel.specs.Lookahead.{crossed_pipes, latencies_of, crossing_latencies, lookahead_of}
use Rattle.parcel.specs.PipeSets.{Has, IsCrossed, crossed_by, HasRoutesBefore, AddsRoute, IsLeastOf, IsFirstLatency, IsChangedLatency}
use Rattle.mn_base.proofs.Members.{Among-append-left, Among-append-right, Among-append, Among-map, Among-from-map, Among-filter, Among-from-filter, Among-index, index_of, All-Among}
use Rattle.journal.proofs.Packets.{packet-known, packet-route}
use Rattle.parcel.proofs.Lookaheads.{fold-min-bound, fold-min-among, fold-min-reached, Among-flat_map, Among-from-flat_map}

-- ---- one route, hop by hop

-- with one more pipe at its end a route leaves the pipe before it, too, if the owners differ
crossed-more : (owners : List ℕ) (route : List ℕ) (h : ℕ) → suc h < length route → (b : Bool)
    → (slice_index owners (slice_index route h) == slice_index owners (slice_index route (suc h))) ≡ b
    → crossed_pipes owners (take (suc (suc h)) route) ≡ crossed_pipes owners (take (suc h) route) ++ cond b [] (slice_index route h ∷ [])
crossed-more owners [] h within b is = absurd (omega arith)
crossed-more owners (x ∷ []) h within b is = absurd (omega arith)
crossed-more owners (x ∷ y ∷ rest) zero within b is = ap (λ (t : Bool). cond t [] (x ∷ [])) is
crossed-more owners (x ∷ y ∷ rest) (suc h) within b is =
    go (slice_index owners x == slice_index owners y) (crossed-more owners (y ∷ rest) h (omega arith) b is)
  where
    go : (t : Bool)
        → crossed_pipes owners (take (suc (suc h)) (y ∷ rest))
        ≡ crossed_pipes owners (take (suc h) (y ∷ rest)) ++ cond b [] (slice_index (y ∷ rest) h ∷ [])
        → cond t (crossed_pipes owners (take (suc (suc h)) (y ∷ rest))) (x ∷ crossed_pipes owners (take (suc (suc h)) (y ∷ rest)))
        ≡ cond t (crossed_pipes owners (take (suc h) (y ∷ rest))) (x ∷ crossed_pipes owners (take (suc h) (y ∷ rest)))
        ++ cond b [] (slice_index (y ∷ rest) h ∷ [])
    go true e = e
    go false e = ap (λ (l : List ℕ). x ∷ l) e

crossed-grows : (owners : List ℕ) (route : List ℕ) (hop : ℕ) → 1 ≤ hop → hop < length route → (b : Bool)
    → (slice_index owners (slice_index route (hop - 1)) == slice_index owners (slice_index route hop)) ≡ b
    → crossed_pipes owners (take (hop + 1) route) ≡ crossed_pipes owners (take hop route) ++ cond b [] (slice_index route (hop - 1) ∷ [])
crossed-grows owners route zero low within b is = absurd (omega arith)
crossed-grows owners route (suc h) low within b is =
    let one : suc h - 1 ≡ h = omega arith in
    let two : suc h + 1 ≡ suc (suc h) = omega arith in
    rw (one, two) (crossed-more owners route h within b (rw one at is))

-- what a pipe's owner is read as
pub owner_is : (owners : List ℕ) (pipe : ℕ) → pipe < length owners → (x : ℕ) → x ≡ slice_index_or owners pipe x → x ≡ slice_index owners pipe
owner_is owners pipe within x read = read ∙ get_or_default owners pipe x 0 within

-- the set has the pipes that the first `hop` ones of a route leave, beside those that it had
abbrev pub HasHops : List ℕ → List ℕ → List Bool → ℕ → List Bool → Type 0
HasHops owners route old hop marks = (q : ℕ) → Has marks q ↔ (Has old q ⊎ Among q (crossed_pipes owners (take hop route)))

-- one hop further, where the packet leaves its core
pub hop_left : (owners : List ℕ) (route : List ℕ) (old before after : List Bool) {hop : ℕ} → 1 ≤ hop → hop < length route
    → HasHops owners route old hop before
    → slice_index owners (slice_index route (hop - 1)) ≢ slice_index owners (slice_index route hop)
    → ((q : ℕ) → Has after q ↔ (Has before q ⊎ (slice_index route (hop - 1) ≡ q)))
    → HasHops owners route old (hop + 1) after
hop_left owners route old before after {hop} low within has differ adds = λ q. (forth q, back q)
  where
    is : crossed_pipes owners (take (hop + 1) route) ≡ crossed_pipes owners (take hop route) ++ slice_index route (hop - 1) ∷ []
    is = crossed-grows owners route hop low within false (false_from_ne_true _ (λ e. differ (eqb-true _ _ e)))

    more : (q : ℕ) → Among q (crossed_pipes owners (take hop route)) ⊎ (slice_index route (hop - 1) ≡ q)
        → Among q (crossed_pipes owners (take (hop + 1) route))
    more q (inl a) = subst (Among q) (sym is) (Among-append-left q (crossed_pipes owners (take hop route)) (slice_index route (hop - 1) ∷ []) a)
    more q (inr e) =
        subst (Among q) (sym is)
        (Among-append-right q (crossed_pipes owners (take hop route)) (slice_index route (hop - 1) ∷ []) (inl e))

    forth : (q : ℕ) → Has after q → Has old q ⊎ Among q (crossed_pipes owners (take (hop + 1) route))
    forth q there = go ((adds q).0 there)
      where
        go : Has before q ⊎ (slice_index route (hop - 1) ≡ q) → Has old q ⊎ Among q (crossed_pipes owners (take (hop + 1) route))
        go (inl b) = ⊎_elim (λ o. inl o) (λ a. inr (more q (inl a))) ((has q).0 b)
        go (inr e) = inr (more q (inr e))

    back : (q : ℕ) → Has old q ⊎ Among q (crossed_pipes owners (take (hop + 1) route)) → Has after q
    back q (inl o) = (adds q).1 (inl ((has q).1 (inl o)))
    back q (inr a) =
        go (Among-append q (crossed_pipes owners (take hop route)) (slice_index route (hop - 1) ∷ []) (subst (Among q) is a))
      where
        go : Among q (crossed_pipes owners (take hop route)) ⊎ Among q (slice_index route (hop - 1) ∷ []) → Has after q
        go (inl b) = (adds q).1 (inl ((has q).1 (inr b)))
        go (inr (inl e)) = (adds q).1 (inr e)
        go (inr (inr none)) = absurd none

pub hop_stays : (owners : List ℕ) (route : List ℕ) (old marks : List Bool) (hop : ℕ) → 1 ≤ hop → hop < length route
    → HasHops owners route old hop marks
    → slice_index owners (slice_index route (hop - 1)) ≡ slice_index owners (slice_index route hop)
    → HasHops owners route old (hop + 1) marks
hop_stays owners route old marks hop low within has same =
    subst (λ (l : List ℕ). (q : ℕ) → Has marks q ↔ (Has old q ⊎ Among q l)) (sym is) has
  where
    is : crossed_pipes owners (take (hop + 1) route) ≡ crossed_pipes owners (take hop route)
    is = crossed-grows owners route hop low within true (eq-eqb _ _ same) ∙ append-nil (crossed_pipes owners (take hop route))

-- ---- what is read at an index of a list

-- `x` was read at `k` from a list that is `own`
pub record IsReadAt {X : Type 0} (own xs : List X) (k : ℕ) (x : X) : Type 0 where
  pub same : xs ≡ own
  pub within : k < length xs
  pub read : x ≡ slice_index_or xs k x

-- ---- other owners

-- a setup with other owners of its pipes is one, where each pipe has one of its cores
pub owned-setup : (S : SetupView) (owners : List ℕ) → IsSetup S → length owners ≡ length S.pipes → All (λ core. core < S.cores) owners
    → IsSetup (owned_by S owners)
owned-setup S owners is one_a_pipe cores = record {
  tick = is.tick;
  link_type = is.link_type;
  cores_least = is.cores_least;
  cores_most = is.cores_most;
  pipes_most = is.pipes_most;
  one_owner = one_a_pipe;
  owners = cores;
  routes_most = is.routes_most;
  routes_named = is.routes_named;
  routes_distinct = is.routes_distinct;
  numbers_rise = is.numbers_rise;
  numbers_most = is.numbers_most;
  lens_most = is.lens_most;
  packet_routes = is.packet_routes;
  packet_cores = is.packet_cores;
  changes_rise = is.changes_rise;
  changes_named = is.changes_named;
  entries_fit = is.entries_fit;
  times_fit = is.times_fit;
  delays_fit = is.delays_fit;
}

-- ---- all routes that packets take

-- a list that stands at an index, and the route at that index
pub route_is : {X : Type 0} (items : X → List ℕ) (xs : List X) (routes : List (List ℕ)) → map items xs ≡ routes → (i : ℕ) → i < length routes
    → (x : X) → x ≡ slice_index_or xs i x → items x ≡ slice_index_or routes i []
route_is items xs routes same i within x read =
    let low : i < length xs = omega (arith, length-map xs items, ap length same, within) in
    ap items read ∙ sym (get_or-map items xs i x [] low) ∙ ap (λ (rs : List (List ℕ)). slice_index_or rs i []) same

pub adds_route : (S : SetupView) (old new : List Bool) (route walked : ℕ) (list : List ℕ) → list ≡ slice_index_or S.routes route []
    → ((q : ℕ) → Has new q ↔ (Has old q ⊎ Among q (crossed_pipes S.owners list)))
    → HasRoutesBefore S old walked → route ≡ walked → AddsRoute S old new route (walked + 1)
adds_route S old new route walked list is adds before same = record {
  added = added;
  kept = λ q o. (adds q).1 (inl o);
  sound = λ q n. subst (λ (l : List ℕ). Has old q ⊎ Among q (crossed_pipes S.owners l)) is ((adds q).0 n);
  before = λ r q low a. go r q a (cases_lt r walked) low;
}
  where
    added : (q : ℕ) → Among q (crossed_by S route) → Has new q
    added q a = (adds q).1 (inr (subst (λ (l : List ℕ). Among q (crossed_pipes S.owners l)) (sym is) a))

    go : (r q : ℕ) → Among q (crossed_by S r) → (r < walked) ⊎ (walked ≤ r) → r < walked + 1 → Has new q
    go r q a (inl l) low = (adds q).1 (inl (before r q l a))
    go r q a (inr h) low =
        let e : r ≡ route = omega arith in
        added q (subst (λ (n : ℕ). Among q (crossed_by S n)) e a)

-- the set after the plans before `index`
pub record IsSoFar (S : SetupView) (plans : List PacketPlan) (index : ℕ) (marks : List Bool) (walked : ℕ) : Type 0 where
  pub sound : (q : ℕ) → Has marks q → IsCrossed S q
  pub complete :
      (k q : ℕ) (p : PacketPlan) → k < index
      → Among q (crossed_pipes S.owners (route_of S (slice_index_or plans k p).number)) → Has marks q
  pub before : HasRoutesBefore S marks walked

-- with the pipes of its route the set has those of one packet more
pub packet_added : {S : SetupView} → IsSetup S → {plans : List PacketPlan} {index : ℕ} {plan : PacketPlan}
    → IsReadAt S.packets plans index plan → {old new : List Bool} {walked end : ℕ} → IsSoFar S plans index old walked
    → AddsRoute S old new plan.route end → IsSoFar S plans (index + 1) new end
packet_added {S} is {plans} {index} {plan} at {old} {new} {walked} {end} so_far adds = record {
  sound = λ q there. sound q (adds.sound q there);
  complete = λ k q p low a. complete k q p a (cases_lt k index) low;
  before = adds.before;
}
  where
    member : Among plan S.packets
    member = subst (λ (l : List PacketPlan). Among plan l) at.same
        (subst (λ (p : PacketPlan). Among p plans) (sym at.read) (Among-index plans index plan at.within))

    way : slice_index_or S.routes plan.route [] ≡ route_of S plan.number
    way = (packet-route S is plan (packet-known S is plan member)).is

    sound : (q : ℕ) → Has old q ⊎ Among q (crossed_by S plan.route) → IsCrossed S q
    sound q (inl o) = so_far.sound q o
    sound q (inr a) = (plan, member, subst (λ (l : List ℕ). Among q (crossed_pipes S.owners l)) way a)

    complete : (k q : ℕ) (p : PacketPlan) → Among q (crossed_pipes S.owners (route_of S (slice_index_or plans k p).number))
        → (k < index) ⊎ (index ≤ k) → k < index + 1 → Has new q
    complete k q p a (inl l) low = adds.kept q (so_far.complete k q p l a)
    complete k q p a (inr h) low =
        let e : k ≡ index = omega arith in
        let here : slice_index_or plans k p ≡ plan =
        ap (λ (n : ℕ). slice_index_or plans n p) e ∙ get_or_default plans index p plan at.within ∙ sym at.read in
        let b : Among q (crossed_pipes S.owners (route_of S plan.number)) =
        subst (λ (z : PacketPlan). Among q (crossed_pipes S.owners (route_of S z.number))) here a in
        adds.added q (subst (λ (l : List ℕ). Among q (crossed_pipes S.owners l)) (sym way) b)

pub all_crossed : (S : SetupView) (plans : List PacketPlan) → plans ≡ S.packets → (index : ℕ) → length plans ≤ index
    → (marks : List Bool) (walked : ℕ) → IsSoFar S plans index marks walked → (q : ℕ) → Has marks q ↔ IsCrossed S q
all_crossed S plans same index done marks walked so_far q = (so_far.sound q, back)
  where
    back : IsCrossed S q → Has marks q
    back c =
        let there = index_of c.0 plans (subst (λ (l : List PacketPlan). Among c.0 l) (sym same) c.1) in
        so_far.complete there.index q c.0 (omega (arith, there.within))
        (subst (λ (z : PacketPlan). Among q (crossed_pipes S.owners (route_of S z.number))) (sym (there.here c.0)) c.2)

-- ---- the least of many

pub least_more : (old : ℕ) (Is : ℕ → ℕ → Type 0) (end least latency : ℕ) → IsLeastOf old Is end least → Is end latency
    → ((x : ℕ) → Is end x → x ≡ latency) → IsLeastOf old Is (end + 1) (min least latency)
least_more old Is end least latency so_far here one = record {
  bound = let b : least ≤ old = so_far.bound in omega arith;
  least = λ k x low there. low_at k x there (cases_lt k end) low;
  reached = go (cases_lt latency least) so_far.reached;
}
  where
    low_at : (k x : ℕ) → Is k x → (k < end) ⊎ (end ≤ k) → k < end + 1 → min least latency ≤ x
    low_at k x there (inl l) low = let h : least ≤ x = so_far.least k x l there in omega arith
    low_at k x there (inr h) low =
        let e : k ≡ end = omega arith in
        let f : x ≡ latency = one x (subst (λ (n : ℕ). Is n x) e there) in omega arith

    go : (latency < least) ⊎ (least ≤ latency) → (least ≡ old) ⊎ ((k : ℕ) × (k < end) × Is k least)
        → (min least latency ≡ old) ⊎ ((k : ℕ) × (k < end + 1) × Is k (min least latency))
    go (inl l) r = let e : latency ≡ min least latency = omega arith in inr (end, omega arith, subst (Is end) e here)
    go (inr h) (inl o) = inl (omega arith)
    go (inr h) (inr r) =
        let low : r.0 < end = r.1 in
        let e : least ≡ min least latency = omega arith in inr (r.0, omega arith, subst (Is r.0) e r.2)

pub least_same : (old : ℕ) (Is : ℕ → ℕ → Type 0) (end least : ℕ) → IsLeastOf old Is end least → ((x : ℕ) → Is end x → ⊥)
    → IsLeastOf old Is (end + 1) least
least_same old Is end least so_far none = record {
  bound = so_far.bound;
  least = λ k x low there. low_at k x there (cases_lt k end) low;
  reached = go so_far.reached;
}
  where
    low_at : (k x : ℕ) → Is k x → (k < end) ⊎ (end ≤ k) → k < end + 1 → least ≤ x
    low_at k x there (inl l) low = so_far.least k x l there
    low_at k x there (inr h) low =
        let e : k ≡ end = omega arith in absurd (none x (subst (λ (n : ℕ). Is n x) e there))

    go : (least ≡ old) ⊎ ((k : ℕ) × (k < end) × Is k least) → (least ≡ old) ⊎ ((k : ℕ) × (k < end + 1) × Is k least)
    go (inl o) = inl o
    go (inr r) = let low : r.0 < end = r.1 in inr (r.0, omega arith, r.2)

-- the first parameters of a pipe are those that stand at its number
first-read : (xs : List PipeParams) (q : ℕ) (p d : PipeParams) → q < length xs → p ≡ slice_index_or xs q p
    → unwrap_or (slice_get xs q) d ≡ p
first-read [] q p d within read = absurd (omega arith)
first-read (x ∷ xs) zero p d within read = sym read
first-read (x ∷ xs) (suc q) p d within read = first-read xs q p d (omega arith) read

module _ (S : SetupView) (marks : List Bool) {pipes : List PipeParams} {k : ℕ} {p : PipeParams} (at : IsReadAt S.pipes pipes k p) where
  first-is : first_params S k ≡ p
  first-is =
      ap (λ (l : List PipeParams). unwrap_or (slice_get l k) no_params) (sym at.same) ∙ first-read pipes k p no_params at.within at.read

  pub first_more : {least : ℕ} → IsLeastOf LOOKAHEAD_MAX (IsFirstLatency S marks) k least → Has marks k
      → IsLeastOf LOOKAHEAD_MAX (IsFirstLatency S marks) (k + 1) (min least p.latency_ticks)
  first_more {least} so_far has =
      let here : (first_params S k).latency_ticks ≡ p.latency_ticks = ap (λ (z : PipeParams). z.latency_ticks) first-is in
      least_more LOOKAHEAD_MAX (IsFirstLatency S marks) k least p.latency_ticks so_far (has, here) (λ x there. sym there.1 ∙ here)

  pub first_same : {least : ℕ} → IsLeastOf LOOKAHEAD_MAX (IsFirstLatency S marks) k least → slice_index_or marks k false ≡ false
      → IsLeastOf LOOKAHEAD_MAX (IsFirstLatency S marks) (k + 1) least
  first_same {least} so_far hasnt =
      least_same LOOKAHEAD_MAX (IsFirstLatency S marks) k least so_far (λ x there. true≢false (sym there.0 ∙ hasnt))

module _ (S : SetupView) (marks : List Bool) {changes : List PipeChange} {k : ℕ} {c : PipeChange}
    (at : IsReadAt S.changes changes k c) where
  change-is : (d : PipeChange) → slice_index_or S.changes k d ≡ d → d ≡ c
  change-is d is =
      sym is ∙ ap (λ (l : List PipeChange). slice_index_or l k d) (sym at.same) ∙ get_or_default changes k d c at.within ∙ sym at.read

  pub changed_more : {old least : ℕ} → IsLeastOf old (IsChangedLatency S marks) k least → Has marks c.pipe
      → IsLeastOf old (IsChangedLatency S marks) (k + 1) (min least c.params.latency_ticks)
  changed_more {old} {least} so_far has =
      let here : slice_index_or S.changes k c ≡ c = ap (λ (l : List PipeChange). slice_index_or l k c) (sym at.same) ∙ sym at.read in
      least_more old (IsChangedLatency S marks) k least c.params.latency_ticks so_far (c, here, has, refl)
      (λ x there. sym there.3 ∙ ap (λ (d : PipeChange). d.params.latency_ticks) (change-is there.0 there.1))

  pub changed_same : {old least : ℕ} → IsLeastOf old (IsChangedLatency S marks) k least → slice_index_or marks c.pipe false ≡ false
      → IsLeastOf old (IsChangedLatency S marks) (k + 1) least
  changed_same {old} {least} so_far hasnt =
      least_same old (IsChangedLatency S marks) k least so_far
      (λ x there. true≢false (sym there.2 ∙ ap (λ (d : PipeChange). slice_index_or marks d.pipe false) (change-is there.0 there.1) ∙ hasnt))

-- ---- and that is the lookahead

-- what a route leaves is on it
crossed-on : (owners : List ℕ) (route : List ℕ) (q : ℕ) → Among q (crossed_pipes owners route) → Among q route
crossed-on owners [] q a = absurd a
crossed-on owners (x ∷ []) q a = absurd a
crossed-on owners (x ∷ y ∷ route) q a = go (slice_index owners x == slice_index owners y) a (λ b. crossed-on owners (y ∷ route) q b)
  where
    go : (t : Bool) → Among q (cond t (crossed_pipes owners (y ∷ route)) (x ∷ crossed_pipes owners (y ∷ route)))
        → (Among q (crossed_pipes owners (y ∷ route)) → Among q (y ∷ route)) → Among q (x ∷ y ∷ route)
    go true b rest = inr (rest b)
    go false (inl e) rest = inl e
    go false (inr b) rest = inr (rest b)

module _ (S : SetupView) (is : IsSetup S) (marks : List Bool) (crossed : (q : ℕ) → Has marks q ↔ IsCrossed S q) where
  known : (q : ℕ) → IsCrossed S q → q < length S.pipes
  known q c =
      let r = packet-route S is c.0 (packet-known S is c.0 c.1) in
      let named = subst (λ (l : List ℕ). All (λ pipe. pipe < length S.pipes) l) r.is r.named in
      All-Among (λ pipe. pipe < length S.pipes) q (route_of S c.0.number) named (crossed-on S.owners (route_of S c.0.number) q c.2)

  crossing : (q latency : ℕ) → IsCrossed S q → Among latency (latencies_of S q) → Among latency (crossing_latencies S)
  crossing q latency c a =
      Among-flat_map (λ (p : PacketPlan). flat_map (latencies_of S) (crossed_pipes S.owners (route_of S p.number))) c.0 latency S.packets c.1
      (Among-flat_map (latencies_of S) q latency (crossed_pipes S.owners (route_of S c.0.number)) c.2 a)

  changed : (c : PipeChange) (q : ℕ) → Among c S.changes → c.pipe ≡ q → Among c.params.latency_ticks (latencies_of S q)
  changed c q a e =
      inr (Among-map (λ (d : ℕ × PipeParams). d.1.latency_ticks) (c.tick, c.params) (changes_of S q)
      (Among-map (λ (d : PipeChange). (d.tick, d.params)) c (filter (λ d. d.pipe == q) S.changes)
      (Among-filter (λ (d : PipeChange). d.pipe == q) c S.changes a (eq-eqb c.pipe q e))))

  module _ (m r : ℕ) (firsts : IsLeastOf LOOKAHEAD_MAX (IsFirstLatency S marks) (length S.pipes) m)
      (changes : IsLeastOf m (IsChangedLatency S marks) (length S.changes) r) where
    low-of : (latency : ℕ) → Among latency (crossing_latencies S) → r ≤ latency
    low-of latency a =
        let packet =
        Among-from-flat_map (λ (p : PacketPlan). flat_map (latencies_of S) (crossed_pipes S.owners (route_of S p.number))) latency S.packets a in
        let pipe = Among-from-flat_map (latencies_of S) latency (crossed_pipes S.owners (route_of S packet.0.number)) packet.2 in
        go pipe.0 (packet.0, packet.1, pipe.1) pipe.2
      where
        go : (q : ℕ) → IsCrossed S q → Among latency (latencies_of S q) → r ≤ latency
        go q c (inl e) =
            let h : m ≤ latency = firsts.least q latency (known q c) ((crossed q).1 c, e) in
            let b : r ≤ m = changes.bound in omega arith
        go q c (inr b) =
            let t = Among-from-map (λ (d : ℕ × PipeParams). d.1.latency_ticks) latency (changes_of S q) b in
            let d = Among-from-map (λ (d : PipeChange). (d.tick, d.params)) t.0 (filter (λ d. d.pipe == q) S.changes) t.1 in
            let f = Among-from-filter (λ (d : PipeChange). d.pipe == q) d.0 S.changes d.1 in
            let at = index_of d.0 S.changes f.0 in
            let e : d.0.pipe ≡ q = eqb-true d.0.pipe q f.1 in
            let marked : Has marks d.0.pipe = subst (Has marks) (sym e) ((crossed q).1 c) in
            let same : d.0.params.latency_ticks ≡ latency = ap (λ (z : ℕ × PipeParams). z.1.latency_ticks) d.2 ∙ t.2 in
            changes.least at.index latency at.within (d.0, at.here d.0, marked, same)

    reached : (r ≡ LOOKAHEAD_MAX) ⊎ Among r (crossing_latencies S)
    reached = go changes.reached firsts.reached
      where
        go : (r ≡ m) ⊎ ((k : ℕ) × (k < length S.changes) × IsChangedLatency S marks k r)
            → (m ≡ LOOKAHEAD_MAX) ⊎ ((k : ℕ) × (k < length S.pipes) × IsFirstLatency S marks k m)
            → (r ≡ LOOKAHEAD_MAX) ⊎ Among r (crossing_latencies S)
        go (inl e) (inl f) = inl (e ∙ f)
        go (inl e) (inr f) = inr (crossing f.0 r ((crossed f.0).0 f.2.0) (inl (f.2.1 ∙ sym e)))
        go (inr f) s =
            let c : PipeChange = f.2.0 in
            let member : Among c S.changes =
            subst (λ (z : PipeChange). Among z S.changes) f.2.1 (Among-index S.changes f.0 c f.1) in
            inr (crossing c.pipe r ((crossed c.pipe).0 f.2.2)
            (subst (λ (x : ℕ). Among x (latencies_of S c.pipe)) f.2.3 (changed c c.pipe member refl)))

    pub is_least : r ≡ lookahead_of S
    unfolding lookahead_of
    is_least =
        let below : r ≤ fold min LOOKAHEAD_MAX (crossing_latencies S) = go (fold-min-reached LOOKAHEAD_MAX (crossing_latencies S)) in
        let above : fold min LOOKAHEAD_MAX (crossing_latencies S) ≤ r = back reached in
        omega arith
      where
        top : r ≤ LOOKAHEAD_MAX
        top = let a : r ≤ m = changes.bound in let b : m ≤ LOOKAHEAD_MAX = firsts.bound in omega arith

        go : (fold min LOOKAHEAD_MAX (crossing_latencies S) ≡ LOOKAHEAD_MAX)
            ⊎ Among (fold min LOOKAHEAD_MAX (crossing_latencies S)) (crossing_latencies S)
            → r ≤ fold min LOOKAHEAD_MAX (crossing_latencies S)
        go (inl e) = let t : r ≤ LOOKAHEAD_MAX = top in omega arith
        go (inr a) = low-of (fold min LOOKAHEAD_MAX (crossing_latencies S)) a

        back : (r ≡ LOOKAHEAD_MAX) ⊎ Among r (crossing_latencies S) → fold min LOOKAHEAD_MAX (crossing_latencies S) ≤ r
        back (inl e) = let h = fold-min-bound LOOKAHEAD_MAX (crossing_latencies S) in omega (arith, h, e)
        back (inr a) = fold-min-among LOOKAHEAD_MAX r (crossing_latencies S) a
