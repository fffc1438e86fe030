-- What a packet did at the pipes of its route, by the list of all visits and by its fate.
use Rattle.std.proofs.Common.{◌≡◌, ◌≢◌, ◌⊎◌, inl, inr, ℕ, zero, suc, ◌+◌, ◌-◌, ◌<◌, ◌≤◌, Bool, true, false, eqb, leb, List, [], ◌∷◌, length, drop, AllPairs, None, refl, sym, ap, ◌∙◌, subst, arith, add-one}
use Rattle.std.specs.Prelude.{◌&&◌, slice_index}
use Rattle.std.proofs.lemmas.Bool.{eq-eqb, ne_eqb, le-leb, lt-leb, leb-true, eqb-true, cases_order, and_parts}
use Rattle.std.proofs.lemmas.List.{get_or-drop, length-drop}
use Rattle.std.proofs.Math.Seq.{drop-cons}
use Rattle.mn_base.specs.Among.{Among}
use Rattle.mn_base.specs.declared.causes.Cause.{Cause}
use Rattle.mn_base.specs.declared.causes.Cause.TheVariants.{Loss, Full as QueueFull}
use Rattle.mn_base.proofs.Members.{All-Among}
use Rattle.pipe.specs.declared.step.Step.{Step}
use Rattle.pipe.specs.declared.step.Step.TheVariants.{Lost, Full, Pass}
use Rattle.journal.specs.declared.visit.Visit.{Visit}
use Rattle.journal.specs.declared.fate.Fate.{Fate}
use Rattle.journal.specs.declared.fate.Fate.TheVariants.{Left, Dropped}
use Rattle.settle.specs.Ways.{step_of_cause, drop_step, way_from, way_of, step_count}
use Rattle.settle.proofs.Lists.{as_number, many, many-cons, many-same, many-split, many-none, many-one, AllDiffer}

-- what is known of the visits J of one packet, its route and its fate
pub record IsWalk (J : List Visit) (packet : ℕ) (route : List ℕ) (fate : Fate) : Type 0 where
  pub differ : AllDiffer J
  pub distinct : AllPairs (λ a b. a ≢ b) route
  -- a visit is to the pipe of a hop of the route
  pub within : (v : Visit) → Among v J → v.packet ≡ packet → v.hop < length route
  pub pipe : (v : Visit) → Among v J → v.packet ≡ packet → v.pipe ≡ slice_index route v.hop
  -- one visit to each hop
  pub one : (v w : Visit) → Among v J → Among w J → v.packet ≡ packet → w.packet ≡ packet → v.hop ≡ w.hop → v ≡ w
  pub first : 0 < length route → (v : Visit) × Among v J × (v.packet ≡ packet) × (v.hop ≡ 0)
  -- after a visit that passed comes that to the next hop, and before that to a later hop stands one that passed
  pub next : (v : Visit) (exit : ℕ) → Among v J → v.packet ≡ packet → v.step ≡ Pass exit → v.hop + 1 < length route
      → (w : Visit) × Among w J × (w.packet ≡ packet) × (w.hop ≡ v.hop + 1)
  pub before : (w : Visit) (hop : ℕ) → Among w J → w.packet ≡ packet → w.hop ≡ hop + 1
      → (v : Visit) × Among v J × (v.packet ≡ packet) × (v.hop ≡ hop) × ((exit : ℕ) × (v.step ≡ Pass exit))
  -- the visit that ends the way says what becomes of the packet
  pub lost : (v : Visit) → Among v J → v.packet ≡ packet → v.step ≡ Lost → fate ≡ Dropped v.pipe v.tick Loss
  pub full : (v : Visit) → Among v J → v.packet ≡ packet → v.step ≡ Full → fate ≡ Dropped v.pipe v.tick QueueFull
  pub left : (v : Visit) (exit : ℕ) → Among v J → v.packet ≡ packet → v.step ≡ Pass exit → v.hop + 1 ≡ length route → fate ≡ Left exit

-- the visits of a packet from a hop on, and those to a hop, that pass a test
abbrev pub from_hop : ℕ → ℕ → (Visit → Bool) → Visit → Bool
from_hop packet hop test v = eqb v.packet packet && (leb hop v.hop && test v)

abbrev at_hop : ℕ → ℕ → (Visit → Bool) → Visit → Bool
at_hop packet hop test v = eqb v.packet packet && (eqb v.hop hop && test v)

from_hop-split : (packet hop : ℕ) (test : Visit → Bool) (v : Visit)
    → as_number (from_hop packet hop test v) ≡ as_number (at_hop packet hop test v) + as_number (from_hop packet (suc hop) test v)
from_hop-split packet hop test v = go (eqb v.packet packet)
  where
    go : (a : Bool)
        → as_number (a && (leb hop v.hop && test v)) ≡ as_number (a && (eqb v.hop hop && test v)) + as_number (a && (leb (suc hop) v.hop && test v))
    go false = refl
    go true = order (cases_order v.hop hop)
      where
        order : (v.hop ≡ hop) ⊎ ((v.hop < hop) ⊎ (hop < v.hop))
            → as_number (leb hop v.hop && test v) ≡ as_number (eqb v.hop hop && test v) + as_number (leb (suc hop) v.hop && test v)
        order (inl same) = rw (eq-eqb v.hop hop same, le-leb hop v.hop (omega arith), lt-leb (suc hop) v.hop (omega arith)) (omega arith)
        order (inr (inl early)) = rw (ne_eqb v.hop hop (λ e. omega arith), lt-leb hop v.hop early, lt-leb (suc hop) v.hop (omega arith)) refl
        order (inr (inr late)) = rw (ne_eqb v.hop hop (λ e. omega arith), le-leb hop v.hop (omega arith), le-leb (suc hop) v.hop (omega arith)) (omega arith)

-- a test that doesn't tell exit ticks apart
abbrev pub IsBlind : (Step → Bool) → Type 0
IsBlind has = (a b : ℕ) → has (Pass a) ≡ has (Pass b)

-- a visit to this pipe with such a step
abbrev pub to_pipe : (Step → Bool) → ℕ → Visit → Bool
to_pipe has pipe v = eqb v.pipe pipe && has v.step

-- the facts of a packet from a hop on: what is counted of it, and that a pipe that drops it is on the rest of its route
pub record IsCounted (J : List Visit) (packet hop : ℕ) (rest : List ℕ) (fate : Fate) : Type 0 where
  pub count : (has : Step → Bool) (pipe : ℕ) → IsBlind has
      → many (from_hop packet hop (to_pipe has pipe)) J ≡ step_count has pipe (way_of rest fate)
  pub dropper : (pipe tick : ℕ) (cause : Cause) → fate ≡ Dropped pipe tick cause → Among pipe rest

-- the first of a route's rest, and the rest after it
first-of_rest : (route : List ℕ) (hop pipe : ℕ) (rest : List ℕ) → drop hop route ≡ pipe ∷ rest → slice_index route hop ≡ pipe
first-of_rest route hop pipe rest is =
    sym (ap (λ n. slice_index route n) add-zero-hop) ∙ sym (get_or-drop hop route 0 0) ∙ ap (λ xs. slice_index xs 0) is
  where
    add-zero-hop : hop + 0 ≡ hop
    add-zero-hop = omega arith

length-of_rest : (route : List ℕ) (hop pipe : ℕ) (rest : List ℕ) → drop hop route ≡ pipe ∷ rest → length route ≡ hop + 1 + length rest
length-of_rest route hop pipe rest is =
    let long = length-drop hop route in
    let count : length (drop hop route) ≡ length (pipe ∷ rest) = ap length is in
    omega (arith, long, count)

rest-of_rest : (route : List ℕ) (hop pipe : ℕ) (rest : List ℕ) → drop hop route ≡ pipe ∷ rest → drop (suc hop) route ≡ rest
rest-of_rest route hop pipe rest is =
    let here = drop-cons route hop 0 (omega (arith, length-of_rest route hop pipe rest is)) in
    cc

-- a pipe that stands once on a route doesn't stand after itself
not-behind : (pipe : ℕ) (rest : List ℕ) → AllPairs (λ a b. a ≢ b) (pipe ∷ rest) → Among pipe rest → ⊥
not-behind pipe rest distinct among =
    All-Among (λ b. pipe ≢ b) pipe rest (λ i d within. distinct 0 (suc i) d (omega arith) (omega arith)) among refl

distinct-tail : (pipe : ℕ) (rest : List ℕ) → AllPairs (λ a b. a ≢ b) (pipe ∷ rest) → AllPairs (λ a b. a ≢ b) rest
distinct-tail pipe rest distinct i j d less within = distinct (suc i) (suc j) d (omega arith) (omega arith)

-- what a way begins with: a drop, or a pass
way_of-drop : (pipe tick : ℕ) (cause : Cause) (rest : List ℕ) (fate : Fate) → fate ≡ Dropped pipe tick cause
    → way_of (pipe ∷ rest) fate ≡ (pipe, step_of_cause cause) ∷ []
way_of-drop pipe tick cause rest fate is = rw (is, eq-eqb pipe pipe refl) refl

no-drop : (pipe : ℕ) (rest : List ℕ) (fate : Fate) → ((at tick : ℕ) (cause : Cause) → fate ≡ Dropped at tick cause → Among at rest)
    → (Among pipe rest → ⊥) → drop_step fate pipe ≡ None
no-drop pipe rest (Left tick) dropper not = refl
no-drop pipe rest (Dropped at tick cause) dropper not =
    rw (ne_eqb at pipe (λ e. not (subst (λ (q : ℕ). Among q rest) e (dropper at tick cause refl)))) refl

way_of-pass : (pipe : ℕ) (rest : List ℕ) (fate : Fate) → drop_step fate pipe ≡ None
    → way_of (pipe ∷ rest) fate ≡ (pipe, Pass 0) ∷ way_of rest fate
way_of-pass pipe rest fate is = ap (λ step. way_from pipe step (way_of rest fate)) is

step_count-cons : (has : Step → Bool) (q pipe : ℕ) (step : Step) (ways : List (ℕ × Step))
    → step_count has q ((pipe, step) ∷ ways) ≡ as_number (eqb pipe q && has step) + step_count has q ways
step_count-cons has q pipe step ways = many-cons (λ (m : ℕ × Step). eqb m.0 q && has m.1) (pipe, step) ways

module _ {J : List Visit} {packet : ℕ} {route : List ℕ} {fate : Fate} (w : IsWalk J packet route fate) where
  -- before a later hop stands a visit to each earlier one, and it passed
  passed-before : (k hop : ℕ) (v : Visit) → Among v J → v.packet ≡ packet → v.hop ≡ hop + 1 + k
      → (u : Visit) × Among u J × (u.packet ≡ packet) × (u.hop ≡ hop) × ((exit : ℕ) × (u.step ≡ Pass exit))
  passed-before zero hop v among is at = w.before v hop among is (omega arith)
  passed-before (suc k) hop v among is at =
      let u = w.before v (hop + 1 + k) among is (omega arith) in
      passed-before k hop u.0 u.1 u.2 u.3

  -- so none goes on after a visit that didn't pass
  nothing-after : (v : Visit) → Among v J → v.packet ≡ packet → ((exit : ℕ) → v.step ≡ Pass exit → ⊥) → (test : Visit → Bool)
      → many (from_hop packet (suc v.hop) test) J ≡ 0
  nothing-after v among is stops test = many-none (from_hop packet (suc v.hop) test) J
      (λ u later passes.
      let parts = and_parts (eqb u.packet packet) (leb (suc v.hop) u.hop && test u) passes in
      let order = and_parts (leb (suc v.hop) u.hop) (test u) parts.1 in
      let its : u.packet ≡ packet = eqb-true u.packet packet parts.0 in
      let above : suc v.hop ≤ u.hop = leb-true (suc v.hop) u.hop order.0 in
      let back = passed-before (u.hop - suc v.hop) v.hop u later its (omega arith) in
      let same : back.0 ≡ v = w.one back.0 v back.1 among back.2 is back.3 in
      stops back.4.0 (ap (λ (x : Visit). x.step) (sym same) ∙ back.4.1))

  -- nor after the last hop
  nothing-beyond : (hop : ℕ) → length route ≤ hop → (test : Visit → Bool) → many (from_hop packet hop test) J ≡ 0
  nothing-beyond hop long test = many-none (from_hop packet hop test) J
      (λ u later passes.
      let parts = and_parts (eqb u.packet packet) (leb hop u.hop && test u) passes in
      let order = and_parts (leb hop u.hop) (test u) parts.1 in
      let its : u.packet ≡ packet = eqb-true u.packet packet parts.0 in
      let above : hop ≤ u.hop = leb-true hop u.hop order.0 in
      let within : u.hop < length route = w.within u later its in
      omega arith)

  -- the visit to a hop counts by itself
  one-here : (v : Visit) → Among v J → v.packet ≡ packet → (test : Visit → Bool) → many (at_hop packet v.hop test) J ≡ as_number (test v)
  one-here v among is test =
      many-one (at_hop packet v.hop test) v J w.differ among
      (λ u there passes.
      let parts = and_parts (eqb u.packet packet) (eqb u.hop v.hop && test u) passes in
      let hops = and_parts (eqb u.hop v.hop) (test u) parts.1 in
      w.one u v there among (eqb-true u.packet packet parts.0) is (eqb-true u.hop v.hop hops.0))
      ∙ ap as_number (here (test v))
    where
      here : (b : Bool) → (eqb v.packet packet && (eqb v.hop v.hop && b)) ≡ b
      here b = rw (eq-eqb v.packet packet is, eq-eqb v.hop v.hop refl) refl

  -- the visits from a hop on are the one to it and those from the next hop on
  count-from : (v : Visit) → Among v J → v.packet ≡ packet → (test : Visit → Bool)
      → many (from_hop packet v.hop test) J ≡ as_number (test v) + many (from_hop packet (suc v.hop) test) J
  count-from v among is test =
      let split = many-split (from_hop packet v.hop test) (at_hop packet v.hop test) (from_hop packet (suc v.hop) test) J
      (λ u there. from_hop-split packet v.hop test u) in
      omega (arith, split, one-here v among is test)

  -- a visit counts as its pipe and its step do
  test-is : (v : Visit) (pipe : ℕ) (step : Step) (has : Step → Bool) (q : ℕ) → v.pipe ≡ pipe → has v.step ≡ has step
      → as_number (to_pipe has q v) ≡ as_number (eqb pipe q && has step)
  test-is v pipe step has q pipe_is step_is = ap (λ n. as_number (eqb n q && has v.step)) pipe_is ∙ ap (λ b. as_number (eqb pipe q && b)) step_is

  -- from a visit on, what is counted of the packet is its way along the rest of the route, if that holds after a visit that passed
  walk-on : (rest : List ℕ) (pipe : ℕ) (v : Visit) → Among v J → v.packet ≡ packet → drop v.hop route ≡ pipe ∷ rest
      → AllPairs (λ a b. a ≢ b) (pipe ∷ rest) → ((exit : ℕ) → v.step ≡ Pass exit → IsCounted J packet (suc v.hop) rest fate)
      → IsCounted J packet v.hop (pipe ∷ rest) fate
  walk-on rest pipe v among is at distinct further = go v.step refl
    where
      here : v.pipe ≡ pipe
      here = w.pipe v among is ∙ first-of_rest route v.hop pipe rest at

      dropped : (cause : Cause) → v.step ≡ step_of_cause cause → ((exit : ℕ) → v.step ≡ Pass exit → ⊥) → fate ≡ Dropped v.pipe v.tick cause
          → IsCounted J packet v.hop (pipe ∷ rest) fate
      dropped cause step stops ends =
          let ends_here : fate ≡ Dropped pipe v.tick cause = ends ∙ ap (λ q. Dropped q v.tick cause) here in
          record {
            count = λ has q blind.
                let left = count-from v among is (to_pipe has q) in
                let none = nothing-after v among is stops (to_pipe has q) in
                let one = test-is v pipe (step_of_cause cause) has q here (ap has step) in
                let way = ap (step_count has q) (way_of-drop pipe v.tick cause rest fate ends_here) in
                let right = step_count-cons has q pipe (step_of_cause cause) [] in
                omega (arith, left, none, one, way, right);
            dropper = λ at tick why e. inl (cc);
          }

      passed : (exit : ℕ) → v.step ≡ Pass exit → IsCounted J packet (suc v.hop) rest fate → IsCounted J packet v.hop (pipe ∷ rest) fate
      passed exit step behind =
          let none = no-drop pipe rest fate behind.dropper (not-behind pipe rest distinct) in
          record {
            count = λ has q blind.
                let left = count-from v among is (to_pipe has q) in
                let one = test-is v pipe (Pass 0) has q here (ap has step ∙ blind exit 0) in
                let way = ap (step_count has q) (way_of-pass pipe rest fate none) in
                let right = step_count-cons has q pipe (Pass 0) (way_of rest fate) in
                omega (arith, left, one, way, right, behind.count has q blind);
            dropper = λ at tick why e. inr (behind.dropper at tick why e);
          }

      go : (s : Step) → v.step ≡ s → IsCounted J packet v.hop (pipe ∷ rest) fate
      go Lost step = dropped Loss step (λ exit e. cc) (w.lost v among is step)
      go Full step = dropped QueueFull step (λ exit e. cc) (w.full v among is step)
      go (Pass exit) step = passed exit step (further exit step)

  -- at the last pipe of the route, and at one before it
  walked : (rest : List ℕ) (pipe : ℕ) (v : Visit) → Among v J → v.packet ≡ packet → drop v.hop route ≡ pipe ∷ rest
      → AllPairs (λ a b. a ≢ b) (pipe ∷ rest) → IsCounted J packet v.hop (pipe ∷ rest) fate
  walked [] pipe v among is at distinct = walk-on [] pipe v among is at distinct
      (λ exit step.
      let long = length-of_rest route v.hop pipe [] at in
      let left = w.left v exit among is step (omega (arith, long)) in
      record {
        count = λ has q blind. nothing-beyond (suc v.hop) (omega (arith, long)) (to_pipe has q);
        dropper = λ at tick why e. cc;
      })
  walked (r ∷ rs) pipe v among is at distinct = walk-on (r ∷ rs) pipe v among is at distinct
      (λ exit step.
      let long = length-of_rest route v.hop pipe (r ∷ rs) at in
      let u = w.next v exit among is step (omega (arith, long)) in
      let hop : u.0.hop ≡ suc v.hop = u.3 ∙ add-one v.hop in
      let ahead : drop u.0.hop route ≡ r ∷ rs = ap (λ n. drop n route) hop ∙ rest-of_rest route v.hop pipe (r ∷ rs) at in
      subst (λ n. IsCounted J packet n (r ∷ rs) fate) hop (walked rs r u.0 u.1 u.2 ahead (distinct-tail pipe (r ∷ rs) distinct)))

  -- of the whole packet: its visits to a pipe with such a step are those of its way
  pub counted-way : (has : Step → Bool) (pipe : ℕ) → IsBlind has
      → many (λ v. eqb v.packet packet && to_pipe has pipe v) J ≡ step_count has pipe (way_of route fate)
  counted-way has pipe blind = whole ∙ from-start route refl
    where
      whole : many (λ v. eqb v.packet packet && to_pipe has pipe v) J ≡ many (from_hop packet 0 (to_pipe has pipe)) J
      whole = many-same (λ v. eqb v.packet packet && to_pipe has pipe v) (from_hop packet 0 (to_pipe has pipe)) J (λ v among. rw
          (le-leb 0 v.hop (omega arith)) refl)

      from-start : (rest : List ℕ) → route ≡ rest → many (from_hop packet 0 (to_pipe has pipe)) J ≡ step_count has pipe (way_of rest fate)
      from-start [] is = nothing-beyond 0 (let none : length route ≡ 0 = ap length is in omega arith) (to_pipe has pipe)
      from-start (q ∷ rest) is =
          let some : length route ≡ length (q ∷ rest) = ap length is in
          let v = w.first (omega arith) in
          let at : drop v.0.hop route ≡ q ∷ rest = ap (λ n. drop n route) v.3 ∙ is in
          let counted = walked rest q v.0 v.1 v.2 at (subst (AllPairs (λ a b. a ≢ b)) is w.distinct) in
          ap (λ n. many (from_hop packet n (to_pipe has pipe)) J) (sym v.3) ∙ counted.count has pipe blind
