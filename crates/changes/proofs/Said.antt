-- What lines of changes say: their number, the last of them, and what a line without a fault tells of its change.
use Rattle.std.proofs.Common.{◌≡◌, ◌<◌, ◌≤◌, ◌-◌, ◌⊎◌, inl, inr, ⊎_elim, ℕ, zero, suc, Bool, true, false, cond, not, nat_lt, List, [], ◌∷◌, length, get_or, All, AllPairs, Option, Some, None, refl, sym, ap, ◌∙◌, subst, arith}
use Rattle.std.specs.Prelude.{option_and_then, slice_get}
use Rattle.std.specs.Option.{option_map_or}
use Rattle.std.specs.List.{AllZip}
use Rattle.std.proofs.lemmas.Bool.{ltb-true, lt-ltb, eqb-true, eq-eqb, and_parts, and_from, or_cases, or_left, or_right, cases_eq, leb-true, le-leb}
use Rattle.std.proofs.lemmas.Option.{slice_get-get_or}
use Rattle.mn_base.specs.Ranges.{AreInRange, is_bandwidth, is_latency, is_queue_limit, is_loss}
use Rattle.mn_base.proofs.RangeTests.{bandwidth_within, bandwidth_passes, latency_within, latency_passes, queue_limit_within, queue_limit_passes, loss_within, loss_passes}
use Rattle.mn_base.specs.declared.limits.TheConstants.{CHANGE_TICK_MAX}
use Rattle.changes.specs.declared.split.Change.{Change}
use Rattle.changes.specs.declared.faults.ChangesFault.{ChangesFault}
use Rattle.changes.specs.declared.faults.ChangesFault.TheVariants.{Line, Range, Order}
use Rattle.changes.specs.Changes.{change_of, IsChange, is_change, PrecedesChange, precedes_change}
use Rattle.changes.specs.Faults.{last_change, fault_of_change}
use Rattle.changes.specs.Splits.{SaysChange}
use Rattle.changes.proofs.Lists.{AllZip-length}

-- line k says change k
said_at : (lines : List (List ℕ)) (changes : List Change) → AllZip SaysChange lines changes → (k : ℕ)
    → option_and_then change_of (slice_get lines k) ≡ slice_get changes k
said_at [] [] all k = refl
said_at [] (c ∷ cs) all k = absurd all
said_at (l ∷ ls) [] all k = absurd all
said_at (l ∷ ls) (c ∷ cs) all zero = all.0
said_at (l ∷ ls) (c ∷ cs) all (suc k) = said_at ls cs all.1 k

-- the last line says the last change
pub last_said : (lines : List (List ℕ)) (changes : List Change) → AllZip SaysChange lines changes
    → last_change lines ≡ slice_get changes (length changes - 1)
last_said lines changes all =
    said_at lines changes all (length lines - 1) ∙ ap (λ n. slice_get changes (n - 1)) (AllZip-length SaysChange lines changes all)

-- ---- the order of changes
pub before_from : (c d : Change) → precedes_change c d ≡ true → PrecedesChange c d
before_from c d passes =
    ⊎_elim
    (λ earlier. inl (ltb-true c.tick d.tick earlier))
    (λ same. let parts = and_parts _ _ same in inr (eqb-true c.tick d.tick parts.0, ltb-true c.pipe d.pipe parts.1))
    (or_cases _ _ passes)

pub passes_from : (c d : Change) → PrecedesChange c d → precedes_change c d ≡ true
passes_from c d before =
    ⊎_elim
    (λ earlier. or_left _ _ (lt-ltb c.tick d.tick earlier))
    (λ same. or_right _ _ (and_from _ _ (eq-eqb c.tick d.tick same.0) (lt-ltb c.pipe d.pipe same.1)))
    before

before_trans : (c d e : Change) → PrecedesChange c d → PrecedesChange d e → PrecedesChange c e
before_trans c d e (inl a) (inl b) = inl (omega arith)
before_trans c d e (inl a) (inr b) = let same : d.tick ≡ e.tick = b.0 in inl (omega arith)
before_trans c d e (inr a) (inl b) = let same : c.tick ≡ d.tick = a.0 in inl (omega arith)
before_trans c d e (inr a) (inr b) =
    let first : c.tick ≡ d.tick = a.0 in
    let second : d.tick ≡ e.tick = b.0 in
    let low : c.pipe < d.pipe = a.1 in
    let high : d.pipe < e.pipe = b.1 in
    inr (first ∙ second, omega arith)

-- what comes after the last comes after each
pub behind_each : (changes : List Change) (change : Change) → AllPairs PrecedesChange changes
    → option_map_or (λ earlier. precedes_change earlier change) (slice_get changes (length changes - 1)) true ≡ true
    → All (λ c. PrecedesChange c change) changes
behind_each changes change rise passes = λ k d within.
    let is : slice_get changes (length changes - 1) ≡ Some (get_or changes (length changes - 1) d) =
    slice_get-get_or changes (length changes - 1) d (omega arith) in
    let here : PrecedesChange (get_or changes (length changes - 1) d) change =
    before_from (get_or changes (length changes - 1) d) change
    (subst (λ (o : Option Change). option_map_or (λ earlier. precedes_change earlier change) o true ≡ true) is passes) in
    ⊎_elim
    (λ (same : k ≡ length changes - 1). subst (λ n. PrecedesChange (get_or changes n d) change) (sym same) here)
    (λ other. before_trans (get_or changes k d) (get_or changes (length changes - 1) d) change
    (rise k (length changes - 1) d (omega (arith, other)) (omega arith)) here)
    (cases_eq k (length changes - 1))

-- ---- the ranges
pub within_from : (c : Change) → is_change c ≡ true → IsChange c
within_from c passes =
    let p = and_parts _ _ passes in
    let q = and_parts _ _ p.0 in
    let u = and_parts _ _ q.0 in
    let b = and_parts _ _ u.0 in
    record {
      tick = leb-true c.tick _ b.0;
      values = record {
        bandwidth = bandwidth_within c.bps b.1;
        latency = latency_within c.latency_us u.1;
        queue_limit = queue_limit_within c.queue q.1;
        loss = loss_within c.ppm p.1;
      };
    }

pub passes_within : (c : Change) → IsChange c → is_change c ≡ true
passes_within c is =
    and_from _ _
    (and_from _ _
    (and_from _ _
    (and_from _ _ (le-leb c.tick _ is.tick) (bandwidth_passes c.bps is.values.bandwidth))
    (latency_passes c.latency_us is.values.latency))
    (queue_limit_passes c.queue is.values.queue_limit))
    (loss_passes c.ppm is.values.loss)

-- ---- a line's three tests
-- the pipe is there, the numbers are in their ranges, and the change comes after the last
pub record Passes (pipes : ℕ) (last : Option Change) (change : Change) : Type 0 where
  pub named : change.pipe < pipes
  pub within : IsChange change
  pub behind : option_map_or (λ earlier. precedes_change earlier change) last true ≡ true

three : (n : ℕ) (a b c : Bool)
    → cond (not a) (Some (Line n)) (cond (not b) (Some (Range n)) (cond (not c) (Some (Order n)) None)) ≡ None
    → (a ≡ true) × (b ≡ true) × (c ≡ true)
three n true true true none = (refl, refl, refl)
three n true true false none = cc
three n true false c none = cc
three n false b c none = cc

pub passes_from_none : (pipes n : ℕ) (last : Option Change) (change : Change) → fault_of_change pipes n last change ≡ None
    → Passes pipes last change
passes_from_none pipes n last change none =
    let tests = three n (nat_lt change.pipe pipes) (is_change change) (option_map_or (λ earlier. precedes_change earlier change) last true) none in
    record { named = ltb-true change.pipe pipes tests.0; within = within_from change tests.1; behind = tests.2 }

pub none_from_passes : (pipes n : ℕ) (last : Option Change) (change : Change) → Passes pipes last change
    → fault_of_change pipes n last change ≡ None
none_from_passes pipes n last change passes =
    rw (lt-ltb change.pipe pipes passes.named, passes_within change passes.within, passes.behind) refl
