-- The scheme of pipes in a row is orderly: all that the laws on journals ask.
use Rattle.std.proofs.Common.{◌≡◌, ◌⊎◌, inl, inr, ⊎_elim, ℕ, zero, suc, ◌+◌, ◌<◌, ◌≤◌, Bool, true, false, cond, nat_lt, List, [], ◌∷◌, length, map, Option, Some, None, slice_get, refl, sym, ap, ◌∙◌, subst, arith, ltb-true}
use Rattle.std.specs.List.{enumerate_from}
use Rattle.std.specs.Option.{option_map_or}
use Rattle.mn_base.specs.Among.{Among}
use Rattle.mn_base.specs.declared.due.Due.{Due}
use Rattle.mn_base.proofs.Members.{Among-map, Among-from-map}
use Rattle.loss_words.specs.Word.{early_word}
use Rattle.pipe.specs.Scheme.{IsOrderly, IsGrowingBy, dues_by}
use Rattle.pipe.proofs.Origins.{origin_by}
use Rattle.red_queue.specs.declared.params.RedParams.{RedParams}
use Rattle.red_queue.specs.declared.setup.RedPacket.{RedPacket}
use Rattle.red_queue.specs.declared.step.RedStep.{RedStep}
use Rattle.red_queue.specs.declared.step.RedStep.TheVariants.{Lost, Early, Full, Pass}
use Rattle.red_queue.specs.declared.visit.RedVisit.{RedVisit}
use Rattle.red_queue.specs.Outcome.{RedPast}
use Rattle.red_queue.specs.SetupView.{RedSetupView, red_len_of, IsRedSetup}
use Rattle.red_queue.specs.Journal.{red_entry, red_hop_after, red_next_hop, red_is_lost, outcome_at, red_step_of, red_visit_of, red_visits_to, red_scheme}
use Rattle.red_queue.proofs.Outcomes.{outcome-later}

-- what is numbered from k on stands at its number
pub at_enumerated : {X : Type 0} (k : ℕ) (xs : List X) (q : ℕ × X) → Among q (enumerate_from k xs)
    → (i : ℕ) × (q.0 ≡ k + i) × (slice_get xs i ≡ Some q.1)
at_enumerated k [] q a = absurd a
at_enumerated {X} k (x ∷ xs) q (inl e) =
    let first : q.0 ≡ k = ap (λ (r : ℕ × X). r.0) (sym e) in (0, omega (arith, first), ap (λ (r : ℕ × X). Some r.1) e)
at_enumerated k (x ∷ xs) q (inr a) =
    let r = at_enumerated (k + 1) xs q a in let at : q.0 ≡ k + 1 + r.0 = r.1 in (suc r.0, omega (arith, at), r.2)

pub enumerated_at : {X : Type 0} (k : ℕ) (xs : List X) (i : ℕ) (x : X) → slice_get xs i ≡ Some x → Among (k + i, x) (enumerate_from k xs)
enumerated_at k [] i x at = cc
enumerated_at {X} k (y ∷ xs) zero x at =
    let same : y ≡ x = cc in
    inl (ap (λ (z : X). (k, z)) same ∙ ap (λ n. (n, x)) (omega arith))
enumerated_at {X} k (y ∷ xs) (suc i) x at =
    let rest = enumerated_at (k + 1) xs i x at in
    let number : k + 1 + i ≡ k + suc i = omega arith in
    inr (subst (λ n. Among (n, x) (enumerate_from (k + 1) xs)) number rest)

-- a first visit, by its packet
pub record IsEntry (R : RedSetupView) (x : Due) : Type 0 where
  pub packet : RedPacket
  pub at : slice_get R.packets x.packet ≡ Some packet
  pub is : x ≡ record { tick = packet.entry_tick; packet = x.packet; hop = 0 }

-- a later visit, by the visit before it on the packet's way
pub record IsNext (R : RedSetupView) (v : RedVisit) (x : Due) : Type 0 where
  pub exit : ℕ
  pub passed : v.step ≡ Pass exit
  pub is : x ≡ record { tick = exit; packet = v.packet; hop = v.hop + 1 }
  pub within : v.hop + 1 < length R.pipes

pub entry_parts : (R : RedSetupView) (x : Due) → Among x (map red_entry (enumerate_from 0 R.packets)) → IsEntry R x
entry_parts R x a =
    let t = Among-from-map red_entry x (enumerate_from 0 R.packets) a in
    let r = at_enumerated 0 R.packets t.0 t.1 in
    let number : x.packet ≡ t.0.0 = ap (λ (d : Due). d.packet) (sym t.2) in
    let same : x.packet ≡ r.0 = omega (arith, number, r.1) in
    record {
      packet = t.0.1;
      at = ap (slice_get R.packets) same ∙ r.2;
      is = sym t.2 ∙ ap (λ n. red_entry (n, t.0.1)) (sym number);
    }

-- a packet of the setup is due at the first pipe
pub entry-due : (R : RedSetupView) (n : ℕ) (p : RedPacket) → slice_get R.packets n ≡ Some p
    → Among (red_entry (n, p)) (map red_entry (enumerate_from 0 R.packets))
entry-due R n p at =
    Among-map red_entry (n, p) (enumerate_from 0 R.packets)
    (subst (λ k. Among (k, p) (enumerate_from 0 R.packets)) (omega arith) (enumerated_at 0 R.packets n p at))

pub next_parts : (R : RedSetupView) (v : RedVisit) (x : Due) → red_next_hop R v ≡ Some x → IsNext R v x
next_parts R v x e = go v.step refl e
  where
    go : (s : RedStep) → v.step ≡ s → red_hop_after R v.packet v.hop s ≡ Some x → IsNext R v x
    go Lost t f = cc
    go Early t f = cc
    go Full t f = cc
    go (Pass exit) t f = split (nat_lt (v.hop + 1) (length R.pipes)) refl f
      where
        next : Due
        next = record { tick = exit; packet = v.packet; hop = v.hop + 1 }

        split : (b : Bool) → nat_lt (v.hop + 1) (length R.pipes) ≡ b → cond b (Some next) None ≡ Some x → IsNext R v x
        split true u g = record { exit = exit; passed = t; is = cc; within = ltb-true (v.hop + 1) _ u }
        split false u g = cc

pub tick-pos : {R : RedSetupView} → IsRedSetup R → 0 < R.tick_ns
tick-pos {R} is = let l : 1000 ≤ R.tick_ns = is.tick.0 in omega arith

-- a packet that passes leaves a pipe later than it came
step-later : (R : RedSetupView) (x : Due) (h : List RedPast) (exit : ℕ) → 0 < R.tick_ns → red_step_of R x h ≡ Pass exit → x.tick < exit
unfolding red_step_of
step-later R x h exit positive e = go (slice_get R.pipes x.hop) e
  where
    go : (o : Option RedParams) → option_map_or (outcome_at R x h) o Lost ≡ Pass exit → x.tick < exit
    go None e = cc
    go (Some p) e =
        outcome-later p R.tick_ns h x.tick (red_len_of R x.packet) (early_word R.seed x.hop x.packet) (red_is_lost R p x) exit positive e

-- a due visit is the first of a packet, or follows a visit of J
abbrev pub Origin : RedSetupView → List RedVisit → Due → Type 0
Origin R J x = IsEntry R x ⊎ ((v : RedVisit) × Among v J × IsNext R v x)

pub origin : (R : RedSetupView) (J : List RedVisit) (x : Due) → Among x (dues_by (red_scheme R) J) → Origin R J x
origin R J x a =
    ⊎_elim (λ m. inl (entry_parts R x m)) (λ m. inr (m.0, m.1, next_parts R m.0 x m.2)) (origin_by (red_scheme R) J x a)

module _ (R : RedSetupView) (is : IsRedSetup R) where
  one_first : (x y : Due) → Among x (map red_entry (enumerate_from 0 R.packets)) → Among y (map red_entry (enumerate_from 0 R.packets))
      → x.packet ≡ y.packet → x ≡ y
  one_first x y a b same =
      let m = entry_parts R x a in
      let n = entry_parts R y b in
      let some : Some m.packet ≡ Some n.packet = sym m.at ∙ ap (slice_get R.packets) same ∙ n.at in
      let packet : m.packet ≡ n.packet = cc in
      m.is ∙ ap (λ (p : RedPacket). red_entry (x.packet, p)) packet ∙ ap (λ k. red_entry (k, n.packet)) same ∙ sym n.is

  later : (front : List RedVisit) (x y : Due) → red_next_hop R (red_visit_of R front x) ≡ Some y → x.tick < y.tick
  later front x y e =
      let n = next_parts R (red_visit_of R front x) y e in
      let long : x.tick < n.exit = step-later R x (red_visits_to R x.hop front) n.exit (tick-pos is) n.passed in
      let tick : y.tick ≡ n.exit = ap (λ (d : Due). d.tick) n.is in
      omega (arith, long, tick)

  pub orderly : IsOrderly (red_scheme R)
  orderly = record {
    due = λ front x. refl;
    start = λ x a. ap (λ (d : Due). d.hop) (entry_parts R x a).is;
    apart = one_first;
    later = later;
    packet = λ v y e. ap (λ (d : Due). d.packet) (next_parts R v y e).is;
    hop = λ v y e. ap (λ (d : Due). d.hop) (next_parts R v y e).is;
  }

-- lists that grow into the journal
abbrev pub IsGrowing : RedSetupView → List RedVisit → Type 0
IsGrowing R J = IsGrowingBy (red_scheme R) J
