-- What the visits so far make of the packets, from one visit to the next.
use Rattle.std.proofs.Common.{◌≡◌, ℕ, zero, suc, ◌+◌, ◌*◌, ◌<◌, ◌≤◌, Bool, true, false, cond, nat_lt, List, [], ◌∷◌, ◌++◌, length, map, take, get_or, Option, Some, None, find, reverse, slice_get, slice_set, ◌==◌, refl, sym, ap, ap₂, ◌∙◌, arith, eq-eqb, eqb-true, ltb-true, ltb-false}
use Rattle.std.specs.List.{enumerate_from}
use Rattle.std.specs.Option.{option_map_or}
use Rattle.std.proofs.lemmas.Bool.{ne_eqb}
use Rattle.std.proofs.lemmas.List.{reverse-append, take_more, take_all, length-map}
use Rattle.std.proofs.lemmas.List.FromFn.{length-enumerate_from}
use Rattle.mn_base.specs.declared.limits.TheConstants.{ROUTE_DELAY_NS_END}
use Rattle.mn_base.proofs.Members.{Among-find, Among-reverse}
use Rattle.red_queue.specs.declared.fate.RedFate.{RedFate}
use Rattle.red_queue.specs.declared.fate.RedFate.TheVariants.{Left}
use Rattle.red_queue.specs.declared.setup.RedPacket.{RedPacket}
use Rattle.red_queue.specs.declared.step.RedStep.{RedStep}
use Rattle.red_queue.specs.declared.step.RedStep.TheVariants as step
use Rattle.red_queue.specs.declared.visit.RedVisit.{RedVisit}
use Rattle.red_queue.specs.Fates.{red_fate_of_step, red_fate_of_visit, last_red_visit, entry_fate, red_fate_after, fates_by, with_fate}
use Rattle.red_queue.specs.Laws.{ExitsFit, AllLeaveInTime}
use Rattle.red_queue.specs.SetupView.{RedSetupView}

last_visit-push : (J : List RedVisit) (v : RedVisit) (number : ℕ)
    → last_red_visit (J ++ v ∷ []) number ≡ cond (v.packet == number) (Some v) (last_red_visit J number)
last_visit-push J v number = ap (find (λ (u : RedVisit). u.packet == number)) (reverse-append J (v ∷ []))

-- a visit is the last of its packet so far, and says nothing of another
fate-own : (J : List RedVisit) (v : RedVisit) (q : ℕ × RedPacket) → v.packet ≡ q.0 → red_fate_of_visit v ≡ red_fate_after (J ++ v ∷ []) q
fate-own J v q same =
    let last = last_visit-push J v q.0 in
    let own : cond (v.packet == q.0) (Some v) (last_red_visit J q.0) ≡ Some v =
    ap (λ (b : Bool). cond b (Some v) (last_red_visit J q.0)) (eq-eqb v.packet q.0 same) in
    ap (λ (o : Option RedVisit). option_map_or red_fate_of_visit o (entry_fate q.1)) (sym own ∙ sym last)

fate-other : (J : List RedVisit) (v : RedVisit) (q : ℕ × RedPacket) → (v.packet ≡ q.0 → ⊥) → red_fate_after J q ≡ red_fate_after (J ++ v ∷ []) q
fate-other J v q other =
    let last = last_visit-push J v q.0 in
    let old : cond (v.packet == q.0) (Some v) (last_red_visit J q.0) ≡ last_red_visit J q.0 =
    ap (λ (b : Bool). cond b (Some v) (last_red_visit J q.0)) (ne_eqb v.packet q.0 other) in
    ap (λ (o : Option RedVisit). option_map_or red_fate_of_visit o (entry_fate q.1)) (sym old ∙ sym last)

-- the fates of packets that are numbered from k on, none of them that of the visit
fates-same : (J : List RedVisit) (v : RedVisit) (k : ℕ) (ps : List RedPacket)
    → ((n : ℕ) → k ≤ n → n < k + length ps → v.packet ≡ n → ⊥)
    → map (red_fate_after J) (enumerate_from k ps) ≡ map (red_fate_after (J ++ v ∷ [])) (enumerate_from k ps)
fates-same J v k [] other = refl
fates-same J v k (p ∷ ps) other =
    ap₂ (λ (f : RedFate) (fs : List RedFate). f ∷ fs)
    (fate-other J v (k, p) (other k (omega arith) (omega arith)))
    (fates-same J v (k + 1) ps (λ n low high. other n (omega arith) (omega arith)))

-- the same with that of the visit's packet written
fates-set : (J : List RedVisit) (v : RedVisit) (k : ℕ) (ps : List RedPacket) (i : ℕ) → v.packet ≡ k + i → i < length ps
    → slice_set (map (red_fate_after J) (enumerate_from k ps)) i (red_fate_of_visit v) ≡ map (red_fate_after (J ++ v ∷ [])) (enumerate_from k ps)
fates-set J v k [] i at within = absurd (omega arith)
fates-set J v k (p ∷ ps) zero at within =
    ap₂ (λ (f : RedFate) (fs : List RedFate). f ∷ fs)
    (fate-own J v (k, p) (omega arith))
    (fates-same J v (k + 1) ps (λ n low high e. absurd (omega (arith, at, low, e))))
fates-set J v k (p ∷ ps) (suc i) at within =
    ap₂ (λ (f : RedFate) (fs : List RedFate). f ∷ fs)
    (fate-other J v (k, p) (λ e. omega (arith, at, e)))
    (fates-set J v (k + 1) ps i (omega (arith, at)) (omega (arith, within)))

pub fates-push : (J : List RedVisit) (v : RedVisit) (ps : List RedPacket)
    → with_fate (map (red_fate_after J) (enumerate_from 0 ps)) v ≡ map (red_fate_after (J ++ v ∷ [])) (enumerate_from 0 ps)
fates-push J v ps = go (nat_lt v.packet (length (map (red_fate_after J) (enumerate_from 0 ps)))) refl
  where
    count : length (map (red_fate_after J) (enumerate_from 0 ps)) ≡ length ps
    count = length-map (enumerate_from 0 ps) (red_fate_after J) ∙ length-enumerate_from 0 ps

    go : (b : Bool) → nat_lt v.packet (length (map (red_fate_after J) (enumerate_from 0 ps))) ≡ b
        → cond b (slice_set (map (red_fate_after J) (enumerate_from 0 ps)) v.packet (red_fate_of_visit v)) (map (red_fate_after J) (enumerate_from 0 ps))
        ≡ map (red_fate_after (J ++ v ∷ [])) (enumerate_from 0 ps)
    go true e =
        let within = ltb-true v.packet (length (map (red_fate_after J) (enumerate_from 0 ps))) e in
        fates-set J v 0 ps v.packet (omega arith) (omega (arith, within, count))
    go false e =
        let beyond = ltb-false v.packet (length (map (red_fate_after J) (enumerate_from 0 ps))) e in
        fates-same J v 0 ps (λ n low high same. absurd (omega (arith, beyond, count, high, same)))

-- before any visit
pub fates-nil : (k : ℕ) (ps : List RedPacket) → map entry_fate ps ≡ map (red_fate_after []) (enumerate_from k ps)
fates-nil k [] = refl
fates-nil k (p ∷ ps) = ap (λ (fs : List RedFate). entry_fate p ∷ fs) (fates-nil (k + 1) ps)

-- one visit more of the list
pub fates-next : (visits : List RedVisit) (i : ℕ) (d : RedVisit) (ps : List RedPacket) (fates new : List RedFate) → i < length visits
    → fates ≡ map (red_fate_after (take i visits)) (enumerate_from 0 ps) → new ≡ with_fate fates (get_or visits i d)
    → new ≡ map (red_fate_after (take (i + 1) visits)) (enumerate_from 0 ps)
fates-next visits i d ps fates new within so_far written =
    written
    ∙ ap (λ (fs : List RedFate). with_fate fs (get_or visits i d)) so_far
    ∙ fates-push (take i visits) (get_or visits i d) ps
    ∙ ap (λ (J : List RedVisit). map (red_fate_after J) (enumerate_from 0 ps)) (sym (take_more visits i d within))

-- all visits of the list
pub fates-whole : (R : RedSetupView) (visits : List RedVisit) (i : ℕ) (fates : List RedFate) → length visits ≤ i
    → fates ≡ map (red_fate_after (take i visits)) (enumerate_from 0 R.packets) → fates ≡ fates_by R visits
fates-whole R visits i fates all so_far =
    so_far ∙ ap (λ (J : List RedVisit). map (red_fate_after J) (enumerate_from 0 R.packets)) (take_all i visits all)

-- the fate of the packet of a number
fate-at : (J : List RedVisit) (k : ℕ) (ps : List RedPacket) (i : ℕ) (p : RedPacket) (fate : RedFate) → slice_get ps i ≡ Some p
    → slice_get (map (red_fate_after J) (enumerate_from k ps)) i ≡ Some fate → red_fate_after J (k + i, p) ≡ fate
fate-at J k [] i p fate at is = cc
fate-at J k (q ∷ ps) zero p fate at is =
    let same : q ≡ p = cc in
    let first : red_fate_after J (k, q) ≡ fate = cc in
    ap (λ n. red_fate_after J (n, p)) (omega arith) ∙ ap (λ (r : RedPacket). red_fate_after J (k, r)) (sym same) ∙ first
fate-at J k (q ∷ ps) (suc i) p fate at is =
    ap (λ n. red_fate_after J (n, p)) (omega arith) ∙ fate-at J (k + 1) ps i p fate at is

-- where exits are in time, packets leave in time
pub leave_in_time : (R : RedSetupView) (J : List RedVisit) → ExitsFit R J → AllLeaveInTime R (fates_by R J)
leave_in_time R J fit number tick p is at = go (last_red_visit J number) refl (fate-at J 0 R.packets number p (Left tick) at is)
  where
    go : (o : Option RedVisit) → last_red_visit J number ≡ o → red_fate_after J (0 + number, p) ≡ Left tick
        → tick * R.tick_ns < p.entry_tick * R.tick_ns + ROUTE_DELAY_NS_END
    go o found e = split o found (ap (λ n. red_fate_after J (n, p)) zero-left ∙ e)
      where
        zero-left : number ≡ 0 + number
        zero-left = omega arith

        split : (o : Option RedVisit) → last_red_visit J number ≡ o → red_fate_after J (number, p) ≡ Left tick
            → tick * R.tick_ns < p.entry_tick * R.tick_ns + ROUTE_DELAY_NS_END
        split None none f =
            let left : Left p.entry_tick ≡ Left tick =
            ap (λ (u : Option RedVisit). option_map_or red_fate_of_visit u (Left p.entry_tick)) (sym none) ∙ f in
            let same : p.entry_tick ≡ tick = cc in
            let late : p.entry_tick * R.tick_ns ≡ tick * R.tick_ns = ap (λ t. t * R.tick_ns) same in
            omega (arith, late)
        split (Some v) some f =
            let found = Among-find (λ (u : RedVisit). u.packet == number) v (reverse J) some in
            let fate : red_fate_of_visit v ≡ Left tick =
            ap (λ (u : Option RedVisit). option_map_or red_fate_of_visit u (Left p.entry_tick)) (sym some) ∙ f in
            let packet : v.packet ≡ number = eqb-true v.packet number found.1 in
            fit v tick p (Among-reverse v J found.0) (passed v.step refl fate) (ap (slice_get R.packets) packet ∙ at)
          where
            passed : (s : RedStep) → v.step ≡ s → red_fate_of_step v.hop v.tick s ≡ Left tick → v.step ≡ step.Pass tick
            passed step.Lost t f = cc
            passed step.Early t f = cc
            passed step.Full t f = cc
            passed (step.Pass exit) t f = let same : exit ≡ tick = cc in t ∙ ap step.Pass same
