-- A packet visits a pipe at most once, so a list that grows into the journal has at most one visit for each packet and pipe.
use Rattle.std.proofs.Common.{◌≡◌, ◌⊎◌, inl, inr, ℕ, ◌+◌, ◌*◌, ◌<◌, ◌≤◌, ◌==◌, true, false, List, [], ◌∷◌, length, map, Some, slice_get, refl, sym, ap, ◌∙◌, subst, arith, eqb-true}
use Rattle.std.specs.List.{list_any, IsDistinct, AllByRecursion}
use Rattle.std.proofs.Math.Nat.{mul-le-mul_right}
use Rattle.std.proofs.lemmas.Bool.{cases_order, ne_eqb}
use Rattle.std.proofs.lemmas.List.{length-map}
use Rattle.std.proofs.lemmas.Map.Steps.{length-le_from_distinct_below}
use Rattle.std.proofs.lemmas.Option.{slice_get_within}
use Rattle.mn_base.specs.Among.{Among}
use Rattle.mn_base.specs.declared.due.Due.{Due}
use Rattle.mn_base.specs.Canonical.{Before}
use Rattle.mn_base.proofs.Members.{Among-from-map, Among-from-list_any}
use Rattle.pipe.specs.Scheme.{Rises, dues_by}
use Rattle.pipe.proofs.CanonicalOrder.{before-irreflexive}
use Rattle.pipe.proofs.Growing.{IsEarlierBy, one_visit, earlier}
use Rattle.red_queue.specs.declared.setup.RedPacket.{RedPacket}
use Rattle.red_queue.specs.declared.visit.RedVisit.{RedVisit}
use Rattle.red_queue.specs.SetupView.{RedSetupView, IsRedSetup}
use Rattle.red_queue.specs.Journal.{red_due_of, red_scheme}
use Rattle.red_queue.proofs.Orderly.{Origin, origin, orderly, IsGrowing}

-- two numbers by rows of P places
row-same : (P a b i j : ℕ) → i < P → j < P → a * P + i ≡ b * P + j → a ≡ b
row-same P a b i j low high same = go (cases_order a b)
  where
    go : (a ≡ b) ⊎ ((a < b) ⊎ (b < a)) → a ≡ b
    go (inl e) = e
    go (inr (inl l)) = let up : (a + 1) * P ≤ b * P = mul-le-mul_right P (omega arith) in absurd (omega (arith, up, low, high, same))
    go (inr (inr l)) = let up : (b + 1) * P ≤ a * P = mul-le-mul_right P (omega arith) in absurd (omega (arith, up, low, high, same))

module _ (R : RedSetupView) (is : IsRedSetup R) (J : List RedVisit) (g : IsGrowing R J) where
  -- a visit is to a pipe of the row
  pub hop-within : (x : Due) → Among x (dues_by (red_scheme R) J) → x.hop < length R.pipes
  hop-within x a = go (origin R J x a)
    where
      go : Origin R J x → x.hop < length R.pipes
      go (inl m) =
          let hop : x.hop ≡ 0 = ap (λ (d : Due). d.hop) m.is in
          let some : 1 ≤ length R.pipes = is.pipes_least in
          omega (arith, hop, some)
      go (inr m) =
          let hop : x.hop ≡ m.0.hop + 1 = ap (λ (d : Due). d.hop) m.2.is in
          let within : m.0.hop + 1 < length R.pipes = m.2.within in
          omega (arith, hop, within)

  -- of a packet of the setup
  pub packet-of : (v : RedVisit) → Among v J → (p : RedPacket) × (slice_get R.packets v.packet ≡ Some p)
  packet-of v a = go (earlier (red_scheme R) (orderly R is) J g 0 v a (omega arith))
    where
      go : IsEarlierBy (red_scheme R) J v 0 → (p : RedPacket) × (slice_get R.packets v.packet ≡ Some p)
      go e = place (origin R J (red_due_of e.visit) (g.sound e.visit e.among))
        where
          place : Origin R J (red_due_of e.visit) → (p : RedPacket) × (slice_get R.packets v.packet ≡ Some p)
          place (inl m) = (m.packet, ap (slice_get R.packets) (sym e.packet) ∙ m.at)
          place (inr m) =
              let hop : (e.visit).hop ≡ m.0.hop + 1 = ap (λ (d : Due). d.hop) m.2.is in
              let first : (e.visit).hop ≡ 0 = e.at in
              absurd (omega (arith, hop, first))

  pub packet-within : (v : RedVisit) → Among v J → v.packet < length R.packets
  packet-within v a = let p = packet-of v a in slice_get_within R.packets v.packet p.0 p.1

  -- the number of a packet and a pipe together
  abbrev place : RedVisit → ℕ
  place v = v.packet * length R.pipes + v.hop

  place-within : (v : RedVisit) → Among v J → place v < length R.packets * length R.pipes
  place-within v a =
      let hop : v.hop < length R.pipes = hop-within (red_due_of v) (g.sound v a) in
      let row : (v.packet + 1) * length R.pipes ≤ length R.packets * length R.pipes =
      mul-le-mul_right (length R.pipes) (let l = packet-within v a in omega (arith, l)) in
      omega (arith, hop, row)

  place-same : (v w : RedVisit) → Among v J → Among w J → place v ≡ place w → v ≡ w
  place-same v w a b same =
      let low : v.hop < length R.pipes = hop-within (red_due_of v) (g.sound v a) in
      let high : w.hop < length R.pipes = hop-within (red_due_of w) (g.sound w b) in
      let packet : v.packet ≡ w.packet = row-same (length R.pipes) v.packet w.packet v.hop w.hop low high same in
      let row : v.packet * length R.pipes ≡ w.packet * length R.pipes = ap (λ n. n * length R.pipes) packet in
      let hop : v.hop ≡ w.hop = omega (arith, row, same) in
      one_visit (red_scheme R) (orderly R is) J g v w a b packet hop

  others : (v : RedVisit) (K : List RedVisit) → ((w : RedVisit) → Among w K → place v ≡ place w → ⊥)
      → AllByRecursion (λ n. (place v == n) ≡ false) (map place K)
  others v [] differ = tt
  others v (w ∷ K) differ = (ne_eqb (place v) (place w) (differ w (inl refl)), others v K (λ u a. differ u (inr a)))

  places-differ : (K : List RedVisit) → Rises (red_scheme R) K → ((v : RedVisit) → Among v K → Among v J)
      → IsDistinct (λ a b. a == b) (map place K)
  unfolding IsDistinct
  places-differ [] rises all = tt
  places-differ (v ∷ K) rises all = (
    others v K (λ w a same. clash w a (place-same v w (all v (inl refl)) (all w (inr a)) same)),
    places-differ K rises.1 (λ w a. all w (inr a)),
  )
    where
      clash : (w : RedVisit) → Among w K → v ≡ w → ⊥
      clash w a e =
          before-irreflexive (red_due_of w) (subst (λ (u : RedVisit). Before (red_due_of u) (red_due_of w)) e (rises.0 w a))

  pub growing_count : length J ≤ length R.packets * length R.pipes
  growing_count =
      let most = length-le_from_distinct_below (map place J) (length R.packets * length R.pipes)
      (places-differ J g.rises (λ v a. a)) below in
      omega (arith, most, length-map J place)
    where
      below : (n : ℕ) → list_any (λ k. n == k) (map place J) ≡ true → n < length R.packets * length R.pipes
      below n e =
          let t = Among-from-list_any (λ k. n == k) (map place J) e in
          let u = Among-from-map place t.0 J t.1 in
          let within : place u.0 < length R.packets * length R.pipes = place-within u.0 u.1 in
          let number : n ≡ t.0 = eqb-true n t.0 t.2 in
          omega (arith, within, number, u.2)
