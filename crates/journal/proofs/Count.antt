-- A growing list has at most as many visits as the packets' routes have pipes, each packet counted by itself.
use Rattle.std.proofs.Common.{◌≡◌, ◌⊎◌, inl, inr, ℕ, ◌+◌, ◌-◌, ◌<◌, ◌≤◌, ◌==◌, Bool, true, false, cond, List, [], ◌∷◌, length, filter, sum_by, refl, sym, ap, ◌∙◌, subst, arith, eqb-true, eq-eqb}
use Rattle.std.proofs.lemmas.Bool.{cases_order}
use Rattle.std.proofs.lemmas.List.Sums.{sum_by-cons, sum_by-le-sum_by}
use Rattle.mn_base.specs.Among.{Among}
use Rattle.mn_base.specs.declared.due.Due.{Due}
use Rattle.mn_base.specs.Canonical.{Before}
use Rattle.pipe.specs.Scheme.{Rises}
use Rattle.journal.specs.declared.setup.PacketPlan.{PacketPlan}
use Rattle.journal.specs.declared.visit.Visit.{Visit}
use Rattle.journal.specs.SetupView.{SetupView, route_of}
use Rattle.journal.specs.IsSetup.{IsSetup}
use Rattle.journal.specs.Hops.{due_of}
use Rattle.journal.specs.IsJournal.{scheme_of}
use Rattle.journal.specs.Journal.{hop_count}
use Rattle.mn_base.proofs.Members.{Among-from-filter}
use Rattle.pipe.proofs.CanonicalOrder.{before-irreflexive, before-tick}
use Rattle.pipe.proofs.Growing.{IsEarlierBy, one_visit, earlier, apart}
use Rattle.journal.proofs.Orderly.{IsGrowing, Origin, origin, orderly}

abbrev pub of_packet : ℕ → List Visit → List Visit
of_packet n J = filter (λ v. v.packet == n) J

-- each visit is to an earlier hop than those after it
abbrev HopsRise : List Visit → Type 0
HopsRise [] = Unit {0}
HopsRise (v ∷ J) = ((w : Visit) → Among w J → v.hop < w.hop) × HopsRise J

length-hops : (b k : ℕ) (J : List Visit) → HopsRise J → ((v : Visit) → Among v J → (k ≤ v.hop) × (v.hop < b)) → length J ≤ b - k
length-hops b k [] r all = omega arith
length-hops b k (v ∷ J) r all =
    let here = all v (inl refl) in
    let low : k ≤ v.hop = here.0 in
    let high : v.hop < b = here.1 in
    let rest : length J ≤ b - (v.hop + 1) =
    length-hops b (v.hop + 1) J r.1 (λ w h. let l : v.hop < w.hop = r.0 w h in (omega arith, (all w (inr h)).1)) in
    omega (arith, low, high, rest)

sum_by-add : {X : Type 0} (f g : X → ℕ) (xs : List X) → sum_by (λ x. f x + g x) xs ≡ sum_by f xs + sum_by g xs
sum_by-add f g [] = refl
sum_by-add f g (x ∷ xs) =
    let rest = sum_by-add f g xs in
    omega (arith, rest, sum_by-cons (λ x. f x + g x) x xs, sum_by-cons f x xs, sum_by-cons g x xs)

le-sum_by : {X : Type 0} (f : X → ℕ) (x : X) (xs : List X) → Among x xs → f x ≤ sum_by f xs
le-sum_by f x [] h = absurd h
le-sum_by f x (y ∷ xs) (inl e) = let same : f y ≡ f x = ap f e in omega (arith, same, sum_by-cons f y xs)
le-sum_by f x (y ∷ xs) (inr h) = let rest = le-sum_by f x xs h in omega (arith, rest, sum_by-cons f y xs)

length-of_packet : (v : Visit) (J : List Visit) (n : ℕ) → length (of_packet n (v ∷ J)) ≡ cond (v.packet == n) 1 0 + length (of_packet n J)
length-of_packet v J n = go (v.packet == n)
  where
    go : (b : Bool) → length (cond b (v ∷ of_packet n J) (of_packet n J)) ≡ cond b 1 0 + length (of_packet n J)
    go true = omega arith
    go false = omega arith

-- a list of visits of these packets has no more visits than the packets have, each counted by itself
pub length-by_packet : (P : List PacketPlan) (J : List Visit)
    → ((v : Visit) → Among v J → (p : PacketPlan) × Among p P × (p.number ≡ v.packet))
    → length J ≤ sum_by (λ p. length (of_packet p.number J)) P
length-by_packet P [] all = omega arith
length-by_packet P (v ∷ J) all =
    let here = all v (inl refl) in
    let rest : length J ≤ sum_by (λ p. length (of_packet p.number J)) P = length-by_packet P J (λ w h. all w (inr h)) in
    let one : cond (v.packet == here.0.number) 1 0 ≤ sum_by (λ p. cond (v.packet == p.number) 1 0) P =
    le-sum_by (λ p. cond (v.packet == p.number) 1 0) here.0 P here.1 in
    let one_of : Bool → ℕ = λ b. cond b 1 0 in
    let is_one : one_of (v.packet == here.0.number) ≡ 1 = ap one_of (eq-eqb _ _ (sym here.2)) in
    let split = sum_by-add (λ p. cond (v.packet == p.number) 1 0) (λ p. length (of_packet p.number J)) P in
    let whole : sum_by (λ p. length (of_packet p.number (v ∷ J))) P
    ≡ sum_by (λ p. cond (v.packet == p.number) 1 0 + length (of_packet p.number J)) P =
    same (λ p. length (of_packet p.number (v ∷ J))) (λ p. cond (v.packet == p.number) 1 0 + length (of_packet p.number J))
    (λ p. length-of_packet v J p.number) P in
    omega (arith, rest, one, is_one, split, whole)
  where
    same : (f g : PacketPlan → ℕ) → ((p : PacketPlan) → f p ≡ g p) → (P : List PacketPlan) → sum_by f P ≡ sum_by g P
    same f g e [] = refl
    same f g e (p ∷ P) = omega (arith, e p, same f g e P, sum_by-cons f p P, sum_by-cons g p P)

module _ (S : SetupView) (is : IsSetup S) (J : List Visit) (g : IsGrowing S J) where
  -- of two visits of a packet the one before is to the earlier hop
  pub hop-rises : (v w : Visit) → Among v J → Among w J → Before (due_of v) (due_of w) → v.packet ≡ w.packet → v.hop < w.hop
  hop-rises v w a b before p = go (cases_order v.hop w.hop)
    where
      go : (v.hop ≡ w.hop) ⊎ ((v.hop < w.hop) ⊎ (w.hop < v.hop)) → v.hop < w.hop
      go (inl e) =
          let one : v ≡ w = one_visit (scheme_of S) (orderly S is) J g v w a b p e in
          absurd (before-irreflexive (due_of w) (subst (λ (u : Visit). Before (due_of u) (due_of w)) one before))
      go (inr (inl l)) = l
      go (inr (inr l)) =
          let later : w.tick < v.tick = apart (scheme_of S) (orderly S is) J g w (due_of v) b (g.sound v a) (sym p) l in
          let order : v.tick ≤ w.tick = before-tick (due_of v) (due_of w) before in
          absurd (omega (arith, later, order))

  hops_rise : (n : ℕ) (rest : List Visit) → Rises (scheme_of S) rest → ((v : Visit) → Among v rest → Among v J)
      → HopsRise (of_packet n rest)
  hops_rise n [] r all = tt
  hops_rise n (v ∷ rest) r all = go (v.packet == n) refl (hops_rise n rest r.1 (λ w h. all w (inr h)))
    where
      go : (b : Bool) → (v.packet == n) ≡ b → HopsRise (of_packet n rest) → HopsRise (cond b (v ∷ of_packet n rest) (of_packet n rest))
      go false t behind = behind
      go true t behind = (first, behind)
        where
          first : (w : Visit) → Among w (of_packet n rest) → v.hop < w.hop
          first w h =
              let s = Among-from-filter (λ (u : Visit). u.packet == n) w rest h in
              hop-rises v w (all v (inl refl)) (all w (inr s.0)) (r.0 w s.0) (eqb-true _ _ t ∙ sym (eqb-true _ _ s.1))

  -- a visit is to a hop of its packet's route
  pub hop-within : (v : Visit) → Among v J → v.hop < length (route_of S v.packet)
  hop-within v a = go (origin S J (due_of v) (g.sound v a))
    where
      go : Origin S J (due_of v) → v.hop < length (route_of S v.packet)
      go (inl m) =
          let hop : v.hop ≡ 0 = ap (λ (d : Due). d.hop) m.1.is in
          let within : 0 < length (route_of S v.packet) =
          subst (λ (n : ℕ). 0 < length (route_of S n)) (sym (ap (λ (d : Due). d.packet) m.1.is)) m.1.within in
          omega (arith, hop, within)
      go (inr m) =
          let hop : v.hop ≡ m.0.hop + 1 = ap (λ (d : Due). d.hop) m.2.is in
          let within : m.0.hop + 1 < length (route_of S v.packet) =
          subst (λ (n : ℕ). m.0.hop + 1 < length (route_of S n)) (sym (ap (λ (d : Due). d.packet) m.2.is)) m.2.within in
          omega (arith, hop, within)

  -- and its packet is one of the setup's
  pub packet-of_visit : (v : Visit) → Among v J → (p : PacketPlan) × Among p S.packets × (p.number ≡ v.packet)
  packet-of_visit v a = go (earlier (scheme_of S) (orderly S is) J g 0 v a (omega arith))
    where
      go : IsEarlierBy (scheme_of S) J v 0 → (p : PacketPlan) × Among p S.packets × (p.number ≡ v.packet)
      go e = place (origin S J (due_of e.visit) (g.sound e.visit e.among))
        where
          place : Origin S J (due_of e.visit) → (p : PacketPlan) × Among p S.packets × (p.number ≡ v.packet)
          place (inl m) = (m.0, m.1.among, sym (ap (λ (d : Due). d.packet) m.1.is) ∙ e.packet)
          place (inr m) =
              let hop : e.visit.hop ≡ m.0.hop + 1 = ap (λ (d : Due). d.hop) m.2.is in
              let zero_hop : e.visit.hop ≡ 0 = e.at in
              absurd (omega (arith, hop, zero_hop))

  length-visits : (n : ℕ) → length (of_packet n J) ≤ length (route_of S n)
  length-visits n =
      let l = length-hops (length (route_of S n)) 0 (of_packet n J) (hops_rise n J g.rises (λ v h. h)) bounds in omega (arith, l)
    where
      bounds : (v : Visit) → Among v (of_packet n J) → (0 ≤ v.hop) × (v.hop < length (route_of S n))
      bounds v h =
          let s = Among-from-filter (λ (u : Visit). u.packet == n) v J h in
          (omega arith, subst (λ (m : ℕ). v.hop < length (route_of S m)) (eqb-true _ _ s.1) (hop-within v s.0))

  pub growing_count : length J ≤ hop_count S
  growing_count =
      let by_packet : length J ≤ sum_by (λ p. length (of_packet p.number J)) S.packets = length-by_packet S.packets J packet-of_visit in
      let routes : sum_by (λ p. length (of_packet p.number J)) S.packets ≤ hop_count S =
      sum_by-le-sum_by (λ p. length (of_packet p.number J)) (λ p. length (route_of S p.number)) S.packets (λ p. length-visits p.number) in
      omega (arith, by_packet, routes)
