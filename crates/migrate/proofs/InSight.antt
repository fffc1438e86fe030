-- Due visits of which the first is in sight, and the others are after it in a heap.
use Rattle.std.proofs.Common.{◌≡◌, ◌⊎◌, inl, inr, ⊎_elim, ◌^◌, ◌-◌, ◌<◌, ◌≤◌, List, [], ◌∷◌, Option, Some, None, refl, sym, ap, ◌∙◌, subst, arith}
use Rattle.std.specs.Prelude.{◌↔◌, IfSome, IfNone}
use Rattle.std.specs.List.{cons_option}
use Rattle.mn_base.specs.Among.{Among}
use Rattle.mn_base.specs.Canonical.{Before}
use Rattle.mn_base.specs.declared.due.Due.{Due}
use Rattle.deadline_heap.specs.Canonical.{placed, HasNoneOf, IsCanonical}
use Rattle.deadline_heap.proofs.Orders.{earlier_trans, earlier_total, canonical-placed, Among-placed}
use Rattle.migrate.specs.Inside.{AreInSight}

-- ---- the first is taken out

module _ (first : Option Due) (later : List Due) (s : AreInSight first later) where
  behind-canonical : IsCanonical later
  behind-canonical = go first refl
    where
      go : (o : Option Due) → first ≡ o → IsCanonical later
      go None e = subst (λ (p : Option Due). IsCanonical (cons_option p later)) e s.canonical
      go (Some f) e = (subst (λ (p : Option Due). IsCanonical (cons_option p later)) e s.canonical).2

  behind-ticks : (x : Due) → Among x later → x.tick < 2 ^ 64 - 1
  behind-ticks x m = go first refl
    where
      go : (o : Option Due) → first ≡ o → x.tick < 2 ^ 64 - 1
      go None e = s.ticks x (subst (λ (p : Option Due). Among x (cons_option p later)) (sym e) m)
      go (Some f) e = s.ticks x (subst (λ (p : Option Due). Among x (cons_option p later)) (sym e) (inr m))

  module _ (next : Option Due) (rest : List Due)
      (none : IfNone next ((rest ≡ later) × ((x : Due) → Among x later → 2 ^ 64 - 1 ≤ x.tick)))
      (some : IfSome next (λ due. (later ≡ due ∷ rest) × (due.tick < 2 ^ 64 - 1))) where
    -- what is left is what was after the first
    pub popped-rest : cons_option next rest ≡ later
    popped-rest = go next none some
      where
        go : (o : Option Due) → IfNone o ((rest ≡ later) × ((x : Due) → Among x later → 2 ^ 64 - 1 ≤ x.tick))
            → IfSome o (λ due. (later ≡ due ∷ rest) × (due.tick < 2 ^ 64 - 1)) → cons_option o rest ≡ later
        go None n t = n.0
        go (Some d) n t = sym t.0

    pub popped-in-sight : AreInSight next rest
    popped-in-sight = record {
      canonical = subst IsCanonical (sym popped-rest) behind-canonical;
      none = empty next none;
      ticks = λ x m. behind-ticks x (subst (Among x) popped-rest m);
    }
      where
        nothing : (l : List Due) → ((x : Due) → Among x l → x.tick < 2 ^ 64 - 1) → ((x : Due) → Among x l → 2 ^ 64 - 1 ≤ x.tick) → l ≡ []
        nothing [] low high = refl
        nothing (x ∷ l) low high =
            let a : x.tick < 2 ^ 64 - 1 = low x (inl refl) in
            let b : 2 ^ 64 - 1 ≤ x.tick = high x (inl refl) in
            absurd (omega (arith, a, b))

        empty : (o : Option Due) → IfNone o ((rest ≡ later) × ((x : Due) → Among x later → 2 ^ 64 - 1 ≤ x.tick)) → o ≡ None → rest ≡ []
        empty None n e = n.0 ∙ nothing later behind-ticks n.1
        empty (Some d) n e = cc

-- ---- one more is put in

-- of these the first is in sight, and a visit is to be put in, of a packet of which they have none
pub record IsToPut (first : Due) (later now : List Due) (due : Due) : Type 0 where
  pub in_sight : AreInSight (Some first) later
  pub now_are : first ∷ later ≡ now
  pub alone : HasNoneOf due.packet now
  pub low : due.tick < 2 ^ 64 - 1

module _ {first : Due} {later now : List Due} {due : Due} (k : IsToPut first later now due) where
  abbrev s : AreInSight (Some first) later
  s = k.in_sight

  alone : HasNoneOf due.packet (first ∷ later)
  alone = subst (HasNoneOf due.packet) (sym k.now_are) k.alone

  pub later-alone : HasNoneOf due.packet later
  later-alone x m = alone x (inr m)

  -- in front of the first
  pub front-in-sight : Before due first → AreInSight (Some due) (placed first later)
  front-in-sight before = record {
    canonical = (leads, none, canonical-placed first later s.canonical.1 s.canonical.2);
    none = λ e. (let clash : Some due ≡ None = e in cc);
    ticks = ticks;
  }
    where
      leads : (x : Due) → Among x (placed first later) → Before due x
      leads x m = ⊎_elim
          (λ same. subst (λ (y : Due). Before due y) same before)
          (λ o. earlier_trans due first x before (s.canonical.0 x o)) ((Among-placed x first later).0 m)

      none : HasNoneOf due.packet (placed first later)
      none x m = ⊎_elim (λ same. alone x (inl same)) (λ o. alone x (inr o)) ((Among-placed x first later).0 m)

      ticks : (x : Due) → (due ≡ x) ⊎ Among x (placed first later) → x.tick < 2 ^ 64 - 1
      ticks x (inl same) = subst (λ (y : Due). y.tick < 2 ^ 64 - 1) same k.low
      ticks x (inr m) = s.ticks x ((Among-placed x first later).0 m)

  -- after it
  pub behind-in-sight : (Before due first → ⊥) → AreInSight (Some first) (placed due later)
  behind-in-sight not = record {
    canonical = (leads, none, canonical-placed due later later-alone s.canonical.2);
    none = λ e. (let clash : Some first ≡ None = e in cc);
    ticks = ticks;
  }
    where
      leads : (x : Due) → Among x (placed due later) → Before first x
      leads x m = ⊎_elim
          (λ same. subst (λ (y : Due). Before first y) same (earlier_total due first (alone first (inl refl)) not))
          (λ o. s.canonical.0 x o) ((Among-placed x due later).0 m)

      none : HasNoneOf first.packet (placed due later)
      none x m = ⊎_elim
          (λ same p. alone first (inl refl) (sym p ∙ ap (λ (y : Due). y.packet) (sym same)))
          (λ o. s.canonical.1 x o) ((Among-placed x due later).0 m)

      ticks : (x : Due) → (first ≡ x) ⊎ Among x (placed due later) → x.tick < 2 ^ 64 - 1
      ticks x (inl same) = s.ticks x (inl same)
      ticks x (inr m) = ⊎_elim
          (λ same. subst (λ (y : Due). y.tick < 2 ^ 64 - 1) same k.low) (λ o. s.ticks x (inr o)) ((Among-placed x due later).0 m)

  -- the members then
  pub front-members : (x : Due) → Among x (due ∷ placed first later) ↔ ((due ≡ x) ⊎ Among x now)
  front-members x = subst (λ (l : List Due). Among x (due ∷ placed first later) ↔ ((due ≡ x) ⊎ Among x l)) k.now_are (
    (λ m. ⊎_elim (λ e. inl e) (λ o. inr ((Among-placed x first later).0 o)) m),
    λ m. ⊎_elim (λ e. inl e) (λ o. inr ((Among-placed x first later).1 o)) m,
  )

  pub behind-members : (x : Due) → Among x (first ∷ placed due later) ↔ ((due ≡ x) ⊎ Among x now)
  behind-members x = subst (λ (l : List Due). Among x (first ∷ placed due later) ↔ ((due ≡ x) ⊎ Among x l)) k.now_are (
    (λ m. ⊎_elim (λ e. inr (inl e)) (λ o. ⊎_elim (λ e. inl e) (λ n. inr (inr n)) ((Among-placed x due later).0 o)) m),
    λ m. ⊎_elim (λ e. inr ((Among-placed x due later).1 (inl e)))
        (λ o. ⊎_elim (λ e. inl e) (λ n. inr ((Among-placed x due later).1 (inr n))) o) m,
  )

pub single-in-sight : (due : Due) (later : List Due) → AreInSight None later → due.tick < 2 ^ 64 - 1 → AreInSight (Some due) later
single-in-sight due later s low = subst (AreInSight (Some due)) (sym empty) (record {
  canonical = ((λ x m. absurd m), (λ x m. absurd m), tt);
  none = λ e. refl;
  ticks = λ x m. ⊎_elim (λ e. subst (λ (y : Due). y.tick < 2 ^ 64 - 1) e low) (λ o. absurd o) m;
})
  where
    empty : later ≡ []
    empty = s.none refl

pub first-tick : (first : Option Due) (later : List Due) → AreInSight first later → IfSome first (λ due. due.tick < 2 ^ 64 - 1)
first-tick None later s = tt
first-tick (Some d) later s = s.ticks d (inl refl)
