-- The canonical order of due visits, and the least of a list of them.
use Rattle.std.proofs.Common.{◌≡◌, ◌⊎◌, inl, inr, ⊎_elim, ◌<◌, ◌≤◌, Bool, true, false, cond, nat_lt, ◌&&◌, ◌==◌, List, [], ◌∷◌, Option, Some, None, refl, sym, ap, ◌∙◌, subst, arith, true≢false, ltb-true, lt-ltb, eqb-true, eq-eqb}
use Rattle.std.proofs.lemmas.Bool.{cases_order, or_cases, or_left, or_right, and_parts, and_from}
use Rattle.mn_base.specs.Among.{Among}
use Rattle.mn_base.specs.declared.due.Due.{Due}
use Rattle.mn_base.specs.Canonical.{Before, is_before}
use Rattle.pipe.specs.Dues.{lesser, least}

pub before-irreflexive : (x : Due) → Before x x → ⊥
before-irreflexive x (inl l) = absurd (omega arith)
before-irreflexive x (inr s) = let l : x.packet < x.packet = s.1 in absurd (omega arith)

pub before-transitive : (x y z : Due) → Before x y → Before y z → Before x z
before-transitive x y z (inl a) (inl b) = inl (omega arith)
before-transitive x y z (inl a) (inr b) = let e : y.tick ≡ z.tick = b.0 in inl (omega arith)
before-transitive x y z (inr a) (inl b) = let e : x.tick ≡ y.tick = a.0 in inl (omega arith)
before-transitive x y z (inr a) (inr b) =
    let l : x.packet < y.packet = a.1 in let m : y.packet < z.packet = b.1 in inr (a.0 ∙ b.0, omega arith)

pub before-asymmetric : (x y : Due) → Before x y → Before y x → ⊥
before-asymmetric x y h k = before-irreflexive x (before-transitive x y x h k)

-- two stand in one order or the other, unless they have one tick and one packet
pub before_cases : (x y : Due) → Before x y ⊎ (Before y x ⊎ ((x.tick ≡ y.tick) × (x.packet ≡ y.packet)))
before_cases x y = go (cases_order x.tick y.tick) (cases_order x.packet y.packet)
  where
    go : (x.tick ≡ y.tick) ⊎ ((x.tick < y.tick) ⊎ (y.tick < x.tick))
        → (x.packet ≡ y.packet) ⊎ ((x.packet < y.packet) ⊎ (y.packet < x.packet))
        → Before x y ⊎ (Before y x ⊎ ((x.tick ≡ y.tick) × (x.packet ≡ y.packet)))
    go (inr (inl l)) n = inl (inl l)
    go (inr (inr l)) n = inr (inl (inl l))
    go (inl e) (inr (inl l)) = inl (inr (e, l))
    go (inl e) (inr (inr l)) = inr (inl (inr (sym e, l)))
    go (inl e) (inl n) = inr (inr (e, n))

-- of two packets one is before the other
pub before-either : (x y : Due) → (x.packet ≡ y.packet → ⊥) → (Before y x → ⊥) → Before x y
before-either x y other not_after = go (before_cases x y)
  where
    go : Before x y ⊎ (Before y x ⊎ ((x.tick ≡ y.tick) × (x.packet ≡ y.packet))) → Before x y
    go (inl before) = before
    go (inr (inl after)) = absurd (not_after after)
    go (inr (inr same)) = absurd (other same.1)

pub before-tick : (x y : Due) → Before x y → x.tick ≤ y.tick
before-tick x y (inl l) = omega arith
before-tick x y (inr s) = let e : x.tick ≡ y.tick = s.0 in omega arith

-- what isn't after y, and y isn't after x: neither is it after x
pub not_before-transitive : (x y z : Due) → (Before y x → ⊥) → (Before z y → ⊥) → Before z x → ⊥
not_before-transitive x y z h k zx = go (before_cases z y)
  where
    go : Before z y ⊎ (Before y z ⊎ ((z.tick ≡ y.tick) × (z.packet ≡ y.packet))) → ⊥
    go (inl zy) = k zy
    go (inr (inl yz)) = h (before-transitive y z x yz zx)
    go (inr (inr same)) = h (turned zx)
      where
        turned : Before z x → Before y x
        turned (inl l) = let e : z.tick ≡ y.tick = same.0 in inl (omega arith)
        turned (inr s) =
            let e : z.packet ≡ y.packet = same.1 in
            let l : z.packet < x.packet = s.1 in
            inr (sym same.0 ∙ s.0, omega arith)

-- the test says what the order says
pub is_before-true : (x y : Due) → is_before x y ≡ true → Before x y
is_before-true x y e = ⊎_elim (λ t. inl (ltb-true _ _ t)) tied (or_cases (nat_lt x.tick y.tick) _ e)
  where
    tied : ((x.tick == y.tick) && nat_lt x.packet y.packet) ≡ true → Before x y
    tied t = let s = and_parts (x.tick == y.tick) (nat_lt x.packet y.packet) t in inr (eqb-true _ _ s.0, ltb-true _ _ s.1)

pub is_before-false : (x y : Due) → is_before x y ≡ false → Before x y → ⊥
is_before-false x y e (inl l) = true≢false (sym (or_left (nat_lt x.tick y.tick) _ (lt-ltb _ _ l)) ∙ e)
is_before-false x y e (inr s) =
    true≢false (sym (or_right (nat_lt x.tick y.tick) _ (and_from _ _ (eq-eqb _ _ s.0) (lt-ltb _ _ s.1))) ∙ e)

-- a member before which no member is
pub record IsFirst (x : Due) (xs : List Due) : Type 0 where
  pub among : Among x xs
  pub least : (y : Due) → Among y xs → Before y x → ⊥

-- the least is such a member
pub least_parts : (x : Due) (xs : List Due) → least xs ≡ Some x → IsFirst x xs
least_parts x [] e = cc
least_parts x (y ∷ xs) e = go (least xs) refl (λ z t. least_parts z xs t)
  where
    go : (o : Option Due) → least xs ≡ o → ((z : Due) → least xs ≡ Some z → IsFirst z xs) → IsFirst x (y ∷ xs)
    go None t rest = record {
      among = inl same;
      least = alone xs t;
    }
      where
        same : y ≡ x
        same = let s : Some (lesser y None) ≡ Some x = ap (λ (o : Option Due). Some (lesser y o)) (sym t) ∙ e in cc

        alone : (l : List Due) → least l ≡ None → (z : Due) → Among z (y ∷ l) → Before z x → ⊥
        alone [] u z (inl a) = subst (λ (w : Due). Before w x → ⊥) (sym same ∙ a) (before-irreflexive x)
        alone [] u z (inr a) = absurd a
        alone (w ∷ l) u z a = cc
    go (Some z) t rest = split (is_before z y) refl
      where
        first : IsFirst z xs
        first = rest z t

        chosen : Some (cond (is_before z y) z y) ≡ Some x
        chosen = ap (λ (o : Option Due). Some (lesser y o)) (sym t) ∙ e

        split : (b : Bool) → is_before z y ≡ b → IsFirst x (y ∷ xs)
        split true u = subst (λ (w : Due). IsFirst w (y ∷ xs)) same (record { among = inr first.among; least = none })
          where
            same : z ≡ x
            same = let s : Some (cond true z y) ≡ Some x = ap (λ (b : Bool). Some (cond b z y)) (sym u) ∙ chosen in cc

            none : (w : Due) → Among w (y ∷ xs) → Before w z → ⊥
            none w (inl a) = subst (λ (v : Due). Before v z → ⊥) a (before-asymmetric z y (is_before-true z y u))
            none w (inr a) = first.least w a
        split false u = subst (λ (w : Due). IsFirst w (y ∷ xs)) same (record { among = inl refl; least = none })
          where
            same : y ≡ x
            same = let s : Some (cond false z y) ≡ Some x = ap (λ (b : Bool). Some (cond b z y)) (sym u) ∙ chosen in cc

            none : (w : Due) → Among w (y ∷ xs) → Before w y → ⊥
            none w (inl a) = subst (λ (v : Due). Before v y → ⊥) a (before-irreflexive y)
            none w (inr a) = not_before-transitive y z w (is_before-false z y u) (first.least w a)
