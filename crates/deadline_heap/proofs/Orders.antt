-- The canonical order is total on visits of different packets, a visit is put in its place, and a list in order is known by its members.
use Rattle.std.proofs.Common.{◌≡◌, ◌≢◌, ◌⊎◌, inl, inr, ⊎_elim, ◌<◌, Bool, true, false, cond, List, [], ◌∷◌, ◌++◌, refl, sym, ap, ◌∙◌, subst, arith, true≢false}
use Rattle.std.specs.Prelude.{◌↔◌, nat_lt, ◌==◌, ◌&&◌}
use Rattle.std.proofs.lemmas.Bool.{or_cases, or_left, or_right, and_parts, and_from, ltb-true, lt-ltb, eqb-true, eq-eqb, cases_order}
use Rattle.mn_base.specs.Among.{Among}
use Rattle.mn_base.specs.declared.due.Due.{Due}
use Rattle.mn_base.specs.Canonical.{Before, is_before}
use Rattle.deadline_heap.specs.Canonical.{HasNoneOf, IsCanonical, placed}

-- ---- the order

pub is_before-true : (x y : Due) → is_before x y ≡ true → Before x y
is_before-true x y passes = go (or_cases (nat_lt x.tick y.tick) ((x.tick == y.tick) && nat_lt x.packet y.packet) passes)
  where
    go : (nat_lt x.tick y.tick ≡ true) ⊎ (((x.tick == y.tick) && nat_lt x.packet y.packet) ≡ true) → Before x y
    go (inl lower) = inl (ltb-true x.tick y.tick lower)
    go (inr same) =
        let parts = and_parts (x.tick == y.tick) (nat_lt x.packet y.packet) same in
        inr (eqb-true x.tick y.tick parts.0, ltb-true x.packet y.packet parts.1)

pub is_before-from : (x y : Due) → Before x y → is_before x y ≡ true
is_before-from x y (inl lower) = or_left (nat_lt x.tick y.tick) _ (lt-ltb x.tick y.tick lower)
is_before-from x y (inr same) =
    or_right (nat_lt x.tick y.tick) _
    (and_from (x.tick == y.tick) (nat_lt x.packet y.packet) (eq-eqb x.tick y.tick same.0) (lt-ltb x.packet y.packet same.1))

pub is_before-false : (x y : Due) → is_before x y ≡ false → Before x y → ⊥
is_before-false x y fails earlier = true≢false (sym (is_before-from x y earlier) ∙ fails)

pub not_earlier : (x y : Due) → (Before x y → ⊥) → is_before x y ≡ false
not_earlier x y not_so = go (is_before x y) refl
  where
    go : (b : Bool) → is_before x y ≡ b → b ≡ false
    go true passes = absurd (not_so (is_before-true x y passes))
    go false fails = refl

pub earlier_trans : (x y z : Due) → Before x y → Before y z → Before x z
earlier_trans x y z (inl a) (inl b) = inl (omega arith)
earlier_trans x y z (inl a) (inr b) = inl (omega arith)
earlier_trans x y z (inr a) (inl b) = inl (omega arith)
earlier_trans x y z (inr a) (inr b) = inr (omega arith, omega arith)

pub earlier_once : (x y : Due) → Before x y → Before y x → ⊥
earlier_once x y (inl a) (inl b) = omega arith
earlier_once x y (inl a) (inr b) = omega arith
earlier_once x y (inr a) (inl b) = omega arith
earlier_once x y (inr a) (inr b) = omega arith

-- of two visits of different packets one is earlier
pub earlier_total : (x y : Due) → y.packet ≢ x.packet → (Before x y → ⊥) → Before y x
earlier_total x y differ not_so = go (cases_order x.tick y.tick) (cases_order x.packet y.packet)
  where
    go : (x.tick ≡ y.tick) ⊎ ((x.tick < y.tick) ⊎ (y.tick < x.tick))
        → (x.packet ≡ y.packet) ⊎ ((x.packet < y.packet) ⊎ (y.packet < x.packet)) → Before y x
    go (inl tie) (inl same) = absurd (differ (sym same))
    go (inl tie) (inr (inl lower)) = absurd (not_so (inr (tie, lower)))
    go (inl tie) (inr (inr above)) = inr (sym tie, above)
    go (inr (inl lower)) packets = absurd (not_so (inl lower))
    go (inr (inr above)) packets = inl above

-- ---- one more visit in its place

-- it comes first where it is earlier than all
pub placed-first : (due : Due) (xs : List Due) → ((x : Due) → Among x xs → Before due x) → placed due xs ≡ due ∷ xs
placed-first due [] leads = refl
placed-first due (x ∷ xs) leads = ap (λ (b : Bool). cond b (due ∷ x ∷ xs) (x ∷ placed due xs)) (is_before-from due x (leads x (inl refl)))

-- it is put after a front that it isn't earlier than
pub placed-past : (due : Due) (front rest : List Due) → ((x : Due) → Among x front → Before due x → ⊥)
    → placed due (front ++ rest) ≡ front ++ placed due rest
placed-past due [] rest behind = refl
placed-past due (x ∷ front) rest behind =
    ap (λ (b : Bool). cond b (due ∷ x ∷ front ++ rest) (x ∷ placed due (front ++ rest))) (not_earlier due x (behind x (inl refl)))
    ∙ ap (λ (l : List Due). x ∷ l) (placed-past due front rest (λ y there. behind y (inr there)))

pub Among-placed : (other due : Due) (xs : List Due) → Among other (placed due xs) ↔ ((due ≡ other) ⊎ Among other xs)
Among-placed other due [] = (λ a. a, λ a. a)
Among-placed other due (x ∷ xs) = go (is_before due x) (Among-placed other due xs)
  where
    go : (b : Bool) → Among other (placed due xs) ↔ ((due ≡ other) ⊎ Among other xs)
        → Among other (cond b (due ∷ x ∷ xs) (x ∷ placed due xs)) ↔ ((due ≡ other) ⊎ ((x ≡ other) ⊎ Among other xs))
    go true rest = (λ a. a, λ a. a)
    go false rest = (into, out)
      where
        into : (x ≡ other) ⊎ Among other (placed due xs) → (due ≡ other) ⊎ ((x ≡ other) ⊎ Among other xs)
        into (inl here) = inr (inl here)
        into (inr later) = ⊎_elim (λ new. inl new) (λ old. inr (inr old)) (rest.0 later)

        out : (due ≡ other) ⊎ ((x ≡ other) ⊎ Among other xs) → (x ≡ other) ⊎ Among other (placed due xs)
        out (inl new) = inr (rest.1 (inl new))
        out (inr (inl here)) = inl here
        out (inr (inr old)) = inr (rest.1 (inr old))

-- the order is kept
pub canonical-placed : (due : Due) (xs : List Due) → HasNoneOf due.packet xs → IsCanonical xs → IsCanonical (placed due xs)
canonical-placed due [] fresh order = (λ x there. absurd there, λ x there. absurd there, tt)
canonical-placed due (x ∷ xs) fresh order = go (is_before due x) refl (canonical-placed due xs (λ y there. fresh y (inr there)) order.2)
  where
    go : (b : Bool) → is_before due x ≡ b → IsCanonical (placed due xs) → IsCanonical (cond b (due ∷ x ∷ xs) (x ∷ placed due xs))
    go true passes rest = (leads, fresh, order)
      where
        leads : (y : Due) → (x ≡ y) ⊎ Among y xs → Before due y
        leads y (inl here) = subst (λ (z : Due). Before due z) here (is_before-true due x passes)
        leads y (inr later) = earlier_trans due x y (is_before-true due x passes) (order.0 y later)
    go false fails rest = (leads, alone, rest)
      where
        leads : (y : Due) → Among y (placed due xs) → Before x y
        leads y there =
            ⊎_elim
            (λ new. subst (λ (z : Due). Before x z) new (earlier_total due x (fresh x (inl refl)) (is_before-false due x fails)))
            (λ old. order.0 y old)
            ((Among-placed y due xs).0 there)

        alone : HasNoneOf x.packet (placed due xs)
        alone y there =
            ⊎_elim
            (λ new same. fresh x (inl refl) (sym same ∙ ap (λ (z : Due). z.packet) (sym new)))
            (λ old. order.1 y old)
            ((Among-placed y due xs).0 there)

-- ---- a list in order is known by its members

-- the first of one is the first of the other
same_first : (x y : Due) (xs ys : List Due) → IsCanonical (x ∷ xs) → IsCanonical (y ∷ ys) → Among x (y ∷ ys) → Among y (x ∷ xs) → x ≡ y
same_first x y xs ys p q (inl same) there = sym same
same_first x y xs ys p q (inr later) (inl same) = same
same_first x y xs ys p q (inr later) (inr other) = absurd (earlier_once x y (p.0 y other) (q.0 x later))

-- a member of the rest isn't the first
rest_member : (x y z : Due) (xs ys : List Due) → IsCanonical (x ∷ xs) → x ≡ y → Among z xs → Among z (y ∷ ys) → Among z ys
rest_member x y z xs ys p same there (inl first) =
    let is_x : z ≡ x = sym first ∙ sym same in
    let itself : Before x x = subst (λ (w : Due). Before x w) is_x (p.0 z there) in
    absurd (earlier_once x x itself itself)
rest_member x y z xs ys p same there (inr later) = later

pub same_members : (xs ys : List Due) → IsCanonical xs → IsCanonical ys → ((z : Due) → Among z xs ↔ Among z ys) → xs ≡ ys
same_members [] [] p q members = refl
same_members [] (y ∷ ys) p q members = absurd ((members y).1 (inl refl))
same_members (x ∷ xs) [] p q members = absurd ((members x).0 (inl refl))
same_members (x ∷ xs) (y ∷ ys) p q members =
    let first : x ≡ y = same_first x y xs ys p q ((members x).0 (inl refl)) ((members y).1 (inl refl)) in
    let rest : xs ≡ ys = same_members xs ys p.2 q.2 (λ z. (
      λ there. rest_member x y z xs ys p first there ((members z).0 (inr there)),
      λ there. rest_member y x z ys xs q (sym first) there ((members z).1 (inr there)),
    )) in
    ap (λ (w : Due). w ∷ xs) first ∙ ap (λ (l : List Due). y ∷ l) rest
