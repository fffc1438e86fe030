-- The visits of the wheel and of the ordered map as one list: its members, its order, and what an insertion and a removal in one part do to it.
use Rattle.std.proofs.Common.{◌≡◌, ◌⊎◌, inl, inr, ⊎_elim, ℕ, List, [], ◌∷◌, refl, sym, ap, ◌∙◌, subst}
use Rattle.std.specs.Prelude.{◌↔◌}
use Rattle.mn_base.specs.Among.{Among}
use Rattle.mn_base.specs.declared.due.Due.{Due}
use Rattle.mn_base.specs.Canonical.{Before}
use Rattle.deadline_heap.specs.Canonical.{HasNoneOf, IsCanonical, placed}
use Rattle.deadline_heap.specs.HeapParts.{merged, AreApart}
use Rattle.deadline_heap.proofs.Orders.{placed-first, placed-past, Among-placed, canonical-placed, same_members, earlier_once}

pub Among-merged : (other : Due) (near far : List Due) → Among other (merged near far) ↔ (Among other near ⊎ Among other far)
Among-merged other near [] = (λ a. inl a, λ a. ⊎_elim (λ there. there) (λ none. absurd none) a)
Among-merged other near (x ∷ far) = go (Among-merged other near far)
  where
    go : Among other (merged near far) ↔ (Among other near ⊎ Among other far)
        → Among other (merged near (x ∷ far)) ↔ (Among other near ⊎ ((x ≡ other) ⊎ Among other far))
    go rest = (into, out)
      where
        into : Among other (merged near (x ∷ far)) → Among other near ⊎ ((x ≡ other) ⊎ Among other far)
        into there =
            ⊎_elim
            (λ first. inr (inl first))
            (λ later. ⊎_elim (λ in_near. inl in_near) (λ in_far. inr (inr in_far)) (rest.0 later))
            ((Among-placed other x (merged near far)).0 there)

        out : Among other near ⊎ ((x ≡ other) ⊎ Among other far) → Among other (merged near (x ∷ far))
        out (inl in_near) = (Among-placed other x (merged near far)).1 (inr (rest.1 (inl in_near)))
        out (inr (inl first)) = (Among-placed other x (merged near far)).1 (inl first)
        out (inr (inr in_far)) = (Among-placed other x (merged near far)).1 (inr (rest.1 (inr in_far)))

-- what keeps the parts apart keeps them so without the first of either
pub apart_rest-far : (x : Due) (near far : List Due) → AreApart near (x ∷ far) → AreApart near far
apart_rest-far x near far parts = record {
  near_canonical = parts.near_canonical;
  far_canonical = parts.far_canonical.2;
  apart = λ a b in_near in_far. parts.apart a b in_near (inr in_far);
}

pub apart_rest-near : (x : Due) (near far : List Due) → AreApart (x ∷ near) far → AreApart near far
apart_rest-near x near far parts = record {
  near_canonical = parts.near_canonical.2;
  far_canonical = parts.far_canonical;
  apart = λ a b in_near in_far. parts.apart a b (inr in_near) in_far;
}

-- one list in canonical order comes of parts that are kept apart
pub canonical-merged : (near far : List Due) → AreApart near far → IsCanonical (merged near far)
canonical-merged near [] parts = parts.near_canonical
canonical-merged near (x ∷ far) parts =
    canonical-placed x (merged near far) fresh (canonical-merged near far (apart_rest-far x near far parts))
  where
    fresh : HasNoneOf x.packet (merged near far)
    fresh other there =
        ⊎_elim (λ in_near. parts.apart other x in_near (inl refl)) (λ in_far. parts.far_canonical.1 other in_far)
        ((Among-merged other near far).0 there)

-- ---- insertion

-- a packet that neither part has keeps them apart, whichever part gets its visit
pub apart-placed-near : (due : Due) (near far : List Due) → HasNoneOf due.packet near → HasNoneOf due.packet far → AreApart near far
    → AreApart (placed due near) far
apart-placed-near due near far fresh_near fresh_far parts = record {
  near_canonical = canonical-placed due near fresh_near parts.near_canonical;
  far_canonical = parts.far_canonical;
  apart = λ a b in_near in_far.
      ⊎_elim
      (λ new same. fresh_far b in_far (sym same ∙ ap (λ (z : Due). z.packet) (sym new)))
      (λ old. parts.apart a b old in_far)
      ((Among-placed a due near).0 in_near);
}

pub apart-placed-far : (due : Due) (near far : List Due) → HasNoneOf due.packet near → HasNoneOf due.packet far → AreApart near far
    → AreApart near (placed due far)
apart-placed-far due near far fresh_near fresh_far parts = record {
  near_canonical = parts.near_canonical;
  far_canonical = canonical-placed due far fresh_far parts.far_canonical;
  apart = λ a b in_near in_far.
      ⊎_elim
      (λ new same. fresh_near a in_near (same ∙ ap (λ (z : Due). z.packet) (sym new)))
      (λ old. parts.apart a b in_near old)
      ((Among-placed b due far).0 in_far);
}

pub fresh_near : (packet : ℕ) (near far : List Due) → HasNoneOf packet (merged near far) → HasNoneOf packet near
fresh_near packet near far fresh other there = fresh other ((Among-merged other near far).1 (inl there))

pub fresh_far : (packet : ℕ) (near far : List Due) → HasNoneOf packet (merged near far) → HasNoneOf packet far
fresh_far packet near far fresh other there = fresh other ((Among-merged other near far).1 (inr there))

-- a visit put into the wheel is put in its place in the one list
pub merged-placed-near : (due : Due) (near far : List Due) → HasNoneOf due.packet (merged near far) → AreApart near far
    → merged (placed due near) far ≡ placed due (merged near far)
merged-placed-near due near far fresh parts =
    same_members (merged (placed due near) far) (placed due (merged near far))
    (canonical-merged (placed due near) far
    (apart-placed-near due near far (fresh_near due.packet near far fresh) (fresh_far due.packet near far fresh) parts))
    (canonical-placed due (merged near far) fresh (canonical-merged near far parts))
    (λ z. (into z, out z))
  where
    into : (z : Due) → Among z (merged (placed due near) far) → Among z (placed due (merged near far))
    into z there =
        ⊎_elim
        (λ in_near. ⊎_elim
        (λ new. (Among-placed z due (merged near far)).1 (inl new))
        (λ old. (Among-placed z due (merged near far)).1 (inr ((Among-merged z near far).1 (inl old))))
        ((Among-placed z due near).0 in_near))
        (λ in_far. (Among-placed z due (merged near far)).1 (inr ((Among-merged z near far).1 (inr in_far))))
        ((Among-merged z (placed due near) far).0 there)

    out : (z : Due) → Among z (placed due (merged near far)) → Among z (merged (placed due near) far)
    out z there =
        ⊎_elim
        (λ new. (Among-merged z (placed due near) far).1 (inl ((Among-placed z due near).1 (inl new))))
        (λ old. ⊎_elim
        (λ in_near. (Among-merged z (placed due near) far).1 (inl ((Among-placed z due near).1 (inr in_near))))
        (λ in_far. (Among-merged z (placed due near) far).1 (inr in_far))
        ((Among-merged z near far).0 old))
        ((Among-placed z due (merged near far)).0 there)

-- and so is one put into the map
pub merged-placed-far : (due : Due) (near far : List Due) → HasNoneOf due.packet (merged near far) → AreApart near far
    → merged near (placed due far) ≡ placed due (merged near far)
merged-placed-far due near far fresh parts =
    same_members (merged near (placed due far)) (placed due (merged near far))
    (canonical-merged near (placed due far)
    (apart-placed-far due near far (fresh_near due.packet near far fresh) (fresh_far due.packet near far fresh) parts))
    (canonical-placed due (merged near far) fresh (canonical-merged near far parts))
    (λ z. (into z, out z))
  where
    into : (z : Due) → Among z (merged near (placed due far)) → Among z (placed due (merged near far))
    into z there =
        ⊎_elim
        (λ in_near. (Among-placed z due (merged near far)).1 (inr ((Among-merged z near far).1 (inl in_near))))
        (λ in_far. ⊎_elim
        (λ new. (Among-placed z due (merged near far)).1 (inl new))
        (λ old. (Among-placed z due (merged near far)).1 (inr ((Among-merged z near far).1 (inr old))))
        ((Among-placed z due far).0 in_far))
        ((Among-merged z near (placed due far)).0 there)

    out : (z : Due) → Among z (placed due (merged near far)) → Among z (merged near (placed due far))
    out z there =
        ⊎_elim
        (λ new. (Among-merged z near (placed due far)).1 (inr ((Among-placed z due far).1 (inl new))))
        (λ old. ⊎_elim
        (λ in_near. (Among-merged z near (placed due far)).1 (inl in_near))
        (λ in_far. (Among-merged z near (placed due far)).1 (inr ((Among-placed z due far).1 (inr in_far))))
        ((Among-merged z near far).0 old))
        ((Among-placed z due (merged near far)).0 there)

-- ---- removal

-- the wheel's first comes first where it is earlier than all of the map
pub merged-near-first : (due : Due) (near far : List Due) → ((x : Due) → Among x far → Before due x)
    → merged (due ∷ near) far ≡ due ∷ merged near far
merged-near-first due near [] leads = refl
merged-near-first due near (x ∷ far) leads =
    ap (placed x) (merged-near-first due near far (λ y there. leads y (inr there)))
    ∙ placed-past x (due ∷ []) (merged near far) behind
  where
    behind : (y : Due) → Among y (due ∷ []) → Before x y → ⊥
    behind y (inl is_due) earlier = earlier_once x y earlier (subst (λ (z : Due). Before z x) is_due (leads x (inl refl)))
    behind y (inr none) earlier = none

-- the map's first comes first where it is earlier than all of the wheel
pub merged-far-first : (due : Due) (near far : List Due) → IsCanonical (due ∷ far) → ((x : Due) → Among x near → Before due x)
    → merged near (due ∷ far) ≡ due ∷ merged near far
merged-far-first due near far order leads =
    placed-first due (merged near far)
    (λ x there. ⊎_elim (λ in_near. leads x in_near) (λ in_far. order.0 x in_far) ((Among-merged x near far).0 there))
