-- Links in a row, combined one by one.
use Rattle.std.proofs.Common.{◌≡◌, ◌<◌, ◌≤◌, Bool, true, false, nat_lt, if◌then◌else◌, List, [], ◌∷◌, ◌++◌, length, get_or, fold, refl, ap, ◌∙◌, inl, inr, ⊎_elim, arith}
use Rattle.std.proofs.lemmas.Bool.{ltb-true, ltb-false}
use Rattle.mn_base.specs.Among.{Among}
use Rattle.topo.specs.declared.parts.Link.{Link}
use Rattle.distill.specs.Combination.{narrower, narrowest}
use Rattle.distill.specs.Laws.{IsFirstOfLeast, NarrowestIsFirst}

-- the narrower of two links is one of them
pub narrower_is_one : (P : Link → Type 0) (l m : Link) → P l → P m → P (narrower l m)
narrower_is_one P l m first second = go (nat_lt m.bps l.bps)
  where
    go : (b : Bool) → P (if b then m else l)
    go true = second
    go false = first

narrower-self : (l : Link) → narrower l l ≡ l
narrower-self l = go (nat_lt l.bps l.bps)
  where
    go : (b : Bool) → (if b then l else l) ≡ l
    go true = refl
    go false = refl

-- to look at the first link once more changes nothing
pub narrowest-from_first : (links : List Link) (d : Link) → 0 < length links → fold narrower (get_or links 0 d) links ≡ narrowest links
narrowest-from_first [] d some = absurd (omega arith)
narrowest-from_first (l ∷ ls) d some = ap (λ k. fold narrower k ls) (narrower-self l)

-- ---- the first of least bandwidth
-- the narrowest is no wider than the first
no_wider : (l narrow : Link) (links : List Link) → IsFirstOfLeast (l ∷ links) narrow → narrow.bps ≤ l.bps
no_wider l narrow links f = go f.front f.is f.wider
  where
    go : (front : List Link) → l ∷ links ≡ front ++ narrow ∷ f.rest → ((x : Link) → Among x front → narrow.bps < x.bps) → narrow.bps ≤ l.bps
    go [] is wider = let same : l ≡ narrow = cc in let b : l.bps ≡ narrow.bps = ap (λ (x : Link). x.bps) same in omega arith
    go (x ∷ front) is wider = let same : x ≡ l = cc in let less = wider l (inl same) in omega arith

-- a link before them that has more
behind_wider : (l m narrow : Link) (links : List Link) → m.bps < l.bps → IsFirstOfLeast (m ∷ links) narrow → IsFirstOfLeast (l ∷ m ∷ links) narrow
behind_wider l m narrow links less f = record {
  front = l ∷ f.front;
  rest = f.rest;
  is = ap (λ ls. l ∷ ls) f.is;
  wider = λ x there. ⊎_elim
      (λ (same : l ≡ x). let few = no_wider m narrow links f in let b : l.bps ≡ x.bps = ap (λ (y : Link). y.bps) same in omega arith)
      (λ later. f.wider x later) there;
  as_wide = f.as_wide;
}

-- a link after the first that has no less
before_as_wide : (l m narrow : Link) (links : List Link) → l.bps ≤ m.bps → IsFirstOfLeast (l ∷ links) narrow → IsFirstOfLeast (l ∷ m ∷ links) narrow
before_as_wide l m narrow links no_less f = go f.front f.is f.wider
  where
    go : (front : List Link) → l ∷ links ≡ front ++ narrow ∷ f.rest → ((x : Link) → Among x front → narrow.bps < x.bps)
        → IsFirstOfLeast (l ∷ m ∷ links) narrow
    go [] is wider =
        let same : l ≡ narrow = cc in
        let tail : links ≡ f.rest = cc in
        let b : l.bps ≡ narrow.bps = ap (λ (y : Link). y.bps) same in
        record {
          front = [];
          rest = m ∷ f.rest;
          is = ap (λ ls. l ∷ m ∷ ls) tail ∙ ap (λ x. x ∷ m ∷ f.rest) same;
          wider = λ x there. absurd there;
          as_wide = λ x there. ⊎_elim (λ (here : m ≡ x). let c : m.bps ≡ x.bps = ap (λ (y : Link). y.bps) here in omega arith)
              (λ later. f.as_wide x later) there;
        }
    go (x ∷ front) is wider =
        let same : x ≡ l = cc in
        let tail : links ≡ front ++ narrow ∷ f.rest = cc in
        let less = wider l (inl same) in
        record {
          front = l ∷ m ∷ front;
          rest = f.rest;
          is = ap (λ ls. l ∷ m ∷ ls) tail;
          wider = λ y there. ⊎_elim (λ (here : l ≡ y). wider y (inl (same ∙ here)))
              (λ behind. ⊎_elim (λ (here : m ≡ y). let c : m.bps ≡ y.bps = ap (λ (z : Link). z.bps) here in omega arith)
              (λ later. wider y (inr later)) behind) there;
          as_wide = f.as_wide;
        }

first_of_fold : (l : Link) (links : List Link) → IsFirstOfLeast (l ∷ links) (fold narrower l links)
first_of_fold l [] = record { front = []; rest = []; is = refl; wider = λ x there. absurd there; as_wide = λ x there. absurd there }
first_of_fold l (m ∷ links) = go (nat_lt m.bps l.bps) refl (first_of_fold m links) (first_of_fold l links)
  where
    go : (b : Bool) → nat_lt m.bps l.bps ≡ b → IsFirstOfLeast (m ∷ links) (fold narrower m links) → IsFirstOfLeast (l ∷ links) (fold narrower l links)
        → IsFirstOfLeast (l ∷ m ∷ links) (fold narrower (if b then m else l) links)
    go true t from_m from_l = behind_wider l m (fold narrower m links) links (ltb-true m.bps l.bps t) from_m
    go false f from_m from_l = before_as_wide l m (fold narrower l links) links (ltb-false m.bps l.bps f) from_l

pub narrowest_is_first : NarrowestIsFirst
narrowest_is_first [] some = absurd (omega arith)
narrowest_is_first (l ∷ links) some = first_of_fold l links
