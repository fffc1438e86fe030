-- Walk-out whose core is empty: its outer nodes and its border are those of walk-in.
use Rattle.std.proofs.Common.{◌≡◌, ℕ, zero, suc, ◌+◌, ◌-◌, ◌≤◌, ◌==◌, ◌&&◌, ◌||◌, Bool, true, false, cond, not, List, [], ◌∷◌, length, get_or, take, filter, refl, sym, ◌∙◌, ap, subst, arith, inl, inr}
use Rattle.std.specs.List.{range_with_len}
use Rattle.std.proofs.lemmas.Bool.{eq-eqb, eqb-true}
use Rattle.std.proofs.Math.Seq.{get_or-append_seam}
use Rattle.std.proofs.lemmas.List.{take-append-le, take-take, take_all, get_or-take}
use Rattle.mn_base.specs.Among.{Among}
use Rattle.mn_base.proofs.Members.{Among-filter, Among-from-filter, list_any-true, Among-from-list_any}
use Rattle.topo.specs.declared.parts.Link.{Link}
use Rattle.topo.specs.TopologyView.{TopologyView}
use Rattle.frontier.specs.NodeSets.{is_in, is_in_one, is_beside}
use Rattle.frontier.specs.Frontiers.{frontier_after, frontiers_of}
use Rattle.frontier.proofs.Numbers.{or_false, filter-same}
use Rattle.frontier.proofs.Layers.{length-frontiers_of}
use Rattle.walk_out.specs.Parts.{parts_around}
use Rattle.walk_out.specs.WalkOut.{walk_parts, core_of, is_outer, walk_out_border}
use Rattle.walk_out.proofs.Outer.{parts_around-same}

-- tests that agree on the members of a list
filter-agree : {X : Type 0} (p q : X → Bool) (xs : List X) → ((x : X) → Among x xs → p x ≡ q x) → filter p xs ≡ filter q xs
filter-agree p q [] same = refl
filter-agree p q (x ∷ xs) same =
    ap (λ b. cond b (x ∷ filter p xs) (filter p xs)) (same x (inl refl))
    ∙ ap (λ l. cond (q x) (x ∷ l) l) (filter-agree p q xs (λ y a. same y (inr a)))

either-way : (b c : Bool) → (b ≡ true → c ≡ true) → (c ≡ true → b ≡ true) → b ≡ c
either-way true c to from = sym (to refl)
either-way false true to from = from refl
either-way false false to from = refl

-- the members of a list that passes a test are those that pass it and stand in the list
filter-is_in : (p : ℕ → Bool) (ns : List ℕ) → filter (λ v. is_in v (filter p ns)) ns ≡ filter p ns
filter-is_in p ns = filter-agree (λ v. is_in v (filter p ns)) p ns (λ v a. either-way (is_in v (filter p ns)) (p v) (passes v) (stands v a))
  where
    passes : (v : ℕ) → is_in v (filter p ns) ≡ true → p v ≡ true
    passes v found =
        let m = Among-from-list_any (λ u. u == v) (filter p ns) found in
        ap p (sym (eqb-true m.0 v m.2)) ∙ (Among-from-filter p m.0 ns m.1).1

    stands : (v : ℕ) → Among v ns → p v ≡ true → is_in v (filter p ns) ≡ true
    stands v a passed = list_any-true (λ u. u == v) v (filter p ns) (Among-filter p v ns a passed) (eq-eqb v v refl)

-- no link joins a node to none
none_beside : (links : List Link) (v : ℕ) → is_beside links (λ u. is_in_one u []) v ≡ false
none_beside [] v = refl
none_beside (l ∷ links) v = neither (l.from == v) (l.to == v) (none_beside links v)
  where
    neither : (a b : Bool) {rest : Bool} → rest ≡ false → (((a && false) || (b && false)) || rest) ≡ false
    neither true true e = e
    neither true false e = e
    neither false true e = e
    neither false false e = e

-- the first frontiers are the same, however many are made
frontiers-front : (t : TopologyView) (w more : ℕ) → take (w + 1) (frontiers_of t (more + w)) ≡ frontiers_of t w
unfolding frontiers_of
frontiers-front t w zero =
    let count : length (frontiers_of t w) ≡ w + 1 = length-frontiers_of t w in
    let same : 0 + w ≡ w = omega arith in
    ap (λ k. take (w + 1) (frontiers_of t k)) same ∙ take_all (w + 1) (frontiers_of t w) (omega (arith, count))
frontiers-front t w (suc more) =
    let count : length (frontiers_of t (more + w)) ≡ more + w + 1 = length-frontiers_of t (more + w) in
    let same : suc more + w ≡ suc (more + w) = omega arith in
    ap (λ k. take (w + 1) (frontiers_of t k)) same
    ∙ take-append-le (w + 1) (frontiers_of t (more + w)) _ (omega (arith, count)) ∙ frontiers-front t w more

front : (t : TopologyView) (w n : ℕ) → w ≤ n → take (w + 1) (frontiers_of t n) ≡ frontiers_of t w
front t w n within =
    let more : (n - w) + w ≡ n = omega (arith, within) in
    ap (λ k. take (w + 1) (frontiers_of t k)) (sym more) ∙ frontiers-front t w (n - w)

front-outer : (t : TopologyView) (w n : ℕ) → w ≤ n → take w (frontiers_of t n) ≡ take w (frontiers_of t w)
front-outer t w n within = sym (take-take w (w + 1) (frontiers_of t n) (omega arith)) ∙ ap (take w) (front t w n within)

front-border : (t : TopologyView) (w n : ℕ) → w ≤ n → get_or (frontiers_of t n) w [] ≡ get_or (frontiers_of t w) w []
front-border t w n within =
    sym (get_or-take (w + 1) (frontiers_of t n) w [] (omega arith)) ∙ ap (λ fs. get_or fs w []) (front t w n within)

-- a frontier has the nodes that pass a test, in number order
is-filtered : (t : TopologyView) (w : ℕ) → (p : ℕ → Bool) × (get_or (frontiers_of t w) w [] ≡ filter p (range_with_len 0 (length t.nodes)))
unfolding frontiers_of
is-filtered t zero = (_, refl)
is-filtered t (suc k) =
    let count : length (frontiers_of t k) ≡ k + 1 = length-frontiers_of t k in
    let at : k + 1 ≡ suc k = omega arith in (
      _,
      ap (λ i. get_or (frontiers_of t (suc k)) i []) (sym (count ∙ at))
          ∙ get_or-append_seam (frontiers_of t k) (frontier_after t (frontiers_of t k) (get_or (frontiers_of t k) k [])) [] [],
    )

-- the nodes that stand in a frontier are that frontier
filter-frontier : (t : TopologyView) (w : ℕ)
    → filter (λ v. is_in v (get_or (frontiers_of t w) w [])) (range_with_len 0 (length t.nodes)) ≡ get_or (frontiers_of t w) w []
filter-frontier t w =
    let f = is-filtered t w in
    subst (λ ns. filter (λ v. is_in v ns) (range_with_len 0 (length t.nodes)) ≡ ns) (sym f.1)
    (filter-is_in f.0 (range_with_len 0 (length t.nodes)))

-- with an empty core nothing joins the border of walk-in
border-is : (t : TopologyView) (fs : List (List ℕ)) (w o : ℕ) → core_of fs w o ≡ []
    → walk_out_border t fs w o ≡ filter (λ v. is_in v (get_or fs w [])) (range_with_len 0 (length t.nodes))
border-is t fs w o empty =
    ap (λ core. filter (λ v. is_in v (get_or fs w [])
    || (not (is_in_one v (take w fs) || is_in_one v core) && is_beside t.links (λ u. is_in_one u core) v)) (range_with_len 0 (length t.nodes))) empty
    ∙ filter-same _ _ (range_with_len 0 (length t.nodes))
    (λ v. stays (is_in v (get_or fs w [])) (not (is_in_one v (take w fs) || false)) (none_beside t.links v))
  where
    stays : (a b : Bool) {c : Bool} → c ≡ false → (a || (b && c)) ≡ a
    stays true b e = refl
    stays false true e = e
    stays false false e = refl

outer-is : (fs : List (List ℕ)) (w o v : ℕ) → core_of fs w o ≡ [] → is_outer fs w o v ≡ is_in_one v (take w fs)
outer-is fs w o v empty = ap (λ core. is_in_one v (take w fs) || is_in_one v core) empty ∙ or_false (is_in_one v (take w fs))

pub without_core : (t : TopologyView) (w n o : ℕ) → w ≤ n → core_of (frontiers_of t n) w o ≡ []
    → parts_around t.links (is_outer (frontiers_of t n) w o) (walk_out_border t (frontiers_of t n) w o) ≡ walk_parts t w
without_core t w n o within empty =
    parts_around-same t.links (is_outer (frontiers_of t n) w o) (λ v. is_in_one v (take w (frontiers_of t w)))
    (walk_out_border t (frontiers_of t n) w o) (get_or (frontiers_of t w) w [])
    (λ v. outer-is (frontiers_of t n) w o v empty ∙ ap (is_in_one v) (front-outer t w n within))
    (border-is t (frontiers_of t n) w o empty
    ∙ ap (λ ns. filter (λ v. is_in v ns) (range_with_len 0 (length t.nodes))) (front-border t w n within) ∙ filter-frontier t w)
