-- What a link joins to one of the first frontiers lies in them or in the next.
use Rattle.std.proofs.Common.{◌≡◌, ℕ, zero, suc, ◌+◌, ◌<◌, ◌≤◌, ◌==◌, ◌⊎◌, inl, inr, Bool, true, false, not, ◌&&◌, ◌||◌, List, [], ◌∷◌, ◌++◌, length, get_or, take, refl, sym, ap, subst, ◌∙◌, arith, add-one}
use Rattle.std.specs.List.{range_with_len}
use Rattle.std.proofs.Math.ListN.{get_or-append}
use Rattle.std.proofs.lemmas.Bool.{cases_Bool, cases_lt, eq-eqb, eqb-true}
use Rattle.std.proofs.lemmas.List.{take-append-le, get_or-take, length-take, take_all}
use Rattle.std.proofs.lemmas.List.Folds.{list_any-append}
use Rattle.mn_base.specs.Among.{Among}
use Rattle.mn_base.proofs.Members.{Among-filter, Among-from-list_any, list_any-true, Among-index, IndexOf, index_of}
use Rattle.topo.specs.declared.parts.Link.{Link}
use Rattle.topo.specs.TopologyView.{TopologyView}
use Rattle.topo.specs.Nodes.{edge_nodes_of}
use Rattle.frontier.specs.NodeSets.{is_in, is_in_one, is_beside, joins_to}
use Rattle.frontier.specs.Frontiers.{frontier_after, frontiers_of}
use Rattle.frontier.proofs.Layers.{length-frontiers_of, frontiers_of-more}
use Rattle.frontier.proofs.Numbers.{list_any-take_more}
use Rattle.distill.proofs.LatencyWalks.{Among-range}

-- ---- sets of nodes
-- the test agrees with membership
pub is_in-Among : (v : ℕ) (nodes : List ℕ) → is_in v nodes ≡ true → Among v nodes
is_in-Among v nodes is =
    let found = Among-from-list_any (λ u. u == v) nodes is in
    subst (λ u. Among u nodes) (eqb-true found.0 v found.2) found.1

pub Among-is_in : (v : ℕ) (nodes : List ℕ) → Among v nodes → is_in v nodes ≡ true
Among-is_in v nodes there = list_any-true (λ u. u == v) v nodes there (eq-eqb v v refl)

-- the link joins u and v, in one direction or the other
abbrev pub Joins : Link → ℕ → ℕ → Type 0
Joins l u v = ((l.from ≡ u) × (l.to ≡ v)) ⊎ ((l.from ≡ v) × (l.to ≡ u))

-- one of the two ways of `joins_to`
both_true : (a b c d : Bool) → ((a ≡ true) × (b ≡ true)) ⊎ ((c ≡ true) × (d ≡ true)) → ((a && b) || (c && d)) ≡ true
both_true true true c d h = refl
both_true true false true true h = refl
both_true true false true false h = elim h [ inl first ↦ first.1 | inr second ↦ second.1 ]
both_true true false false d h = elim h [ inl first ↦ first.1 | inr second ↦ second.0 ]
both_true false b true true h = refl
both_true false b true false h = elim h [ inl first ↦ first.0 | inr second ↦ second.1 ]
both_true false b false d h = elim h [ inl first ↦ first.0 | inr second ↦ second.0 ]

-- so v is beside each set that has u
pub beside : (links : List Link) (l : Link) (set : ℕ → Bool) (u v : ℕ) → Among l links → Joins l u v → set u ≡ true
    → is_beside links set v ≡ true
beside links l set u v there joins has =
    list_any-true
    (joins_to set v)
    l
    links
    there
    (both_true
    (l.from == v)
    (set l.to)
    (l.to == v)
    (set l.from)
    (elim joins [
      | inl onward ↦ inr (eq-eqb l.to v onward.1, ap set onward.0 ∙ has)
      | inr back ↦ inl (eq-eqb l.from v back.0, ap set back.1 ∙ has)
    ]))

-- ---- frontiers
-- the first has the edge nodes
pub first_frontier : (t : TopologyView) (k : ℕ) → get_or (frontiers_of t k) 0 [] ≡ edge_nodes_of t.nodes
unfolding frontiers_of
first_frontier t zero = refl
first_frontier t (suc k) =
    let len = length-frontiers_of t k in
    get_or-append (frontiers_of t k) _ [] 0 (omega arith) ∙ first_frontier t k

-- a node that some of the first lists has stands in some of more of them
in_more : (v i j : ℕ) (fs : List (List ℕ)) → i ≤ j → is_in_one v (take i fs) ≡ true → is_in_one v (take j fs) ≡ true
in_more v i j fs low is =
    let found = Among-from-list_any (is_in v) (take i fs) is in
    let at = index_of found.0 (take i fs) found.1 in
    let within = at.within in
    let size = length-take i fs in
    let size' = length-take j fs in
    let reads : get_or (take j fs) at.index found.0 ≡ found.0 =
    get_or-take j fs at.index found.0 (omega arith) ∙ sym (get_or-take i fs at.index found.0 (omega arith)) ∙ at.here found.0 in
    list_any-true
    (is_in v)
    found.0
    (take j fs)
    (subst (λ f. Among f (take j fs)) reads (Among-index (take j fs) at.index found.0 (omega arith)))
    found.2

-- a node beside one of the frontiers stands in those up to the next
module _ (t : TopologyView) (v : ℕ) (low : v < length t.nodes) where
  -- beside the last one: it is in one of them, or it comes next
  beside_last : (k : ℕ) → is_beside t.links (λ u. is_in u (get_or (frontiers_of t k) k [])) v ≡ true
      → is_in_one v (frontiers_of t (k + 1)) ≡ true
  beside_last k is =
      subst
      (λ fs. is_in_one v fs ≡ true)
      (sym (frontiers_of-more t k))
      (list_any-append (is_in v) (frontiers_of t k) (next ∷ [])
      ∙ elim (cases_Bool (is_in_one v (frontiers_of t k))) as (λ _. (is_in_one v (frontiers_of t k) || (is_in v next || false)) ≡ true) [
        | inl before ↦ ap (λ (b : Bool). b || (is_in v next || false)) before
        | inr away ↦ ap (λ (b : Bool). b || (is_in v next || false)) away ∙ ap (λ (b : Bool). b || false) (Among-is_in v next (new away))
      ])
    where
      next : List ℕ
      next = frontier_after t (frontiers_of t k) (get_or (frontiers_of t k) k [])

      new : is_in_one v (frontiers_of t k) ≡ false → Among v (frontier_after t (frontiers_of t k) (get_or (frontiers_of t k) k []))
      new away =
          Among-filter
          (λ w. not (is_in_one w (frontiers_of t k)) && is_beside t.links (λ u. is_in u (get_or (frontiers_of t k) k [])) w)
          v
          (range_with_len 0 (length t.nodes))
          (Among-range 0 (length t.nodes) v (omega arith) (omega arith))
          (ap (λ (b : Bool). not b && is_beside t.links (λ u. is_in u (get_or (frontiers_of t k) k [])) v) away ∙ is)

  -- beside one of them: the later ones have all that the earlier ones have
  pub beside_one : (k i : ℕ) → i < k → is_beside t.links (λ u. is_in u (get_or (frontiers_of t k) i [])) v ≡ true
      → is_in_one v (take (i + 2) (frontiers_of t k)) ≡ true
  beside_one zero i high is = absurd (omega arith)
  beside_one (suc k) i high is =
      let len = length-frontiers_of t k in
      let size : length (frontiers_of t (suc k)) ≡ suc k + 1 = length-frontiers_of t (suc k) in
      let more : frontiers_of t (suc k) ≡ frontiers_of t k ++ frontier_after t (frontiers_of t k) (get_or (frontiers_of t k) k []) ∷ [] =
      subst
      (λ n. frontiers_of t n ≡ frontiers_of t k ++ frontier_after t (frontiers_of t k) (get_or (frontiers_of t k) k []) ∷ [])
      (add-one k)
      (frontiers_of-more t k) in
      let same : get_or (frontiers_of t (suc k)) i [] ≡ get_or (frontiers_of t k) i [] =
      ap (λ fs. get_or fs i []) more ∙ get_or-append (frontiers_of t k) _ [] i (omega arith) in
      let is' : is_beside t.links (λ u. is_in u (get_or (frontiers_of t k) i [])) v ≡ true =
      subst (λ f. is_beside t.links (λ u. is_in u f) v ≡ true) same is in
      elim (cases_lt i k) [
        | inl earlier ↦
            subst
            (λ fs. is_in_one v fs ≡ true)
            (sym (ap (take (i + 2)) more ∙ take-append-le (i + 2) (frontiers_of t k) _ (omega arith)))
            (beside_one k i earlier is')
        | inr late ↦
            let last : i ≡ k = omega arith in
            subst
            (λ fs. is_in_one v fs ≡ true)
            (sym (whole (i + 2) (frontiers_of t (suc k)) (omega arith)))
            (subst
            (λ n. is_in_one v (frontiers_of t n) ≡ true)
            (add-one k)
            (beside_last k (subst (λ n. is_beside t.links (λ u. is_in u (get_or (frontiers_of t k) n [])) v ≡ true) last is')))
      ]
    where
      whole : (n : ℕ) (fs : List (List ℕ)) → length fs ≤ n → take n fs ≡ fs
      whole n fs all = take_all n fs all

  -- a link joins v to a node of the first w frontiers, and v isn't in them: then it is in the next
  pub joined_to_first : (k w u : ℕ) (l : Link) → w ≤ k → Among l t.links → Joins l u v → is_in_one u (take w (frontiers_of t k)) ≡ true
      → is_in_one v (take w (frontiers_of t k)) ≡ false → Among v (get_or (frontiers_of t k) w [])
  joined_to_first k w u l most there joins has away =
      let found = Among-from-list_any (is_in u) (take w (frontiers_of t k)) has in
      let at : IndexOf found.0 (take w (frontiers_of t k)) = index_of found.0 (take w (frontiers_of t k)) found.1 in
      let i : ℕ = at.index in
      let within = at.within in
      let size = length-take w (frontiers_of t k) in
      let len = length-frontiers_of t k in
      let reads : get_or (frontiers_of t k) at.index [] ≡ found.0 =
      sym (get_or-take w (frontiers_of t k) at.index [] (omega arith)) ∙ at.here [] in
      let is : is_in_one v (take (at.index + 2) (frontiers_of t k)) ≡ true =
      beside_one
      k
      at.index
      (omega arith)
      (beside t.links l (λ x. is_in x (get_or (frontiers_of t k) at.index [])) u v there joins (ap (is_in u) reads ∙ found.2)) in
      let all : is_in_one v (take (w + 1) (frontiers_of t k)) ≡ true =
      in_more v (at.index + 2) (w + 1) (frontiers_of t k) (omega arith) is in
      is_in-Among
      v
      (get_or (frontiers_of t k) w [])
      (ap (λ (b : Bool). b || is_in v (get_or (frontiers_of t k) w [])) (sym away)
      ∙ sym (list_any-take_more (is_in v) (frontiers_of t k) w [] (omega arith))
      ∙ all)
