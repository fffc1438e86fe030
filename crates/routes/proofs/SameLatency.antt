-- Why pipes that distill a graph keep least latencies. Along a walk of links one comes to each outer node, and to each node of the
-- border where one leaves the inner arcs, by pipes that are no longer; and each walk of pipes stands for a walk of links.
use Rattle.std.proofs.Common.{◌≡◌, ◌≢◌, ℕ, ◌+◌, ◌<◌, ◌≤◌, ◌⊎◌, inl, inr, Bool, true, false, List, [], ◌∷◌, ◌++◌, length, refl, sym, subst, ◌∙◌, arith}
use Rattle.std.proofs.lemmas.Bool.{cases_eq, cases_Bool, true≢false}
use Rattle.mn_base.specs.Among.{Among}
use Rattle.routes.specs.declared.graph.Arc.{Arc}
use Rattle.routes.specs.Walk.{arc_at, IsWalk, weight_of}
use Rattle.routes.specs.SameLatency.{IsLeastLatency, HaveSameLatency, IsInner, IsInnerWalk, HasArc, HasWalk, IsDistilledBy, IsTerminal}

-- ---- walks one after the other
-- a walk from a to b and one from b to c are one from a to c
pub IsWalk-append : (arcs : List Arc) (a b c : ℕ) (es fs : List ℕ) → IsWalk arcs a b es → IsWalk arcs b c fs → IsWalk arcs a c (es ++ fs)
IsWalk-append arcs a b c [] fs first then' = subst (λ x. IsWalk arcs x c fs) (sym first) then'
IsWalk-append arcs a b c (e ∷ es) fs first then' =
    (first.0, first.1, IsWalk-append arcs (arc_at arcs e).to b c es fs first.2 then')

-- they weigh as much as both together
pub weight_of-append : (arcs : List Arc) (es fs : List ℕ) → weight_of arcs (es ++ fs) ≡ weight_of arcs es + weight_of arcs fs
weight_of-append arcs [] fs = omega arith
weight_of-append arcs (e ∷ es) fs = let rest = weight_of-append arcs es fs in omega arith

-- a walk from a to b that weighs at most n
pub record HasWalkUpTo (arcs : List Arc) (a b n : ℕ) : Type 0 where
  pub walk : List ℕ
  pub joins : IsWalk arcs a b walk
  pub weight : weight_of arcs walk ≤ n

-- one arc is a walk
by_arc : (arcs : List Arc) (a b n : ℕ) → HasArc arcs a b n → HasWalkUpTo arcs a b n
by_arc arcs a b n arc =
    record { walk = arc.number ∷ []; joins = (arc.below, arc.from, arc.to); weight = (let w = arc.weight in omega arith) }

-- none is a walk from a node to itself
at_once : (arcs : List Arc) (a b n : ℕ) → a ≡ b → HasWalkUpTo arcs a b n
at_once arcs a b n same = record { walk = []; joins = same; weight = omega arith }

-- two walks, one after the other
one_by_one : (arcs : List Arc) (a b c m n : ℕ) → HasWalkUpTo arcs a b m → HasWalkUpTo arcs b c n → HasWalkUpTo arcs a c (m + n)
one_by_one arcs a b c m n first second =
    record {
      walk = first.walk ++ second.walk;
      joins = IsWalk-append arcs a b c first.walk second.walk first.joins second.joins;
      weight =
          let both = weight_of-append arcs first.walk second.walk in
          let one = first.weight in
          let two = second.weight in
          omega arith;
    }

-- ---- inner walks
-- one inner arc more
inner_more : (arcs : List Arc) (outer : ℕ → Bool) (c : ℕ) (ps : List ℕ) (e : ℕ) → IsInnerWalk arcs outer c (arc_at arcs e).from ps
    → e < length arcs → IsInner outer (arc_at arcs e) → IsInnerWalk arcs outer c (arc_at arcs e).to (ps ++ e ∷ [])
inner_more arcs outer c [] e walk low inner = (low, sym walk, inner, refl)
inner_more arcs outer c (p ∷ ps) e walk low inner =
    (walk.0, walk.1, walk.2, inner_more arcs outer (arc_at arcs p).to ps e walk.3 low inner)

-- a walk of inner arcs that leads to another node begins and ends at nodes that aren't outer
inner_start : (arcs : List Arc) (outer : ℕ → Bool) (c x : ℕ) (ps : List ℕ) → IsInnerWalk arcs outer c x ps → c ≢ x → outer c ≡ false
inner_start arcs outer c x [] walk differ = absurd (differ walk)
inner_start arcs outer c x (p ∷ ps) walk differ = subst (λ v. outer v ≡ false) walk.1 walk.2.from

-- so does its end
inner_end : (arcs : List Arc) (outer : ℕ → Bool) (c x : ℕ) (ps : List ℕ) → IsInnerWalk arcs outer c x ps → c ≢ x → outer x ≡ false
inner_end arcs outer c x [] walk differ = absurd (differ walk)
inner_end arcs outer c x (p ∷ ps) walk differ =
    elim (cases_eq (arc_at arcs p).to x) [
      | inl here ↦ subst (λ v. outer v ≡ false) here walk.2.to
      | inr away ↦ inner_end arcs outer (arc_at arcs p).to x ps walk.3 away
    ]

module _ (outer : ℕ → Bool) (border : List ℕ) (arcs pipes : List Arc) (by : IsDistilledBy outer border arcs pipes) where
  -- ---- from links to pipes
  -- pipes have led to c, and inner arcs lead on to x
  record IsAt (c x : ℕ) (ps : List ℕ) : Type 0 where
    walk : IsInnerWalk arcs outer c x ps
    end : IsTerminal outer border c

  -- in place of the inner arcs one pipe of the mesh leads to x, where x is on the border
  across : (c x : ℕ) (ps : List ℕ) → IsAt c x ps → (outer x ≡ false → Among x border) → HasWalkUpTo pipes c x (weight_of arcs ps)
  across c x ps at to =
      elim (cases_eq c x) [
        | inl same ↦ at_once pipes c x (weight_of arcs ps) same
        | inr differ ↦
            by_arc
            pipes
            c
            x
            (weight_of arcs ps)
            (by.mesh
            c
            x
            ps
            (at.end (inner_start arcs outer c x ps at.walk differ))
            (to (inner_end arcs outer c x ps at.walk differ))
            differ
            at.walk)
      ]

  -- an arc that isn't inner: the inner arcs before it, and then its own pipe
  by_kept : (c e : ℕ) (ps : List ℕ) → IsAt c (arc_at arcs e).from ps → e < length arcs
      → (outer (arc_at arcs e).from ≡ true) ⊎ (outer (arc_at arcs e).to ≡ true)
      → HasWalkUpTo pipes c (arc_at arcs e).to (weight_of arcs ps + (arc_at arcs e).weight)
  by_kept c e ps at low kept =
      one_by_one
      pipes
      c
      (arc_at arcs e).from
      (arc_at arcs e).to
      (weight_of arcs ps)
      (arc_at arcs e).weight
      (across c (arc_at arcs e).from ps at (λ inner.
      elim kept [ inl leaves ↦ absurd (true≢false (sym leaves ∙ inner)) | inr enters ↦ by.leaves e low inner enters ]))
      (by_arc pipes (arc_at arcs e).from (arc_at arcs e).to (arc_at arcs e).weight (by.kept e low kept))

  -- after it no inner arcs have been walked
  arrived : (e : ℕ) → e < length arcs → (outer (arc_at arcs e).from ≡ true) ⊎ (outer (arc_at arcs e).to ≡ true)
      → IsAt (arc_at arcs e).to (arc_at arcs e).to []
  arrived e low kept =
      record {
        walk = refl;
        end = λ inner.
            elim kept [ inl leaves ↦ by.enters e low leaves inner | inr enters ↦ absurd (true≢false (sym enters ∙ inner)) ];
      }

  -- which arcs are inner
  which : (e : ℕ) → IsInner outer (arc_at arcs e) ⊎ ((outer (arc_at arcs e).from ≡ true) ⊎ (outer (arc_at arcs e).to ≡ true))
  which e =
      elim (cases_Bool (outer (arc_at arcs e).from)) [
        | inl leaves ↦ inr (inl leaves)
        | inr from ↦
            elim (cases_Bool (outer (arc_at arcs e).to)) [
              | inl enters ↦ inr (inr enters)
              | inr to ↦ inl (record { from = from; to = to })
            ]
      ]

  -- along the rest of a walk of links pipes lead to its end, and weigh no more
  along : (es : List ℕ) (c x b : ℕ) (ps : List ℕ) → IsAt c x ps → IsWalk arcs x b es → IsTerminal outer border b
      → HasWalkUpTo pipes c b (weight_of arcs ps + weight_of arcs es)
  along [] c x b ps at walk end =
      let all = across c b ps (record { walk = subst (λ v. IsInnerWalk arcs outer c v ps) walk at.walk; end = at.end }) end in
      record { walk = all.walk; joins = all.joins; weight = (let w = all.weight in omega arith) }
  along (e ∷ es) c x b ps at walk end =
      let here : IsAt c (arc_at arcs e).from ps =
      record { walk = subst (λ v. IsInnerWalk arcs outer c v ps) (sym walk.1) at.walk; end = at.end } in
      elim (which e) [
        | inl inner ↦
            let more = along
            es
            c
            (arc_at arcs e).to
            b
            (ps ++ e ∷ [])
            (record { walk = inner_more arcs outer c ps e here.walk walk.0 inner; end = at.end })
            walk.2
            end in
            let longer = weight_of-append arcs ps (e ∷ []) in
            record { walk = more.walk; joins = more.joins; weight = (let w = more.weight in omega arith) }
        | inr kept ↦
            let rest = along es (arc_at arcs e).to (arc_at arcs e).to b [] (arrived e walk.0 kept) walk.2 end in
            let all = one_by_one
            pipes
            c
            (arc_at arcs e).to
            b
            (weight_of arcs ps + (arc_at arcs e).weight)
            (0 + weight_of arcs es)
            (by_kept c e ps here walk.0 kept)
            rest in
            record { walk = all.walk; joins = all.joins; weight = (let w = all.weight in omega arith) }
      ]

  -- in particular from its start
  there : (a b : ℕ) (es : List ℕ) → IsTerminal outer border a → IsTerminal outer border b → IsWalk arcs a b es
      → HasWalkUpTo pipes a b (weight_of arcs es)
  there a b es start end walk =
      let all = along es a a b [] (record { walk = refl; end = start }) walk end in
      record { walk = all.walk; joins = all.joins; weight = (let w = all.weight in omega arith) }

  -- ---- from pipes to links
  -- a walk of pipes stands for a walk of links of the same weight
  back : (a b : ℕ) (qs : List ℕ) → IsWalk pipes a b qs → HasWalk arcs a b (weight_of pipes qs)
  back a b [] walk = record { walk = []; joins = walk; weight = refl }
  back a b (q ∷ qs) walk =
      let one = by.stands q walk.0 in
      let rest = back (arc_at pipes q).to b qs walk.2 in
      record {
        walk = one.walk ++ rest.walk;
        joins =
            IsWalk-append
            arcs
            a
            (arc_at pipes q).to
            b
            one.walk
            rest.walk
            (subst (λ v. IsWalk arcs v (arc_at pipes q).to one.walk) walk.1 one.joins)
            rest.joins;
        weight =
            let both = weight_of-append arcs one.walk rest.walk in
            let first = one.weight in
            let second = rest.weight in
            omega arith;
      }

  module _ (a b : ℕ) (start : IsTerminal outer border a) (end : IsTerminal outer border b) where
    -- a least walk of links has a walk of pipes of its weight, and no walk of pipes is shorter
    of_links : (n : ℕ) → IsLeastLatency arcs a b n → IsLeastLatency pipes a b n
    of_links n own =
        let found = there a b own.walk start end own.joins in
        let again = back a b found.walk found.joins in
        let least = own.least again.walk again.joins in
        record {
          walk = found.walk;
          joins = found.joins;
          latency =
              let most = found.weight in
              let is = own.latency in
              let same = again.weight in
              omega arith;
          least = λ other walk.
              let links = back a b other walk in
              let low = own.least links.walk links.joins in
              let same = links.weight in
              omega arith;
        }

    -- and the other way round
    of_pipes : (n : ℕ) → IsLeastLatency pipes a b n → IsLeastLatency arcs a b n
    of_pipes n own =
        let links = back a b own.walk own.joins in
        record {
          walk = links.walk;
          joins = links.joins;
          latency = links.weight ∙ own.latency;
          least = λ other walk.
              let found = there a b other start end walk in
              let low = own.least found.walk found.joins in
              let most = found.weight in
              omega arith;
        }

    pub same_latency : HaveSameLatency arcs pipes a b
    same_latency =
        record {
          latency = λ n. (of_pipes n, of_links n);
          joined = (
            λ found. let links = back a b found.0 found.1 in (links.walk, links.joins),
            λ found. let pipe = there a b found.0 start end found.1 in (pipe.walk, pipe.joins),
          );
        }
