-- The pipes of parts around outer nodes distill the topology, where the border closes the outer nodes off.
use Rattle.std.proofs.Common.{◌≡◌, ◌≢◌, ℕ, zero, suc, ◌+◌, ◌<◌, ◌≤◌, ◌⊎◌, inl, inr, Bool, true, false, not, ◌||◌, List, [], ◌∷◌, length, get_or, take, drop, filter, refl, sym, ap, subst, ◌∙◌, arith}
use Rattle.std.specs.List.{range_with_len, AllZip}
use Rattle.std.proofs.lemmas.Bool.{true≢false}
use Rattle.std.proofs.lemmas.List.{get_or-map, length-map, take-append-drop}
use Rattle.std.proofs.lemmas.List.FromFn.{length-range_with_len, get_or-range_with_len}
use Rattle.mn_base.specs.Among.{Among}
use Rattle.mn_base.proofs.Members.{Among-append, Among-append-left, Among-append-right, Among-map, Among-from-map, Among-filter, Among-from-filter, Among-index, IndexOf, index_of}
use Rattle.topo.specs.declared.parts.Link.{Link}
use Rattle.routes.specs.declared.graph.Arc.{Arc}
use Rattle.routes.specs.Walk.{no_arc, arc_at, IsWalk, weight_of}
use Rattle.routes.specs.LeastWalk.{IsNoGreater}
use Rattle.routes.specs.SameLatency.{IsInner, IsInnerWalk, HasArc, HasWalk, IsDistilledBy}
use Rattle.frontier.proofs.Numbers.{filter-range-below}
use Rattle.walk_out.specs.Parts.{no_link, link_at, is_outer_link, parts_around}
use Rattle.distill.specs.declared.pipes.DistilledPipe.{DistilledPipe}
use Rattle.distill.specs.Combination.{StandsFor}
use Rattle.distill.specs.Mesh.{arc_of, links_at, arcs_of, StandsForLeast}
use Rattle.distill.specs.Distilled.{IsKept, ArePipesOfParts}
use Rattle.distill.specs.Latency.{arc_of_pipe, arcs_of_pipes}
use Rattle.distill.proofs.LatencyWalks.{Among-range, arc_at-links, arc_at-middle, middle_walk, us_along-walk, pipe_arc}

-- ---- two lists item by item
-- each item of the first has its item of the second
AllZip-there : {A B : Type 0} (R : A → B → Type 0) (x : A) (xs : List A) (ys : List B)
    → AllZip R xs ys → Among x xs → (y : B) × Among y ys × R x y
AllZip-there R x [] ys all there = absurd there
AllZip-there R x (z ∷ xs) [] all there = absurd all
AllZip-there {A} R x (z ∷ xs) (y ∷ ys) all there =
    elim there [
      | inl here ↦ (y, inl refl, subst (λ (w : A). R w y) here all.0)
      | inr later ↦ let found = AllZip-there R x xs ys all.1 later in (found.0, inr found.1, found.2)
    ]

-- and the other way round
AllZip-back : {A B : Type 0} (R : A → B → Type 0) (y : B) (xs : List A) (ys : List B)
    → AllZip R xs ys → Among y ys → (x : A) × Among x xs × R x y
AllZip-back R y xs [] all there = absurd there
AllZip-back R y [] (z ∷ ys) all there = absurd all
AllZip-back {A} {B} R y (x ∷ xs) (z ∷ ys) all there =
    elim there [
      | inl here ↦ (x, inl refl, subst (λ (w : B). R x w) here all.0)
      | inr later ↦ let found = AllZip-back R y xs ys all.1 later in (found.0, inr found.1, found.2)
    ]

-- ---- the front and the back of a list
Among-take : {X : Type 0} (n : ℕ) (x : X) (xs : List X) → Among x (take n xs) → Among x xs
Among-take n x xs there = subst (λ l. Among x l) (take-append-drop n xs) (Among-append-left x (take n xs) (drop n xs) there)

Among-drop : {X : Type 0} (n : ℕ) (x : X) (xs : List X) → Among x (drop n xs) → Among x xs
Among-drop n x xs there = subst (λ l. Among x l) (take-append-drop n xs) (Among-append-right x (take n xs) (drop n xs) there)

Among-parts : {X : Type 0} (n : ℕ) (x : X) (xs : List X) → Among x xs → Among x (take n xs) ⊎ Among x (drop n xs)
Among-parts n x xs there = Among-append x (take n xs) (drop n xs) (subst (λ l. Among x l) (sym (take-append-drop n xs)) there)

-- what stands at an index
item_at : {X : Type 0} (xs : List X) (i : ℕ) → i < length xs → (x : X) × Among x xs × ((d : X) → get_or xs i d ≡ x)
item_at [] i low = absurd (omega arith)
item_at (x ∷ xs) zero low = (x, inl refl, λ d. refl)
item_at (x ∷ xs) (suc i) low = let found = item_at xs i (omega arith) in (found.0, inr found.1, found.2)

-- ---- tests
or_true : (a b : Bool) → (a ≡ true) ⊎ (b ≡ true) → (a || b) ≡ true
or_true true b either = refl
or_true false b either = elim either [ inl never ↦ absurd (true≢false (sym never)) | inr here ↦ here ]

neither : (a b : Bool) → a ≡ false → b ≡ false → not (a || b) ≡ true
neither a b first second = ap (λ (x : Bool). not (x || b)) first ∙ ap not second

-- the border has each node that isn't outer and that a link joins to an outer one
pub record IsClosedOff (links : List Link) (outer : ℕ → Bool) (border : List ℕ) : Type 0 where
  pub leaves : (l : Link) → Among l links → outer l.from ≡ false → outer l.to ≡ true → Among l.from border
  pub enters : (l : Link) → Among l links → outer l.from ≡ true → outer l.to ≡ false → Among l.to border

module _ (tick_ns : ℕ) (links : List Link) (outer : ℕ → Bool) (border : List ℕ) (pipes : List DistilledPipe)
    (are : ArePipesOfParts tick_ns links (parts_around links outer border) pipes) where
  -- whether a link, by its number, is kept
  abbrev is_kept : ℕ → Bool
  is_kept e = is_outer_link outer (link_at links e)

  abbrev kept_numbers : List ℕ
  kept_numbers = filter (λ e. is_outer_link outer (link_at links e)) (range_with_len 0 (length links))

  abbrev middle_numbers : List ℕ
  middle_numbers = filter (λ e. not (is_outer_link outer (link_at links e))) (range_with_len 0 (length links))

  abbrev middle : List Arc
  middle = arcs_of (links_at links (filter (λ e. not (is_outer_link outer (link_at links e))) (range_with_len 0 (length links))))

  -- a number of an arc is one of a link
  link_low : (e : ℕ) → e < length (arcs_of links) → e < length links
  link_low e low = let same = length-map links arc_of in omega arith

  -- each link with an outer end has its pipe
  kept : (e : ℕ) → e < length (arcs_of links)
      → (outer (arc_at (arcs_of links) e).from ≡ true) ⊎ (outer (arc_at (arcs_of links) e).to ≡ true)
      → HasArc (arcs_of_pipes pipes) (arc_at (arcs_of links) e).from (arc_at (arcs_of links) e).to (arc_at (arcs_of links) e).weight
  kept e low kept' =
      let is : arc_at (arcs_of links) e ≡ arc_of (link_at links e) = arc_at-links links e (link_low e low) in
      let passes : is_outer_link outer (link_at links e) ≡ true =
      or_true
      (outer (link_at links e).from)
      (outer (link_at links e).to)
      (subst (λ (x : Arc). (outer x.from ≡ true) ⊎ (outer x.to ≡ true)) is kept') in
      let there : Among e (range_with_len 0 (length links)) =
      Among-range 0 (length links) e (omega arith) (let h = link_low e low in omega arith) in
      let found = AllZip-there
      (IsKept tick_ns)
      (link_at links e)
      (links_at links (filter (λ k. is_outer_link outer (link_at links k)) (range_with_len 0 (length links))))
      _
      are.kept
      (Among-map
      (link_at links)
      e
      _
      (Among-filter (λ k. is_outer_link outer (link_at links k)) e (range_with_len 0 (length links)) there passes)) in
      let pipe : DistilledPipe = found.0 in
      let stands : StandsFor tick_ns (link_at links e).from (link_at links e).to (link_at links e ∷ []) found.0 = found.2 in
      subst
      (λ (x : Arc). HasArc (arcs_of_pipes pipes) x.from x.to x.weight)
      (sym is)
      (subst
      (λ v. HasArc (arcs_of_pipes pipes) v (link_at links e).to (link_at links e).latency_us)
      stands.from
      (subst
      (λ v. HasArc (arcs_of_pipes pipes) found.0.from v (link_at links e).latency_us)
      stands.to
      (pipe_arc
      pipes
      found.0
      (link_at links e).latency_us
      (Among-take _ found.0 pipes found.1)
      (let us = stands.params.latency_us in omega arith))))

  -- a link that isn't kept, and a walk of the middle from its end
  middle_first : (a b e n : ℕ) → e < length (arcs_of links) → (arc_at (arcs_of links) e).from ≡ a
      → IsInner outer (arc_at (arcs_of links) e) → HasWalk middle (arc_at (arcs_of links) e).to b n
      → HasWalk middle a b ((arc_at (arcs_of links) e).weight + n)
  middle_first a b e n below from inner rest =
      record {
        walk = at.index ∷ rest.walk;
        joins = (
          (let within = at.within in
              let one : length middle ≡ length (links_at links middle_numbers) = length-map (links_at links middle_numbers) arc_of in
              let two : length (links_at links middle_numbers) ≡ length middle_numbers = length-map middle_numbers (link_at links) in
              omega arith),
          ap (λ (x : Arc). x.from) same ∙ from,
          subst (λ (x : Arc). IsWalk middle x.to b rest.walk) (sym same) rest.joins,
        );
        weight = (let first = ap (λ (x : Arc). x.weight) same in let more = rest.weight in omega arith);
      }
    where
      low : e < length links
      low = link_low e below

      is : arc_at (arcs_of links) e ≡ arc_of (link_at links e)
      is = arc_at-links links e low

      passes : not (is_outer_link outer (link_at links e)) ≡ true
      passes =
          neither
          (outer (link_at links e).from)
          (outer (link_at links e).to)
          (subst (λ (x : Arc). outer x.from ≡ false) is inner.from)
          (subst (λ (x : Arc). outer x.to ≡ false) is inner.to)

      at : IndexOf e middle_numbers
      at =
          index_of
          e
          middle_numbers
          (Among-filter
          (λ k. not (is_outer_link outer (link_at links k)))
          e
          (range_with_len 0 (length links))
          (Among-range 0 (length links) e (omega arith) (let h = low in omega arith))
          passes)

      same : arc_at middle at.index ≡ arc_at (arcs_of links) e
      same = arc_at-middle links middle_numbers at.index e at.within (at.here 0) low

  -- so a walk of links that aren't kept is one of the middle
  to_middle : (a b : ℕ) (es : List ℕ) → IsInnerWalk (arcs_of links) outer a b es → HasWalk middle a b (weight_of (arcs_of links) es)
  to_middle a b [] walk = record { walk = []; joins = walk; weight = refl }
  to_middle a b (e ∷ es) walk =
      middle_first
      a
      b
      e
      (weight_of (arcs_of links) es)
      walk.0
      walk.1
      walk.2
      (to_middle (arc_at (arcs_of links) e).to b es walk.3)

  -- a key that is no greater weighs no more
  no_heavier : (arcs : List Arc) (es fs : List ℕ) → IsNoGreater arcs es fs → weight_of arcs es ≤ weight_of arcs fs
  no_heavier arcs es fs least = elim least [ inl lighter ↦ omega arith | inr even ↦ (let h = even.0 in omega arith) ]

  -- the latency of a mesh pipe is the weight of its least walk
  mesh_latency : (pipe : DistilledPipe) (own : StandsForLeast tick_ns (links_at links middle_numbers) pipe)
      → (let params = pipe.params in params.latency_us) ≡ weight_of middle own.walk
  mesh_latency pipe own =
      own.stands.params.latency_us
      ∙ us_along-walk (links_at links middle_numbers) pipe.from pipe.to own.walk own.least.walk

  -- between two nodes of the border the mesh has a pipe that is no longer than each walk of links that aren't kept
  mesh : (a b : ℕ) (es : List ℕ) → Among a border → Among b border → a ≢ b → IsInnerWalk (arcs_of links) outer a b es
      → HasArc (arcs_of_pipes pipes) a b (weight_of (arcs_of links) es)
  mesh a b es from to differ walk =
      let inner = to_middle a b es walk in
      let found = are.mesh.all a b (record { from = from; to = to; differ = differ; joined = (inner.walk, inner.joins) }) in
      let own = are.mesh.least found.0 found.1 in
      let other : IsWalk middle found.0.from found.0.to inner.walk =
      subst
      (λ v. IsWalk middle v found.0.to inner.walk)
      (sym found.2)
      (subst (λ v. IsWalk middle a v inner.walk) (sym found.3) inner.joins) in
      let least = no_heavier middle own.walk inner.walk (own.least.least inner.walk other) in
      let is = mesh_latency found.0 own in
      let same = inner.weight in
      subst
      (λ v. HasArc (arcs_of_pipes pipes) v b (weight_of (arcs_of links) es))
      found.2
      (subst
      (λ v. HasArc (arcs_of_pipes pipes) found.0.from v (weight_of (arcs_of links) es))
      found.3
      (pipe_arc pipes found.0 (weight_of (arcs_of links) es) (Among-drop _ found.0 pipes found.1) (omega arith)))

  -- each pipe stands for a walk of links
  of_pipe : (pipe : DistilledPipe) → Among pipe pipes
      → HasWalk (arcs_of links) pipe.from pipe.to (let params = pipe.params in params.latency_us)
  of_pipe pipe there =
      elim (Among-parts (length kept_numbers) pipe pipes there) [
        | inl front ↦ of_kept (AllZip-back (IsKept tick_ns) pipe (links_at links kept_numbers) _ are.kept front)
        | inr back ↦
            let own = are.mesh.least pipe back in
            let walk = middle_walk
            links
            middle_numbers
            (filter-range-below (λ e. not (is_outer_link outer (link_at links e))) (length links))
            pipe.from
            pipe.to
            own.walk
            own.least.walk in
            record { walk = walk.walk; joins = walk.joins; weight = walk.weight ∙ sym (mesh_latency pipe own) }
      ]
    where
      -- a kept pipe stands for its link
      of_kept : (l : Link) × Among l (links_at links kept_numbers) × IsKept tick_ns l pipe
          → HasWalk (arcs_of links) pipe.from pipe.to (let params = pipe.params in params.latency_us)
      of_kept found =
          let number = Among-from-map (link_at links) found.0 kept_numbers found.1 in
          let e : ℕ = number.0 in
          let low : number.0 < length links =
          in_range
          number.0
          (Among-from-filter (λ k. is_outer_link outer (link_at links k)) number.0 (range_with_len 0 (length links)) number.1).0 in
          let is : arc_at (arcs_of links) number.0 ≡ arc_of found.0 = arc_at-links links number.0 low ∙ ap arc_of number.2 in
          let stands : StandsFor tick_ns found.0.from found.0.to (found.0 ∷ []) pipe = found.2 in
          record {
            walk = number.0 ∷ [];
            joins = (
              (let same = length-map links arc_of in omega arith),
              ap (λ (x : Arc). x.from) is ∙ sym stands.from,
              ap (λ (x : Arc). x.to) is ∙ sym stands.to,
            );
            weight = (let one = ap (λ (x : Arc). x.weight) is in let us = stands.params.latency_us in omega arith);
          }
        where
          in_range : (e : ℕ) → Among e (range_with_len 0 (length links)) → e < length links
          in_range e there' =
              let at = index_of e (range_with_len 0 (length links)) there' in
              let len : length (range_with_len 0 (length links)) ≡ length links = length-range_with_len 0 (length links) in
              let within = at.within in
              let reads : get_or (range_with_len 0 (length links)) at.index 0 ≡ 0 + at.index =
              get_or-range_with_len 0 (length links) at.index 0 (omega arith) in
              let here = at.here 0 in
              omega arith

  -- all that the law asks
  pub distilled_by : IsClosedOff links outer border → IsDistilledBy outer border (arcs_of links) (arcs_of_pipes pipes)
  distilled_by closed =
      record {
        kept = kept;
        mesh = mesh;
        stands = λ q low.
            let within : q < length pipes = (let same = length-map pipes arc_of_pipe in omega arith) in
            let found = item_at pipes q within in
            subst
            (λ (x : Arc). HasWalk (arcs_of links) x.from x.to x.weight)
            (sym (get_or-map arc_of_pipe pipes q found.0 no_arc within ∙ ap arc_of_pipe (found.2 found.0)))
            (of_pipe found.0 found.1);
        leaves = λ e low from to.
            let is : arc_at (arcs_of links) e ≡ arc_of (link_at links e) = arc_at-links links e (link_low e low) in
            subst
            (λ (x : Arc). Among x.from border)
            (sym is)
            (closed.leaves
            (link_at links e)
            (Among-index links e no_link (link_low e low))
            (subst (λ (x : Arc). outer x.from ≡ false) is from)
            (subst (λ (x : Arc). outer x.to ≡ true) is to));
        enters = λ e low from to.
            let is : arc_at (arcs_of links) e ≡ arc_of (link_at links e) = arc_at-links links e (link_low e low) in
            subst
            (λ (x : Arc). Among x.to border)
            (sym is)
            (closed.enters
            (link_at links e)
            (Among-index links e no_link (link_low e low))
            (subst (λ (x : Arc). outer x.from ≡ true) is from)
            (subst (λ (x : Arc). outer x.to ≡ false) is to));
      }
