-- Pairs of the mesh, destination by destination.
use Rattle.std.proofs.Common.{◌≡◌, ℕ, ◌+◌, ◌<◌, ◌≤◌, inl, inr, ⊎_elim, List, [], ◌∷◌, ◌++◌, length, take, get_or, map, refl, sym, ap, subst, ◌∙◌, arith, length-append}
use Rattle.std.proofs.lemmas.List.{map-append, take_more, take_all, length-map}
use Rattle.mn_base.specs.Among.{Among}
use Rattle.mn_base.proofs.Members.{Among-append, Among-append-left, Among-append-right, Among-push, Among-map, Among-from-map, Among-index}
use Rattle.topo.specs.declared.parts.Link.{Link}
use Rattle.routes.specs.declared.graph.Arc.{Arc}
use Rattle.distill.specs.declared.pipes.DistilledPipe.{DistilledPipe}
use Rattle.distill.specs.Mesh.{arcs_of, IsMeshPair, StandsForLeast}
use Rattle.distill.specs.PipeCount.{AreDistinct, AreMeshPairs, HasPairCount}
use Rattle.distill.specs.Rows.{IsSource, AreSources, HasSourceCount, IsRow, starts_of}
use Rattle.distill.proofs.Distinct.{AreDistinct-append, AreDistinct-map, not_before}

-- the pairs whose second node is one of the targets
pub record ArePairsInto (arcs : List Arc) (border targets : List ℕ) (pairs : List (ℕ × ℕ)) : Type 0 where
  pub each : (pair : ℕ × ℕ) → Among pair pairs → IsMeshPair arcs border pair.0 pair.1
  pub into : (pair : ℕ × ℕ) → Among pair pairs → Among pair.1 targets
  pub all : (pair : ℕ × ℕ) → IsMeshPair arcs border pair.0 pair.1 → Among pair.1 targets → Among pair pairs
  pub once : AreDistinct pairs

pub no_pairs : (arcs : List Arc) (border : List ℕ) → ArePairsInto arcs border [] []
no_pairs arcs border = record {
  each = λ pair there. absurd there;
  into = λ pair there. there;
  all = λ pair is there. there;
  once = tt;
}

-- all sources paired with one target
abbrev pub pairs_to : ℕ → List ℕ → List (ℕ × ℕ)
pairs_to b sources = map (λ a. (a, b)) sources

-- the pairs into one target more
pub one_target_more : (arcs : List Arc) (border targets : List ℕ) (b : ℕ) (pairs : List (ℕ × ℕ)) (sources : List ℕ) → ¬ Among b targets
    → Among b border
    → ArePairsInto arcs border targets pairs → AreSources arcs border b sources
    → ArePairsInto arcs border (targets ++ b ∷ []) (pairs ++ pairs_to b sources)
one_target_more arcs border targets b pairs sources new on p s = record {
  each = λ pair there. ⊎_elim (λ old. p.each pair old)
      (λ now. let from = Among-from-map (λ a. (a, b)) pair sources now in
      subst (λ (q : ℕ × ℕ). IsMeshPair arcs border q.0 q.1) from.2 (pair_of from.0 from.1))
      (Among-append pair pairs (pairs_to b sources) there);
  into = λ pair there. ⊎_elim (λ old. Among-append-left pair.1 targets (b ∷ []) (p.into pair old))
      (λ now. let from = Among-from-map (λ a. (a, b)) pair sources now in
      Among-append-right pair.1 targets (b ∷ []) (inl (ap (λ (q : ℕ × ℕ). q.1) from.2)))
      (Among-append pair pairs (pairs_to b sources) there);
  all = λ pair is there. ⊎_elim (λ old. Among-append-left pair pairs (pairs_to b sources) (p.all pair is old))
      (λ same. Among-append-right pair pairs (pairs_to b sources) (at_end pair is same)) (Among-push pair.1 targets b there);
  once = AreDistinct-append pairs (pairs_to b sources) p.once
      (AreDistinct-map (λ a. (a, b)) sources (λ x y same. ap (λ (q : ℕ × ℕ). q.0) same) s.once)
      (λ pair old now. let from = Among-from-map (λ a. (a, b)) pair sources now in
      new (subst (λ (v : ℕ). Among v targets) (sym (ap (λ (q : ℕ × ℕ). q.1) from.2)) (p.into pair old)));
}
  where
    pair_of : (a : ℕ) → Among a sources → IsMeshPair arcs border a b
    pair_of a there = let is = s.each a there in record { from = s.among a there; to = on; differ = is.differs; joined = is.joined }

    at_end : (pair : ℕ × ℕ) → IsMeshPair arcs border pair.0 pair.1 → b ≡ pair.1 → Among pair (pairs_to b sources)
    at_end (x, y) is same = subst (λ (v : ℕ). Among (x, v) (pairs_to b sources)) same
        (Among-map (λ a. (a, b)) x sources
        (s.all x is.from (subst (λ (v : ℕ). IsSource arcs v x) (sym same) (record { differs = is.differ; joined = is.joined }))))

-- where all nodes of the border were targets
pub whole_border : (arcs : List Arc) (border : List ℕ) (pairs : List (ℕ × ℕ)) → ArePairsInto arcs border border pairs → AreMeshPairs arcs border pairs
whole_border arcs border pairs p = record { each = p.each; all = λ pair is. p.all pair is is.to; once = p.once }

-- so many pairs into the targets
pub record HasCountInto (arcs : List Arc) (border targets : List ℕ) (count : ℕ) : Type 0 where
  pub pairs : List (ℕ × ℕ)
  pub are : ArePairsInto arcs border targets pairs
  pub count_is : count ≡ length pairs

pub no_count : (arcs : List Arc) (border : List ℕ) → HasCountInto arcs border [] 0
no_count arcs border = record { pairs = []; are = no_pairs arcs border; count_is = refl }

pub count_next : (arcs : List Arc) (border : List ℕ) (i d count more : ℕ) → AreDistinct border → i < length border
    → HasCountInto arcs border (take i border) count
    → HasSourceCount arcs border (get_or border i d) more → HasCountInto arcs border (take (i + 1) border) (count + more)
count_next arcs border i d count more distinct within c s =
    let b = get_or border i d in
    let grown = one_target_more arcs border (take i border) b c.pairs s.found (not_before border i d distinct within)
    (Among-index border i d within) c.are s.are in
    record {
      pairs = c.pairs ++ pairs_to b s.found;
      are = subst (λ (ts : List ℕ). ArePairsInto arcs border ts (c.pairs ++ pairs_to b s.found)) (sym (take_more border i d within)) grown;
      count_is =
          let had : count ≡ length c.pairs = c.count_is in
          let found : more ≡ length s.found = s.count_is in
          let paired : length (pairs_to b s.found) ≡ length s.found = length-map s.found (λ a. (a, b)) in
          omega (arith, length-append c.pairs (pairs_to b s.found));
    }

pub whole_count : (arcs : List Arc) (border : List ℕ) (i count : ℕ) → length border ≤ i → HasCountInto arcs border (take i border) count
    → HasPairCount arcs border count
whole_count arcs border i count end c = record {
  pairs = c.pairs;
  are = whole_border arcs border c.pairs (subst (λ (ts : List ℕ). ArePairsInto arcs border ts c.pairs) (take_all i border end) c.are);
  count_is = c.count_is;
}

-- ---- the mesh itself
abbrev pub ends_of : DistilledPipe → ℕ × ℕ
ends_of pipe = (pipe.from, pipe.to)

-- the pipes into the targets, one for each pair
pub record ArePipesInto (tick_ns : ℕ) (middle : List Link) (border targets : List ℕ) (mesh : List DistilledPipe) : Type 0 where
  pub ends : ArePairsInto (arcs_of middle) border targets (map ends_of mesh)
  pub least : (pipe : DistilledPipe) → Among pipe mesh → StandsForLeast tick_ns middle pipe

pub no_pipes : (tick_ns : ℕ) (middle : List Link) (border : List ℕ) → ArePipesInto tick_ns middle border [] []
no_pipes tick_ns middle border = record { ends = no_pairs (arcs_of middle) border; least = λ pipe there. absurd there }

-- the ends of a row are its starts, paired with its destination
row-ends : (b : ℕ) (row : List DistilledPipe) → ((pipe : DistilledPipe) → Among pipe row → pipe.to ≡ b) → map ends_of row ≡ pairs_to b (starts_of row)
row-ends b [] to = refl
row-ends b (pipe ∷ row) to =
    ap (λ (v : ℕ). (pipe.from, v) ∷ map ends_of row) (to pipe (inl refl))
    ∙ ap (λ l. (pipe.from, b) ∷ l) (row-ends b row (λ p there. to p (inr there)))

pub pipes_next : {tick_ns : ℕ} {middle : List Link} {border : List ℕ} (i d : ℕ) {mesh mesh' row : List DistilledPipe} → AreDistinct border
    → i < length border
    → ArePipesInto tick_ns middle border (take i border) mesh → IsRow tick_ns middle border (get_or border i d) row → mesh' ≡ mesh ++ row
    → ArePipesInto tick_ns middle border (take (i + 1) border) mesh'
pipes_next {tick_ns} {middle} {border} i d {mesh} {mesh'} {row} distinct within p r pushed =
    let b = get_or border i d in
    let grown = one_target_more (arcs_of middle) border (take i border) b (map ends_of mesh) (starts_of row)
    (not_before border i d distinct within) (Among-index border i d within) p.ends r.starts in
    let ends : map ends_of mesh' ≡ map ends_of mesh ++ pairs_to b (starts_of row) = ap (map ends_of) pushed ∙ map-append ends_of mesh row
    ∙ ap (λ l. map ends_of mesh ++ l) (row-ends b row r.ends) in
    record {
      ends = subst (ArePairsInto (arcs_of middle) border (take (i + 1) border)) (sym ends)
          (subst (λ (ts : List ℕ). ArePairsInto (arcs_of middle) border ts (map ends_of mesh ++ pairs_to b (starts_of row)))
          (sym (take_more border i d within)) grown);
      least = λ pipe there. ⊎_elim (λ old. p.least pipe old)
          (λ new. r.least pipe new) (Among-append pipe mesh row (subst (λ (l : List DistilledPipe). Among pipe l) pushed there));
    }

pub whole_mesh : (tick_ns : ℕ) (middle : List Link) (border : List ℕ) (i : ℕ) (mesh : List DistilledPipe) → length border ≤ i
    → ArePipesInto tick_ns middle border (take i border) mesh → ArePipesInto tick_ns middle border border mesh
whole_mesh tick_ns middle border i mesh end p = subst (λ (ts : List ℕ). ArePipesInto tick_ns middle border ts mesh) (take_all i border end) p
