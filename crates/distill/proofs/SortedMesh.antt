-- The mesh, put in the order of its ends.
use Rattle.std.proofs.Common.{◌≡◌, ◌≢◌, ◌⊎◌, ℕ, suc, ◌+◌, ◌<◌, false, List, [], ◌∷◌, ◌++◌, length, length-append, take, drop, get_or, map, AllPairs, sym, ap, subst, ◌∙◌, inl, inr, arith, true≢false, ⊎_elim}
use Rattle.std.specs.List.Sorted.{IsPermutation, IsSortedByKey}
use Rattle.std.specs.Cmp.{IsTotalOrder, nat_cmp_is}
use Rattle.std.specs.declared.cmp.Ordering.{Ordering}
use Rattle.std.specs.declared.cmp.Ordering.TheVariants.{Less, Equal}
use Rattle.std.specs.Ordering.{nat_cmp, is_lt, ordering_then}
use Rattle.std.proofs.lemmas.Bool.{cases_order}
use Rattle.std.proofs.lemmas.Cmp.{nat_cmp_total, on_total, then_total}
use Rattle.std.proofs.lemmas.List.{length-map, get_or-map, get_or-take, take-append-drop, drop_more, length-take-le}
use Rattle.std.proofs.lemmas.List.MinMax.{ranks_by}
use Rattle.std.proofs.lemmas.List.Sorted.{sorted_far, IsPermutation-sym, All-permutation, length_permutation}
use Rattle.mn_base.specs.Among.{Among}
use Rattle.mn_base.proofs.Members.{All-Among, Among-index, Among-map, Among-from-map, Among-append, Among-append-left, Among-append-right}
use Rattle.topo.specs.declared.parts.Link.{Link}
use Rattle.distill.specs.declared.pipes.DistilledPipe.{DistilledPipe}
use Rattle.distill.specs.Mesh.{arcs_of, IsMeshPair, ComesBefore, HasPipe, IsMesh}
use Rattle.distill.specs.PipeCount.{AreDistinct, HasPairCount}
use Rattle.distill.proofs.Distinct.{distinct_as_long, distinct_are_no_more}
use Rattle.distill.proofs.MeshPairs.{ArePipesInto, ends_of}

-- what stands in a list stands in each list that has the same elements in another order
Among-permutation : {X : Type 0} (x : X) (xs ys : List X) → IsPermutation xs ys → Among x xs → Among x ys
Among-permutation x xs ys moved there =
    All-Among (λ z. Among z ys) x xs
    (All-permutation (λ z. Among z ys) ys xs (IsPermutation-sym xs ys moved) (λ i d within. Among-index ys i d within)) there

-- by what pipes are sorted
abbrev pub from_and_to : DistilledPipe → ℕ × ℕ
from_and_to pipe = (pipe.from, pipe.to)

abbrev pub ends_cmp : ℕ × ℕ → ℕ × ℕ → Ordering
ends_cmp x y = ordering_then (nat_cmp x.0 y.0) (nat_cmp x.1 y.1)

ends_total : IsTotalOrder ends_cmp
ends_total = then_total (on_total (λ (p : ℕ × ℕ). p.0) nat_cmp_total) (on_total (λ (p : ℕ × ℕ). p.1) nat_cmp_total)

-- two pipes that a sort by their ends doesn't exchange, and whose ends differ, are in order
in_order : (p q : DistilledPipe) → is_lt (ends_cmp (from_and_to q) (from_and_to p)) ≡ false → ends_of p ≢ ends_of q → ComesBefore p q
in_order p q kept differ =
    ⊎_elim
    (λ (same : p.from ≡ q.from).
    let ties = rw (← nat_cmp_is q.from p.from Equal (sym same)) at kept in
    ⊎_elim
    (λ (alike : p.to ≡ q.to). absurd (differ (ap (λ (v : ℕ). (v, p.to)) same ∙ ap (λ (v : ℕ). (q.from, v)) alike)))
    (λ (other : (p.to < q.to) ⊎ (q.to < p.to)).
    ⊎_elim
    (λ (before : p.to < q.to). inr (same, before))
    (λ (behind : q.to < p.to). absurd (true≢false (rw (← nat_cmp_is q.to p.to Less behind) at ties)))
    other)
    (cases_order p.to q.to))
    (λ (other : (p.from < q.from) ⊎ (q.from < p.from)).
    ⊎_elim
    (λ (before : p.from < q.from). inl before)
    (λ (behind : q.from < p.from). absurd (true≢false (rw (← nat_cmp_is q.from p.from Less behind) at kept)))
    other)
    (cases_order p.from q.from)

-- A list that has all of as many distinct elements has none twice: without the second of two equal ones it would still have them all.
differ_by_length : {X : Type 0} (xs ys : List X) (i j : ℕ) (d : X) → AreDistinct xs → length ys ≡ length xs
    → ((x : X) → Among x xs → Among x ys) → i < j → j < length ys
    → get_or ys i d ≢ get_or ys j d
differ_by_length {X} xs ys i j d distinct len all lt within same =
    let parted : ys ≡ take j ys ++ get_or ys j d ∷ drop (j + 1) ys = sym (take-append-drop j ys)
    ∙ ap (λ l. take j ys ++ l) (drop_more ys j d within) in
    let front_len : length (take j ys) ≡ j = length-take-le j ys (omega arith) in
    let in_front : Among (get_or ys j d) (take j ys) = subst
    (λ (z : X). Among z (take j ys)) (get_or-take j ys i d lt ∙ same) (Among-index (take j ys) i d (omega arith)) in
    let still : (x : X) → Among x xs → Among x (take j ys ++ drop (j + 1) ys) = λ x there.
    ⊎_elim
    (λ front. Among-append-left x (take j ys) (drop (j + 1) ys) front)
    (λ behind. ⊎_elim (λ (here : get_or ys j d ≡ x). Among-append-left x (take j ys) (drop (j + 1) ys)
    (subst (λ (z : X). Among z (take j ys)) here in_front)) (λ later. Among-append-right x (take j ys) (drop (j + 1) ys) later) behind)
    (Among-append x (take j ys) (get_or ys j d ∷ drop (j + 1) ys) (subst (Among x) parted (all x there))) in
    let fewer = distinct_are_no_more xs (take j ys ++ drop (j + 1) ys) distinct still in
    omega (arith, fewer, ap length parted, length-append (take j ys) (get_or ys j d ∷ drop (j + 1) ys), length-append (take j ys) (drop (j + 1) ys))

-- sorted, the pipes are the mesh
pub sorted_mesh : (tick_ns : ℕ) (middle : List Link) (border : List ℕ) (xs ys : List DistilledPipe)
    → ArePipesInto tick_ns middle border border xs → IsPermutation xs ys
    → IsSortedByKey from_and_to ends_cmp ys → IsMesh tick_ns middle border ys
sorted_mesh tick_ns middle border xs ys p moved sorted = record {
  pairs = λ pipe there. p.ends.each (ends_of pipe) (Among-map ends_of pipe xs (back pipe there));
  least = λ pipe there. p.least pipe (back pipe there);
  all = λ a b is. has a b (Among-from-map ends_of (a, b) xs (p.ends.all (a, b) is is.to));
  in_order = λ i j d lt within. in_order (get_or ys i d) (get_or ys j d)
      (sorted_far (λ a b. is_lt (ends_cmp (from_and_to a) (from_and_to b))) (ranks_by ends_total from_and_to) ys sorted i j d (omega arith) within)
      (differ i j d lt within);
}
  where
    back : (pipe : DistilledPipe) → Among pipe ys → Among pipe xs
    back pipe there = Among-permutation pipe ys xs (IsPermutation-sym xs ys moved) there

    has : (a b : ℕ) → (pipe : DistilledPipe) × Among pipe xs × (ends_of pipe ≡ (a, b)) → HasPipe ys a b
    has a b (pipe, there, same) = (pipe, Among-permutation pipe xs ys moved there, ap (λ (q : ℕ × ℕ). q.0) same, ap (λ (q : ℕ × ℕ). q.1) same)

    len : length (map ends_of ys) ≡ length (map ends_of xs)
    len = length-map ys ends_of ∙ length_permutation xs ys moved ∙ sym (length-map xs ends_of)

    ends : (pair : ℕ × ℕ) → Among pair (map ends_of xs) → Among pair (map ends_of ys)
    ends pair there =
        let found = Among-from-map ends_of pair xs there in
        subst (λ (q : ℕ × ℕ). Among q (map ends_of ys)) found.2 (Among-map ends_of found.0 ys (Among-permutation found.0 xs ys moved found.1))

    differ : (i j : ℕ) (d : DistilledPipe) → i < j → j < length ys → ends_of (get_or ys i d) ≢ ends_of (get_or ys j d)
    differ i j d lt within same =
        let at_i : get_or (map ends_of ys) i (ends_of d) ≡ ends_of (get_or ys i d) = get_or-map ends_of ys i d (ends_of d) (omega arith) in
        let at_j : get_or (map ends_of ys) j (ends_of d) ≡ ends_of (get_or ys j d) = get_or-map ends_of ys j d (ends_of d) within in
        differ_by_length (map ends_of xs) (map ends_of ys) i j (ends_of d) p.ends.once len ends lt (omega (arith, length-map ys ends_of))
        (at_i ∙ same ∙ sym at_j)

-- ---- how many pipes a mesh has
-- pipes in strict order have distinct ends
rising-distinct : (mesh : List DistilledPipe) → AllPairs ComesBefore mesh → AreDistinct (map ends_of mesh)
rising-distinct [] up = tt
rising-distinct (p ∷ mesh) up = (
  (λ there. let found = Among-from-map ends_of (ends_of p) mesh there in never p found.0 (before found.0 found.1) found.2),
  rising-distinct mesh (λ i j d lt within. up (suc i) (suc j) d (omega arith) (omega arith)),
)
  where
    before : (q : DistilledPipe) → Among q mesh → ComesBefore p q
    before q there = All-Among (ComesBefore p) q mesh (λ i d within. up 0 (suc i) d (omega arith) (omega arith)) there

    never : (p q : DistilledPipe) → ComesBefore p q → ends_of q ≡ ends_of p → ⊥
    never p q (inl less) same = let from : q.from ≡ p.from = ap (λ (x : ℕ × ℕ). x.0) same in absurd (omega arith)
    never p q (inr (alike, less)) same = let to : q.to ≡ p.to = ap (λ (x : ℕ × ℕ). x.1) same in absurd (omega arith)

-- a mesh has as many pipes as there are pairs
pub length-mesh : (tick_ns : ℕ) (middle : List Link) (border : List ℕ) (mesh : List DistilledPipe) (count : ℕ)
    → IsMesh tick_ns middle border mesh → HasPairCount (arcs_of middle) border count → length mesh ≡ count
length-mesh tick_ns middle border mesh count m c =
    sym (length-map mesh ends_of) ∙ distinct_as_long (map ends_of mesh) c.pairs (rising-distinct mesh m.in_order) c.are.once there back
    ∙ sym c.count_is
  where
    there : (pair : ℕ × ℕ) → Among pair (map ends_of mesh) → Among pair c.pairs
    there pair on = let found = Among-from-map ends_of pair mesh on in
        c.are.all pair (subst (λ (q : ℕ × ℕ). IsMeshPair (arcs_of middle) border q.0 q.1) found.2 (m.pairs found.0 found.1))

    back : (pair : ℕ × ℕ) → Among pair c.pairs → Among pair (map ends_of mesh)
    back (a, b) on = let found = m.all a b (c.are.each (a, b) on) in
        subst (λ (q : ℕ × ℕ). Among q (map ends_of mesh)) (ap (λ (v : ℕ). (v, (let p = found.0 in p.to))) found.2
        ∙ ap (λ (v : ℕ). (a, v)) found.3) (Among-map ends_of found.0 mesh found.1)
