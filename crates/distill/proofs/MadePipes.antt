-- The pipes that are made of parts: the kept ones, and after them the mesh.
use Rattle.std.proofs.Common.{◌≡◌, ℕ, suc, ◌+◌, ◌<◌, List, [], ◌∷◌, ◌++◌, length, take, drop, get_or, All, refl, sym, ap, subst, ◌∙◌, arith, length-append}
use Rattle.std.specs.List.{AllZip}
use Rattle.std.proofs.lemmas.List.{length-map}
use Rattle.std.proofs.lemmas.List.Elements.{All-append, All-cons}
use Rattle.std.proofs.Math.Seq.{take-append_seam, drop-append_seam}
use Rattle.mn_base.proofs.Members.{All-Among, Among-index}
use Rattle.topo.specs.declared.parts.Link.{Link}
use Rattle.topo.specs.Topologies.{IsLink}
use Rattle.walk_out.specs.Parts.{PartsView, link_at}
use Rattle.distill.specs.declared.pipes.DistilledPipe.{DistilledPipe}
use Rattle.distill.specs.Mesh.{arcs_of, links_at, IsMesh}
use Rattle.distill.specs.Distilled.{IsKept, ArePipesOfParts, IsPipeAmong}
use Rattle.distill.specs.PipeCount.{HasPairCount}
use Rattle.distill.proofs.SortedMesh.{length-mesh}

pub length-AllZip : {A B : Type 0} (R : A → B → Type 0) (xs : List A) (ys : List B) → AllZip R xs ys → length xs ≡ length ys
length-AllZip R [] [] all = refl
length-AllZip R [] (y ∷ ys) all = absurd all
length-AllZip R (x ∷ xs) [] all = absurd all
length-AllZip R (x ∷ xs) (y ∷ ys) all = let rest = length-AllZip R xs ys all.1 in omega arith

-- what was made of the parts
pub record AreMade (tick_ns : ℕ) (links : List Link) (parts : PartsView) (kept mesh pipes : List DistilledPipe) : Type 0 where
  pub kept_are : AllZip (IsKept tick_ns) (links_at links parts.kept) kept
  pub mesh_is : IsMesh tick_ns (links_at links parts.middle) parts.border mesh
  pub pipes_are : pipes ≡ kept ++ mesh

-- there is one kept pipe for each kept link
kept_len : {tick_ns : ℕ} {links : List Link} {parts : PartsView} {kept mesh pipes : List DistilledPipe}
    → AreMade tick_ns links parts kept mesh pipes → length parts.kept ≡ length kept
kept_len {tick_ns} {links} {parts} {kept} made = sym (length-map parts.kept (link_at links))
    ∙ length-AllZip (IsKept tick_ns) (links_at links parts.kept) kept made.kept_are

-- so the kept pipes are the front, and the mesh is what is after them
pub are_pipes : {tick_ns : ℕ} {links : List Link} {parts : PartsView} {kept mesh pipes : List DistilledPipe}
    → AreMade tick_ns links parts kept mesh pipes → ArePipesOfParts tick_ns links parts pipes
are_pipes {tick_ns} {links} {parts} {kept} {mesh} {pipes} made =
    let len = kept_len made in
    let front : take (length parts.kept) pipes ≡ kept = ap (λ n. take n pipes) len ∙ ap (take (length kept)) made.pipes_are
    ∙ take-append_seam kept mesh in
    let behind : drop (length parts.kept) pipes ≡ mesh = ap (λ n. drop n pipes) len ∙ ap (drop (length kept)) made.pipes_are
    ∙ drop-append_seam kept mesh in
    record {
      kept = subst (AllZip (IsKept tick_ns) (links_at links parts.kept)) (sym front) made.kept_are;
      mesh = subst (IsMesh tick_ns (links_at links parts.middle) parts.border) (sym behind) made.mesh_is;
    }

-- there are as many as kept links and pairs of the mesh
pub made_count : {tick_ns : ℕ} {links : List Link} {parts : PartsView} {kept mesh pipes : List DistilledPipe} {count : ℕ}
    → AreMade tick_ns links parts kept mesh pipes
    → HasPairCount (arcs_of (links_at links parts.middle)) parts.border count → length pipes ≡ length parts.kept + count
made_count {tick_ns} {links} {parts} {kept} {mesh} {pipes} {count} made counted =
    let len = kept_len made in
    let meshed = length-mesh tick_ns (links_at links parts.middle) parts.border mesh count made.mesh_is counted in
    omega (arith, ap length made.pipes_are, length-append kept mesh)

-- their ends are nodes
kept_among : (tick_ns n : ℕ) (links : List Link) (kept : List DistilledPipe)
    → AllZip (IsKept tick_ns) links kept → All (IsLink n) links → All (IsPipeAmong n) kept
kept_among tick_ns n [] [] all hold = λ i d within. absurd (omega arith)
kept_among tick_ns n [] (p ∷ kept) all hold = absurd all
kept_among tick_ns n (l ∷ links) [] all hold = absurd all
kept_among tick_ns n (l ∷ links) (p ∷ kept) all hold =
    let first = hold 0 l (omega arith) in
    All-cons (IsPipeAmong n) p kept
    (record {
      from = subst (λ (v : ℕ). v < n) (sym (let here = all.0 in here.from)) first.leaves;
      to = subst
          (λ (v : ℕ). v < n) (sym (let here = all.0 in here.to)) first.enters;
    })
    (kept_among tick_ns n links kept all.1 (λ i d within. hold (suc i) d (omega arith)))

pub made_among : {tick_ns : ℕ} {links : List Link} {parts : PartsView} {kept mesh pipes : List DistilledPipe} (n : ℕ)
    → AreMade tick_ns links parts kept mesh pipes
    → All (IsLink n) (links_at links parts.kept) → All (λ v. v < n) parts.border → All (IsPipeAmong n) pipes
made_among {tick_ns} {links} {parts} {kept} {mesh} n made hold border =
    subst (All (IsPipeAmong n)) (sym made.pipes_are)
    (All-append (IsPipeAmong n) kept mesh (kept_among tick_ns n (links_at links parts.kept) kept made.kept_are hold) meshed)
  where
    meshed : All (IsPipeAmong n) mesh
    meshed i d within =
        let is_mesh = made.mesh_is in
        let is_pair = is_mesh.pairs (get_or mesh i d) (Among-index mesh i d within) in
        record {
          from = All-Among (λ v. v < n) _ parts.border border is_pair.from;
          to = All-Among (λ v. v < n) _ parts.border border is_pair.to;
        }
