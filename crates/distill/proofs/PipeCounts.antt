-- There is one number of pipes.
use Rattle.std.proofs.Common.{◌≡◌, ℕ, ◌+◌, List, length, take, drop, sym, ap, ◌∙◌, arith, length-append}
use Rattle.std.proofs.lemmas.List.{length-map, take-append-drop}
use Rattle.walk_out.specs.Parts.{PartsView, link_at}
use Rattle.routes.specs.declared.graph.Arc.{Arc}
use Rattle.distill.specs.declared.pipes.DistilledPipe.{DistilledPipe}
use Rattle.distill.specs.Mesh.{links_at}
use Rattle.distill.specs.Modes.{parts_of}
use Rattle.distill.specs.Distilled.{IsKept}
use Rattle.distill.specs.PipeCount.{HasPairCount}
use Rattle.distill.specs.Laws.{OnePipeCount, PipesAreCounted}
use Rattle.distill.proofs.Distinct.{distinct_as_long}
use Rattle.distill.proofs.MadePipes.{length-AllZip}
use Rattle.distill.proofs.SortedMesh.{length-mesh}

-- two full lists of the pairs, each pair once, are as long
one_pair_count : (arcs : List Arc) (border : List ℕ) (m n : ℕ) → HasPairCount arcs border m → HasPairCount arcs border n → m ≡ n
one_pair_count arcs border m n first second =
    first.count_is
    ∙ distinct_as_long first.pairs second.pairs first.are.once second.are.once (λ p there. second.are.all p (first.are.each p there))
    (λ p there. first.are.all p (second.are.each p there))
    ∙ sym second.count_is

pub one_pipe_count : OnePipeCount
one_pipe_count t mode m n first second =
    let same = one_pair_count _ _ first.mesh_count second.mesh_count first.mesh second.mesh in
    omega (arith, first.sum, second.sum, same)

pub pipes_are_counted : PipesAreCounted
pipes_are_counted t mode tick_ns n d is count =
    let parts : PartsView = parts_of t mode in
    let pipes : List DistilledPipe = d.pipes in
    let made = is.pipes in
    let kept : length parts.kept ≡ length (take (length parts.kept) pipes) = sym (length-map parts.kept (link_at t.links))
    ∙ length-AllZip (IsKept tick_ns) (links_at t.links parts.kept) (take (length parts.kept) pipes) made.kept in
    let mesh : length (drop (length parts.kept) pipes) ≡ count.mesh_count =
    length-mesh tick_ns (links_at t.links parts.middle) parts.border
    (drop (length parts.kept) pipes) count.mesh_count made.mesh count.mesh in
    let whole : length (take (length parts.kept) pipes) + length (drop (length parts.kept) pipes) ≡ length pipes =
    sym (length-append (take (length parts.kept) pipes) (drop (length parts.kept) pipes))
    ∙ ap length (take-append-drop (length parts.kept) pipes) in
    omega (arith, kept, mesh, whole, count.sum)
