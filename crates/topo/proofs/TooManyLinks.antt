-- Edges of which a front gives too many links give too many.
use Rattle.std.proofs.Common.{◌≡◌, ◌<◌, ◌++◌, ℕ, Bool, List, length, take, get_or, ap, refl, arith, Option, Some, length-append}
use Rattle.std.proofs.lemmas.List.Folds.{length-flat_map-take}
use Rattle.std.proofs.lemmas.Bool.{lt-ltb}
use Rattle.mn_base.specs.declared.limits.TheConstants.{LINKS_MAX}
use Rattle.topo.specs.declared.parts.EdgeSpec.{EdgeSpec}
use Rattle.topo.specs.declared.parts.Link.{Link}
use Rattle.topo.specs.declared.faults.Many.TheVariants as many
use Rattle.topo.specs.declared.faults.TopoFault.TheVariants.{TooMany}
use Rattle.topo.specs.Links.{links_of, links_of_edge}
use Rattle.topo.specs.Faults.{link_count_fault}

-- links of a front with one edge more are too many: so are those of all edges, which are no fewer
pub too_many_links : (directed : Bool) (find : ℕ → Option ℕ) (edges : List EdgeSpec) (i : ℕ) (d : EdgeSpec)
    {before now : List Link} → i < length edges → before ≡ links_of directed find (take i edges)
    → now ≡ before ++ links_of_edge directed find (get_or edges i d)
    → LINKS_MAX < length now → link_count_fault directed find edges ≡ Some (TooMany many.Links)
too_many_links directed find edges i d {before} within so_far more many =
    let front = length-flat_map-take (links_of_edge directed find) edges i d within in
    let all : LINKS_MAX < length (links_of directed find edges) =
    omega (arith, ap length so_far, ap length more, length-append before (links_of_edge directed find (get_or edges i d))) in
    rw (lt-ltb LINKS_MAX (length (links_of directed find edges)) all) refl
