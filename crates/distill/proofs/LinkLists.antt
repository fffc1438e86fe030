-- Lists of links as arcs, and pipes for links one by one.
use Rattle.std.proofs.Common.{◌≡◌, ℕ, ◌<◌, ◌+◌, List, [], ◌∷◌, ◌++◌, length, take, get_or, All, sym, subst, arith}
use Rattle.std.specs.List.{AllZip}
use Rattle.std.proofs.lemmas.List.{take_more, length-map}
use Rattle.std.proofs.lemmas.List.Elements.{All-map, All-get_or}
use Rattle.topo.specs.declared.parts.Link.{Link}
use Rattle.topo.specs.Topologies.{IsLink}
use Rattle.routes.specs.GraphView.{IsArcAmong}
use Rattle.walk_out.specs.Parts.{no_link, link_at}
use Rattle.distill.specs.declared.pipes.DistilledPipe.{DistilledPipe}
use Rattle.distill.specs.Distilled.{IsKept}
use Rattle.distill.specs.Mesh.{arc_of, arcs_of, links_at}

-- a link of a topology is an arc of a graph within its limits
pub arc_is_among : (nodes : ℕ) (l : Link) → IsLink nodes l → IsArcAmong nodes (arc_of l)
arc_is_among nodes l is = record { from = is.leaves; to = is.enters; weight = omega (arith, is.values.latency) }

pub arcs_are_among : (nodes : ℕ) (links : List Link) → All (IsLink nodes) links → All (IsArcAmong nodes) (arcs_of links)
arcs_are_among nodes links all = All-map (IsArcAmong nodes) arc_of links (λ i d within. arc_is_among nodes (get_or links i d) (all i d within))

-- a pair more after two lists that agree
pub AllZip-push : {A B : Type 0} (R : A → B → Type 0) (xs : List A) (ys : List B) (x : A) (y : B) → AllZip R xs ys → R x y
    → AllZip R (xs ++ x ∷ []) (ys ++ y ∷ [])
AllZip-push R [] [] x y all here = (here, tt)
AllZip-push R [] (z ∷ ys) x y all here = absurd all
AllZip-push R (z ∷ xs) [] x y all here = absurd all
AllZip-push R (z ∷ xs) (w ∷ ys) x y all here = (all.0, AllZip-push R xs ys x y all.1 here)

-- the pipe of one link more
pub kept_more : (tick_ns : ℕ) (links : List Link) (pipes : List DistilledPipe) {pipes' : List DistilledPipe} (i : ℕ) (d : Link)
    {pipe : DistilledPipe} → i < length links
    → AllZip (IsKept tick_ns) (take i links) pipes → IsKept tick_ns (get_or links i d) pipe → pipes' ≡ pipes ++ pipe ∷ []
    → AllZip (IsKept tick_ns) (take (i + 1) links) pipes'
kept_more tick_ns links pipes {pipes'} i d {pipe} within all here pushed =
    subst (λ ps. AllZip (IsKept tick_ns) (take (i + 1) links) ps) (sym pushed)
    (subst (λ ls. AllZip (IsKept tick_ns) ls (pipes ++ pipe ∷ [])) (sym (take_more links i d within))
    (AllZip-push (IsKept tick_ns) (take i links) pipes (get_or links i d) pipe all here))

-- what holds of each link holds of those of any numbers
pub All-links_at : (P : Link → Type 0) (links : List Link) (numbers : List ℕ) → All P links → All (λ e. e < length links) numbers
    → All P (links_at links numbers)
All-links_at P links numbers all within =
    All-map P (link_at links) numbers (λ i d below. All-get_or P links (get_or numbers i d) no_link (within i d below) all)

pub length-arcs_of : (links : List Link) → length (arcs_of links) ≡ length links
length-arcs_of links = length-map links arc_of
