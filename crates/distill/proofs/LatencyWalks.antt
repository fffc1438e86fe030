-- Walks of the middle as walks of the topology, and back: the middle numbers its links anew, and keeps their ends and latencies.
use Rattle.std.proofs.Common.{◌≡◌, ℕ, zero, suc, ◌+◌, ◌<◌, ◌≤◌, List, [], ◌∷◌, length, get_or, All, inl, inr, refl, sym, ap, subst, ◌∙◌, arith}
use Rattle.std.specs.List.{range_with_len}
use Rattle.std.proofs.lemmas.Bool.{cases_eq}
use Rattle.std.proofs.lemmas.List.{get_or-map, length-map}
use Rattle.std.proofs.lemmas.List.Sums.{sum_by-cons}
use Rattle.mn_base.specs.Among.{Among}
use Rattle.mn_base.proofs.Members.{IndexOf, index_of}
use Rattle.topo.specs.declared.parts.Link.{Link}
use Rattle.routes.specs.declared.graph.Arc.{Arc}
use Rattle.routes.specs.Walk.{no_arc, arc_at, IsWalk, weight_of}
use Rattle.routes.specs.SameLatency.{HasArc, HasWalk}
use Rattle.walk_out.specs.Parts.{no_link, link_at}
use Rattle.distill.specs.declared.pipes.DistilledPipe.{DistilledPipe}
use Rattle.distill.specs.Combination.{us_along}
use Rattle.distill.specs.Mesh.{arc_of, links_at, arcs_of}
use Rattle.distill.specs.Latency.{arc_of_pipe, arcs_of_pipes}

-- the numbers below n are a range
pub Among-range : (a n v : ℕ) → a ≤ v → v < a + n → Among v (range_with_len a n)
Among-range a zero v low high = absurd (omega arith)
Among-range a (suc n) v low high =
    elim (cases_eq a v) [
      | inl here ↦ inl here
      | inr away ↦ inr (Among-range (a + 1) n v (omega arith) (omega arith))
    ]

-- the arc of a link's number
pub arc_at-links : (links : List Link) (e : ℕ) → e < length links → arc_at (arcs_of links) e ≡ arc_of (link_at links e)
arc_at-links links e low = get_or-map arc_of links e no_link no_arc low

-- the arc of an index of the middle is that of the link's number
pub arc_at-middle : (links : List Link) (numbers : List ℕ) (k e : ℕ) → k < length numbers → get_or numbers k 0 ≡ e → e < length links
    → arc_at (arcs_of (links_at links numbers)) k ≡ arc_at (arcs_of links) e
arc_at-middle links numbers k e within is low =
    let len : length (links_at links numbers) ≡ length numbers = length-map numbers (link_at links) in
    arc_at-links (links_at links numbers) k (omega arith)
    ∙ ap arc_of (get_or-map (link_at links) numbers k 0 no_link within ∙ ap (link_at links) is)
    ∙ sym (arc_at-links links e low)

-- one arc of the middle, and a walk of the topology from its end
middle_step : (links : List Link) (numbers : List ℕ) → All (λ e. e < length links) numbers
    → (a b k n : ℕ) → k < length (arcs_of (links_at links numbers)) → (arc_at (arcs_of (links_at links numbers)) k).from ≡ a
    → HasWalk (arcs_of links) (arc_at (arcs_of (links_at links numbers)) k).to b n
    → HasWalk (arcs_of links) a b ((arc_at (arcs_of (links_at links numbers)) k).weight + n)
middle_step links numbers low a b k n below from rest =
    record {
      walk = get_or numbers k 0 ∷ rest.walk;
      joins = (
        (let h = e_low in let same = length-map links arc_of in omega arith),
        ap (λ (x : Arc). x.from) (sym same) ∙ from,
        subst (λ (x : Arc). IsWalk (arcs_of links) x.to b rest.walk) same rest.joins,
      );
      weight = (let first = ap (λ (x : Arc). x.weight) same in let more = rest.weight in omega arith);
    }
  where
    within : k < length numbers
    within =
        let is : length (arcs_of (links_at links numbers)) ≡ length (links_at links numbers) =
        length-map (links_at links numbers) arc_of in
        let len : length (links_at links numbers) ≡ length numbers = length-map numbers (link_at links) in
        omega arith

    e_low : get_or numbers k 0 < length links
    e_low = low k 0 within

    same : arc_at (arcs_of (links_at links numbers)) k ≡ arc_at (arcs_of links) (get_or numbers k 0)
    same = arc_at-middle links numbers k (get_or numbers k 0) within refl e_low

-- so a walk of the middle is a walk of the topology of the same latency
pub middle_walk : (links : List Link) (numbers : List ℕ) → All (λ e. e < length links) numbers
    → (a b : ℕ) (ks : List ℕ) → IsWalk (arcs_of (links_at links numbers)) a b ks
    → HasWalk (arcs_of links) a b (weight_of (arcs_of (links_at links numbers)) ks)
middle_walk links numbers low a b [] walk = record { walk = []; joins = walk; weight = refl }
middle_walk links numbers low a b (k ∷ ks) walk =
    middle_step
    links
    numbers
    low
    a
    b
    k
    (weight_of (arcs_of (links_at links numbers)) ks)
    walk.0
    walk.1
    (middle_walk links numbers low (arc_at (arcs_of (links_at links numbers)) k).to b ks walk.2)

-- the latency of links in a row is the weight of their walk
pub us_along-walk : (links : List Link) (a b : ℕ) (es : List ℕ) → IsWalk (arcs_of links) a b es
    → us_along (links_at links es) ≡ weight_of (arcs_of links) es
us_along-walk links a b [] walk = refl
us_along-walk links a b (e ∷ es) walk =
    let low : e < length links = (let h = walk.0 in let same = length-map links arc_of in omega arith) in
    let first : (arc_at (arcs_of links) e).weight ≡ (link_at links e).latency_us =
    ap (λ (x : Arc). x.weight) (arc_at-links links e low) in
    let split : us_along (links_at links (e ∷ es)) ≡ (link_at links e).latency_us + us_along (links_at links es) =
    sum_by-cons (λ (l : Link). l.latency_us) (link_at links e) (links_at links es) in
    let rest = us_along-walk links (arc_at (arcs_of links) e).to b es walk.2 in
    omega arith

-- a pipe of a list is an arc of it
pub pipe_arc : (pipes : List DistilledPipe) (pipe : DistilledPipe) (n : ℕ) → Among pipe pipes
    → (let params = pipe.params in params.latency_us) ≤ n → HasArc (arcs_of_pipes pipes) pipe.from pipe.to n
pipe_arc pipes pipe n there low =
    record {
      number = at.index;
      below = (let h = at.within in let same = length-map pipes arc_of_pipe in omega arith);
      from = ap (λ (x : Arc). x.from) is;
      to = ap (λ (x : Arc). x.to) is;
      weight = (let same = ap (λ (x : Arc). x.weight) is in omega arith);
    }
  where
    at : IndexOf pipe pipes
    at = index_of pipe pipes there

    is : arc_at (arcs_of_pipes pipes) (index_of pipe pipes there).index ≡ arc_of_pipe pipe
    is = get_or-map arc_of_pipe pipes at.index pipe no_arc at.within ∙ ap arc_of_pipe (at.here pipe)
