-- A topology has one distilled topology in a mode: the kept links and the least walks give each pipe its values, and the order of the mesh
-- gives it its number.
use Rattle.std.proofs.Common.{◌≡◌, ℕ, suc, ◌≤◌, inl, inr, List, [], ◌∷◌, ◌++◌, length, take, drop, AllPairs, refl, sym, ap, ◌∙◌, subst, arith}
use Rattle.std.specs.List.{AllZip}
use Rattle.std.proofs.Math.Bridge.{le_prop}
use Rattle.std.proofs.lemmas.List.{take-append-drop}
use Rattle.mn_base.specs.declared.params.PipeParams.{PipeParams}
use Rattle.mn_base.specs.declared.limits.TheConstants.{PIPE_LATENCY_US_MAX, PIPE_LATENCY_TICKS_MAX, KEEP_MAX}
use Rattle.mn_base.specs.Ranges.{IsBandwidth, IsQueueLimit}
use Rattle.mn_base.specs.Params.{IsParamsOf}
use Rattle.mn_base.specs.Among.{Among}
use Rattle.mn_base.proofs.Members.{All-Among}
use Rattle.topo.specs.declared.parts.Link.{Link}
use Rattle.walk_out.specs.Parts.{PartsView}
use Rattle.routes.specs.LeastWalk.{IsLeastWalk}
use Rattle.routes.proofs.OneLeastWalk.{one_least_walk}
use Rattle.distill.specs.declared.pipes.DistilledPipe.{DistilledPipe}
use Rattle.distill.specs.Combination.{StandsFor}
use Rattle.distill.specs.Mesh.{arcs_of, links_at, StandsForLeast, ComesBefore, IsMesh}
use Rattle.distill.specs.Modes.{parts_of}
use Rattle.distill.specs.Distilled.{DistilledView, IsKept, ArePipesOfParts}
use Rattle.distill.specs.Laws.{OneDistilled}

-- ---- parameters
-- two proofs that a number lies between two others are one
one_range : {a b c d : ℕ} (x y : (a ≤ b) × (c ≤ d)) → x ≡ y
one_range x y = ap (λ l. (l, x.1)) (le_prop x.0 y.0) ∙ ap (λ r. (y.0, r)) (le_prop x.1 y.1)

-- parameters with another number in one field, where it is the same
with_bps : (p : PipeParams) (n : ℕ) → p.bps ≡ n → (range : IsBandwidth n) → p ≡ record p { bps = n; bandwidth = range }
with_bps p n same = subst (λ k. (range : IsBandwidth k) → p ≡ record p { bps = k; bandwidth = range }) same
    (λ range. ap (λ r. record p { bandwidth = r }) (one_range p.bandwidth range))

with_us : (p : PipeParams) (n : ℕ) → p.latency_us ≡ n → (range : n ≤ PIPE_LATENCY_US_MAX)
    → p ≡ record p { latency_us = n; latency = range }
with_us p n same = subst (λ k. (range : k ≤ PIPE_LATENCY_US_MAX) → p ≡ record p { latency_us = k; latency = range }) same
    (λ range. ap (λ r. record p { latency = r }) (le_prop p.latency range))

with_ticks : (p : PipeParams) (n : ℕ) → p.latency_ticks ≡ n → (range : (1 ≤ n) × (n ≤ PIPE_LATENCY_TICKS_MAX))
    → p ≡ record p { latency_ticks = n; delays = range }
with_ticks p n same = subst
    (λ k. (range : (1 ≤ k) × (k ≤ PIPE_LATENCY_TICKS_MAX)) → p ≡ record p { latency_ticks = k; delays = range }) same
    (λ range. ap (λ r. record p { delays = r }) (one_range p.delays range))

with_queue : (p : PipeParams) (n : ℕ) → p.queue ≡ n → (range : IsQueueLimit n) → p ≡ record p { queue = n; places = range }
with_queue p n same = subst (λ k. (range : IsQueueLimit k) → p ≡ record p { queue = k; places = range }) same
    (λ range. ap (λ r. record p { places = r }) (one_range p.places range))

with_keep : (p : PipeParams) (n : ℕ) → p.keep ≡ n → (range : n ≤ KEEP_MAX) → p ≡ record p { keep = n; keeps = range }
with_keep p n same = subst (λ k. (range : k ≤ KEEP_MAX) → p ≡ record p { keep = k; keeps = range }) same
    (λ range. ap (λ r. record p { keeps = r }) (le_prop p.keeps range))

-- what parameters are made from decides them
pub one_params : (tick_ns bps us queue keep : ℕ) (p q : PipeParams) → IsParamsOf tick_ns bps us queue keep p
    → IsParamsOf tick_ns bps us queue keep q → p ≡ q
one_params tick_ns bps us queue keep p q is also =
    let a = record p { bps = q.bps; bandwidth = q.bandwidth } in
    let b = record a { latency_us = q.latency_us; latency = q.latency } in
    let c = record b { latency_ticks = q.latency_ticks; delays = q.delays } in
    let d = record c { queue = q.queue; places = q.places } in
    with_bps p q.bps (is.bps ∙ sym also.bps) q.bandwidth
    ∙ with_us a q.latency_us (is.latency_us ∙ sym also.latency_us) q.latency
    ∙ with_ticks b q.latency_ticks (is.latency_ticks ∙ sym also.latency_ticks) q.delays
    ∙ with_queue c q.queue (is.queue ∙ sym also.queue) q.places
    ∙ with_keep d q.keep (is.keep ∙ sym also.keep) q.keeps

-- ---- pipes
unfoldable pipe_of : ℕ → ℕ → PipeParams → ℕ → DistilledPipe
pipe_of from to params links = record { from = from; to = to; params = params; links = links }

same_fields : (p q : DistilledPipe) → p.from ≡ q.from → p.to ≡ q.to → p.params ≡ q.params → p.links ≡ q.links
    → pipe_of p.from p.to p.params p.links ≡ pipe_of q.from q.to q.params q.links
same_fields p q from to params links = cc

-- the walk that a pipe stands for decides it
one_pipe : (tick_ns a b : ℕ) (walk : List Link) (p q : DistilledPipe) → StandsFor tick_ns a b walk p → StandsFor tick_ns a b walk q → p ≡ q
unfolding pipe_of
one_pipe tick_ns a b walk p q is also =
    same_fields p q (is.from ∙ sym also.from) (is.to ∙ sym also.to) (one_params _ _ _ _ _ p.params q.params is.params also.params)
    (is.links ∙ sym also.links)

kept_pipes : (tick_ns : ℕ) (links : List Link) (ps qs : List DistilledPipe) → AllZip (IsKept tick_ns) links ps
    → AllZip (IsKept tick_ns) links qs → ps ≡ qs
kept_pipes tick_ns [] [] [] is also = refl
kept_pipes tick_ns [] [] (q ∷ qs) is also = absurd also
kept_pipes tick_ns [] (p ∷ ps) qs is also = absurd is
kept_pipes tick_ns (l ∷ links) [] qs is also = absurd is
kept_pipes tick_ns (l ∷ links) (p ∷ ps) [] is also = absurd also
kept_pipes tick_ns (l ∷ links) (p ∷ ps) (q ∷ qs) is also =
    ap (λ r. r ∷ ps) (one_pipe tick_ns l.from l.to (l ∷ []) p q is.0 also.0) ∙ ap (λ rs. q ∷ rs) (kept_pipes tick_ns links ps qs is.1 also.1)

-- ---- the mesh
-- the first pipe comes before each later one, and the later ones are in order
later : (p : DistilledPipe) (ps : List DistilledPipe) → AllPairs ComesBefore (p ∷ ps) → (q : DistilledPipe) → Among q ps → ComesBefore p q
later p ps up q there = All-Among (ComesBefore p) q ps (λ i d within. up 0 (suc i) d (omega arith) (omega arith)) there

behind : (p : DistilledPipe) (ps : List DistilledPipe) → AllPairs ComesBefore (p ∷ ps) → AllPairs ComesBefore ps
behind p ps up = λ i j d lt within. up (suc i) (suc j) d (omega arith) (omega arith)

never_both : (p q : DistilledPipe) → ComesBefore p q → ComesBefore q p → ⊥
never_both p q (inl less) (inl more) = absurd (omega arith)
never_both p q (inl less) (inr even) = absurd (let h = even.0 in omega arith)
never_both p q (inr even) (inl more) = absurd (let h = even.0 in omega arith)
never_both p q (inr even) (inr level) = absurd (let h = even.1 in let k = level.1 in omega arith)

-- two lists in this order that have the same pipes are one
one_order : (ps qs : List DistilledPipe) → AllPairs ComesBefore ps → AllPairs ComesBefore qs
    → ((p : DistilledPipe) → Among p ps → Among p qs) → ((p : DistilledPipe) → Among p qs → Among p ps) → ps ≡ qs
one_order [] [] up also there back = refl
one_order [] (q ∷ qs) up also there back = absurd (back q (inl refl))
one_order (p ∷ ps) [] up also there back = absurd (there p (inl refl))
one_order (p ∷ ps) (q ∷ qs) up also there back =
    let first = same_first (there p (inl refl)) (back q (inl refl)) in
    ap (λ r. r ∷ ps) first
    ∙ ap (λ rs. q ∷ rs) (one_order ps qs (behind p ps up) (behind q qs also)
    (λ r on. others qs p q first r (later p ps up r on) (there r (inr on)))
    (λ r on. others ps q p (sym first) r (later q qs also r on) (back r (inr on))))
  where
    same_first : Among p (q ∷ qs) → Among q (p ∷ ps) → p ≡ q
    same_first (inl same) on = sym same
    same_first (inr one) (inl same) = same
    same_first (inr one) (inr other) = absurd (never_both p q (later p ps up q other) (later q qs also p one))

    others : (rs : List DistilledPipe) (a b : DistilledPipe) → a ≡ b → (r : DistilledPipe) → ComesBefore a r → Among r (b ∷ rs) → Among r rs
    others rs a b same r before (inl here) =
        let itself : ComesBefore a a = subst (λ (z : DistilledPipe). ComesBefore a z) (sym (same ∙ here)) before in
        absurd (never_both a a itself itself)
    others rs a b same r before (inr on) = on

-- each pipe of one mesh is one of the other: it joins the same nodes, and there is one least walk
in_other : (tick_ns : ℕ) (middle : List Link) (border : List ℕ) (ps qs : List DistilledPipe) → IsMesh tick_ns middle border ps
    → IsMesh tick_ns middle border qs → (p : DistilledPipe) → Among p ps → Among p qs
in_other tick_ns middle border ps qs is also p on =
    let found = also.all p.from p.to (is.pairs p on) in
    subst (λ (r : DistilledPipe). Among r qs) (sym (same found.0 found.2 found.3 (is.least p on) (also.least found.0 found.1))) found.1
  where
    same : (q : DistilledPipe) → q.from ≡ p.from → q.to ≡ p.to → StandsForLeast tick_ns middle p → StandsForLeast tick_ns middle q → p ≡ q
    same q from to own other =
        let moved : StandsForLeast tick_ns middle q = other in
        let walk : own.walk ≡ other.walk = one_least_walk (arcs_of middle) p.from p.to own.walk other.walk own.least
        (subst (λ (n : ℕ). IsLeastWalk (arcs_of middle) n p.to other.walk) from
        (subst (λ (n : ℕ). IsLeastWalk (arcs_of middle) q.from n other.walk) to other.least)) in
        one_pipe tick_ns p.from p.to (links_at middle own.walk) p q own.stands
        (subst (λ (w : List ℕ). StandsFor tick_ns p.from p.to (links_at middle w) q) (sym walk)
        (subst (λ (n : ℕ). StandsFor tick_ns n p.to (links_at middle other.walk) q) from
        (subst (λ (n : ℕ). StandsFor tick_ns q.from n (links_at middle other.walk) q) to other.stands)))

one_mesh : (tick_ns : ℕ) (middle : List Link) (border : List ℕ) (ps qs : List DistilledPipe) → IsMesh tick_ns middle border ps
    → IsMesh tick_ns middle border qs → ps ≡ qs
one_mesh tick_ns middle border ps qs is also =
    one_order ps qs is.in_order also.in_order (in_other tick_ns middle border ps qs is also) (in_other tick_ns middle border qs ps also is)

-- ---- the whole
one_pipes : (tick_ns : ℕ) (links : List Link) (parts : PartsView) (ps qs : List DistilledPipe) → ArePipesOfParts tick_ns links parts ps
    → ArePipesOfParts tick_ns links parts qs → ps ≡ qs
one_pipes tick_ns links parts ps qs is also =
    let k = length parts.kept in
    sym (take-append-drop k ps)
    ∙ ap (λ front. front ++ drop k ps) (kept_pipes tick_ns (links_at links parts.kept) (take k ps) (take k qs) is.kept also.kept)
    ∙ ap (λ back. take k qs ++ back) (one_mesh tick_ns (links_at links parts.middle) parts.border (drop k ps) (drop k qs) is.mesh also.mesh)
    ∙ take-append-drop k qs

unfoldable view_of : ℕ → List ℕ → List DistilledPipe → DistilledView
view_of nodes edge_nodes pipes = record { nodes = nodes; edge_nodes = edge_nodes; pipes = pipes }

same_views : (d e : DistilledView) → d.nodes ≡ e.nodes → d.edge_nodes ≡ e.edge_nodes → d.pipes ≡ e.pipes
    → view_of d.nodes d.edge_nodes d.pipes ≡ view_of e.nodes e.edge_nodes e.pipes
same_views d e nodes edge_nodes pipes = cc

pub one_distilled : OneDistilled
unfolding view_of
one_distilled t mode tick_ns d e is also =
    same_views d e (is.nodes ∙ sym also.nodes) (is.edge_nodes ∙ sym also.edge_nodes)
    (one_pipes tick_ns t.links (parts_of t mode) d.pipes e.pipes is.pipes also.pipes)
