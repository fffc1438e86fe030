use Rattle.std.proofs.Common.{◌≡◌, ◌++◌, All, ℕ, List, length, ap, subst, ◌∙◌, arith, rules}
use Rattle.std.specs.List.{AllZip}
use Rattle.std.proofs.lemmas.List.{length-map}
use Rattle.topo.specs.declared.parts.Link.{Link}
use Rattle.topo.specs.Topologies.{IsLink}
use Rattle.routes.specs.GraphView.{GraphView}
use Rattle.walk_out.specs.Parts.{PartsView, link_at}
use Rattle.distill.specs.declared.pipes.DistilledPipe.{DistilledPipe}
use Rattle.distill.specs.Distilled.{IsKept}
use Rattle.distill.specs.Mesh.{arcs_of, links_at, IsMesh}
use Rattle.distill.specs.PipeCount.{HasPairCount}
use Rattle.distill.proofs.MadePipes.{AreMade, are_pipes, made_count, made_among}
use Rattle.distill.proofs.distilling.pipes_over.Goals as goal

-- What was made of the links at hand was made of the parts, since these links and this border are theirs.
pub returns : goal.returns
returns c =
    let links = c.args.topology.now.links in
    let parts = c.args.parts.now in
    let kept = c.in_ok-pipes.pipes.items in
    let mesh = c.in_ok-mesh.mesh.items in
    let border_is = ap (λ (p : PartsView). p.border) c.parts.view_is in
    let mesh_border : c.deref-2.result.now ≡ parts.border = c.deref-2.ensures.value ∙ border_is in
    let count_border : c.deref.result.now ≡ parts.border = c.deref.ensures.value ∙ border_is in
    let arcs_are : c.in_ok-incoming.incoming.arcs ≡ arcs_of c.args.middle.now =
    ap (λ (g : GraphView). g.arcs) c.in_ok-incoming.ensures ∙ c.in_ok-graph.ensures.arcs in
    let made : AreMade c.args.tick_ns links parts kept mesh c.extend_from_slice.new.self.items = record {
      kept_are = subst (λ (ls : List Link). AllZip (IsKept c.args.tick_ns) ls kept) c.requires.kept.are c.in_ok-pipes.ensures;
      mesh_is =
          subst (λ (b : List ℕ). IsMesh c.args.tick_ns (links_at links parts.middle) b mesh) mesh_border
          (subst (λ (ls : List Link). IsMesh c.args.tick_ns ls c.deref-2.result.now mesh) c.requires.middle.are c.in_ok-mesh.ensures);
      pipes_are = c.in_ok-extend_from_slice.ensures.items ∙ ap (λ (ps : List DistilledPipe). kept ++ ps) c.deref-3.ensures.value;
    } in
    let counted : HasPairCount (arcs_of (links_at links parts.middle)) parts.border c.in_ok-count.field-0 =
    subst (λ (b : List ℕ). HasPairCount (arcs_of (links_at links parts.middle)) b c.in_ok-count.field-0) count_border
    (subst (λ arcs. HasPairCount arcs c.deref.result.now c.in_ok-count.field-0)
    (arcs_are ∙ ap arcs_of c.requires.middle.are) c.in_ok-count.ensures.counted) in
    let total = made_count made counted in
    record {
      pipes = are_pipes made;
      count = record { mesh_count = c.in_ok-count.field-0; mesh = counted; sum = total };
      few = omega (arith, total, c.if-count.false, ap length c.requires.kept.are, length-map parts.kept (link_at links));
      below = made_among (length c.args.topology.now.nodes) made
          (subst (All (IsLink (length c.args.topology.now.nodes))) c.requires.kept.are c.requires.kept.hold) c.requires.parts.border;
      too_many = search rules;
    }
