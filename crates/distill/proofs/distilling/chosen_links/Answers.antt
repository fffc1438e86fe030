use Rattle.std.proofs.Common.{◌≡◌, ◌<◌, ◌≤◌, ℕ, List, All, length, ap, sym, subst, ◌∙◌, arith}
use Rattle.std.proofs.lemmas.List.{length-map}
use Rattle.std.proofs.lemmas.Result.{IfOk-weaker}
use Rattle.mn_base.specs.declared.limits.TheConstants.{LINKS_MAX}
use Rattle.topo.specs.declared.parts.Link.{Link}
use Rattle.topo.specs.Topologies.{IsLink}
use Rattle.topo.specs.TopologyView.{TopologyView}
use Rattle.walk_out.specs.Parts.{link_at}
use Rattle.distill.specs.Mesh.{links_at}
use Rattle.distill.specs.Sound.{AreChosen}
use Rattle.distill.proofs.LinkLists.{All-links_at}
use Rattle.distill.proofs.distilling.chosen_links.Goals as goal

-- What holds of each link of a topology holds of the links that were chosen, and there are as many as numbers.
are_chosen : (t : TopologyView) {lent chosen : List Link} {numbers : List ℕ} → lent ≡ t.links → chosen ≡ links_at lent numbers
    → All (IsLink (length t.nodes)) lent → length lent ≤ LINKS_MAX
    → All (λ e. e < length t.links) numbers → length numbers ≤ length t.links → AreChosen t numbers chosen
are_chosen t {lent} {chosen} {numbers} same is hold few within short =
    let are : chosen ≡ links_at t.links numbers = is ∙ ap (λ ls. links_at ls numbers) same in
    let all : All (IsLink (length t.nodes)) t.links = subst (All (IsLink (length t.nodes))) same hold in
    record {
      are = are;
      hold = subst (All (IsLink (length t.nodes))) (sym are) (All-links_at (IsLink (length t.nodes)) t.links numbers all within);
      few = omega (arith, ap length are, length-map numbers (link_at t.links), ap length same);
    }

pub returns : goal.returns
returns c =
    let t = c.args.topology.now in
    let numbers = c.args.numbers.now in
    let here = c.links.ensures in
    IfOk-weaker c.links_at.result (λ v. v.items ≡ links_at c.links.result.now numbers) (λ v. AreChosen t numbers v.items)
    (λ v is. are_chosen t here.lent is here.hold here.few c.requires.numbers c.requires.few)
    c.links_at.ensures
