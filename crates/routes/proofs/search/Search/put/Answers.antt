use Rattle.std.proofs.Common.{refl, ◌≡◌, ◌⊎◌, ◌↔◌, subst}
use Rattle.mn_base.specs.Among.{Among}
use Rattle.routes.specs.NodeQueue.{Entry}
use Rattle.routes.proofs.search.Search.put.Goals as goal

pub returns : goal.returns
returns c =
    record {
      destination = refl;
      settled = refl;
      labels = refl;
      queue =
          subst
          (λ (e : Entry). (k : Entry) → Among k c.push.new.self ↔ ((e ≡ k) ⊎ Among k c.args.self.now.queue))
          c.entry.ensures
          c.in_ok-push.ensures;
    }
