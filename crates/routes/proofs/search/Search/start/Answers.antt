use Rattle.std.proofs.Common.{ℕ, List, Option, None, Some, false, inl, inr, replicate, set, subst, ap, ◌≡◌, rules}
use Rattle.mn_base.specs.Among.{Among}
use Rattle.routes.specs.declared.label.Label.{Label}
use Rattle.routes.specs.NodeQueue.{Entry}
use Rattle.routes.specs.Table.{home}
use Rattle.routes.proofs.Starting.{started}
use Rattle.routes.proofs.search.Search.start.Goals as goal

pub returns-clause-started : goal.returns-clause-started
returns-clause-started c =
    started
    c.args.graph.now
    _
    (record {
      limits = c.nodes-nodes.ensures.limits;
      place = c.requires;
      labels =
          subst
          (λ (n : ℕ). set c.in_ok-labels.labels.items c.args.destination (Some home)
          ≡ set (replicate n None) c.args.destination (Some home))
          c.nodes-nodes.ensures.nodes
          (ap
          (λ (ls : List (Option Label)). set ls c.args.destination (Some home))
          (c.in_ok-labels.ensures.items_if_clones_equal (λ y same. search rules)));
      settled =
          subst
          (λ (n : ℕ). c.in_ok-settled.settled.items ≡ replicate n false)
          c.nodes-nodes.ensures.nodes
          (c.in_ok-settled.ensures.items_if_clones_equal (λ y same. same));
      queue = λ (k : Entry). (
        λ there.
            elim ((c.in_ok-push.ensures k).0 there) [
              | inl here ↦ here
              | inr never ↦ absurd (subst (λ ks. Among k ks) c.new-queue.ensures never)
            ],
        λ same. (c.in_ok-push.ensures k).1 (inl same),
      );
    })
