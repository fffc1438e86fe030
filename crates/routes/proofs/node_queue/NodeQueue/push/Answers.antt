use Rattle.std.proofs.Common.{List, subst, ◌↔◌, ◌⊎◌, ◌≡◌}
use Rattle.mn_base.specs.Among.{Among}
use Rattle.routes.specs.NodeQueue.{Entry}
use Rattle.routes.proofs.Entries.{among_pushed}
use Rattle.routes.proofs.node_queue.NodeQueue.push.Goals as goal

pub returns : goal.returns
returns c =
    subst
    (λ (old : List Entry). (k : Entry) → Among k c.insert.new.self.keys ↔ ((c.args.entry ≡ k) ⊎ Among k old))
    c.self.view_is
    (among_pushed c.self.inside.entries.keys c.insert.new.self.keys c.args.entry c.in_ok-insert.ensures.updates.0)
