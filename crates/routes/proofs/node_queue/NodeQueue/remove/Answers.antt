use Rattle.std.proofs.Common.{List, subst, ◌↔◌, ◌≢◌}
use Rattle.mn_base.specs.Among.{Among}
use Rattle.routes.specs.NodeQueue.{Entry}
use Rattle.routes.proofs.Entries.{among_removed}
use Rattle.routes.proofs.node_queue.NodeQueue.remove.Goals as goal

pub returns : goal.returns
returns c =
    subst
    (λ (old : List Entry). (k : Entry) → Among k c.remove.new.self.keys ↔ (Among k old × (k ≢ c.args.entry)))
    c.self.view_is
    (among_removed c.self.inside.entries.keys c.remove.new.self.keys c.args.entry c.remove.ensures.updates.0)
