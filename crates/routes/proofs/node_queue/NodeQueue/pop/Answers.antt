use Rattle.std.proofs.Common.{List, subst, ◌↔◌, ◌≢◌, IfSome}
use Rattle.mn_base.specs.Among.{Among}
use Rattle.routes.specs.NodeQueue.{Entry, IsUpTo}
use Rattle.routes.proofs.Entries.{rest_of_pop, least_of_pop}
use Rattle.routes.proofs.node_queue.NodeQueue.pop.Goals as goal

pub returns-clause-rest : goal.returns-clause-rest
returns-clause-rest c =
    subst
    (λ (old : List Entry).
    IfSome c.pop_first.result (λ first. (k : Entry) → Among k c.pop_first.new.self.keys ↔ (Among k old × (k ≢ first))))
    c.self.view_is
    (rest_of_pop
    c.self.inside.entries.keys
    c.pop_first.new.self.keys
    c.pop_first.result
    c.pop_first.ensures.removal
    c.pop_first.ensures.all_above)

pub returns-clause-least : goal.returns-clause-least
returns-clause-least c =
    subst
    (λ (old : List Entry). IfSome c.pop_first.result (λ first. (k : Entry) → Among k old → IsUpTo first k))
    c.self.view_is
    (least_of_pop
    c.self.inside.entries.keys
    c.pop_first.new.self.keys
    c.pop_first.result
    c.pop_first.ensures.removal
    c.pop_first.ensures.all_above)
