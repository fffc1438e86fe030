use Rattle.routes.proofs.NoNodeTwice.{no_node_twice, no_arc_twice, short}
use Rattle.routes.proofs.laws.least_walks_meet_no_node_twice.Goals as goal

pub returns-clause-nodes : goal.returns-clause-nodes
returns-clause-nodes c = λ arcs a b es own. no_node_twice arcs b a es own

pub returns-clause-arcs : goal.returns-clause-arcs
returns-clause-arcs c = λ arcs a b es own. no_arc_twice arcs b a es own

pub returns-clause-short : goal.returns-clause-short
returns-clause-short c = λ nodes arcs a b es all low own. short arcs b nodes a es all low own
