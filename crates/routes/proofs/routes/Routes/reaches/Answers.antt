use Rattle.routes.proofs.Way.{reads, reads_own, reached_iff, least_iff}
use Rattle.routes.proofs.routes.Routes.reaches.Goals as goal

pub returns-clause-walk : goal.returns-clause-walk
returns-clause-walk c =
    let own = reads_own (reads c.index.result.now c.self.invariant c.self.view_is c.requires c.index.ensures) in
    rw (c.is_some.ensures, ← c.self.view_is) (reached_iff c.args.source c.index.result.now c.self.invariant own)

pub returns-clause-least : goal.returns-clause-least
returns-clause-least c =
    let own = reads_own (reads c.index.result.now c.self.invariant c.self.view_is c.requires c.index.ensures) in
    rw (c.is_some.ensures, ← c.self.view_is) (least_iff c.args.source c.index.result.now c.self.invariant own)
