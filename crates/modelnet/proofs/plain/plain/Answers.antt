use Rattle.std.proofs.Common.{subst}
use Rattle.modelnet.specs.TheCommands.{usual_limits}
use Rattle.mn_words.specs.Words.{texts}
use Rattle.modelnet.specs.Answers.{Answers, plainly_ordered}
use Rattle.modelnet.proofs.Sound.{is_exact}
use Rattle.modelnet.proofs.plain.plain.Goals as goal

pub returns-clause-exact : goal.returns-clause-exact
returns-clause-exact g c =
    let asked = plainly_ordered (texts c.args.words.now) in
    let old = g.H.Host.part c.args.host.now in
    let new = g.H.Host.part c.plain_within.new.host in
    is_exact usual_limits asked old new c.plain_within.result
    (subst (λ limits. Answers limits asked old new c.plain_within.result) c.usual_limits-limits.ensures c.plain_within.ensures.answers)
