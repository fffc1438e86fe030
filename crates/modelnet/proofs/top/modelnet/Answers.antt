use Rattle.std.proofs.Common.{subst}
use Rattle.mn_words.specs.Words.{ordered, texts}
use Rattle.modelnet.specs.Answers.{Answers}
use Rattle.modelnet.specs.TheCommands.{usual_limits}
use Rattle.modelnet.proofs.Sound.{is_exact}
use Rattle.modelnet.proofs.top.modelnet.Goals as goal

pub returns-clause-exact : goal.returns-clause-exact
returns-clause-exact g c =
    let asked = ordered (texts c.args.words.now) in
    let old = g.H.Host.part c.args.host.now in
    let new = g.H.Host.part c.modelnet_within.new.host in
    is_exact usual_limits asked old new c.modelnet_within.result
    (subst (λ limits. Answers limits asked old new c.modelnet_within.result) c.usual_limits-limits.ensures
    c.modelnet_within.ensures.answers)
