use Rattle.mn_words.specs.Words.{ordered, texts}
use Rattle.modelnet.proofs.Sound.{is_answered}
use Rattle.modelnet.proofs.top.modelnet_within.Goals as goal

pub returns-in-Ok-clause-answers : goal.returns-in-Ok-clause-answers
returns-in-Ok-clause-answers g c =
    is_answered c.args.limits.now (ordered (texts c.args.words.now)) (g.H.Host.part c.args.host.now) (g.H.Host.part c.any_command.new.host)
    c.any_command.result c.in-Ok.order c.in-Ok.ensures.order c.any_command.ensures.answered
