use Rattle.std.proofs.Common.{sym, ◌∙◌}
use Rattle.mn_words.specs.Words.{texts}
use Rattle.modelnet.specs.Answers.{plainly_ordered}
use Rattle.modelnet.proofs.Plainly.{wants_no_threads, others_stay}
use Rattle.modelnet.proofs.Sound.{is_answered}
use Rattle.modelnet.proofs.plain.plain_within.Goals as goal

pub command-requires-clause-plain : goal.command-requires-clause-plain
command-requires-clause-plain g c =
    wants_no_threads (texts c.args.words.now) c.in-Ok.order (sym c.asks_to_emulate.ensures ∙ c.if-asks_to_emulate.false) c.in-Ok.ensures.order

pub returns-in-Ok-clause-answers : goal.returns-in-Ok-clause-answers
returns-in-Ok-clause-answers g c =
    let is = others_stay (texts c.args.words.now) (sym c.asks_to_emulate.ensures ∙ c.if-asks_to_emulate.false) in
    is_answered c.args.limits.now (plainly_ordered (texts c.args.words.now)) (g.H.Host.part c.args.host.now)
    (g.H.Host.part c.command.new.host) c.command.result c.in-Ok.order (is ∙ c.in-Ok.ensures.order) c.command.ensures.answered
