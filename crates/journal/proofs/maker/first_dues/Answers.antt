use Rattle.std.proofs.Common.{arith, ap, ◌∙◌, length}
use Rattle.journal.specs.SetupView.{SetupView}
use Rattle.journal.proofs.FewVisits.{few_packets}
use Rattle.journal.proofs.HeldFirst.{held_from-entered, held-same}
use Rattle.journal.proofs.maker.first_dues.Goals as goal

pub overflow_cast-index-end : goal.overflow_cast-index-end
overflow_cast-index-end c =
    let same = ap (λ (s : SetupView). length s.packets) (c.behind-setup.view_is ∙ c.parts.ensures.same) in
    omega (arith, same, few_packets c.args.setup.now c.parts.ensures.kept)

pub returns-clause-held : goal.returns-clause-held
returns-clause-held c =
    let same = ap (λ (s : SetupView). length s.packets) (c.behind-setup.view_is ∙ c.parts.ensures.same) in
    held-same c.args.setup.now c.loop-index.firsts.items c.of_firsts.result c.of_firsts.ensures
    (held_from-entered c.args.setup.now c.loop-index.index c.loop-index.firsts.items c.loop-index.invariant.entered (omega (arith, same)))
