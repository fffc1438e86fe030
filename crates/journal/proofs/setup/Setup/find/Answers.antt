use Rattle.std.proofs.Common.{◌≡◌, ap, ◌∙◌}
use Rattle.journal.specs.SetupView.{SetupView}
use Rattle.journal.proofs.Numbers.{found_at}
use Rattle.journal.proofs.setup.Setup.find.Goals as goal

pub returns-then-packets-index : goal.returns-then-packets-index
returns-then-packets-index c =
    let same : c.as_slice-packets.result.now ≡ c.args.self.now.packets =
    c.as_slice-packets.ensures.value ∙ ap (λ (s : SetupView). s.packets) (c.behind-self.view_is ∙ c.parts.ensures.same) in
    found_at c.args.self.now c.parts.ensures.kept c.as_slice-packets.result.now c.args.number c.args.number _ same
    c.if-index-packets.true c.if-packets-index.true
