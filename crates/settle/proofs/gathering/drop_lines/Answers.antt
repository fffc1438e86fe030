use Rattle.std.proofs.Common.{ap, filter_map, ◌∙◌}
use Rattle.std.specs.List.{zip}
use Rattle.journal.specs.SetupView.{SetupView}
use Rattle.journal.specs.Fates.{fate_of}
use Rattle.settle.specs.IsOutcome.{drop_of}
use Rattle.settle.proofs.Outcomes.{drops-beside}
use Rattle.settle.proofs.gathering.drop_lines.Goals as goal

pub returns : goal.returns
returns c =
    let S = c.args.setup.now in
    let packets = c.deref.ensures.value ∙ ap (λ (s : SetupView). s.packets) (c.behind-setup.view_is ∙ c.parts.ensures.same) in
    c.in_ok-lines.ensures
    ∙ ap (λ ps. filter_map (λ p. drop_of p.0.number p.1) (zip ps c.args.fates.now)) packets
    ∙ ap (λ fates. filter_map (λ p. drop_of p.0.number p.1) (zip S.packets fates)) c.requires
    ∙ drops-beside (fate_of S) S.packets
