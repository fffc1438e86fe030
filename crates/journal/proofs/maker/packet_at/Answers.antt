use Rattle.std.proofs.Common.{◌≡◌, List, length, slice_index_or, subst, refl, ap, ◌∙◌}
use Rattle.std.proofs.lemmas.Option.{slice_get_read}
use Rattle.journal.specs.declared.setup.PacketPlan.{PacketPlan}
use Rattle.journal.specs.SetupView.{SetupView}
use Rattle.journal.proofs.Packets.{among-get, packet-known}
use Rattle.journal.proofs.maker.packet_at.Goals as goal

pub returns-clause-known : goal.returns-clause-known
returns-clause-known c =
    let same = ap (λ (s : SetupView). s.packets) (c.behind-setup.view_is ∙ c.parts.ensures.same) in
    let read =
    subst (λ (ps : List PacketPlan). c.index.result.now ≡ slice_index_or ps c.args.index c.index.result.now) same c.index.ensures in
    packet-known c.args.setup.now c.parts.ensures.kept c.index.result.now
    (among-get c.args.setup.now.packets c.args.index c.index.result.now
    (slice_get_read c.args.setup.now.packets (length c.args.setup.now.packets) c.args.index c.index.result.now refl c.requires read))
