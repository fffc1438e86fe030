use Rattle.std.proofs.Common.{List, ap, ◌∙◌}
use Rattle.std.proofs.lemmas.List.{get_or_default}
use Rattle.journal.specs.declared.setup.PacketPlan.{PacketPlan}
use Rattle.journal.specs.SetupView.{SetupView}
use Rattle.parcel.specs.Owners.{owned_by}
use Rattle.parcel.proofs.LeastLatency.{packet_added, all_crossed}
use Rattle.parcel.proofs.crossed.crossed_of.Goals as goal

pub loop-packet-preserved : goal.loop-packet-preserved
loop-packet-preserved c =
    let plans : List PacketPlan = c.deref-packet-items.result.now in
    packet_added c.requires (record {
      same = c.deref-packet-items.ensures.value ∙ ap (λ (v : SetupView). v.packets) c.parts.view_is;
      within = c.loop-packet-test.true;
      read = get_or_default plans c.loop-packet.packet-index _ _ c.loop-packet-test.true;
    }) c.loop-packet.invariant c.walk-walked.ensures

pub returns : goal.returns
returns c =
    let same = c.deref-packet-items.ensures.value ∙ ap (λ (v : SetupView). v.packets) c.parts.view_is in
    all_crossed (owned_by c.args.parts.now c.args.owners.now) c.deref-packet-items.result.now same c.loop-packet.packet-index
    c.loop-packet-test.false c.loop-packet.crossed c.loop-packet.walked c.loop-packet.invariant
