use Rattle.journal.proofs.Packets.{packet-short}
use Rattle.journal.proofs.steps.packet_len.Goals as goal

pub returns-clause-short : goal.returns-clause-short
returns-clause-short c = packet-short c.args.setup.now c.parts-parts.ensures.kept c.args.plan c.requires
