use Rattle.std.proofs.Common.{◌≡◌}
use Rattle.modelnet.proofs.top.any_command.Goals as goal

pub returns-clause-tally : goal.returns-clause-tally
returns-clause-tally g c = rw (c.in-Emulate.is, c.ended.ensures) c.emulate.ensures.tally
