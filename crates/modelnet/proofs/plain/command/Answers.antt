use Rattle.std.proofs.Common.{◌≡◌}
use Rattle.modelnet.proofs.plain.command.Goals as goal

pub returns-in-Rehearse-clause-tally : goal.returns-in-Rehearse-clause-tally
returns-in-Rehearse-clause-tally g c = rw (c.in-Rehearse.is, c.ended-in-Rehearse.ensures) c.rehearse.ensures.tally

pub returns-in-Workload-clause-tally : goal.returns-in-Workload-clause-tally
returns-in-Workload-clause-tally g c = rw (c.in-Workload.is, c.ended-in-Workload.ensures) c.summarise.ensures.tally
