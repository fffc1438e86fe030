use Rattle.std.proofs.Common.{◌≤◌, ◌<◌, length, All}
use Rattle.ownership.proofs.EntrySteps.{HasEntries}
use Rattle.ownership.proofs.entries.entries_of.Given as goal

-- the entry cores of the pipes from here on
abbrev pub invariant-pipes : goal.invariant-pipes
invariant-pipes l = record {
  most : l.pipe ≤ length l.pipes;
  entries : HasEntries l.distilled l.owners l.pipe l.entries.items;
  below : All (λ core. core < l.cores) l.entries.items;
}

abbrev pub decreases-pipes : goal.decreases-pipes
decreases-pipes l = l.pipe
