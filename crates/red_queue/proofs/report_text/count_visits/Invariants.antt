use Rattle.std.proofs.Common.{take}
use Rattle.red_queue.specs.Report.{AreCounts}
use Rattle.red_queue.proofs.report_text.count_visits.Given as goal

abbrev pub invariant-loop-visit : goal.invariant-loop-visit
invariant-loop-visit l = AreCounts (take l.visit-index l.visits) l.pipes l.all_counts.items
