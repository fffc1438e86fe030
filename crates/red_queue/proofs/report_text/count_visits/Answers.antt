use Rattle.std.proofs.Common.{arith}
use Rattle.red_queue.proofs.Reports.{all-room, all-next}
use Rattle.red_queue.proofs.report_text.count_visits.Goals as goal

pub count_visit-requires : goal.count_visit-requires
count_visit-requires c =
    all-room c.args.visits.now c.args.pipes c.loop-visit.visit-index c.loop-visit.all_counts.items c.loop-visit-test.true
    (omega (arith, c.loop-visit.auto.visit-index-end)) c.loop-visit.invariant

pub loop-visit-preserved : goal.loop-visit-preserved
loop-visit-preserved c =
    all-next c.args.visits.now c.args.pipes c.loop-visit.visit-index _ c.loop-visit.all_counts.items c.count_visit.new.all_counts.items
    c.loop-visit-test.true c.loop-visit.invariant c.count_visit.ensures
