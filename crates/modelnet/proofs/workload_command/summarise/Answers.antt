use Rattle.modelnet.proofs.WorkloadSteps.{summary_written, may_be_counted, stays_counted}
use Rattle.modelnet.proofs.workload_command.summarise.Goals as goal

pub returns-in_default-clause-tally : goal.returns-in_default-clause-tally
returns-in_default-clause-tally g c =
    let host = g.H.Host.part c.args.host.now in
    may_be_counted c.args.order.now c.in_ok-prepared.prepared.planned host host c.args.tally.now c.summarised.new.tally
    c.in_ok-prepared.ensures.plan c.in_default.ensures.may_count

pub returns-clause-answered : goal.returns-clause-answered
returns-clause-answered g c =
    summary_written c.args.order.now c.in_ok-prepared.prepared.planned c.in-Ok.summary c.as_slice.result.now
    (g.H.Host.part c.args.host.now) (g.H.Host.part c.write_output.new.host) c.write_output.result
    (record {
      plans = c.in_ok-prepared.ensures.plan;
      input = c.in_ok-prepared.prepared.input;
      input_is = c.in_ok-prepared.ensures.input;
      summary = c.in-Ok.ensures.summary;
    })
    c.as_slice.ensures.lent c.write_output.ensures.own c.write_output.ensures.others

pub returns-clause-tally : goal.returns-clause-tally
returns-clause-tally g c =
    stays_counted c.args.order.now c.in_ok-prepared.prepared.planned (g.H.Host.part c.args.host.now)
    (g.H.Host.part c.write_output.new.host) c.args.tally.now c.summarised.new.tally c.write_output.result
    c.in_ok-prepared.ensures.plan c.in-Ok.ensures.tally
