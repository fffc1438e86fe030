use Rattle.std.proofs.Common.{◌≡◌, ◌∙◌, Err, ap, subst, rules}
use Rattle.pcap_io.specs.Writing.{pcap_text}
use Rattle.mn_words.specs.Order.{ChainView}
use Rattle.modelnet.specs.Commands.{Answered, status_of}
use Rattle.modelnet.specs.Run.{SaysRun}
use Rattle.modelnet.specs.Statuses.{trace_refusal}
use Rattle.modelnet.specs.Writing.{writing_command, run_writings}
use Rattle.modelnet.proofs.ReplaySteps.{trace_stops, trace_refused, replay_ends}
use Rattle.modelnet.proofs.RunEnds.{renamed}
use Rattle.modelnet.proofs.chain_command.chain.Goals as goal

pub returns-in_err-trace : goal.returns-in_err-trace
returns-in_err-trace g c =
    let is : c.from_residual.result ≡ Err c.in_err-trace.field-0.0 = search rules in
    let order = c.args.order.now in
    rw is (trace_stops c.args.limits.now order.trace order.out order.report (SaysRun order) (g.H.Host.part c.args.host.now)
    (g.H.Host.part c.read_input.new.host) c.in_err-trace.field-0.0 c.as_str.result.now
    (c.as_str.ensures.lent ∙ ap (λ (o : ChainView). o.trace) c.order.view_is) c.in_err-trace.ensures.own c.in_err-trace.ensures.others)

pub returns-in_err-texts : goal.returns-in_err-texts
returns-in_err-texts g c =
    let is : c.from_residual-in_err-texts.result ≡ Err (trace_refusal c.in_err-texts.field-0.0) = search rules in
    let order = c.args.order.now in
    rw is (trace_refused c.args.limits.now order.trace order.out order.report (SaysRun order) c.in_ok-trace.trace
    (g.H.Host.part c.args.host.now) (g.H.Host.part c.read_input.new.host) c.in_err-texts.field-0.0
    (record {
      name = c.as_str.result.now;
      named = c.as_str.ensures.lent ∙ ap (λ (o : ChainView). o.trace) c.order.view_is;
      own = c.in_ok-trace.ensures.own;
      others = c.in_ok-trace.ensures.others;
    })
    c.in_err-texts.ensures.fault)

pub returns : goal.returns
returns g c =
    let order = c.args.order.now in
    let texts = c.in_ok-texts.texts in
    let mid = g.H.Host.part c.read_input.new.host in
    let new = g.H.Host.part c.write_texts.new.host in
    let status = status_of c.write_texts.result in
    replay_ends c.args.limits.now order.trace order.out order.report (SaysRun order) c.in_ok-trace.trace (pcap_text texts.out) texts.report
    (g.H.Host.part c.args.host.now) mid new status
    (record {
      name = c.as_str.result.now;
      named = c.as_str.ensures.lent ∙ ap (λ (o : ChainView). o.trace) c.order.view_is;
      own = c.in_ok-trace.ensures.own;
      others = c.in_ok-trace.ensures.others;
    })
    c.in_ok-texts.ensures.run
    (subst (λ k. Answered (writing_command (run_writings order.out order.report (pcap_text texts.out) texts.report k)) mid new status)
    c.in_ok-texts.ensures.nothing_shown
    (renamed c.as_str-2.result.now c.as_str-3.result.now order.out order.report (pcap_text texts.out) texts.report texts.screen mid new status
    (c.as_str-2.ensures.lent ∙ ap (λ (o : ChainView). o.out) c.order.view_is)
    (c.as_str-3.ensures.lent ∙ ap (λ (o : ChainView). o.report) c.order.view_is) c.write_texts.ensures.answered))
