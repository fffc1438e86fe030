use Rattle.std.proofs.Common.{◌≡◌, Err, Ok, Some, None, sym, subst, rules}
use Rattle.pcap_io.specs.Writing.{pcap_text}
use Rattle.modelnet.specs.Commands.{Answered, status_of}
use Rattle.modelnet.specs.declared.status.Status.TheVariants.{Done}
use Rattle.modelnet.specs.Writing.{writing_command, run_writings}
use Rattle.modelnet.proofs.Writes.{HasReport, out_stops, report_stops, all_without_screen, screen_ends}
use Rattle.modelnet.proofs.run_outputs.write_texts.Goals as goal

pub returns-in_err-write_trace-clause-answered : goal.returns-in_err-write_trace-clause-answered
returns-in_err-write_trace-clause-answered g c =
    let is : c.from_residual.result ≡ Err c.in_err-write_trace.field-0.0 = search rules in
    let texts = c.args.texts.now in
    rw is (out_stops c.args.out.now c.args.report.now (pcap_text texts.out) texts.report texts.screen (g.H.Host.part c.args.host.now)
    (g.H.Host.part c.write_trace.new.host) c.in_err-write_trace.field-0.0 c.in_err-write_trace.ensures.own c.in_err-write_trace.ensures.others)

pub returns-in_err-write_output-clause-answered : goal.returns-in_err-write_output-clause-answered
returns-in_err-write_output-clause-answered g c =
    let is : c.from_residual-in_err-write_output.result ≡ Err c.in_err-write_output.field-0.0 = search rules in
    let texts = c.args.texts.now in
    rw is (report_stops c.args.out.now c.args.report.now (pcap_text texts.out) texts.report texts.screen c.as_slice.result.now
    (g.H.Host.part c.args.host.now) (g.H.Host.part c.write_trace.new.host) (g.H.Host.part c.write_output.new.host)
    c.in_err-write_output.field-0.0
    (record { own = c.in_ok-write_trace.ensures.own; others = c.in_ok-write_trace.ensures.others })
    c.as_slice.ensures.lent c.in_err-write_output.ensures.own c.in_err-write_output.ensures.others)

pub returns-in-None-clause-answered : goal.returns-in-None-clause-answered
returns-in-None-clause-answered g c =
    let texts = c.args.texts.now in
    let old = g.H.Host.part c.args.host.now in
    let new = g.H.Host.part c.write_output.new.host in
    let none : c.args.texts.now.screen ≡ None = search rules in
    subst
    (λ k. Answered (writing_command (run_writings c.args.out.now c.args.report.now (pcap_text texts.out) texts.report k)) old new Done)
    (sym none)
    (all_without_screen c.args.out.now c.args.report.now (pcap_text texts.out) texts.report old (g.H.Host.part c.write_trace.new.host) new
    (record {
      so_far = record { own = c.in_ok-write_trace.ensures.own; others = c.in_ok-write_trace.ensures.others };
      bytes = c.as_slice.result.now;
      same = c.as_slice.ensures.lent;
      own = c.in_ok-write_output.ensures.own;
      others = c.in_ok-write_output.ensures.others;
    }))

pub returns-in-Some-clause-answered : goal.returns-in-Some-clause-answered
returns-in-Some-clause-answered g c =
    let texts = c.args.texts.now in
    let old = g.H.Host.part c.args.host.now in
    let new = g.H.Host.part c.write_output-in-Some.new.host in
    let status = status_of c.write_output-in-Some.result in
    let shown : c.args.texts.now.screen ≡ Some c.as_slice-in-Some.result.now = search rules in
    let written : HasReport c.args.out.now c.args.report.now (pcap_text texts.out) texts.report (Some c.as_slice-in-Some.result.now) old
    (g.H.Host.part c.write_trace.new.host) (g.H.Host.part c.write_output.new.host) = record {
      so_far = record { own = c.in_ok-write_trace.ensures.own; others = c.in_ok-write_trace.ensures.others };
      bytes = c.as_slice.result.now;
      same = c.as_slice.ensures.lent;
      own = c.in_ok-write_output.ensures.own;
      others = c.in_ok-write_output.ensures.others;
    } in
    subst
    (λ k. Answered (writing_command (run_writings c.args.out.now c.args.report.now (pcap_text texts.out) texts.report k)) old new status)
    (sym shown)
    (screen_ends new c.write_output-in-Some.result written c.write_output-in-Some.ensures.own c.write_output-in-Some.ensures.others)
