use Rattle.std.proofs.Common.{◌∙◌, refl, sym, ap, subst}
use Rattle.pcap_io.specs.Writing.{pcap_text}
use Rattle.journal.specs.Journal.{journal_of}
use Rattle.report.specs.Traces.{trace_of}
use Rattle.modelnet.proofs.Outputs.{CanBeWritten, can_be_written}
use Rattle.modelnet.proofs.running.outcome_texts.Goals as goal

pub out_trace-requires : goal.out_trace-requires
out_trace-requires c =
    let S = c.args.setup.now in
    let written = can_be_written S (journal_of S) c.requires.bytes c.args.outcome c.parts-parts.ensures.kept c.outputs_fit.ensures refl
    c.requires.short c.requires.outcome_is in
    let here = subst (λ ls. CanBeWritten S ls) (sym (ap (λ o. o.leaving) c.outcome.view_is)) written in
    record { of_setup = here.of_setup; different = here.different; lengths = here.lengths; times = here.times }

pub returns-clause-run : goal.returns-clause-run
returns-clause-run c = λ bytes is. record {
  outcome = c.args.outcome;
  outcome_is = is;
  out_is = ap (λ t. pcap_text t) (c.in_ok-out.ensures ∙ ap (λ o. trace_of c.args.setup.now o.leaving) c.outcome.view_is);
  report_is = c.in_ok-report.ensures.text;
}
