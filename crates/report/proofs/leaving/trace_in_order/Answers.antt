use Rattle.std.proofs.Common.{◌∙◌, sym, ap, subst, length}
use Rattle.std.proofs.lemmas.List.{length-map}
use Rattle.journal.specs.Journal.{journal_of}
use Rattle.settle.specs.IsOutcome.{IsOutcome}
use Rattle.report.proofs.PacketsLeft.{CanLeave, can_leave}
use Rattle.report.proofs.leaving.trace_in_order.Goals as goal

pub gather-requires-clause-bytes : goal.gather-requires-clause-bytes
gather-requires-clause-bytes c =
    ap (λ xs. length xs) c.in_ok-bytes.ensures ∙ length-map c.args.packets.items (λ p. p.bytes) ∙ c.requires.as_many

pub out_trace-requires : goal.out_trace-requires
out_trace-requires c =
    let S = c.args.setup.now in
    let outcome = c.in_ok-leaving.field-0 in
    let is = subst (λ bytes. IsOutcome S (journal_of S) bytes outcome) c.in_ok-bytes.ensures c.in_ok-leaving.ensures.outcome in
    let can = can_leave S c.args.packets.items outcome c.parts-parts.ensures.kept c.outputs_fit.ensures c.requires.captured is in
    let here = subst (CanLeave S) (sym (ap (λ o. o.leaving) c.leaving.view_is)) can in
    record { of_setup = here.of_setup; different = here.different; lengths = here.lengths; times = here.times }
