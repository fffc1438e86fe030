-- A reading or the first fault was found, and a text has only one of these.
use Rattle.std.proofs.Common.{Ok, Err, List, ℕ, subst, rules}
use Rattle.std.proofs.lemmas.Result.{err_from_is_err_and}
use Rattle.mn_base.specs.declared.refusal.Refusal.TheVariants.{Fault}
use Rattle.mn_base.specs.Refused.{IfFault}
use Rattle.pcap_io.specs.Faults.{PcapFirst, HasRecordFault}
use Rattle.pcap_io.proofs.OneReading.{gives_trace, gives_fault, refusal_behind}
use Rattle.pcap_io.proofs.reading.read_pcap.Goals as goal

pub returns-clause-only_trace : goal.returns-clause-only_trace
returns-clause-only_trace c = λ trace. gives_trace c.args.text.now (Ok c.new.result) trace (search rules) tt

pub returns-clause-only_fault : goal.returns-clause-only_fault
returns-clause-only_fault c = λ fault. gives_fault c.args.text.now (Ok c.new.result) fault (search rules) tt

pub returns-in-Err-clause-only_trace : goal.returns-in-Err-clause-only_trace
returns-in-Err-clause-only_trace c = λ trace. gives_trace c.args.text.now (Err (Fault c.in-Err.fault)) trace tt c.in-Err.ensures

pub returns-in-Err-clause-only_fault : goal.returns-in-Err-clause-only_fault
returns-in-Err-clause-only_fault c = λ fault. gives_fault c.args.text.now (Err (Fault c.in-Err.fault)) fault tt c.in-Err.ensures

refused : (c : goal.After-from_residual) → IfFault c.in_err-packets.field-0.0 (PcapFirst c.args.text.now)
refused c =
    refusal_behind c.in-Ok.header.form c.in-Ok.header.link_type c.args.text.now c.in_err-packets.field-0.0 c.in-Ok.ensures
    (subst (λ (body : List ℕ). IfFault c.in_err-packets.field-0.0 (λ fault. HasRecordFault c.in-Ok.header.form fault body))
    c.split_at.ensures.back c.in_err-packets.ensures.fault)

pub returns-in_err-packets-clause-only_trace : goal.returns-in_err-packets-clause-only_trace
returns-in_err-packets-clause-only_trace c =
    let p = err_from_is_err_and c.from_residual.result c.from_residual.ensures.1 in
    λ trace. rw (p.1, p.2) (gives_trace c.args.text.now (Err c.in_err-packets.field-0.0) trace tt (refused c))

pub returns-in_err-packets-clause-only_fault : goal.returns-in_err-packets-clause-only_fault
returns-in_err-packets-clause-only_fault c =
    let p = err_from_is_err_and c.from_residual.result c.from_residual.ensures.1 in
    λ fault. rw (p.1, p.2) (gives_fault c.args.text.now (Err c.in_err-packets.field-0.0) fault tt (refused c))
