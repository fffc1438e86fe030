use Rattle.pcapng_in.proofs.ByFormat.{ng_fault_first}
use Rattle.pcapng_in.proofs.capture.read_by_format.Goals as goal

-- what read_pcapng refuses a file for is the first fault of the capture, since the file begins as pcapng does
pub returns-in-Err-clause-fault : goal.returns-in-Err-clause-fault
returns-in-Err-clause-fault c =
    ng_fault_first c.args.text.now c.in-Err.refusal c.map_fault.result (c.begins_ng.ensures.0 c.if-begins_ng.true) c.in-Err.ensures.fault
    c.map_fault.ensures
