-- A reading or the first fault was found, and a file has only one of these.
use Rattle.pcapng_in.proofs.ByFormat.{gives_capture, gives_capture_fault}
use Rattle.pcapng_in.proofs.capture.read_capture.Goals as goal

pub returns-clause-only_trace : goal.returns-clause-only_trace
returns-clause-only_trace c =
    let told = c.read_by_format.ensures in
    λ trace. gives_capture c.args.text.now c.read_by_format.result trace told.found told.fault

pub returns-clause-only_fault : goal.returns-clause-only_fault
returns-clause-only_fault c =
    let told = c.read_by_format.ensures in
    λ other. gives_capture_fault c.args.text.now c.read_by_format.result other told.found told.fault
