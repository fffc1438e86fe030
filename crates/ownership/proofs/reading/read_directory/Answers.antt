use Rattle.ownership.proofs.Readings.{gives_directory, gives_fault}
use Rattle.ownership.proofs.reading.read_directory.Goals as goal

pub returns-clause-only_directory : goal.returns-clause-only_directory
returns-clause-only_directory c = λ directory.
    gives_directory c.args.text.now c.args.distilled.now c.args.cores c.read_text.result directory c.read_text.ensures.found c.read_text.ensures.fault

pub returns-clause-only_fault : goal.returns-clause-only_fault
returns-clause-only_fault c = λ fault.
    gives_fault c.args.text.now c.args.distilled.now c.args.cores c.read_text.result fault c.read_text.ensures.found c.read_text.ensures.fault
