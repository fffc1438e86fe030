use Rattle.changes.proofs.TheLaws.{gives_split, gives_fault}
use Rattle.changes.proofs.Lengths.{splits_short}
use Rattle.changes.proofs.reading.read_changes.Goals as goal

pub returns-clause-no_longer : goal.returns-clause-no_longer
returns-clause-no_longer c = splits_short c.args.text.now c.args.cores c.args.pipes c.split_text.result c.split_text.ensures.found

pub returns-clause-only_split : goal.returns-clause-only_split
returns-clause-only_split c = λ split.
    gives_split c.args.text.now c.args.cores c.args.pipes c.split_text.result split c.split_text.ensures.found c.split_text.ensures.fault

pub returns-clause-only_fault : goal.returns-clause-only_fault
returns-clause-only_fault c = λ fault.
    gives_fault c.args.text.now c.args.cores c.args.pipes c.split_text.result fault c.split_text.ensures.found c.split_text.ensures.fault
