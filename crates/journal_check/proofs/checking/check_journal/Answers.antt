use Rattle.std.proofs.Common.{length}
use Rattle.journal.specs.Journal.{journal_of}
use Rattle.journal_check.specs.Texts.{journal_out, journal_lines}
use Rattle.journal_check.proofs.Partings.{gives_count, gives_fault}
use Rattle.journal_check.proofs.JournalLines.{journal_lines-whole}
use Rattle.journal_check.proofs.checking.check_journal.Goals as goal

pub returns-clause-only_right : goal.returns-clause-only_right
unfolding journal_out
returns-clause-only_right c =
    let J = journal_of c.args.setup.now in
    gives_count (journal_lines J) c.args.text.now (length J) c.compare.result (journal_lines-whole J) c.compare.ensures.count
    c.compare.ensures.fault

pub returns-clause-only_fault : goal.returns-clause-only_fault
unfolding journal_out
returns-clause-only_fault c = λ fault.
    let J = journal_of c.args.setup.now in
    gives_fault (journal_lines J) c.args.text.now fault c.compare.result (journal_lines-whole J) c.compare.ensures.right
    c.compare.ensures.fault
