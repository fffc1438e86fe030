use Rattle.journal_check.specs.Texts.{journal_out, journal_lines}
use Rattle.journal_check.proofs.Partings.{no_fault}
use Rattle.journal_check.proofs.JournalLines.{journal_lines-whole}
use Rattle.journal_check.proofs.laws.never_both.Goals as goal

pub returns : goal.returns
unfolding journal_out
returns c = λ visits text fault. no_fault (journal_lines visits) text fault (journal_lines-whole visits)
