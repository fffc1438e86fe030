use Rattle.journal_check.specs.Texts.{journal_lines}
use Rattle.journal_check.proofs.Partings.{one_fault}
use Rattle.journal_check.proofs.JournalLines.{journal_lines-whole}
use Rattle.journal_check.proofs.laws.one_fault.Goals as goal

pub returns : goal.returns
returns c = λ visits text fault other. one_fault (journal_lines visits) text fault other (journal_lines-whole visits)
