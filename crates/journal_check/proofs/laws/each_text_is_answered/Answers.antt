use Rattle.journal_check.specs.Texts.{journal_out, journal_lines}
use Rattle.journal_check.proofs.Answered.{each_text}
use Rattle.journal_check.proofs.laws.each_text_is_answered.Goals as goal

pub returns : goal.returns
unfolding journal_out
returns c = λ visits text. each_text (journal_lines visits) text
