use Rattle.std.proofs.Common.{◌≡◌, ◌++◌, sym, ◌∙◌, rules}
use Rattle.std.specs.List.{flat_map}
use Rattle.journal_check.specs.Texts.{journal_head, visit_line, journal_out}
use Rattle.journal_check.proofs.JournalLines.{lines_joined}
use Rattle.journal_check.proofs.printing.print_journal.Goals as goal

pub returns : goal.returns
unfolding journal_out
returns c =
    let all : c.from_vec.result ≡ journal_head ++ flat_map visit_line c.args.visits.now = search rules in
    record { text = all ∙ sym (lines_joined c.args.visits.now) }
