use Rattle.std.proofs.Common.{sym, ◌∙◌}
use Rattle.changes.specs.Faults.{second_mark}
use Rattle.changes.proofs.Readings.{found_second, found_other}
use Rattle.changes.proofs.reading.split_text.Goals as goal

pub split_second-requires-clause-begins : goal.split_second-requires-clause-begins
unfolding second_mark
split_second-requires-clause-begins c = sym c.starts_with.ensures.value ∙ c.if-starts_with.true

pub returns-then-starts_with-clause-found : goal.returns-then-starts_with-clause-found
unfolding second_mark
returns-then-starts_with-clause-found c =
    found_second c.args.text.now c.args.cores c.args.pipes c.split_second.result (sym c.starts_with.ensures.value ∙ c.if-starts_with.true)
    c.split_second.ensures.found

pub returns-clause-found : goal.returns-clause-found
unfolding second_mark
returns-clause-found c =
    found_other c.args.text.now c.args.cores c.args.pipes _ (sym c.starts_with.ensures.value ∙ c.if-starts_with.false)
    (record { directory = c.in_ok-directory.ensures.copied; changes = c.new.ensures.items })
