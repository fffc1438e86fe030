use Rattle.std.proofs.Common.{◌≡◌, length}
use Rattle.mn_words.proofs.Finding.{fit_whole}
use Rattle.mn_words.proofs.form.Form.fit.Given as goal

-- whether the words that are left fit is whether all do
abbrev pub invariant-items : goal.invariant-items
invariant-items l = fit_whole l.self l.fn.words ≡ fit_whole l.self l.rest

abbrev pub decreases-items : goal.decreases-items
decreases-items l = length l.rest
