-- A pipe with the greatest keep loses nothing.
use Rattle.std.proofs.Common.{◌≡◌, ℕ, ◌<◌, false, nat_le, sym, ap, ◌∙◌}
use Rattle.std.proofs.lemmas.Bool.{lt-leb}
use Rattle.mn_base.specs.declared.limits.TheConstants.{KEEP_MAX}
use Rattle.loss_words.specs.Word.{loss_word}
use Rattle.loss_words.proofs.WordLemmas.{loss_word-bound}

-- no word is as great as the greatest keep
pub never_lost : (seed number packet keep : ℕ) → keep ≡ KEEP_MAX → false ≡ nat_le keep (loss_word seed number packet)
never_lost seed number packet keep most =
    let word : ℕ = loss_word seed number packet in
    let below : word < KEEP_MAX = loss_word-bound seed number packet in
    sym (ap (λ k. nat_le k word) most ∙ lt-leb KEEP_MAX word below)
