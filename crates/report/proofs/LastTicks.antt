-- The greatest tick of packets that left, one packet after the other.
use Rattle.std.proofs.Common.{◌≡◌, ◌<◌, ◌+◌, ℕ, List, [], ◌∷◌, ◌++◌, length, take, get_or, max, sym, ap, ◌∙◌}
use Rattle.std.proofs.lemmas.List.{take_more}
use Rattle.std.proofs.lemmas.List.Sums.{fold_push}
use Rattle.settle.specs.declared.outcome.Leaving.{Leaving}
use Rattle.report.specs.Summary.{last_leaving_tick}

-- with one packet more it is that of the others or that packet's
pub last_leaving_tick-more : (leaving : List Leaving) (i : ℕ) (left : Leaving) → i < length leaving → left ≡ get_or leaving i left
    → last_leaving_tick (take (i + 1) leaving) ≡ max (last_leaving_tick (take i leaving)) left.tick
last_leaving_tick-more leaving i left below is =
    ap (λ ls. last_leaving_tick ls) (take_more leaving i left below ∙ ap (λ (l : Leaving). take i leaving ++ l ∷ []) (sym is))
    ∙ fold_push (λ (tick : ℕ) (l : Leaving). max tick l.tick) 0 (take i leaving) left
