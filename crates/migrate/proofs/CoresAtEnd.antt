-- What each core has at the end of a run.
use Rattle.std.proofs.Common.{◌≡◌, ◌==◌, ℕ, List, length, filter, Some, ap, ap₂, ◌∙◌}
use Rattle.journal.specs.SetupView.{SetupView}
use Rattle.parcel.specs.declared.counts.CoreCounts.{CoreCounts}
use Rattle.migrate.specs.ShelvesView.{ShelfView}
use Rattle.migrate.specs.Finishing.{core_counts_of}

abbrev with-numbers : ℕ → ℕ → ℕ → ℕ → CoreCounts
with-numbers windows pipes entered visits =
    record { pipes = pipes; entered = entered; visits = visits; arrivals = 0; settles = 0; windows = windows }

-- the counts of one core, as they were made
pub counts-here : (S : SetupView) (owners : List ℕ) (windows core : ℕ) {s t : ShelfView} {pipes entered visits : ℕ} → Some t ≡ Some s
    → pipes ≡ length (filter (λ owner. owner == core) owners) → entered ≡ length (filter (λ p. p.core == core) S.packets)
    → visits ≡ t.visits
    → record { pipes = pipes; entered = entered; visits = visits; arrivals = 0; settles = 0; windows = windows }
    ≡ core_counts_of S owners windows core s
counts-here S owners windows core {s} {t} {pipes} {entered} {visits} both p e v =
    ap₂ (λ (n m : ℕ). with-numbers windows n m visits) p e
    ∙ ap (with-numbers windows (length (filter (λ owner. owner == core) owners)) (length (filter (λ p. p.core == core) S.packets)))
    (v ∙ ap (λ (u : ShelfView). u.visits) same)
  where
    same : t ≡ s
    same = cc
