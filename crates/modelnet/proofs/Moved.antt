-- The moves of words: their windows don't fall, and they name pipes and cores as the words do.
use Rattle.std.proofs.Common.{◌≡◌, ◌<◌, ◌≤◌, ℕ, zero, suc, List, [], ◌∷◌, length, map, AllPairs, slice_index_or, refl, arith}
use Rattle.std.specs.List.Sorted.{IsNonDecreasingBy}
use Rattle.std.proofs.lemmas.List.{length-map}
use Rattle.migrate.specs.declared.moves.Move.{Move}
use Rattle.mn_words.specs.declared.order.MoveSpec.{MoveSpec}
use Rattle.modelnet.specs.Moving.{move_of}

window_at : (words : List MoveSpec) (i : ℕ) (d : Move) (e : MoveSpec) → i < length words
    → (slice_index_or (map move_of words) i d).window ≡ (slice_index_or words i e).window
window_at [] i d e low = absurd (omega (arith, low))
window_at (w ∷ words) zero d e low = refl
window_at (w ∷ words) (suc i) d e low = window_at words i d e (omega (arith, low))

abbrev pub no_move : MoveSpec
no_move = record { window = 0; pipe = 0; core = 0 }

pub windows_rise : (words : List MoveSpec) → IsNonDecreasingBy (λ w. w.window) words
    → AllPairs (λ m n. m.window ≤ n.window) (map move_of words)
windows_rise words rise i j d low within =
    let size = length-map words move_of in
    rw (window_at words i d no_move (omega (arith, low, within, size)), window_at words j d no_move (omega (arith, within, size)))
    (rise i j no_move (omega (arith, low)) (omega (arith, within, size)))
