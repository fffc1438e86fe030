-- Moves one after another: which can be made, and what is so of them then.
use Rattle.std.proofs.Common.{◌≡◌, ◌≤◌, ◌<◌, ◌&&◌, ℕ, suc, zero, Bool, true, false, nat_le, nat_lt, arith, List, [], ◌∷◌, length, get_or, All, refl}
use Rattle.std.specs.List.Sorted.{IsNonDecreasingBy}
use Rattle.std.proofs.lemmas.Bool.{le-leb, lt-leb, leb-true, lt-ltb, le-ltb, ltb-true}
use Rattle.mn_base.specs.declared.limits.TheConstants.{CORES_MAX}
use Rattle.mn_words.specs.declared.order.MoveSpec.{MoveSpec}
use Rattle.mn_words.specs.Moves.{can_be_made}
use Rattle.mn_words.specs.Order.{IsMove}

pub none_left : (cores window : ℕ) (moves : List MoveSpec) → length moves ≡ 0 → can_be_made cores window moves ≡ true
unfolding can_be_made
none_left cores window [] none = refl
none_left cores window (move ∷ moves) none = absurd (omega (arith, none))

-- after a move that can be made the others are asked
pub goes_on : (cores window : ℕ) (moves others : List MoveSpec) (move : MoveSpec) → moves ≡ move ∷ others → window ≤ move.window
    → move.core < cores → can_be_made cores window moves ≡ can_be_made cores move.window others
unfolding can_be_made
goes_on cores window moves others move is later known =
    rw (is, le-leb window move.window later, lt-ltb move.core cores known) refl

-- a window that falls, and a core that there isn't
pub falls : (cores window : ℕ) (moves others : List MoveSpec) (move : MoveSpec) → moves ≡ move ∷ others → move.window < window
    → can_be_made cores window moves ≡ false
unfolding can_be_made
falls cores window moves others move is before = rw (is, lt-leb window move.window before) refl

pub is_unknown : (cores window : ℕ) (moves others : List MoveSpec) (move : MoveSpec) → moves ≡ move ∷ others → cores ≤ move.core
    → can_be_made cores window moves ≡ false
unfolding can_be_made
is_unknown cores window moves others move is unknown =
    rw (is, le-ltb move.core cores unknown) (from (nat_le window move.window) (can_be_made cores move.window others))
  where
    from : (a b : Bool) → (a && false && b) ≡ false
    from true b = refl
    from false b = refl

-- what is so of the first of moves that can be made, and of the others
record Goes (cores window : ℕ) (move : MoveSpec) (others : List MoveSpec) : Type 0 where
  later : window ≤ move.window
  known : move.core < cores
  after : can_be_made cores move.window others ≡ true

goes : (cores window : ℕ) (move : MoveSpec) (others : List MoveSpec) → can_be_made cores window (move ∷ others) ≡ true
    → Goes cores window move others
unfolding can_be_made
goes cores window move others made =
    from (nat_le window move.window) (nat_lt move.core cores) (can_be_made cores move.window others) refl refl refl made
  where
    from : (a b c : Bool) → nat_le window move.window ≡ a → nat_lt move.core cores ≡ b → can_be_made cores move.window others ≡ c
        → (a && b && c) ≡ true → Goes cores window move others
    from true true true later known are made =
        record { later = leb-true window move.window later; known = ltb-true move.core cores known; after = are }
    from false b c later known are made = absurd cc
    from true false c later known are made = absurd cc
    from true true false later known are made = absurd cc

-- each goes to a core that there is
pub known_cores : (cores window : ℕ) (moves : List MoveSpec) → can_be_made cores window moves ≡ true → All (IsMove CORES_MAX) moves
    → All (IsMove cores) moves
known_cores cores window moves made ranges k d within = ((ranges k d within).0, core cores window moves made k d within)
  where
    core : (cores window : ℕ) (moves : List MoveSpec) → can_be_made cores window moves ≡ true → (k : ℕ) (d : MoveSpec) → k < length moves
        → (get_or moves k d).core < cores
    core cores window [] made k d within = absurd (omega (arith, within))
    core cores window (move ∷ moves) made zero d within = (goes cores window move moves made).known
    core cores window (move ∷ moves) made (suc k) d within =
        core cores move.window moves (goes cores window move moves made).after k d (omega (arith, within))

-- no window is before the least
not_before : (cores window : ℕ) (moves : List MoveSpec) → can_be_made cores window moves ≡ true → (k : ℕ) (d : MoveSpec) → k < length moves
    → window ≤ (get_or moves k d).window
not_before cores window [] made k d within = absurd (omega (arith, within))
not_before cores window (move ∷ moves) made zero d within = (goes cores window move moves made).later
not_before cores window (move ∷ moves) made (suc k) d within =
    let first = goes cores window move moves made in
    let after = not_before cores move.window moves first.after k d (omega (arith, within)) in
    omega (arith, first.later, after)

-- and none before that of an earlier move
pub windows : (cores window : ℕ) (moves : List MoveSpec) → can_be_made cores window moves ≡ true → IsNonDecreasingBy (λ move. move.window) moves
windows cores window [] made i j d in_order within = absurd (omega (arith, within))
windows cores window (move ∷ moves) made zero zero d in_order within = omega arith
windows cores window (move ∷ moves) made zero (suc j) d in_order within =
    not_before cores move.window moves (goes cores window move moves made).after j d (omega (arith, within))
windows cores window (move ∷ moves) made (suc i) zero d in_order within = absurd (omega (arith, in_order))
windows cores window (move ∷ moves) made (suc i) (suc j) d in_order within =
    windows cores move.window moves (goes cores window move moves made).after i j d (omega (arith, in_order)) (omega (arith, within))
