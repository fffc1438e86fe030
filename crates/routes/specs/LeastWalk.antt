-- Least walks: by the sum of weights, then by the number of arcs, then by the list of arc numbers in lexicographic order.
use Rattle.std.specs.Prelude.{◌≡◌, ℕ, ◌<◌, ◌⊎◌, List, [], ◌∷◌, length}
use Rattle.routes.specs.declared.graph.Arc.{Arc}
use Rattle.routes.specs.Walk.{IsWalk, weight_of}

-- es comes before fs in lexicographic order, or is fs
abbrev pub IsNoLater : List ℕ → List ℕ → Type 0
IsNoLater [] fs = Unit {0}
IsNoLater (e ∷ es) [] = ⊥
IsNoLater (e ∷ es) (f ∷ fs) = (e < f) ⊎ ((e ≡ f) × IsNoLater es fs)

-- the key of es (weight, number of arcs, the arcs themselves) is at most that of fs
abbrev pub IsNoGreater : List Arc → List ℕ → List ℕ → Type 0
IsNoGreater arcs es fs = (weight_of arcs es < weight_of arcs fs)
    ⊎ ((weight_of arcs es ≡ weight_of arcs fs)
    × ((length es < length fs) ⊎ ((length es ≡ length fs) × IsNoLater es fs)))

-- a walk from a to b, and no walk from a to b has a lesser key
pub record IsLeastWalk (arcs : List Arc) (a b : ℕ) (es : List ℕ) : Type 0 where
  pub walk : IsWalk arcs a b es
  pub least : (fs : List ℕ) → IsWalk arcs a b fs → IsNoGreater arcs es fs
