-- Two least walks between the same nodes are one: of two keys each of which is at most the other, the lists are equal.
use Rattle.std.proofs.Common.{◌≡◌, ℕ, inl, inr, List, [], ◌∷◌, refl, arith}
use Rattle.routes.specs.declared.graph.Arc.{Arc}
use Rattle.routes.specs.LeastWalk.{IsNoLater, IsNoGreater, IsLeastWalk}

-- of two lists each of which is no later than the other, the first items are equal, and so on
same_lists : (es fs : List ℕ) → IsNoLater es fs → IsNoLater fs es → es ≡ fs
same_lists [] [] there back = refl
same_lists [] (f ∷ fs) there back = absurd back
same_lists (e ∷ es) [] there back = absurd there
same_lists (e ∷ es) (f ∷ fs) there back =
    elim there [
      | inl less ↦ elim back [ inl more ↦ absurd (omega arith) | inr same ↦ absurd (let h = same.0 in omega arith) ]
      | inr tie ↦
          elim back [
            | inl more ↦ absurd (let h = tie.0 in omega arith)
            | inr same ↦ (let rest = same_lists es fs tie.1 same.1 in let first = tie.0 in cc)
          ]
    ]

-- by the first of weight, number of arcs and list in which two keys differ
same_keys : (arcs : List Arc) (es fs : List ℕ) → IsNoGreater arcs es fs → IsNoGreater arcs fs es → es ≡ fs
same_keys arcs es fs there back =
    elim there [
      | inl lighter ↦ elim back [ inl heavier ↦ absurd (omega arith) | inr even ↦ absurd (let h = even.0 in omega arith) ]
      | inr even ↦
          elim back [
            | inl heavier ↦ absurd (let h = even.0 in omega arith)
            | inr level ↦
                elim even.1 [
                  | inl fewer ↦
                      elim level.1 [ inl more ↦ absurd (omega arith) | inr same ↦ absurd (let h = same.0 in omega arith) ]
                  | inr same ↦
                      elim level.1 [
                        | inl more ↦ absurd (let h = same.0 in omega arith)
                        | inr tie ↦ same_lists es fs same.1 tie.1
                      ]
                ]
          ]
    ]

-- the key of each is at most that of the other
pub one_least_walk : (arcs : List Arc) (a b : ℕ) (es fs : List ℕ) → IsLeastWalk arcs a b es → IsLeastWalk arcs a b fs → es ≡ fs
one_least_walk arcs a b es fs own other =
    same_keys arcs es fs (own.least fs other.walk) (other.least es own.walk)
