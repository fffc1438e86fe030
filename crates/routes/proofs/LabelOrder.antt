-- The two orders of labels: how far a label is, and how good.
use Rattle.std.proofs.Common.{◌≡◌, ◌+◌, ◌≤◌, ℕ, inl, inr, List, refl, sym, ◌∙◌, arith}
use Rattle.std.proofs.lemmas.Bool.{cases_eq, cases_lt}
use Rattle.routes.specs.declared.graph.Arc.{Arc}
use Rattle.routes.specs.declared.label.Label.{Label}
use Rattle.routes.specs.Walk.{arc_at}
use Rattle.routes.specs.Table.{offer_of, IsNoFarther, IsNoWorse}

-- both orders are transitive
pub no_farther_trans : (a b c : Label) → IsNoFarther a b → IsNoFarther b c → IsNoFarther a c
no_farther_trans a b c ab bc =
    elim ab [
      | inl less ↦ elim bc [ inl more ↦ inl (omega arith) | inr tie ↦ inl (let h = tie.0 in omega arith) ]
      | inr same ↦
          elim bc [
            | inl more ↦ inl (let h = same.0 in omega arith)
            | inr tie ↦ inr (same.0 ∙ tie.0, (let h = same.1 in let k = tie.1 in omega arith))
          ]
    ]

-- by the first of weight, number of arcs and first arc in which two labels differ
pub no_worse_trans : (a b c : Label) → IsNoWorse a b → IsNoWorse b c → IsNoWorse a c
no_worse_trans a b c ab bc =
    elim ab [
      | inl less ↦ elim bc [ inl more ↦ inl (omega arith) | inr tie ↦ inl (let h = tie.0 in omega arith) ]
      | inr same ↦
          elim bc [
            | inl more ↦ inl (let h = same.0 in omega arith)
            | inr tie ↦
                inr (
                  same.0 ∙ tie.0,
                  elim same.1 [
                    | inl fewer ↦ elim tie.1 [ inl more ↦ inl (omega arith) | inr even ↦ inl (let h = even.0 in omega arith) ]
                    | inr level ↦
                        elim tie.1 [
                          | inl more ↦ inl (let h = level.0 in omega arith)
                          | inr even ↦ inr (level.0 ∙ even.0, (let h = level.1 in let k = even.1 in omega arith))
                        ]
                  ],
                )
          ]
    ]

-- of two labels one is no worse than the other
pub no_worse_otherwise : (a b : Label) → (IsNoWorse a b → ⊥) → IsNoWorse b a
no_worse_otherwise a b worse =
    elim (cases_lt b.weight a.weight) [
      | inl lighter ↦ inl lighter
      | inr up ↦
          elim (cases_eq a.weight b.weight) [
            | inr apart ↦ absurd (worse (inl (omega arith)))
            | inl even ↦
                inr (
                  sym even,
                  elim (cases_lt b.hops a.hops) [
                    | inl fewer ↦ inl fewer
                    | inr more ↦
                        elim (cases_eq a.hops b.hops) [
                          | inr apart ↦ absurd (worse (inr (even, inl (omega arith))))
                          | inl level ↦
                              inr (
                                sym level,
                                elim (cases_lt b.next a.next) [
                                  | inl less ↦ omega arith
                                  | inr least ↦ absurd (worse (inr (even, inr (level, least))))
                                ],
                              )
                        ]
                  ],
                )
          ]
    ]

-- a label is no worse than itself
pub no_worse_itself : (a : Label) → IsNoWorse a a
no_worse_itself a = inr (refl, inr (refl, omega arith))

-- an offer is no nearer than what it comes from, since weights aren't negative
pub offer_beyond : (arcs : List Arc) (e : ℕ) (m : Label) → IsNoFarther m (offer_of arcs e m)
offer_beyond arcs e m =
    let w = (arc_at arcs e).weight in
    elim (cases_lt m.weight (w + m.weight)) [
      | inl heavier ↦ inl heavier
      | inr even ↦ inr (omega arith, omega arith)
    ]

-- and worse than each label that is no farther than what it comes from, since it has one arc more
pub farther_is_worse : (arcs : List Arc) (e : ℕ) (l m : Label) → IsNoFarther l m → IsNoWorse l (offer_of arcs e m)
farther_is_worse arcs e l m near =
    let w = (arc_at arcs e).weight in
    elim near [
      | inl less ↦ inl (omega arith)
      | inr tie ↦
          let same : l.weight ≡ m.weight = tie.0 in
          let hops : l.hops ≤ m.hops = tie.1 in
          elim (cases_lt m.weight (w + m.weight)) [
            | inl heavier ↦ inl (omega arith)
            | inr even ↦ inr (omega arith, inl (omega arith))
          ]
    ]
