use Rattle.std.proofs.Common.{◌≡◌, inl, inr, List, [], ◌∷◌, ap, ◌∙◌, subst, arith}
use Rattle.mn_base.specs.Among.{Among}
use Rattle.pipe.specs.declared.due_visits.DueVisit.{DueVisit}
use Rattle.pipe.proofs.tests.due_visits_come_by_tick_and_then_by_packet.Goals as goal

-- neither of two visits is of packet 3
other : (v u w : DueVisit) → Among w (v ∷ u ∷ []) → v.due.packet ≡ 2 → u.due.packet ≡ 4 → w.due.packet ≡ 3 → ⊥
other v u w (inl e) two four three =
    let same : v.due.packet ≡ w.due.packet = ap (λ (x : DueVisit). x.due.packet) e in omega (arith, same, two, three)
other v u w (inr (inl e)) two four three =
    let same : u.due.packet ≡ w.due.packet = ap (λ (x : DueVisit). x.due.packet) e in omega (arith, same, four, three)
other v u w (inr (inr a)) two four three = a

pub add-requires : goal.add-requires
add-requires g c = λ w a same.
    other c.due_visit.result c.due_visit-2.result w
    (subst (λ (ws : List DueVisit). Among w ws) c.in_ok-firsts.ensures.items ((c.of_firsts-held.ensures w).0 a))
    c.due_visit.ensures.packet c.due_visit-2.ensures.packet (same ∙ c.due_visit-3.ensures.packet)
