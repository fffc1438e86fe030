use Rattle.std.proofs.Common.{◌≡◌, ◌∷◌, ◌++◌, [], List, length, ap, sym, ◌∙◌, subst, arith}
use Rattle.std.proofs.lemmas.List.{length_push}
use Rattle.red_queue.specs.declared.visit.RedVisit.{RedVisit}
use Rattle.red_queue.specs.Journal.{red_visit_of}
use Rattle.red_queue.specs.Making.{IsRedMaking, IsRedToMake}
use Rattle.red_queue.proofs.Making.{making-whole, making-is, making-few}
use Rattle.red_queue.proofs.maker.red_journal.Goals as goal

pub make-requires-clause-next : goal.make-requires-clause-next
make-requires-clause-next c =
    (c.loop-next.visits.items, record { held = c.loop-next.maker.due; making = c.loop-next.invariant; takes = c.in-Some.ensures.first })

to_make : (c : goal.In_ok-push)
    → IsRedToMake c.args.setup.now c.loop-next.visits.items c.in-Some.next c.loop-next.maker.pipes.items c.pop.new.self
to_make c = record { held = c.loop-next.maker.due; making = c.loop-next.invariant; takes = c.in-Some.ensures.first }

made : (c : goal.In_ok-push)
    → c.push.new.self.items ≡ c.loop-next.visits.items ++ red_visit_of c.args.setup.now c.loop-next.visits.items c.in-Some.next.due ∷ []
made c =
    c.in_ok-push.ensures.items
    ∙ ap (λ (v : RedVisit). c.loop-next.visits.items ++ v ∷ []) (c.in_ok-visit.ensures.visit c.loop-next.visits.items (to_make c))

pub loop-next-preserved : goal.loop-next-preserved
loop-next-preserved c =
    subst (λ (J : List RedVisit). IsRedMaking c.args.setup.now J c.make.new.self.pipes.items c.make.new.self.due) (sym (made c))
    (c.in_ok-visit.ensures.making c.loop-next.visits.items (to_make c))

pub loop-next-smaller : goal.loop-next-smaller
loop-next-smaller c =
    let few = making-few c.requires (c.in_ok-visit.ensures.making c.loop-next.visits.items (to_make c)) in
    omega (
      arith,
      few,
      ap length (made c),
      length_push c.loop-next.visits.items (red_visit_of c.args.setup.now c.loop-next.visits.items c.in-Some.next.due),
    )

whole : (c : goal.After-drop-maker-4) → IsRedMaking c.args.setup.now c.loop-next.visits.items c.loop-next.maker.pipes.items []
whole c =
    subst (IsRedMaking c.args.setup.now c.loop-next.visits.items c.loop-next.maker.pipes.items)
    c.in_default.ensures.none c.loop-next.invariant

pub returns-clause-journal : goal.returns-clause-journal
returns-clause-journal c = making-is c.requires (whole c)

pub returns-clause-meets : goal.returns-clause-meets
returns-clause-meets c = making-whole c.requires (whole c)

pub returns-clause-exits : goal.returns-clause-exits
returns-clause-exits c = (whole c).exits
