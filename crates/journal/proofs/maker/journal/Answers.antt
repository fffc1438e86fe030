use Rattle.std.proofs.Common.{◌≡◌, ◌∷◌, ◌++◌, [], List, length, ap, sym, ◌∙◌, subst, arith}
use Rattle.std.proofs.lemmas.List.{length_push}
use Rattle.journal.specs.declared.visit.Visit.{Visit}
use Rattle.journal.specs.Steps.{visit_of}
use Rattle.journal.specs.Held.{IsToMake, IsMaking}
use Rattle.journal.proofs.Making.{making-whole, making-few}
use Rattle.journal.proofs.maker.journal.Goals as goal

pub make-requires : goal.make-requires
make-requires c =
    (c.loop-next.visits.items, record { held = c.loop-next.maker.due; making = c.loop-next.invariant; takes = c.in-Some.ensures.first })

to_make : (c : goal.In_ok-push)
    → IsToMake c.args.setup.now c.loop-next.visits.items c.in-Some.next c.loop-next.maker.pipes.items c.pop.new.self c.loop-next.maker.made
to_make c = record { held = c.loop-next.maker.due; making = c.loop-next.invariant; takes = c.in-Some.ensures.first }

made : (c : goal.In_ok-push)
    → c.push.new.self.items ≡ c.loop-next.visits.items ++ visit_of c.args.setup.now c.loop-next.visits.items c.in-Some.next.due ∷ []
made c =
    c.in_ok-push.ensures.items
    ∙ ap (λ (v : Visit). c.loop-next.visits.items ++ v ∷ []) (c.in_ok-visit.ensures.visit c.loop-next.visits.items (to_make c))

pub loop-next-preserved : goal.loop-next-preserved
loop-next-preserved c =
    subst (λ (J : List Visit). IsMaking c.args.setup.now J c.make.new.self.pipes.items c.make.new.self.due c.make.new.self.made)
    (sym (made c)) (c.in_ok-visit.ensures.making c.loop-next.visits.items (to_make c))

pub loop-next-smaller : goal.loop-next-smaller
loop-next-smaller c =
    let few = making-few (c.in_ok-visit.ensures.making c.loop-next.visits.items (to_make c)) in
    omega (
      arith,
      few,
      ap length (made c),
      length_push c.loop-next.visits.items (visit_of c.args.setup.now c.loop-next.visits.items c.in-Some.next.due),
    )

pub returns-clause-journal : goal.returns-clause-journal
returns-clause-journal c =
    making-whole (subst (λ held. IsMaking c.args.setup.now c.loop-next.visits.items c.loop-next.maker.pipes.items held c.loop-next.maker.made)
    c.in_default.ensures.none c.loop-next.invariant)

pub returns-clause-few : goal.returns-clause-few
returns-clause-few c = making-few c.loop-next.invariant
