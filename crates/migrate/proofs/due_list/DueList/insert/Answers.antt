use Rattle.std.proofs.Common.{◌≡◌, ◌⊎◌, ◌∷◌, Option, Some, List, sym, ap, ◌∙◌, subst}
use Rattle.std.specs.Prelude.{◌↔◌}
use Rattle.std.specs.List.{cons_option}
use Rattle.mn_base.specs.Among.{Among}
use Rattle.mn_base.specs.declared.due.Due.{Due}
use Rattle.deadline_heap.proofs.Orders.{is_before-true, is_before-false}
use Rattle.migrate.specs.Inside.{AreInSight}
use Rattle.migrate.proofs.InSight.{IsToPut, later-alone, front-in-sight, behind-in-sight, front-members, behind-members}
use Rattle.migrate.proofs.due_list.DueList.insert.Goals as goal
use Rattle.migrate.proofs.due_list.DueList.insert.Goals.{In-Some}

-- where there is a first one
to-put : (c : In-Some) → IsToPut c.in-Some.first c.self.inside.later c.args.self.now c.args.due
to-put c = record {
  in_sight = subst (λ (o : Option Due). AreInSight o c.self.inside.later) c.in-Some.is c.self.invariant;
  now_are = ap (λ (o : Option Due). cons_option o c.self.inside.later) (sym c.in-Some.is) ∙ c.self.view_is;
  alone = c.requires.alone;
  low = c.requires.tick;
}

pub invariant_of-self-then-comes_before : goal.invariant_of-self-then-comes_before
invariant_of-self-then-comes_before c =
    subst (AreInSight (Some c.args.due)) (sym c.in_ok-insert-in-Some.ensures.placed)
    (front-in-sight (to-put (goal.at.invariant_of-self-then-comes_before c).In-Some)
    (is_before-true c.args.due c.in-Some.first (sym c.comes_before.ensures ∙ c.if-comes_before.true)))

pub insert-requires-in-Some-2 : goal.insert-requires-in-Some-2
insert-requires-in-Some-2 c = later-alone (to-put (goal.at.insert-requires-in-Some-2 c).In-Some)

pub invariant_of-self-in-Some-2 : goal.invariant_of-self-in-Some-2
invariant_of-self-in-Some-2 c =
    subst (λ (o : Option Due). AreInSight o c.insert-in-Some-2.new.self) (sym c.in-Some.is)
    (subst (AreInSight (Some c.in-Some.first)) (sym c.in_ok-insert-in-Some-2.ensures.placed)
    (behind-in-sight (to-put (goal.at.invariant_of-self-in-Some-2 c).In-Some)
    (is_before-false c.args.due c.in-Some.first (sym c.comes_before.ensures ∙ c.if-comes_before.false))))

pub returns-in_ok-insert-in-Some-clause-members : goal.returns-in_ok-insert-in-Some-clause-members
returns-in_ok-insert-in-Some-clause-members c = λ other.
    let due = c.args.due in
    subst (λ (l : List Due). ((due ≡ other) ⊎ Among other l) ↔ ((due ≡ other) ⊎ Among other c.args.self.now))
    (sym c.in_ok-insert-in-Some.ensures.placed)
    (front-members (to-put (goal.at.returns-in_ok-insert-in-Some-clause-members c).In-Some) other)

pub returns-in_ok-insert-in-Some-clause-canonical : goal.returns-in_ok-insert-in-Some-clause-canonical
returns-in_ok-insert-in-Some-clause-canonical c = (invariant_of-self-then-comes_before c).canonical

pub returns-in_ok-insert-in-Some-2-clause-members : goal.returns-in_ok-insert-in-Some-2-clause-members
returns-in_ok-insert-in-Some-2-clause-members c = λ other.
    let due = c.args.due in
    subst (λ (o : Option Due). Among other (cons_option o c.insert-in-Some-2.new.self) ↔ ((due ≡ other) ⊎ Among other c.args.self.now))
    (sym c.in-Some.is)
    (subst (λ (l : List Due). Among other (c.in-Some.first ∷ l) ↔ ((due ≡ other) ⊎ Among other c.args.self.now))
    (sym c.in_ok-insert-in-Some-2.ensures.placed)
    (behind-members (to-put (goal.at.returns-in_ok-insert-in-Some-2-clause-members c).In-Some) other))

pub returns-in_ok-insert-in-Some-2-clause-canonical : goal.returns-in_ok-insert-in-Some-2-clause-canonical
returns-in_ok-insert-in-Some-2-clause-canonical c = (invariant_of-self-in-Some-2 c).canonical
