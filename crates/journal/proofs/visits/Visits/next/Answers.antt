use Rattle.std.proofs.Common.{subst, take}
use Rattle.journal.specs.Journal.{journal_of}
use Rattle.journal.specs.Held.{IsMaking}
use Rattle.journal.proofs.Making.{making-whole}
use Rattle.journal.proofs.MadeVisits.{front-taken, taken-making, making-more, goes_on}
use Rattle.journal.proofs.visits.Visits.next.Goals as goal

pub returns-in_default-clause-whole : goal.returns-in_default-clause-whole
returns-in_default-clause-whole c =
    rw (← c.self.view_is)
    (making-whole (subst
    (λ held. IsMaking c.self.inside.setup.now (take c.self.inside.maker.made (journal_of c.self.inside.setup.now))
    c.self.inside.maker.pipes.items held c.self.inside.maker.made)
    c.in_default.ensures.none (c.self.invariant.making c.if-self.false)))

pub invariant_of-self-2 : goal.invariant_of-self-2
invariant_of-self-2 c = record {
  is_setup = c.self.invariant.is_setup;
  making = λ f. taken-making
      (making-more (c.self.invariant.making c.if-self.false) c.in-Some.ensures.first c.in_ok-visit.ensures.visit
      c.in_ok-visit.ensures.making);
}

pub returns-clause-made : goal.returns-clause-made
returns-clause-made c =
    rw (← c.self.view_is)
    (front-taken
    (making-more (c.self.invariant.making c.if-self.false) c.in-Some.ensures.first c.in_ok-visit.ensures.visit
    c.in_ok-visit.ensures.making))

pub returns-clause-goes_on : goal.returns-clause-goes_on
returns-clause-goes_on c =
    rw (← c.self.view_is)
    (goes_on (take c.self.inside.maker.made (journal_of c.self.inside.setup.now)) c.in_ok-visit.visit
    (making-more (c.self.invariant.making c.if-self.false) c.in-Some.ensures.first c.in_ok-visit.ensures.visit
    c.in_ok-visit.ensures.making))
