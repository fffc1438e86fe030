use Rattle.std.proofs.Common.{ℕ, List, sym, ap, subst, arith}
use Rattle.journal.specs.declared.visit.Visit.{Visit}
use Rattle.journal.proofs.VisitsTo.{pipe-order}
use Rattle.core_loop.specs.Work.{ComesTo}
use Rattle.core_loop.proofs.OwnVisit.{HasMade, finds, table-within, pipe-within, count-within, in-hand, few-counted, visited, table-after, run}
use Rattle.core_loop.proofs.own_pipes.OwnPipes.visit.Goals as goal
use Rattle.core_loop.proofs.own_pipes.OwnPipes.visit.Goals.{After-count}

pub index-requires : goal.index-requires
index-requires c =
    let q = c.requires.comes in
    let comes = subst (ComesTo c.args.setup.now q.0 q.1 c.args.due c.args.pipe) (sym c.self.view_is) q.2 in
    omega (arith, table-within comes c.self.invariant, c.self.inside.index_of.ok.0)

pub index_mut-own-requires : goal.index_mut-own-requires
index_mut-own-requires c =
    let found = finds c.self.view_is c.self.invariant c.index.ensures c.requires.comes.2 in
    omega (arith, pipe-within found, c.self.inside.pipes.ok.0)

pub decide-requires-clause-of_setup : goal.decide-requires-clause-of_setup
decide-requires-clause-of_setup c =
    let found = finds c.self.view_is c.self.invariant c.index.ensures c.requires.comes.2 in
    (in-hand found c.index_mut-own.ensures.value).of_setup

pub decide-requires-clause-order : goal.decide-requires-clause-order
decide-requires-clause-order c =
    let found = finds c.self.view_is c.self.invariant c.index.ensures c.requires.comes.2 in
    pipe-order (in-hand found c.index_mut-own.ensures.value) c.args.due.tick c.requires.comes.2.order

pub decide-requires-clause-few : goal.decide-requires-clause-few
decide-requires-clause-few c =
    let found = finds c.self.view_is c.self.invariant c.index.ensures c.requires.comes.2 in
    let is = in-hand found c.index_mut-own.ensures.value in
    omega (arith, c.requires.comes.2.few, is.stands.visits)

pub index_mut-requires : goal.index_mut-requires
index_mut-requires c =
    let found = finds c.self.view_is c.self.invariant c.index.ensures c.requires.comes.2 in
    omega (arith, count-within found, c.self.inside.counts.ok.0)

pub count-requires : goal.count-requires
count-requires c =
    few-counted (finds c.self.view_is c.self.invariant c.index.ensures c.requires.comes.2) c.index_mut.ensures.value

-- the visit is made, for any list of visits after which it comes
has_made : (c : After-count) {core : ℕ} {J : List Visit} → ComesTo c.args.setup.now core J c.args.due c.args.pipe c.args.self.now
    → HasMade c.args.setup.now core J c.args.due c.args.pipe
    (record { pipes = c.self.inside.pipes.items; counts = c.self.inside.counts.items })
    c.self.inside.index_of.items c.index.result.now c.index_mut-own.result.now c.decide.new.self c.in_ok-step.step
has_made c at = record {
  found = finds c.self.view_is c.self.invariant c.index.ensures at;
  old_is = c.index_mut-own.ensures.value;
  decided = record {
    pipe_is = at.at_pipe;
    step_is = c.in_ok-step.ensures.step;
    stands = c.in_ok-step.ensures.stands;
    of_setup = c.in_ok-step.ensures.of_setup;
    number = c.in_ok-step.ensures.number;
  };
}

pub invariant_of-self-2 : goal.invariant_of-self-2
invariant_of-self-2 c = table-after (has_made (goal.at.invariant_of-self-2 c).After-count c.requires.comes.2) c.count.new.counts

pub returns-clause-step : goal.returns-clause-step
returns-clause-step c = λ core J at. ap (λ (v : Visit). v.step) (visited (has_made (goal.at.returns-clause-step c).After-count at))

pub returns-clause-run : goal.returns-clause-run
returns-clause-run c = λ core J at.
    run (has_made (goal.at.returns-clause-run c).After-count at) c.index_mut.ensures.value c.count.ensures
