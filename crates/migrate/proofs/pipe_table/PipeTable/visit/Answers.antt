use Rattle.std.proofs.Common.{◌≡◌, ℕ, List, refl, sym, ap, ◌∙◌, subst}
use Rattle.std.specs.Prelude.{IsSome}
use Rattle.journal.specs.declared.visit.Visit.{Visit}
use Rattle.journal.specs.Hops.{pipe_of}
use Rattle.journal.specs.IsPipe.{SetupPipeView}
use Rattle.journal.proofs.VisitsTo.{Decided}
use Rattle.migrate.specs.ShelvesView.{pipe_in}
use Rattle.migrate.specs.Running.{ComesToPipe}
use Rattle.migrate.proofs.TableVisits.{own-of-setup, own-order, own-few, own-step, own-after, other-found}
use Rattle.migrate.proofs.pipe_table.PipeTable.visit.Goals as goal
use Rattle.migrate.proofs.pipe_table.PipeTable.visit.Goals.{In-Some, In_ok-step-in-Some}

-- the visit comes to the pipe among the entries
among : (c : In-Some) → {J : List Visit} → ComesToPipe c.args.setup.now J c.args.due c.args.pipe c.args.self.now
    → ComesToPipe c.args.setup.now J c.args.due c.args.pipe c.self.inside.pipes.entries
among c {J} = subst (ComesToPipe c.args.setup.now J c.args.due c.args.pipe) (sym c.self.view_is)

-- the pipe is found, and decides
decided : (c : In_ok-step-in-Some) → c.args.pipe ≡ pipe_of c.args.setup.now c.args.due
    → Decided c.args.setup.now c.args.due c.args.pipe c.in-Some.own.now c.decide.new.self c.in_ok-step-in-Some.step
decided c at = record {
  pipe_is = at;
  step_is = c.in_ok-step-in-Some.ensures.step;
  stands = c.in_ok-step-in-Some.ensures.stands;
  of_setup = c.in_ok-step-in-Some.ensures.of_setup;
  number = c.in_ok-step-in-Some.ensures.number;
}

pub decide-requires-clause-of_setup : goal.decide-requires-clause-of_setup
decide-requires-clause-of_setup c = own-of-setup (among c c.requires.comes.1) (sym c.in-Some.ensures.value)

pub decide-requires-clause-order : goal.decide-requires-clause-order
decide-requires-clause-order c = own-order (among c c.requires.comes.1) (sym c.in-Some.ensures.value)

pub decide-requires-clause-few : goal.decide-requires-clause-few
decide-requires-clause-few c = own-few (among c c.requires.comes.1) (sym c.in-Some.ensures.value)

pub returns-clause-step : goal.returns-clause-step
returns-clause-step c = λ J comes.
    let at = goal.at.returns-clause-step c in
    own-step (among at.In-Some comes) (sym c.in-Some.ensures.value) (decided at.In_ok-step-in-Some comes.at_pipe)

pub returns-clause-own : goal.returns-clause-own
returns-clause-own c = λ J comes.
    let at = goal.at.returns-clause-own c in
    let written = (c.get_mut.follows.holds c.decide.new.self).3 (subst (λ o. IsSome o) (sym (sym c.in-Some.ensures.value)) refl) in
    own-after (among at.In-Some comes) (sym c.in-Some.ensures.value) (decided at.In_ok-step-in-Some comes.at_pipe) _ written.1

pub returns-clause-others : goal.returns-clause-others
returns-clause-others c = λ other not.
    let written = (c.get_mut.follows.holds c.decide.new.self).3 (subst (λ o. IsSome o) (sym (sym c.in-Some.ensures.value)) refl) in
    other-found c.self.inside.pipes.entries (c.get_mut.follows.lender c.decide.new.self).entries c.args.pipe c.decide.new.self
    written.0 other not
    ∙ ap (λ (es : List (ℕ × SetupPipeView)). pipe_in es other) c.self.view_is
