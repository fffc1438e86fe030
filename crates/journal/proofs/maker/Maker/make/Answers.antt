use Rattle.std.proofs.Common.{◌<◌, inl, List, [], ◌∷◌, ◌++◌, length, slice_index, slice_set, refl, ap, ◌∙◌, subst, arith}
use Rattle.std.proofs.lemmas.Option.{slice_get_within}
use Rattle.journal.specs.declared.visit.Visit.{Visit}
use Rattle.journal.specs.SetupView.{route_of}
use Rattle.journal.specs.IsPipe.{IsPipe, ArePipes}
use Rattle.journal.specs.Held.{IsToMake}
use Rattle.journal.proofs.VisitsTo.{Decided, made, pipe-at, pipe-order, decided-visit, decided-pipe, pipes-push}
use Rattle.journal.proofs.Making.{planned, next-indexed, next-order, next-time, next-alone, next-few, made-fits, making-next}
use Rattle.journal.proofs.maker.Maker.make.Goals as goal

pub packet_at-plan-requires : goal.packet_at-plan-requires
packet_at-plan-requires c =
    let t = c.requires.1 in
    let i = t.making.held_is.indexed c.args.next ((t.takes.taken c.args.next).1 (inl refl)) in
    slice_get_within c.args.setup.now.packets c.args.next.index i.plan i.at

pub pipe_at-number-requires-clause-within : goal.pipe_at-number-requires-clause-within
pipe_at-number-requires-clause-within c =
    (planned c.packet_at-plan.ensures.setup (next-indexed c.packet_at-plan.ensures.setup c.requires.1) c.packet_at-plan.ensures.at).hop

-- the pipe in hand, for any list that the pipes stand for
in_hand : (c : goal.After-decide-arg-1) (J : List Visit)
    → IsToMake c.args.setup.now J c.args.next c.args.self.now.pipes.items c.args.self.now.due c.args.self.now.made
    → IsPipe c.args.setup.now J c.pipe_at-number.result c.index_mut-pipe.result.now
in_hand c J t =
    pipe-at t.making.pipes_are c.pipe_at-number.result c.index_mut-pipe.result.now c.pipe_at-number.ensures.named
    c.index_mut-pipe.ensures.value

pub decide-requires-clause-packet : goal.decide-requires-clause-packet
decide-requires-clause-packet c =
    (planned c.packet_at-plan.ensures.setup (next-indexed c.packet_at-plan.ensures.setup c.requires.1) c.packet_at-plan.ensures.at).number

pub decide-requires-clause-order : goal.decide-requires-clause-order
decide-requires-clause-order c =
    pipe-order (in_hand c c.requires.0 c.requires.1) c.args.next.due.tick (next-order c.packet_at-plan.ensures.setup c.requires.1)

pub decide-requires-clause-time : goal.decide-requires-clause-time
decide-requires-clause-time c = next-time c.packet_at-plan.ensures.setup c.requires.1

pub decide-requires-clause-few : goal.decide-requires-clause-few
decide-requires-clause-few c =
    let p = planned c.packet_at-plan.ensures.setup (next-indexed c.packet_at-plan.ensures.setup c.requires.1) c.packet_at-plan.ensures.at in
    let few = next-few c.packet_at-plan.ensures.setup c.requires.1 c.pipe_at-number.result
    (c.pipe_at-number.ensures.pipe ∙ ap (λ n. slice_index (route_of c.args.setup.now n) c.args.next.due.hop) p.number) in
    let is = in_hand c c.requires.0 c.requires.1 in
    omega (arith, few, is.stands.visits)

pub follow_up-requires-clause-packet : goal.follow_up-requires-clause-packet
follow_up-requires-clause-packet c =
    (planned c.packet_at-plan.ensures.setup (next-indexed c.packet_at-plan.ensures.setup c.requires.1) c.packet_at-plan.ensures.at).number

pub follow_up-requires-clause-within : goal.follow_up-requires-clause-within
follow_up-requires-clause-within c =
    (planned c.packet_at-plan.ensures.setup (next-indexed c.packet_at-plan.ensures.setup c.requires.1) c.packet_at-plan.ensures.at).hop

pub follow_up-requires-clause-none : goal.follow_up-requires-clause-none
follow_up-requires-clause-none c = next-alone c.packet_at-plan.ensures.setup c.requires.1

pub overflow_add-self : goal.overflow_add-self
overflow_add-self c = omega (arith, made-fits c.packet_at-plan.ensures.setup c.requires.1)

-- what the pipe decided
decided : (c : goal.After-self-2-1)
    → Decided c.args.setup.now c.args.next.due c.pipe_at-number.result c.index_mut-pipe.result.now c.decide.new.self c.in_ok-step.step
decided c =
    let p = planned c.packet_at-plan.ensures.setup (next-indexed c.packet_at-plan.ensures.setup c.requires.1) c.packet_at-plan.ensures.at in
    record {
      pipe_is = c.pipe_at-number.ensures.pipe ∙ ap (λ n. slice_index (route_of c.args.setup.now n) c.args.next.due.hop) p.number;
      step_is = c.in_ok-step.ensures.step;
      stands = c.in_ok-step.ensures.stands;
      of_setup = c.in_ok-step.ensures.of_setup;
      number = c.in_ok-step.ensures.number;
    }

stood : (c : goal.After-self-2-1) (J : List Visit)
    → IsToMake c.args.setup.now J c.args.next c.args.self.now.pipes.items c.args.self.now.due c.args.self.now.made
    → IsPipe c.args.setup.now J c.pipe_at-number.result c.index_mut-pipe.result.now
stood c J t =
    pipe-at t.making.pipes_are c.pipe_at-number.result c.index_mut-pipe.result.now c.pipe_at-number.ensures.named
    c.index_mut-pipe.ensures.value

pub returns-clause-visit : goal.returns-clause-visit
returns-clause-visit c = λ J t. decided-visit (decided c) J (stood c J t)

pub returns-clause-making : goal.returns-clause-making
returns-clause-making c = λ J t.
    let visit = decided-visit (decided c) J (stood c J t) in
    let number : c.pipe_at-number.result < length c.args.self.now.pipes.items =
    omega (arith, t.making.pipes_are.count, c.pipe_at-number.ensures.named) in
    let pipes = pipes-push t.making.pipes_are c.pipe_at-number.result c.decide.new.self
    (made c.args.next.due c.pipe_at-number.result c.in_ok-step.step) number refl (decided-pipe (decided c) J (stood c J t)) in
    making-next c.packet_at-plan.ensures.setup t c.in_ok-step.step c.follow_up.new.due
    (slice_set c.args.self.now.pipes.items c.pipe_at-number.result c.decide.new.self)
    (ap (λ (v : Visit). v.step) visit) c.in_ok-follow_up.ensures
    (subst (λ (v : Visit). ArePipes c.args.setup.now (J ++ v ∷ []) (slice_set c.args.self.now.pipes.items c.pipe_at-number.result c.decide.new.self))
    visit pipes)
