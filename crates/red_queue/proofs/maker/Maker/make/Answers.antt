use Rattle.std.proofs.Common.{◌*◌, ◌<◌, ◌≤◌, length, slice_get, ap, ◌∙◌, sym, subst, arith}
use Rattle.mn_base.specs.declared.limits.TheConstants.{TIME_NS_END, PACKET_BYTES_MAX}
use Rattle.red_queue.specs.declared.setup.RedPacket.{RedPacket}
use Rattle.red_queue.specs.SetupView.{RedSetupView}
use Rattle.red_queue.specs.Making.{IsAtWork}
use Rattle.red_queue.proofs.VisitsTo.{pipe-at, pipe-order}
use Rattle.red_queue.proofs.Making.{get-at, all-get, next-hop, next-numbered, next-within, next-order, next-time, next-alone, Makes, makes-visit, makes-making}
use Rattle.red_queue.proofs.maker.Maker.make.Goals as goal

pub index-requires : goal.index-requires
index-requires c =
    let within = next-within c.requires.setup c.requires.next.1 in
    omega (arith, within, ap (λ (s : RedSetupView). length s.packets) c.setup.view_is)

pub index_mut-requires : goal.index_mut-requires
index_mut-requires c =
    let hop = next-hop c.requires.setup c.requires.next.1 in
    omega (arith, hop, c.requires.next.1.making.pipes_are.count)

in_hand : (c : goal.After-decide-arg-1) → IsAtWork c.args.setup.now c.requires.next.0 c.args.next.due.hop c.index_mut.result.now
in_hand c =
    pipe-at c.requires.next.1.making.pipes_are c.args.next.due.hop c.index_mut.result.now
    (next-hop c.requires.setup c.requires.next.1) c.index_mut.ensures.value

pub decide-requires-clause-order : goal.decide-requires-clause-order
decide-requires-clause-order c = pipe-order (in_hand c) c.args.next.due.tick (next-order c.requires.setup c.requires.next.1)

pub decide-requires-clause-time : goal.decide-requires-clause-time
decide-requires-clause-time c =
    subst (λ T. c.args.next.due.tick * T < TIME_NS_END) (sym (in_hand c).tick_ns) (next-time c.requires.setup c.requires.next.1)

pub decide-requires-clause-len : goal.decide-requires-clause-len
decide-requires-clause-len c =
    all-get (λ (q : RedPacket). q.len ≤ PACKET_BYTES_MAX) c.args.setup.now.packets c.args.next.index c.index.result.now
    c.requires.setup.lens_most
    (get-at c.args.setup.now.packets _ c.args.next.index c.index.result.now (ap (λ (s : RedSetupView). s.packets) c.setup.view_is)
    (next-within c.requires.setup c.requires.next.1) c.index.ensures)

pub follow_up-requires-clause-within : goal.follow_up-requires-clause-within
follow_up-requires-clause-within c = next-hop c.requires.setup c.requires.next.1

pub follow_up-requires-clause-none : goal.follow_up-requires-clause-none
follow_up-requires-clause-none c = next-alone c.requires.setup c.requires.next.1

makes : (c : goal.In_ok-follow_up)
    → Makes c.args.setup.now c.args.next c.args.self.now.pipes.items c.args.self.now.due c.index_mut.result.now
    c.decide.new.self c.in_ok-step.step c.follow_up.new.due
makes c = record {
  setup = c.requires.setup;
  packet = c.index.result.now;
  packet_is =
      ap (slice_get c.args.setup.now.packets) (sym (next-numbered c.requires.setup c.requires.next.1))
      ∙ get-at c.args.setup.now.packets _ c.args.next.index c.index.result.now
      (ap (λ (s : RedSetupView). s.packets) c.setup.view_is) (next-within c.requires.setup c.requires.next.1) c.index.ensures;
  pipe_is = c.index_mut.ensures.value;
  step_is = c.in_ok-step.ensures.step;
  stands = c.in_ok-step.ensures.stands;
  number = c.in_ok-step.ensures.number;
  seed = c.in_ok-step.ensures.seed;
  params = c.in_ok-step.ensures.params;
  tick_ns = c.in_ok-step.ensures.tick_ns;
  stay = c.in_ok-step.ensures.stay;
  puts = c.in_ok-follow_up.ensures;
}

pub returns-clause-visit : goal.returns-clause-visit
returns-clause-visit c = makes-visit (makes c)

pub returns-clause-making : goal.returns-clause-making
returns-clause-making c = makes-making (makes c)
