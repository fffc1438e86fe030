use Rattle.std.proofs.Common.{ap, ◌∙◌, rules}
use Rattle.std.proofs.lemmas.Fn.{always_returns_same}
use Rattle.journal.specs.SetupView.{SetupView}
use Rattle.settle.proofs.InOrder.{tick_and_packet}
use Rattle.settle.proofs.Outcomes.{IsOutcome-gathered}
use Rattle.settle.proofs.gathering.gather.Goals as goal

pub returns-clause-outcome : goal.returns-clause-outcome
returns-clause-outcome c =
    let read = c.parts.view_is ∙ c.parts-parts.ensures.same in
    let packets = ap (λ (S : SetupView). S.packets) read in
    IsOutcome-gathered (record {
      fates = c.args.fates.now;
      ps = _;
      qs = _;
      left = c.in_ok-leaving.leaving.items;
      setup = c.parts-parts.ensures.kept;
      as_many = c.requires.bytes;
      fates_are = c.requires.fates;
      ps_are = c.deref.ensures.value ∙ packets;
      qs_are = c.deref-2.ensures.value ∙ packets;
      left_are = c.in_ok-leaving.ensures;
      moved = c.sort_by_key.ensures.permutation;
      sorted = c.in_ok-sort_by_key.ensures.sorted tick_and_packet (always_returns_same _ _ _ (λ a r f k. search rules));
      dropped = c.in_ok-dropped.ensures;
      counted = c.in_ok-pipe_counts.ensures;
    })
