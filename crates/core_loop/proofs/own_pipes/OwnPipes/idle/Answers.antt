use Rattle.std.proofs.Common.{◌≡◌, ◌<◌, ℕ, List, [], length, slice_index, rules, sym, ap, ◌∙◌, subst, arith}
use Rattle.std.proofs.lemmas.List.{length_push}
use Rattle.std.proofs.lemmas.Iterator.Adapters.{YieldsList-from_vec}
use Rattle.std.proofs.lemmas.Iterator.Consumers.{YieldsList-turn}
use Rattle.journal.specs.SetupView.{SetupView}
use Rattle.journal.specs.IsPipe.{IsPipe}
use Rattle.journal.proofs.VisitsTo.{pipe-at}
use Rattle.parcel.specs.declared.counts.PipeCounts.{PipeCounts}
use Rattle.core_loop.proofs.IdlePipes.{own-next, other-next}
use Rattle.core_loop.proofs.own_pipes.OwnPipes.idle.Goals as goal

pub loop-pipe-preserved-then-owners-number : goal.loop-pipe-preserved-then-owners-number
loop-pipe-preserved-then-owners-number c =
    let turn =
    YieldsList-turn (YieldsList-from_vec c.in_ok-pipe-items.pipe-items.items (search rules) (search rules)) c.loop-pipe.yielded _
    c.loop-pipe.yielded_by _ c.next.new.self c.in-Some.pipe c.in-Some.is c.next.ensures.steps in
    let here : length c.loop-pipe.yielded < length c.args.setup.now.pipes = omega (arith, turn.0, c.in_ok-pipe-items.ensures.count) in
    let is : IsPipe c.args.setup.now [] (length c.loop-pipe.yielded) c.in-Some.pipe =
    pipe-at c.in_ok-pipe-items.ensures (length c.loop-pipe.yielded) c.in-Some.pipe here turn.1 in
    let owners : c.as_slice-owners.result.now ≡ c.args.setup.now.owners =
    c.as_slice-owners.ensures.value ∙ ap (λ (S : SetupView). S.owners) (c.behind-setup.view_is ∙ c.parts.ensures.same) in
    let number : c.len-number.result ≡ length c.loop-pipe.index_of.items = omega (arith, c.len-number.ensures, c.loop-pipe.index_of.ok.0) in
    record {
      below =
          other-next c.args.setup.now c.args.core c.loop-pipe.index_of.items c.push.new.self.items c.loop-pipe.pipes.items
          c.loop-pipe.counts.items c.loop-pipe.invariant.below c.in-Some.pipe
          (subst (λ (k : ℕ). IsPipe c.args.setup.now [] k c.in-Some.pipe) c.loop-pipe.invariant.met is) c.len.result
          (λ own. c.if-owners-number.true
          (ap (λ (l : List ℕ). slice_index l c.len-number.result) owners ∙ ap (slice_index c.args.setup.now.owners) number ∙ own))
          c.in_ok-push.ensures.items;
      met = omega (
        arith,
        length_push c.loop-pipe.yielded c.in-Some.pipe,
        ap length c.in_ok-push.ensures.items,
        length_push c.loop-pipe.index_of.items c.len.result,
        c.loop-pipe.invariant.met,
      );
    }

pub loop-pipe-preserved : goal.loop-pipe-preserved
loop-pipe-preserved c =
    let turn =
    YieldsList-turn (YieldsList-from_vec c.in_ok-pipe-items.pipe-items.items (search rules) (search rules)) c.loop-pipe.yielded _
    c.loop-pipe.yielded_by _ c.next.new.self c.in-Some.pipe c.in-Some.is c.next.ensures.steps in
    let here : length c.loop-pipe.yielded < length c.args.setup.now.pipes = omega (arith, turn.0, c.in_ok-pipe-items.ensures.count) in
    let is : IsPipe c.args.setup.now [] (length c.loop-pipe.yielded) c.in-Some.pipe =
    pipe-at c.in_ok-pipe-items.ensures (length c.loop-pipe.yielded) c.in-Some.pipe here turn.1 in
    let owners : c.as_slice-owners.result.now ≡ c.args.setup.now.owners =
    c.as_slice-owners.ensures.value ∙ ap (λ (S : SetupView). S.owners) (c.behind-setup.view_is ∙ c.parts.ensures.same) in
    let number : c.len-number.result ≡ length c.loop-pipe.index_of.items = omega (arith, c.len-number.ensures, c.loop-pipe.index_of.ok.0) in
    let with_number : ℕ → PipeCounts = λ k. record { pipe = k; passed = 0; lost = 0; full = 0 } in
    record {
      below =
          own-next c.args.setup.now c.args.core c.loop-pipe.index_of.items c.push.new.self.items c.loop-pipe.pipes.items
          c.push-in-loop-pipe.new.self.items c.loop-pipe.counts.items c.push-in-loop-pipe-2.new.self.items c.loop-pipe.invariant.below
          c.in-Some.pipe (subst (λ (k : ℕ). IsPipe c.args.setup.now [] k c.in-Some.pipe) c.loop-pipe.invariant.met is) c.len.result
          c.idle_counts.result
          (sym (ap (λ (l : List ℕ). slice_index l c.len-number.result) owners ∙ ap (slice_index c.args.setup.now.owners) number)
          ∙ c.if-owners-number.false)
          (omega (arith, c.len.ensures, c.loop-pipe.pipes.ok.0))
          (c.idle_counts.ensures ∙ ap with_number number)
          c.in_ok-push.ensures.items c.in_ok-push-2.ensures.items c.in_ok-push-3.ensures.items;
      met = omega (
        arith,
        length_push c.loop-pipe.yielded c.in-Some.pipe,
        ap length c.in_ok-push.ensures.items,
        length_push c.loop-pipe.index_of.items c.len.result,
        c.loop-pipe.invariant.met,
      );
    }
