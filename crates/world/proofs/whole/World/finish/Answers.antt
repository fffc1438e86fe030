use Rattle.std.proofs.Common.{◌≡◌, ◌≤◌, ℕ, ◌+◌, List, [], ◌∷◌, ◌++◌, length, get_or, Some, rules, refl, sym, ap, ◌∙◌, subst, arith}
use Rattle.std.specs.Prelude.{slice_get}
use Rattle.std.proofs.lemmas.List.{length_push}
use Rattle.std.proofs.lemmas.Option.{slice_get-get_or}
use Rattle.std.proofs.lemmas.Iterator.Adapters.{YieldsList-from_vec}
use Rattle.std.proofs.lemmas.Iterator.Consumers.{YieldsList-turn, YieldsList-end}
use Rattle.parcel.specs.CoreResultView.{CoreResultView}
use Rattle.core_loop.specs.CoreView.{CoreView}
use Rattle.world.specs.WorldView.{WorldView, IsWorld, IsCoreOf}
use Rattle.world.proofs.Finishes.{IsFinishing, finishing-starts, finishing-more, finishing-ends, finishing-results}
use Rattle.world.proofs.whole.World.finish.Goals as goal

pub loop-core-init : goal.loop-core-init
loop-core-init c = record {
  finishing = subst (λ (rs : List CoreResultView). IsFinishing c.args.self c.args.tally.now 0 rs c.args.tally.now) (sym c.in_ok-results.ensures.items)
      (finishing-starts c.args.self c.args.tally.now);
  room = omega (arith, c.in_ok-results.ensures.capacity, c.len.ensures, ap (λ (w : WorldView). length w.cores) c.self.view_is);
}

pub finish-requires-clause-done : goal.finish-requires-clause-done
finish-requires-clause-done c =
    let turn =
    YieldsList-turn (YieldsList-from_vec c.self.inside.cores.items (search rules) (search rules)) c.loop-core.yielded _ c.loop-core.yielded_by
    _ c.next.new.self c.in-Some.core c.in-Some.is c.next.ensures.steps in
    let here = slice_get-get_or c.self.inside.cores.items (length c.loop-core.yielded) c.in-Some.core turn.0 ∙ ap Some (sym turn.1) in
    c.requires.done.each (length c.loop-core.yielded) c.in-Some.core
    (ap (λ (w : WorldView). slice_get w.cores (length c.loop-core.yielded)) (sym c.self.view_is) ∙ here)

pub finish-requires-clause-works : goal.finish-requires-clause-works
finish-requires-clause-works c =
    let turn =
    YieldsList-turn (YieldsList-from_vec c.self.inside.cores.items (search rules) (search rules)) c.loop-core.yielded _ c.loop-core.yielded_by
    _ c.next.new.self c.in-Some.core c.in-Some.is c.next.ensures.steps in
    let here = slice_get-get_or c.self.inside.cores.items (length c.loop-core.yielded) c.in-Some.core turn.0 ∙ ap Some (sym turn.1) in
    c.self.invariant.works (ap (λ (w : WorldView). w.failed) c.self.view_is ∙ c.requires.done.works) (length c.loop-core.yielded) c.in-Some.core here

pub loop-core-preserved : goal.loop-core-preserved
loop-core-preserved c =
    let W = c.args.self in
    let n = length c.loop-core.yielded in
    let turn =
    YieldsList-turn (YieldsList-from_vec c.self.inside.cores.items (search rules) (search rules)) c.loop-core.yielded _ c.loop-core.yielded_by
    _ c.next.new.self c.in-Some.core c.in-Some.is c.next.ensures.steps in
    let here = ap (λ (w : WorldView). slice_get w.cores n) (sym c.self.view_is)
    ∙ slice_get-get_or c.self.inside.cores.items n c.in-Some.core turn.0 ∙ ap Some (sym turn.1) in
    let is = subst IsWorld c.self.view_is c.self.invariant in
    record {
      finishing = subst (λ (k : ℕ). IsFinishing W c.args.tally.now k c.push_reserved.new.self.items c.finish.new.tally)
          (sym (length_push c.loop-core.yielded c.in-Some.core))
          (subst (λ (rs : List CoreResultView). IsFinishing W c.args.tally.now (n + 1) rs c.finish.new.tally) (sym c.push_reserved.ensures.items)
          (finishing-more c.in-Some.core c.finish.result c.loop-core.invariant.finishing is here c.finish.ensures.result
          c.finish.ensures.tally));
      room = omega (arith, c.loop-core.invariant.room, c.push_reserved.ensures.capacity);
    }

pub returns-clause-results : goal.returns-clause-results
returns-clause-results c = λ bytes s.
    let ended =
    YieldsList-end (YieldsList-from_vec c.self.inside.cores.items (search rules) (search rules)) c.loop-core.yielded _ c.loop-core.yielded_by
    _ c.next.new.self c.in-None.is c.next.ensures.steps in
    let all : length c.loop-core.yielded ≡ c.args.self.setup.cores = omega (
      arith,
      ended.1,
      c.self.invariant.one_a_core,
      ap (λ (w : WorldView). w.setup.cores) c.self.view_is,
    ) in
    finishing-results c.args.self c.args.tally.now (length c.loop-core.yielded) c.loop-core.results.items c.loop-core.tally
    c.loop-core.invariant.finishing all bytes s

pub returns-clause-tally : goal.returns-clause-tally
returns-clause-tally c =
    let ended =
    YieldsList-end (YieldsList-from_vec c.self.inside.cores.items (search rules) (search rules)) c.loop-core.yielded _ c.loop-core.yielded_by
    _ c.next.new.self c.in-None.is c.next.ensures.steps in
    let all : length c.loop-core.yielded ≡ c.args.self.setup.cores = omega (
      arith,
      ended.1,
      c.self.invariant.one_a_core,
      ap (λ (w : WorldView). w.setup.cores) c.self.view_is,
    ) in
    let is = subst IsWorld c.self.view_is c.self.invariant in
    finishing-ends c.args.self is.is_setup c.args.tally.now (length c.loop-core.yielded) c.loop-core.results.items c.loop-core.tally
    c.loop-core.invariant.finishing all
