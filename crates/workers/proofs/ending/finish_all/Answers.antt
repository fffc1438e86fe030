use Rattle.std.proofs.Common.{ℕ, List, [], ◌∷◌, ◌++◌, length, Some, rules, refl, sym, ap, ◌∙◌, subst, arith}
use Rattle.std.specs.List.{AllZip}
use Rattle.std.proofs.lemmas.List.{length_push}
use Rattle.std.proofs.lemmas.Option.{slice_get-get_or}
use Rattle.std.proofs.lemmas.Slice.Zip.{all_zipped_more, AllZip-long}
use Rattle.std.proofs.lemmas.Iterator.Adapters.{YieldsList-from_vec}
use Rattle.std.proofs.lemmas.Iterator.Consumers.{YieldsList-turn, YieldsList-end}
use Rattle.core_loop.proofs.Tallying.{IsCounted, counted-ends}
use Rattle.workers.specs.declared.place.Place.{Place}
use Rattle.workers.specs.declared.ran.Ran.{Ran}
use Rattle.workers.specs.Places.{HasEndedAt, IsEndedAt, IsRanAt}
use Rattle.workers.proofs.Ended.{one-counted}
use Rattle.workers.proofs.ending.finish_all.Goals as goal

pub unreachable-requires : goal.unreachable-requires
unreachable-requires c =
    let n = length c.loop-place.yielded in
    let turn =
    YieldsList-turn (YieldsList-from_vec c.args.places.items (search rules) (search rules)) c.loop-place.yielded _ c.loop-place.yielded_by
    _ c.next.new.self c.in-Some.place c.in-Some.is c.next.ensures.steps in
    let here = slice_get-get_or c.args.places.items n c.in-Some.place turn.0 ∙ ap Some (sym turn.1) in
    subst (λ (p : Place). IsEndedAt c.args.setup.now n p) c.in_default.is (c.requires.ended.each n c.in-Some.place here)

pub finish-result-requires-clause-done : goal.finish-result-requires-clause-done
finish-result-requires-clause-done c =
    let n = length c.loop-place.yielded in
    let turn =
    YieldsList-turn (YieldsList-from_vec c.args.places.items (search rules) (search rules)) c.loop-place.yielded _ c.loop-place.yielded_by
    _ c.next.new.self c.in-Some.place c.in-Some.is c.next.ensures.steps in
    let here = slice_get-get_or c.args.places.items n c.in-Some.place turn.0 ∙ ap Some (sym turn.1) in
    let ended : HasEndedAt c.args.setup.now n c.in-Here.station.core =
    subst (λ (p : Place). IsEndedAt c.args.setup.now n p) c.in-Here.is (c.requires.ended.each n c.in-Some.place here) in
    ended.done

pub finish-result-requires-clause-works : goal.finish-result-requires-clause-works
finish-result-requires-clause-works c =
    let n = length c.loop-place.yielded in
    let turn =
    YieldsList-turn (YieldsList-from_vec c.args.places.items (search rules) (search rules)) c.loop-place.yielded _ c.loop-place.yielded_by
    _ c.next.new.self c.in-Some.place c.in-Some.is c.next.ensures.steps in
    let here = slice_get-get_or c.args.places.items n c.in-Some.place turn.0 ∙ ap Some (sym turn.1) in
    let ended : HasEndedAt c.args.setup.now n c.in-Here.station.core =
    subst (λ (p : Place). IsEndedAt c.args.setup.now n p) c.in-Here.is (c.requires.ended.each n c.in-Some.place here) in
    ended.works

pub push_reserved-requires : goal.push_reserved-requires
push_reserved-requires c =
    let turn =
    YieldsList-turn (YieldsList-from_vec c.args.places.items (search rules) (search rules)) c.loop-place.yielded _ c.loop-place.yielded_by
    _ c.next.new.self c.in-Some.place c.in-Some.is c.next.ensures.steps in
    let same = AllZip-long IsRanAt c.loop-place.yielded c.loop-place.all.items c.loop-place.invariant.ran in
    omega (arith, turn.0, same, c.loop-place.invariant.room)

pub loop-place-preserved : goal.loop-place-preserved
loop-place-preserved c =
    let n = length c.loop-place.yielded in
    let turn =
    YieldsList-turn (YieldsList-from_vec c.args.places.items (search rules) (search rules)) c.loop-place.yielded _ c.loop-place.yielded_by
    _ c.next.new.self c.in-Some.place c.in-Some.is c.next.ensures.steps in
    let here = slice_get-get_or c.args.places.items n c.in-Some.place turn.0 ∙ ap Some (sym turn.1) in
    let ended : HasEndedAt c.args.setup.now n c.in-Here.station.core =
    subst (λ (p : Place). IsEndedAt c.args.setup.now n p) c.in-Here.is (c.requires.ended.each n c.in-Some.place here) in
    let ran : Ran = record { result = c.finish-result.result; ports = c.in-Here.station.ports } in
    record {
      ran = subst (λ (rs : List Ran). AllZip IsRanAt (c.loop-place.yielded ++ c.in-Some.place ∷ []) rs)
          (sym c.push_reserved.ensures.items)
          (all_zipped_more IsRanAt c.loop-place.yielded c.loop-place.all.items c.in-Some.place ran c.loop-place.invariant.ran
          (subst (λ (p : Place). IsRanAt p ran) (sym c.in-Here.is) record { result = c.finish-result.ensures.result; ports = refl }));
      tally = subst (λ (k : ℕ). IsCounted c.args.setup.now c.args.tally.now k c.finish-result.new.tally)
          (sym (length_push c.loop-place.yielded c.in-Some.place))
          (one-counted c.args.setup.now c.args.tally.now n c.loop-place.tally c.finish-result.new.tally c.in-Here.station.core ended
          c.loop-place.invariant.tally c.finish-result.ensures.tally);
      room = omega (arith, c.loop-place.invariant.room, c.push_reserved.ensures.capacity);
    }

pub returns-clause-tally : goal.returns-clause-tally
returns-clause-tally c =
    let ended =
    YieldsList-end (YieldsList-from_vec c.args.places.items (search rules) (search rules)) c.loop-place.yielded _ c.loop-place.yielded_by
    _ c.next.new.self c.in-None.is c.next.ensures.steps in
    counted-ends c.args.setup.now c.parts-parts.ensures.kept c.args.tally.now (length c.loop-place.yielded) c.loop-place.tally
    c.loop-place.invariant.tally (ended.1 ∙ c.requires.ended.count)
