use Rattle.std.proofs.Common.{List, [], ◌∷◌, ◌++◌, rules, sym, subst, arith}
use Rattle.std.specs.List.{AllZip}
use Rattle.std.proofs.lemmas.Slice.Zip.{all_zipped_more, AllZip-long}
use Rattle.std.proofs.lemmas.Iterator.Adapters.{YieldsList-from_vec}
use Rattle.std.proofs.lemmas.Iterator.Consumers.{YieldsList-turn}
use Rattle.workers.specs.declared.place.Place.{Place}
use Rattle.workers.specs.Places.{IsPlaceOf}
use Rattle.workers.proofs.running.start_all.Goals as goal

pub push_reserved-requires : goal.push_reserved-requires
push_reserved-requires g c =
    let turn =
    YieldsList-turn (YieldsList-from_vec c.args.all.items (search rules) (search rules)) c.loop-station.yielded _ c.loop-station.yielded_by
    _ c.next.new.self c.in-Some.station c.in-Some.is c.next.ensures.steps in
    let same = AllZip-long IsPlaceOf c.loop-station.yielded c.loop-station.places.items c.loop-station.invariant.places in
    omega (arith, turn.0, same, c.loop-station.invariant.room)

pub loop-station-preserved : goal.loop-station-preserved
loop-station-preserved g c = record {
  places = subst (λ (ps : List Place). AllZip IsPlaceOf (c.loop-station.yielded ++ c.in-Some.station ∷ []) ps)
      (sym c.push_reserved.ensures.items)
      (all_zipped_more IsPlaceOf c.loop-station.yielded c.loop-station.places.items c.in-Some.station c.start.result
      c.loop-station.invariant.places c.start.ensures);
  room = omega (arith, c.loop-station.invariant.room, c.push_reserved.ensures.capacity);
}
