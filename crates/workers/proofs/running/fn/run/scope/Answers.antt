use Rattle.std.proofs.Common.{◌≡◌, List, length, ap, subst, arith}
use Rattle.std.specs.List.{AllZip}
use Rattle.std.proofs.lemmas.Slice.Zip.{AllZip-long}
use Rattle.workers.specs.declared.place.Place.{Place}
use Rattle.workers.specs.Places.{IsPlaceOf, StaysPlace, ComesHere}
use Rattle.workers.proofs.Places.{places-come_back, all-come_here}
use Rattle.workers.proofs.Zipped.{written-back}
use Rattle.workers.proofs.running.fn.run.scope.Goals as goal

pub take_back-requires : goal.take_back-requires
take_back-requires g c =
    let old = c.start_all-places.result.items in
    let now = c.drive-ended.new.places in
    let stay = subst (λ (ps : List Place). AllZip StaysPlace ps now) c.deref_mut.ensures.value c.drive-ended.ensures.stays in
    let same : length now ≡ length old = AllZip-long StaysPlace old now stay in
    let back = written-back c.start_all-places.result.len old now same c.start_all-places.result.ok.0 in
    let all = AllZip-long IsPlaceOf c.captures.all.items old c.start_all-places.ensures in
    record {
      none = c.requires.returned.0;
      room = omega (arith, ap (λ (ps : List Place). length ps) back, same, all, c.requires.returned.1);
    }

pub returns : goal.returns
returns g c =
    let old = c.start_all-places.result.items in
    let now = c.drive-ended.new.places in
    let stay = subst (λ (ps : List Place). AllZip StaysPlace ps now) c.deref_mut.ensures.value c.drive-ended.ensures.stays in
    let same : length now ≡ length old = AllZip-long StaysPlace old now stay in
    let back = written-back c.start_all-places.result.len old now same c.start_all-places.result.ok.0 in
    let come = subst (λ (ps : List Place). AllZip ComesHere ps c.take_back.result.items) back c.take_back.ensures in
    record {
      places = places-come_back c.captures.all.items old now c.take_back.result.items c.start_all-places.ensures stay come;
      here = all-come_here now c.take_back.result.items come;
    }
