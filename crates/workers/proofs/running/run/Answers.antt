use Rattle.std.proofs.Common.{◌≡◌, List, length, sym, subst}
use Rattle.std.specs.Prelude.{All}
use Rattle.std.specs.List.{AllZip}
use Rattle.std.proofs.lemmas.Slice.Zip.{AllZip-long}
use Rattle.workers.specs.declared.place.Place.{Place}
use Rattle.workers.specs.Places.{IsPlaceOf, StaysPlace, IsHere}
use Rattle.workers.proofs.Places.{places-stay, all-stay_here}
use Rattle.workers.proofs.Zipped.{written-back}
use Rattle.workers.proofs.running.run.Goals as goal

pub returns-clause-places : goal.returns-clause-places
returns-clause-places g c =
    let old = c.scoped-places.result.items in
    let now = c.drive.new.places in
    let stay = subst (λ (ps : List Place). AllZip StaysPlace ps now) c.deref_mut.ensures.value c.drive.ensures.stays in
    let same : length now ≡ length old = AllZip-long StaysPlace old now stay in
    let back = written-back c.scoped-places.result.len old now same c.scoped-places.result.ok.0 in
    subst (λ (ps : List Place). AllZip IsPlaceOf c.args.all.items ps) (sym back)
    (places-stay c.args.all.items old now c.scoped-places.ensures.1.0 stay)

pub returns-clause-here : goal.returns-clause-here
returns-clause-here g c =
    let old = c.scoped-places.result.items in
    let now = c.drive.new.places in
    let stay = subst (λ (ps : List Place). AllZip StaysPlace ps now) c.deref_mut.ensures.value c.drive.ensures.stays in
    let same : length now ≡ length old = AllZip-long StaysPlace old now stay in
    let back = written-back c.scoped-places.result.len old now same c.scoped-places.result.ok.0 in
    subst (λ (ps : List Place). All IsHere ps) (sym back) (all-stay_here old now stay c.scoped-places.ensures.1.1)
