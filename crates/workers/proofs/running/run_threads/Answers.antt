use Rattle.std.proofs.Common.{◌∙◌, arith}
use Rattle.std.proofs.lemmas.Slice.Zip.{AllZip-long}
use Rattle.workers.specs.Places.{IsPlaceOf, IsRanAt}
use Rattle.workers.proofs.Ended.{all-ended, all-results, all-ports}
use Rattle.workers.proofs.running.run_threads.Goals as goal

pub finish_all-requires-clause-ended : goal.finish_all-requires-clause-ended
finish_all-requires-clause-ended g c =
    all-ended c.args.setup.now c.args.stores.items c.in_ok-all.all.items c.in_ok-places.places.items c.in_ok-all.ensures
    c.in_ok-places.ensures.places c.in_ok-places.ensures.here c.in_ok-places.ensures.done

pub finish_all-requires-clause-room : goal.finish_all-requires-clause-room
finish_all-requires-clause-room g c =
    let same = AllZip-long IsPlaceOf c.in_ok-all.all.items c.in_ok-places.places.items c.in_ok-places.ensures.places in
    omega (arith, same, c.in_ok-room.ensures.capacity, c.len.ensures)

pub returns-clause-results : goal.returns-clause-results
returns-clause-results g c = λ bytes are.
    all-results c.in_ok-places.places.items c.finish_all.result.items c.in_ok-all.ensures c.in_ok-places.ensures.places
    c.in_ok-places.ensures.done c.finish_all.ensures.ran bytes are

pub returns-clause-count : goal.returns-clause-count
returns-clause-count g c =
    AllZip-long IsRanAt c.in_ok-places.places.items c.finish_all.result.items c.finish_all.ensures.ran
    ∙ AllZip-long IsPlaceOf c.in_ok-all.all.items c.in_ok-places.places.items c.in_ok-places.ensures.places
    ∙ c.in_ok-all.ensures.count

pub returns-clause-ports : goal.returns-clause-ports
returns-clause-ports g c =
    all-ports c.args.setup.now c.in_ok-places.places.items c.finish_all.result.items
    (all-ended c.args.setup.now c.args.stores.items c.in_ok-all.all.items c.in_ok-places.places.items c.in_ok-all.ensures
    c.in_ok-places.ensures.places c.in_ok-places.ensures.here c.in_ok-places.ensures.done)
    c.finish_all.ensures.ran
