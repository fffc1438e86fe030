use Rattle.std.proofs.Common.{◌<◌, length, arith}
use Rattle.std.specs.Prelude.{slice_index_or}
use Rattle.std.proofs.lemmas.Slice.Zip.{AllZip-long}
use Rattle.workers.specs.Places.{StaysPlace, IsDoneHere}
use Rattle.workers.proofs.Places.{stays-on, all-stay_same}
use Rattle.workers.proofs.Zipped.{AllZip-set, All-set_more}
use Rattle.workers.proofs.turning.turn_here.Goals as goal

pub loop-at-init : goal.loop-at-init
loop-at-init c = record { stays = all-stay_same c.args.places.now; done = λ e k d below. absurd (omega (arith, below)) }

pub loop-at-preserved : goal.loop-at-preserved
loop-at-preserved c =
    let was = slice_index_or c.loop-at.places c.loop-at.at c.index-places-at.result in
    let now = c.turn-turn.new.self in
    let within : c.loop-at.at < length c.loop-at.places = omega (
      arith,
      c.loop-at-test.true,
      AllZip-long StaysPlace c.args.places.now c.loop-at.places c.loop-at.invariant.stays,
    ) in
    record {
      stays = AllZip-set StaysPlace c.args.places.now c.loop-at.places c.loop-at.at c.index-places-at.result now within
          c.loop-at.invariant.stays (λ p stayed. stays-on p was now stayed c.turn-turn.ensures.stays);
      done = λ e. (let both = c.together-all.ensures.done e in
          All-set_more IsDoneHere c.loop-at.places c.loop-at.at now within (c.loop-at.invariant.done both.0) (c.turn-turn.ensures.done both.1));
    }
