use Rattle.std.proofs.Common.{List, [], ◌∷◌, ◌++◌, sym, subst, arith}
use Rattle.std.specs.List.{AllZip}
use Rattle.std.proofs.lemmas.Slice.Zip.{all_zipped_more}
use Rattle.workers.specs.declared.place.Place.{Place}
use Rattle.workers.specs.Places.{ComesHere}
use Rattle.workers.proofs.running.take_back.Goals as goal

pub loop-place-preserved : goal.loop-place-preserved
loop-place-preserved g c = record {
  returned = subst (λ (ps : List Place). AllZip ComesHere (c.loop-place.yielded ++ c.in-Some.place ∷ []) ps)
      (sym c.push_reserved.ensures.items)
      (all_zipped_more ComesHere c.loop-place.yielded c.loop-place.returned.items c.in-Some.place c.come_here.result c.loop-place.invariant.returned
      c.come_here.ensures);
  room = omega (arith, c.loop-place.invariant.room, c.push_reserved.ensures.capacity);
}
