use Rattle.std.proofs.Common.{sym}
use Rattle.parcel.proofs.Boxes.{IsLent, takes_box, parcel_in, bare_kept}
use Rattle.parcel.proofs.plain_boxes.PlainBoxesPorts.try_take.Goals as goal
use Rattle.parcel.proofs.plain_boxes.PlainBoxesPorts.try_take.Goals.{After-index_mut-a_box}

-- the box from the other core is lent
lent : (c : After-index_mut-a_box) → IsLent c.self.inside c.args.self.now c.args.from c.place_of-place.result c.index_mut-a_box.result.now
lent c = record {
  view_is = c.self.view_is;
  are = c.self.invariant;
  known = c.requires.known;
  read = c.index_mut-a_box.ensures.value;
}

pub returns-clause-parcel : goal.returns-clause-parcel
returns-clause-parcel c =
    parcel_in (lent (goal.at.returns-clause-parcel c).After-index_mut-a_box) c.place_of-place.ensures c.in-Some.parcel
    (sym c.in-Some.ensures.value)

pub returns-clause-keeps : goal.returns-clause-keeps
returns-clause-keeps c =
    (takes_box (lent (goal.at.returns-clause-keeps c).After-index_mut-a_box) c.place_of-place.ensures (sym c.in-Some.ensures.value) _
    c.take.ensures.after).keeps

pub returns-clause-ok : goal.returns-clause-ok
returns-clause-ok c =
    (takes_box (lent (goal.at.returns-clause-ok c).After-index_mut-a_box) c.place_of-place.ensures (sym c.in-Some.ensures.value) _
    c.take.ensures.after).ok

pub returns-clause-others : goal.returns-clause-others
returns-clause-others c =
    (takes_box (lent (goal.at.returns-clause-others c).After-index_mut-a_box) c.place_of-place.ensures (sym c.in-Some.ensures.value) _
    c.take.ensures.after).others

pub returns-clause-posted : goal.returns-clause-posted
returns-clause-posted c =
    (takes_box (lent (goal.at.returns-clause-posted c).After-index_mut-a_box) c.place_of-place.ensures (sym c.in-Some.ensures.value) _
    c.take.ensures.after).posted

pub invariant_of-self : goal.invariant_of-self
invariant_of-self c =
    bare_kept (lent (goal.at.invariant_of-self c).After-index_mut-a_box) c.place_of-place.ensures _ _ c.take.ensures.after

pub invariant_of-self-2 : goal.invariant_of-self-2
invariant_of-self-2 c =
    bare_kept (lent (goal.at.invariant_of-self-2 c).After-index_mut-a_box) c.place_of-place.ensures _ _ c.take.ensures.after
