use Rattle.std.proofs.Common.{sym, ◌∙◌}
use Rattle.parcel.proofs.Boxes.{IsLent, posts_box, full_kept, post_kept}
use Rattle.parcel.proofs.plain_boxes.PlainBoxesPorts.try_post.Goals as goal
use Rattle.parcel.proofs.plain_boxes.PlainBoxesPorts.try_post.Goals.{After-index_mut-a_box}

-- the box to the other core is lent
lent : (c : After-index_mut-a_box) → IsLent c.self.inside c.args.self.now c.args.to c.place_of-place.result c.index_mut-a_box.result.now
lent c = record {
  view_is = c.self.view_is;
  are = c.self.invariant;
  known = c.requires.known;
  read = c.index_mut-a_box.ensures.value;
}

pub returns-clause-keeps : goal.returns-clause-keeps
returns-clause-keeps c =
    (posts_box (lent (goal.at.returns-clause-keeps c).After-index_mut-a_box) c.place_of-place.ensures
    (sym c.is_some.ensures ∙ c.if-is_some.false) c.args.parcel).keeps

pub returns-clause-ok : goal.returns-clause-ok
returns-clause-ok c =
    (posts_box (lent (goal.at.returns-clause-ok c).After-index_mut-a_box) c.place_of-place.ensures
    (sym c.is_some.ensures ∙ c.if-is_some.false) c.args.parcel).ok

pub returns-clause-others : goal.returns-clause-others
returns-clause-others c =
    (posts_box (lent (goal.at.returns-clause-others c).After-index_mut-a_box) c.place_of-place.ensures
    (sym c.is_some.ensures ∙ c.if-is_some.false) c.args.parcel).others

pub returns-clause-taken : goal.returns-clause-taken
returns-clause-taken c =
    (posts_box (lent (goal.at.returns-clause-taken c).After-index_mut-a_box) c.place_of-place.ensures
    (sym c.is_some.ensures ∙ c.if-is_some.false) c.args.parcel).taken

pub invariant_of-self : goal.invariant_of-self
invariant_of-self c = full_kept (lent (goal.at.invariant_of-self c).After-index_mut-a_box) c.place_of-place.ensures

pub invariant_of-self-2 : goal.invariant_of-self-2
invariant_of-self-2 c =
    post_kept (lent (goal.at.invariant_of-self-2 c).After-index_mut-a_box) c.place_of-place.ensures
    (sym c.is_some.ensures ∙ c.if-is_some.false) c.args.parcel c.requires.parcel
