use Rattle.std.proofs.Common.{◌≡◌, ◌<◌, ℕ, [], length, get_or, Some, refl, sym, ap, ◌∙◌, subst, arith}
use Rattle.std.specs.Prelude.{slice_get}
use Rattle.std.specs.FinMap as fin
use Rattle.std.proofs.lemmas.Option.{slice_get_within, slice_get-get_or}
use Rattle.parcel.specs.PlainBoxesView.{BoxView}
use Rattle.payload_store.specs.StoreView.{StoreView}
use Rattle.world.proofs.whole.World.start.Goals as goal

no_store : StoreView
no_store = record { held = fin.empty; released = [] }

pub returns-clause-stands : goal.returns-clause-stands
returns-clause-stands c = λ bytes are core d here.
    let have = c.in_ok-cores.ensures in
    let within : core < length c.args.stores.items =
    omega (arith, slice_get_within c.in_ok-cores.cores.items core d here, have.count, c.requires.stores.one_a_core) in
    let store = get_or c.args.stores.items core no_store in
    let got : slice_get c.args.stores.items core ≡ Some store = slice_get-get_or c.args.stores.items core no_store within in
    (have.each core d here).stands store bytes got (are core store got)

pub returns-clause-windows : goal.returns-clause-windows
returns-clause-windows c = λ core d here. (c.in_ok-cores.ensures.each core d here).windows

pub returns-clause-posted : goal.returns-clause-posted
returns-clause-posted c = λ core other d here. (c.in_ok-cores.ensures.each core d here).posted other

pub returns-clause-taken : goal.returns-clause-taken
returns-clause-taken c = λ core other d here. (c.in_ok-cores.ensures.each core d here).taken other

pub invariant_of-result : goal.invariant_of-result
invariant_of-result c = record {
  boxes = c.in_ok-boxes.ensures.setup;
  one_a_core = c.in_ok-cores.ensures.count;
  setups = λ core d here. (c.in_ok-cores.ensures.each core d here).setup;
  numbers = λ core d here. (c.in_ok-cores.ensures.each core d here).number;
  posts = λ core d here other o.
      ap (λ (b : BoxView). b.posted) (c.in_ok-boxes.ensures.idle core other) ∙ sym ((c.in_ok-cores.ensures.each core d here).posted other);
  takes = λ core d here other o.
      ap (λ (b : BoxView). b.taken) (c.in_ok-boxes.ensures.idle other core) ∙ sym ((c.in_ok-cores.ensures.each core d here).taken other);
  works = λ f core d here. (c.in_ok-cores.ensures.each core d here).works;
  is_setup = c.parts-parts.ensures.kept;
  in_step = λ f core d here. (c.in_ok-cores.ensures.each core d here).in_step;
}
