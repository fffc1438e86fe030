use Rattle.std.proofs.Common.{List, slice_get, refl, sym, ap, ◌∙◌, arith}
use Rattle.journal.specs.SetupView.{SetupView}
use Rattle.migrate.specs.ShelvesView.{ShelfView}
use Rattle.migrate.proofs.Begun.{get-of-map, laid-empty, laid-stored, AreBegun, grows-at-first, begun-visits, begun-stands, begun-bytes}
use Rattle.migrate.proofs.shelves.Shelves.start.Goals as goal
use Rattle.migrate.proofs.shelves.Shelves.start.Goals.{In_ok-enter_all}

pub lay_out-requires-clause-empty : goal.lay_out-requires-clause-empty
lay_out-requires-clause-empty c = λ core s e.
    ap (λ (t : ShelfView). t.pipes)
    (get-of-map c.args.stores.items core s (ap (λ (l : List ShelfView). slice_get l core) (sym c.in_ok-shelves.ensures) ∙ e)).2

pub enter_all-requires-clause-empty : goal.enter_all-requires-clause-empty
enter_all-requires-clause-empty c =
    laid-empty c.parts-parts.ensures.kept c.requires.stores c.in_ok-shelves.ensures c.in_ok-lay_out.ensures.same

pub enter_all-requires-clause-stored : goal.enter_all-requires-clause-stored
enter_all-requires-clause-stored c =
    laid-stored c.parts-parts.ensures.kept c.requires.stores c.in_ok-shelves.ensures c.in_ok-lay_out.ensures.same

-- the cores as the code makes them, step by step
begun : (c : In_ok-enter_all)
    → AreBegun c.args.setup.now c.args.stores.items c.in_ok-owners.owners.items c.in_ok-counts.counts.items c.enter_all.new.shelves.items
begun c = record {
  is = c.parts-parts.ensures.kept;
  are = c.requires.stores;
  first = c.in_ok-shelves.shelves.items;
  idle = c.in_ok-shelves.ensures;
  laid = c.lay_out.new.shelves.items;
  same = c.in_ok-lay_out.ensures.same;
  out = c.in_ok-lay_out.ensures.laid;
  entered = c.in_ok-enter_all.ensures;
  owners_are =
      c.in_ok-owners.ensures.items_if_clones_equal (λ x y k. k) ∙ c.deref.ensures.value
      ∙ ap (λ (s : SetupView). s.owners) (c.parts.view_is ∙ c.parts-parts.ensures.same);
  counted = c.in_ok-counts.ensures;
}

pub invariant_of-result : goal.invariant_of-result
invariant_of-result c =
    let b = begun (goal.at.invariant_of-result c).In_ok-enter_all in
    let bytes = begun-bytes b in
    record {
      is_setup = c.parts-parts.ensures.kept;
      stands = λ e. (bytes.0, begun-stands b bytes.0 bytes.1);
      few = λ e. omega arith;
      few_visits = λ e core s f. (let v = begun-visits b core s f in omega (arith, v));
      growing = λ e. grows-at-first c.args.setup.now;
    }

pub returns-clause-nothing : goal.returns-clause-nothing
returns-clause-nothing c =
    let b = begun (goal.at.returns-clause-nothing c).In_ok-enter_all in
    record { owners = b.owners_are; end = refl; windows = refl; made = refl; visits = begun-visits b }

pub returns-clause-stands : goal.returns-clause-stands
returns-clause-stands c = begun-stands (begun (goal.at.returns-clause-stands c).In_ok-enter_all)
