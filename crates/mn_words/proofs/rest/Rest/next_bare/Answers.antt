use Rattle.std.proofs.Common.{◌∙◌, ap, sym, arith, ◌∷◌}
use Rattle.mn_words.specs.Items.{Item, items_of}
use Rattle.mn_words.specs.Form.{bare_words}
use Rattle.mn_words.proofs.Finding.{bare_here, bare-over, bare-first, bare-none, takes_nothing, takes_item}
use Rattle.mn_words.proofs.rest.Rest.next_bare.Goals as goal

pub returns-in_default : goal.returns-in_default
returns-in_default c = c.items.invariant.bare ∙ bare-none (items_of c.items.self) c.in_default.ensures.items

pub returns-in_default-next : goal.returns-in_default-next
returns-in_default-next c =
    let nothing = takes_nothing c.items.self c.next_item.new.self c.in-Ok.next c.in_default-next.is c.in-Ok.ensures in
    c.items.invariant.bare ∙ bare-none (items_of c.items.self) nothing.items

pub returns-then-is_none : goal.returns-then-is_none
returns-then-is_none c =
    let taken = takes_item c.items.self c.next_item.new.self c.in-Ok.next c.in-Some.item c.in-Some.is c.in-Ok.ensures in
    let bare = bare_here c.in-Some.item c.item.inside.name c.is_none.result (ap (λ (item : Item). item.name) (sym c.item.view_is)) c.is_none.ensures in (
      c.items.invariant.bare
          ∙ bare-first c.in-Some.item (items_of c.items.self) (items_of c.next_item.new.self) taken.items (bare ∙ c.if-is_none.true)
          ∙ ap (λ (item : Item). item.value ∷ bare_words (items_of c.next_item.new.self)) (sym c.item.view_is),
      omega (arith, taken.shorter, c.items.invariant.length),
    )

pub items-preserved : goal.items-preserved
items-preserved c =
    let taken = takes_item c.items.self c.next_item.new.self c.in-Ok.next c.in-Some.item c.in-Some.is c.in-Ok.ensures in
    let bare = bare_here c.in-Some.item c.item.inside.name c.is_none.result (ap (λ (item : Item). item.name) (sym c.item.view_is)) c.is_none.ensures in
    record {
      bare = c.items.invariant.bare
          ∙ bare-over c.in-Some.item (items_of c.items.self) (items_of c.next_item.new.self) taken.items (bare ∙ c.if-is_none.false);
      length = omega (arith, taken.shorter, c.items.invariant.length);
    }
