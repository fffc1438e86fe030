use Rattle.std.proofs.Common.{◌∙◌, ap, sym, Some}
use Rattle.mn_words.specs.Items.{Item, items_of}
use Rattle.mn_words.proofs.Finding.{passes_over, finds, finds_none, takes_nothing, takes_item}
use Rattle.mn_words.proofs.form.value_of.Goals as goal

pub items-preserved : goal.items-preserved
items-preserved c =
    let taken = takes_item c.items.rest c.next_item.new.self c.in-Ok.next c.in-Some.item c.in-Some.is c.in-Ok.ensures in
    c.items.invariant ∙ passes_over c.args.name.now c.in-Some.item (items_of c.items.rest) (items_of c.next_item.new.self) taken.items
    (sym c.has_this_name.ensures ∙ c.if-has_this_name.false)

pub returns-in_default : goal.returns-in_default
returns-in_default c = sym (c.items.invariant ∙ finds_none c.args.name.now (items_of c.items.rest) c.in_default.ensures.items)

pub returns-in_default-next : goal.returns-in_default-next
returns-in_default-next c =
    let nothing = takes_nothing c.items.rest c.next_item.new.self c.in-Ok.next c.in_default-next.is c.in-Ok.ensures in
    sym (c.items.invariant ∙ finds_none c.args.name.now (items_of c.items.rest) nothing.items)

pub returns-then-has_this_name : goal.returns-then-has_this_name
returns-then-has_this_name c =
    let taken = takes_item c.items.rest c.next_item.new.self c.in-Ok.next c.in-Some.item c.in-Some.is c.in-Ok.ensures in
    sym (c.items.invariant ∙ finds c.args.name.now c.in-Some.item (items_of c.items.rest) (items_of c.next_item.new.self) taken.items
    (sym c.has_this_name.ensures ∙ c.if-has_this_name.true) ∙ ap (λ (item : Item). Some item.value) (sym c.item.view_is))
