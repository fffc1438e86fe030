use Rattle.std.proofs.Common.{◌∙◌, sym, ap}
use Rattle.mn_words.specs.Items.{items_of}
use Rattle.mn_words.specs.Form.{fits_before}
use Rattle.mn_words.proofs.Finding.{takes_nothing, takes_item, fits_so_far, fits_not, fits_nothing, cut_fits_not}
use Rattle.mn_words.proofs.form.Form.fit.Goals as goal

pub returns-in_default : goal.returns-in_default
returns-in_default c = sym (c.items.invariant ∙ cut_fits_not c.args.self.now c.items.rest c.in_default.ensures)

pub returns-in_default-next : goal.returns-in_default-next
returns-in_default-next c =
    let nothing = takes_nothing c.items.rest c.next_item.new.self c.in-Ok.next c.in_default-next.is c.in-Ok.ensures in
    sym (c.items.invariant ∙ fits_nothing c.args.self.now c.items.rest nothing)

pub returns-then-not-fits : goal.returns-then-not-fits
returns-then-not-fits c =
    let taken = takes_item c.items.rest c.next_item.new.self c.in-Ok.next c.in-Some.item c.in-Some.is c.in-Ok.ensures in
    let it = sym (ap (λ words. fits_before c.args.self.now c.in-Some.item (items_of words)) c.again.ensures)
    ∙ sym c.fits.ensures ∙ c.if-not-fits.true in
    sym (c.items.invariant ∙ fits_not c.args.self.now c.in-Some.item c.items.rest c.next_item.new.self taken it)

pub items-preserved : goal.items-preserved
items-preserved c =
    let taken = takes_item c.items.rest c.next_item.new.self c.in-Ok.next c.in-Some.item c.in-Some.is c.in-Ok.ensures in
    let it = sym (ap (λ words. fits_before c.args.self.now c.in-Some.item (items_of words)) c.again.ensures)
    ∙ sym c.fits.ensures ∙ c.if-not-fits.false in
    c.items.invariant ∙ fits_so_far c.args.self.now c.in-Some.item c.items.rest c.next_item.new.self taken it
