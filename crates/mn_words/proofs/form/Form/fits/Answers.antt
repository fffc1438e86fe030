use Rattle.std.proofs.Common.{◌∙◌, ap, sym, not}
use Rattle.std.specs.Option.{option_copied}
use Rattle.mn_words.specs.Items.{Item, items_of}
use Rattle.mn_words.specs.Form.{Form, takes}
use Rattle.mn_words.proofs.Finding.{fits_bare, fits_option, fits_no_option}
use Rattle.mn_words.proofs.form.Form.fits.Goals as goal

pub returns-in-None : goal.returns-in-None
unfolding takes
returns-in-None c =
    ap (λ (form : Form). form.takes_bare) c.self.view_is ∙ fits_bare c.args.self.now c.args.item.now (items_of c.args.after)
    (sym (ap (λ (item : Item). item.name) c.item.view_is) ∙ ap (λ name. option_copied name) c.in-None.is)

pub returns-then-takes_option : goal.returns-then-takes_option
returns-then-takes_option c =
    ap not c.has_option.ensures ∙ fits_option c.args.self.now c.args.item.now (items_of c.args.after) c.in-Some.name.now
    (sym (ap (λ (item : Item). item.name) c.item.view_is) ∙ ap (λ name. option_copied name) c.in-Some.is)
    (sym c.takes_option.ensures ∙ c.if-takes_option.true)

pub returns-else-takes_option : goal.returns-else-takes_option
returns-else-takes_option c =
    c.if-takes_option.false ∙ fits_no_option c.args.self.now c.args.item.now (items_of c.args.after) c.in-Some.name.now
    (sym (ap (λ (item : Item). item.name) c.item.view_is) ∙ ap (λ name. option_copied name) c.in-Some.is)
    (sym c.takes_option.ensures ∙ c.if-takes_option.false)
