use Rattle.std.proofs.Common.{◌∙◌, ap}
use Rattle.mn_words.specs.Items.{items_of}
use Rattle.mn_words.specs.Form.{Form, has_each, has_needed}
use Rattle.mn_words.proofs.Names.{has_each-texts}
use Rattle.mn_words.proofs.form.Form.has_needed.Goals as goal

pub returns : goal.returns
unfolding has_needed
returns c =
    c.has_options.ensures ∙ has_each-texts (items_of c.args.words) c.self.inside.needs.now
    ∙ ap (λ (form : Form). has_each form.needs (items_of c.args.words)) c.self.view_is
