use Rattle.std.proofs.Common.{◌∙◌, ◌||◌, ap, sym}
use Rattle.mn_words.specs.Form.{Form}
use Rattle.mn_words.proofs.Names.{takes_names}
use Rattle.mn_words.proofs.form.Form.takes_option.Goals as goal

pub returns-then-is_needed : goal.returns-then-is_needed
returns-then-is_needed c =
    c.if-is_needed.true ∙ sym (ap (λ b. b || c.has_name-is_optional.result) c.if-is_needed.true)
    ∙ takes_names c.args.self.now c.args.name.now c.self.inside.needs.now c.self.inside.may_have.now c.has_name-is_needed.result
    c.has_name-is_optional.result
    (ap (λ (form : Form). form.needs) c.self.view_is) (ap (λ (form : Form). form.may_have) c.self.view_is)
    c.has_name-is_needed.ensures c.has_name-is_optional.ensures

pub returns-else-is_needed : goal.returns-else-is_needed
returns-else-is_needed c =
    sym (ap (λ b. b || c.has_name-is_optional.result) c.if-is_needed.false)
    ∙ takes_names c.args.self.now c.args.name.now c.self.inside.needs.now c.self.inside.may_have.now c.has_name-is_needed.result
    c.has_name-is_optional.result
    (ap (λ (form : Form). form.needs) c.self.view_is) (ap (λ (form : Form). form.may_have) c.self.view_is)
    c.has_name-is_needed.ensures c.has_name-is_optional.ensures
