use Rattle.std.proofs.Common.{◌∙◌, ap, refl, sym}
use Rattle.std.specs.Prelude.{codes}
use Rattle.mn_words.specs.Items.{items_of}
use Rattle.mn_words.specs.Options.{text_in}
use Rattle.mn_words.specs.TheCommands.{journal_of, plan_options_in}
use Rattle.mn_words.proofs.words.journal_of.Goals as goal

pub returns-clause-order : goal.returns-clause-order
unfolding journal_of
returns-clause-order c = rw (
  sym (c.in_ok-options.ensures.value ∙ ap (λ words. plan_options_in (items_of words)) c.again.ensures),
  sym (c.in_ok-topology.ensures ∙ ap (λ words. text_in (codes "--topology") (items_of words)) c.again-2.ensures),
  sym (c.in_ok-trace.ensures ∙ ap (λ words. text_in (codes "--trace") (items_of words)) c.again-3.ensures),
  sym (c.in_ok-out.ensures ∙ ap (λ words. text_in (codes "--out") (items_of words)) c.again-4.ensures),
  sym c.in_ok-directory.ensures,
) refl
