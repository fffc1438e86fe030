use Rattle.std.proofs.Common.{◌∙◌, ap, refl, sym}
use Rattle.std.specs.Prelude.{codes}
use Rattle.mn_words.specs.Form.{bare_words}
use Rattle.mn_words.specs.Items.{items_of}
use Rattle.mn_words.specs.Moves.{moves_of}
use Rattle.mn_words.specs.Options.{text_in}
use Rattle.mn_words.specs.TheCommands.{migrate_of, plan_options_in}
use Rattle.mn_words.proofs.words.migrate_of.Goals as goal

pub returns-clause-order : goal.returns-clause-order
unfolding migrate_of
returns-clause-order c = rw (
  sym (c.in_ok-options.ensures.value ∙ ap (λ words. plan_options_in (items_of words)) c.again.ensures),
  ap (λ words. moves_of c.in_ok-options.options.cores (bare_words (items_of words))) (sym c.again-2.ensures) ∙ c.in_ok-moves.ensures.moves,
  sym (c.in_ok-topology.ensures ∙ ap (λ words. text_in (codes "--topology") (items_of words)) c.again-3.ensures),
  sym (c.in_ok-trace.ensures ∙ ap (λ words. text_in (codes "--trace") (items_of words)) c.again-4.ensures),
  sym (c.in_ok-out.ensures ∙ ap (λ words. text_in (codes "--out") (items_of words)) c.again-5.ensures),
  sym (c.in_ok-report.ensures ∙ ap (λ words. text_in (codes "--report") (items_of words)) c.again-6.ensures),
  sym c.in_ok-directory.ensures,
) refl
