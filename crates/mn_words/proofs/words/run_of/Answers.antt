use Rattle.std.proofs.Common.{◌∙◌, ap, sym}
use Rattle.std.specs.Prelude.{codes}
use Rattle.mn_words.specs.Items.{items_of}
use Rattle.mn_words.specs.Options.{mode_in, cores_in, seed_in, tick_in, cluster_report_in, order_in, turns_in, loss_in, text_in}
use Rattle.mn_words.proofs.Runs.{run_of-is}
use Rattle.mn_words.proofs.words.run_of.Goals as goal

pub returns-clause-order : goal.returns-clause-order
returns-clause-order c = run_of-is (items_of c.args.words) _ (record {
  mode = sym (c.in_ok-mode.ensures.value ∙ ap (λ words. mode_in (items_of words)) c.again.ensures);
  cores = sym (c.in_ok-cores.ensures.value ∙ ap (λ words. cores_in 1 (items_of words)) c.again-2.ensures);
  seed = sym (c.in_ok-seed.ensures ∙ ap (λ words. seed_in (items_of words)) c.again-3.ensures);
  tick_ns = sym (c.in_ok-tick_ns.ensures.value ∙ ap (λ words. tick_in (items_of words)) c.again-4.ensures);
  cluster_report = sym (c.in_ok-cluster_report.ensures ∙ ap (λ words. cluster_report_in (items_of words)) c.again-5.ensures);
  order = sym (c.in_ok-order.ensures ∙ ap (λ words. order_in (items_of words)) c.again-6.ensures);
  turns = sym (c.in_ok-turns.ensures.value ∙ ap (λ words. turns_in (items_of words)) c.again-7.ensures);
  loss = sym (c.in_ok-loss.ensures ∙ ap (λ words. loss_in (items_of words)) c.again-8.ensures);
  topology = sym (c.in_ok-topology.ensures ∙ ap (λ words. text_in (codes "--topology") (items_of words)) c.again-9.ensures);
  trace = sym (c.in_ok-trace.ensures ∙ ap (λ words. text_in (codes "--trace") (items_of words)) c.again-10.ensures);
  out = sym (c.in_ok-out.ensures ∙ ap (λ words. text_in (codes "--out") (items_of words)) c.again-11.ensures);
  report = sym (c.in_ok-report.ensures ∙ ap (λ words. text_in (codes "--report") (items_of words)) c.again-12.ensures);
  directory = sym c.in_ok-directory.ensures;
})
