use Rattle.std.proofs.Common.{◌≡◌, ◌++◌, Vec, ℕ, Global, get_or, ap, ◌∙◌}
use Rattle.std.specs.Prelude.{string_bytes}
use Rattle.journal.specs.SetupView.{SetupView}
use Rattle.parcel.specs.declared.counts.CoreCounts.{CoreCounts}
use Rattle.parcel.specs.Windows.{window_count}
use Rattle.settle.specs.OutcomeView.{OutcomeView}
use Rattle.report.specs.Report.{numbered_lines}
use Rattle.report.specs.Cluster.{core_line}
use Rattle.report.proofs.Clusters.{first-windows, cluster-written}
use Rattle.report.proofs.cluster_text.print_cluster.Goals as goal

pub returns : goal.returns
returns c = record {
  text =
      let windows : c.index.result.now.windows ≡ window_count c.args.setup.now =
      ap (λ (counts : CoreCounts). counts.windows) c.index.ensures
      ∙ ap (λ (o : OutcomeView). (get_or o.cores 0 c.index.result.now).windows) c.outcome.view_is
      ∙ first-windows c.args.setup.now c.parts.ensures.kept c.args.outcome.now.cores c.requires c.index.result.now in
      c.from_vec.ensures.same ∙ ap (λ (v : Vec ℕ Global). v.items) c.into_bytes.ensures.value
      ∙ cluster-written c.args.setup.now c.args.outcome.now.cores c.requires
      (ap (λ (S : SetupView). S.cores) (c.behind-setup.view_is ∙ c.parts.ensures.same))
      c.lookahead.ensures
      windows
      (simp (c.in_ok-writeln.ensures.bytes, c.new-text.ensures.bytes))
      c.in_ok-write_cores_line.ensures
      (c.in_ok-write_core_lines.ensures
      ∙ ap (λ cs. string_bytes c.write_cores_line.new.text ++ numbered_lines core_line 0 cs) c.deref.ensures.value
      ∙ ap (λ (o : OutcomeView). string_bytes c.write_cores_line.new.text ++ numbered_lines core_line 0 o.cores) c.outcome.view_is);
}
