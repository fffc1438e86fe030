-- The cluster report, line by line.
use Rattle.std.proofs.Common.{◌≡◌, ◌++◌, ℕ, List, map, get_or, ap, ◌∙◌, append_assoc, arith}
use Rattle.std.specs.Prelude.{codes}
use Rattle.std.specs.List.{range_with_len}
use Rattle.std.proofs.lemmas.List.FromFn.{get_or-map-range_with_len}
use Rattle.journal.specs.SetupView.{SetupView}
use Rattle.journal.specs.IsSetup.{IsSetup}
use Rattle.parcel.specs.declared.counts.CoreCounts.{CoreCounts}
use Rattle.parcel.specs.Lookahead.{lookahead_of}
use Rattle.parcel.specs.Windows.{window_count}
use Rattle.parcel.specs.Results.{counts_at}
use Rattle.report.specs.Report.{line, numbered_lines}
use Rattle.report.specs.Cluster.{cores_line, core_line, cluster_text}

-- every core counts the windows of the setup; there is a first core
pub first-windows : (S : SetupView) → IsSetup S → (cores : List CoreCounts) → cores ≡ map (counts_at S) (range_with_len 0 S.cores)
    → (d : CoreCounts) → (get_or cores 0 d).windows ≡ window_count S
first-windows S setup cores counts d =
    ap (λ (cs : List CoreCounts). (get_or cs 0 d).windows) counts
    ∙ ap (λ (c : CoreCounts). c.windows)
    (get_or-map-range_with_len (counts_at S) 0 S.cores 0 0 d (omega (arith, setup.cores_least)) (omega arith))

-- the text from its three parts
pub cluster-written : (S : SetupView) (cores : List CoreCounts) {head first lines : List ℕ} {count lookahead windows : ℕ}
    → cores ≡ map (counts_at S) (range_with_len 0 S.cores) → count ≡ S.cores → lookahead ≡ lookahead_of S → windows ≡ window_count S
    → head ≡ line (codes "modelnet cluster 1") → first ≡ head ++ cores_line count lookahead windows
    → lines ≡ first ++ numbered_lines core_line 0 cores → lines ≡ cluster_text S
unfolding cluster_text
cluster-written S cores {count = count} {lookahead = lookahead} {windows = windows} counts count_is lookahead_is windows_is head_is first_is
    lines_is =
    let named : cores_line count lookahead windows ≡ cores_line S.cores (lookahead_of S) (window_count S) =
    ap (λ c. cores_line c lookahead windows) count_is ∙ ap (λ l. cores_line S.cores l windows) lookahead_is
    ∙ ap (λ w. cores_line S.cores (lookahead_of S) w) windows_is in
    lines_is
    ∙ ap (λ xs. xs ++ numbered_lines core_line 0 cores) (first_is ∙ ap (λ xs. xs ++ cores_line count lookahead windows) head_is
    ∙ ap (λ xs. line (codes "modelnet cluster 1") ++ xs) named)
    ∙ append_assoc (line (codes "modelnet cluster 1")) (cores_line S.cores (lookahead_of S) (window_count S)) (numbered_lines core_line 0 cores)
    ∙ ap (λ cs. line (codes "modelnet cluster 1") ++ (cores_line S.cores (lookahead_of S) (window_count S) ++ numbered_lines core_line 0 cs)) counts
