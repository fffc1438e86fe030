-- The text of how a run was spread over cores: how many there are, how long a window lasts, how many windows there were, and a line for
-- each core.
use Rattle.std.specs.Prelude.{ℕ, List, ◌++◌, map, codes}
use Rattle.std.specs.List.{range_with_len}
use Rattle.std.specs.Fmt.{decimal}
use Rattle.journal.specs.SetupView.{SetupView}
use Rattle.parcel.specs.declared.counts.CoreCounts.{CoreCounts}
use Rattle.parcel.specs.Lookahead.{lookahead_of}
use Rattle.parcel.specs.Windows.{window_count}
use Rattle.parcel.specs.Results.{counts_at}
use Rattle.report.specs.Report.{line, numbered_lines}

abbrev pub cores_line : ℕ → ℕ → ℕ → List ℕ
cores_line cores lookahead windows =
    line (codes "cores " ++ decimal cores ++ codes " lookahead " ++ decimal lookahead ++ codes " windows " ++ decimal windows)

-- a core and its number: the pipes that it owns, the packets that entered there, the visits of its pipes, and the notes that it sent
abbrev pub core_line : ℕ → CoreCounts → List ℕ
core_line n c =
    line (codes "core " ++ decimal n
    ++ codes " pipes " ++ decimal c.pipes
    ++ codes " entered " ++ decimal c.entered
    ++ codes " visits " ++ decimal c.visits
    ++ codes " arrivals " ++ decimal c.arrivals
    ++ codes " settles " ++ decimal c.settles)

-- the cluster report of a setup
unfoldable pub cluster_text : SetupView → List ℕ
cluster_text S =
    line (codes "modelnet cluster 1")
    ++ cores_line S.cores (lookahead_of S) (window_count S)
    ++ numbered_lines core_line 0 (map (counts_at S) (range_with_len 0 S.cores))
