-- The text of a distilled topology: what it is called, its mode, and a line for each pipe.
use Rattle.std.specs.Prelude.{ℕ, List, ◌++◌, length, codes, slice_index_or}
use Rattle.std.specs.Fmt.{decimal}
use Rattle.topo.specs.declared.parts.Node.{Node}
use Rattle.topo.specs.Nodes.{no_node}
use Rattle.topo.specs.TopologyView.{TopologyView}
use Rattle.distill.specs.declared.modes.Mode.{Mode}
use Rattle.distill.specs.declared.modes.Mode.TheVariants.{Hop, Walk, End, WalkOut}
use Rattle.distill.specs.declared.pipes.DistilledPipe.{DistilledPipe}
use Rattle.distill.specs.Distilled.{DistilledView}
use Rattle.report.specs.Report.{line, numbered_lines}

abbrev pub mode_word : Mode → List ℕ
mode_word Hop = codes "hop"
mode_word (Walk w) = codes "walk:" ++ decimal w
mode_word End = codes "end"
mode_word (WalkOut w o) = codes "walk:" ++ decimal w ++ codes ":" ++ decimal o

-- the id of the node of a number
abbrev pub node_id : List Node → ℕ → ℕ
node_id nodes n = let node = slice_index_or nodes n no_node in node.id

abbrev pub mode_line : Mode → ℕ → ℕ → List ℕ
mode_line mode tick_ns count =
    line (codes "mode " ++ mode_word mode ++ codes " tick-ns " ++ decimal tick_ns ++ codes " pipes " ++ decimal count)

-- a pipe and its number; its ends are told by their ids
abbrev pub distilled_line : List Node → ℕ → DistilledPipe → List ℕ
distilled_line nodes n pipe = let params = pipe.params in
    line (codes "pipe " ++ decimal n
    ++ codes " from " ++ decimal (node_id nodes pipe.from)
    ++ codes " to " ++ decimal (node_id nodes pipe.to)
    ++ codes " bps " ++ decimal params.bps
    ++ codes " us " ++ decimal params.latency_us
    ++ codes " ticks " ++ decimal params.latency_ticks
    ++ codes " queue " ++ decimal params.queue
    ++ codes " keep " ++ decimal params.keep
    ++ codes " links " ++ decimal pipe.links)

unfoldable pub pipes_text : TopologyView → DistilledView → Mode → ℕ → List ℕ
pipes_text t d mode tick_ns =
    line (codes "modelnet pipes 1")
    ++ mode_line mode tick_ns (length d.pipes)
    ++ numbered_lines (distilled_line t.nodes) 0 d.pipes
