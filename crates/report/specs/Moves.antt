-- The text of a run whose pipes moved: how many windows there were, how many moves were made, and how many visits each core ran.
use Rattle.std.specs.Prelude.{ℕ, List, ◌++◌, codes}
use Rattle.std.specs.Fmt.{decimal}
use Rattle.report.specs.Report.{line, numbered_lines}

abbrev pub moved_line : ℕ → ℕ → List ℕ
moved_line windows moved = line (codes "windows " ++ decimal windows ++ codes " moved " ++ decimal moved)

-- a core's number, and the visits that it ran
abbrev pub visits_line : ℕ → ℕ → List ℕ
visits_line n visits = line (codes "core " ++ decimal n ++ codes " visits " ++ decimal visits)

-- the text of so many windows and moves, and of the visits of each core, in core order
unfoldable pub moves_text : ℕ → ℕ → List ℕ → List ℕ
moves_text windows moved visits =
    line (codes "modelnet moves 1") ++ moved_line windows moved ++ numbered_lines visits_line 0 visits
