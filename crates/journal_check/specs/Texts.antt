-- The text of a journal: lines of ASCII, each with a line feed at its end.
use Rattle.std.specs.Prelude.{ℕ, List, [], ◌∷◌, ◌++◌, map, codes}
use Rattle.std.specs.List.{concat}
use Rattle.std.specs.Fmt.{decimal}
use Rattle.pipe.specs.declared.step.Step.{Step}
use Rattle.pipe.specs.declared.step.Step.TheVariants.{Lost, Full, Pass}
use Rattle.journal.specs.declared.visit.Visit.{Visit}

-- one line: its words, and a line feed
abbrev pub whole_line : List ℕ → List ℕ
whole_line words = words ++ 10 ∷ []

abbrev pub journal_head : List ℕ
journal_head = whole_line (codes "modelnet journal 1")

-- what came of a visit
abbrev pub step_words : Step → List ℕ
step_words Lost = codes " lost"
step_words Full = codes " full"
step_words (Pass exit) = codes " pass exit " ++ decimal exit

abbrev pub visit_words : Visit → List ℕ
visit_words v =
    codes "tick " ++ decimal v.tick
    ++ codes " packet " ++ decimal v.packet
    ++ codes " hop " ++ decimal v.hop
    ++ codes " pipe " ++ decimal v.pipe
    ++ step_words v.step

abbrev pub visit_line : Visit → List ℕ
visit_line v = whole_line (visit_words v)

-- the head line, and one line for each visit, in order
abbrev pub journal_lines : List Visit → List (List ℕ)
journal_lines visits = journal_head ∷ map visit_line visits

-- the text of any list of visits
unfoldable pub journal_out : List Visit → List ℕ
journal_out visits = concat (journal_lines visits)
