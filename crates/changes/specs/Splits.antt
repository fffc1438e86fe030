-- What a directory text of either version says: a directory text of the first version, and changes.
use Rattle.std.specs.Prelude.{ℕ, ◌≡◌, ◌<◌, ◌≤◌, List, [], ◌∷◌, ◌++◌, length, Some, All, AllPairs, MatchBool}
use Rattle.std.specs.List.{AllZip}
use Rattle.mn_base.specs.declared.limits.TheConstants.{CHANGES_MAX}
use Rattle.mn_base.specs.Lines.{lines_of, text_of_lines}
use Rattle.mn_base.specs.Fields.{fields_of}
use Rattle.changes.specs.Head.{directory_head}
use Rattle.changes.specs.declared.split.Change.{Change}
use Rattle.changes.specs.Changes.{change_of, IsChange, PrecedesChange}
use Rattle.changes.specs.Faults.{is_second, second_head_labels}
use Rattle.changes.specs.SplitView.{SplitView}

-- the line says this change
abbrev pub SaysChange : List ℕ → Change → Type 0
SaysChange line change = change_of line ≡ Some change

-- the lines say these changes of so many pipes, in their order, each within its ranges
pub record AreChangeLines (pipes : ℕ) (lines : List (List ℕ)) (changes : List Change) : Type 0 where
  pub say : AllZip SaysChange lines changes
  pub named : All (λ c. c.pipe < pipes) changes
  pub within : All IsChange changes
  pub rise : AllPairs PrecedesChange changes

-- a text of the second version: a head line of its cores, pipes and changes, a line for each pipe, which isn't looked at, and then
-- the lines of the changes. The directory text has the head line of the first version in place of its own.
pub record IsSecond (text : List ℕ) (cores pipes : ℕ) (split : SplitView) : Type 0 where
  pub head : List ℕ
  pub pipe_lines : List (List ℕ)
  pub change_lines : List (List ℕ)
  pub lines : lines_of text ≡ head ∷ pipe_lines ++ change_lines
  pub numbers : fields_of second_head_labels head ≡ Some (cores ∷ pipes ∷ length change_lines ∷ [])
  pub whole : length pipe_lines ≡ pipes
  pub few : length change_lines ≤ CHANGES_MAX
  pub changes : AreChangeLines pipes change_lines split.changes
  pub directory : split.directory ≡ text_of_lines (directory_head cores pipes ∷ pipe_lines)

-- any other text comes back as it is
pub record IsOther (text : List ℕ) (split : SplitView) : Type 0 where
  pub directory : split.directory ≡ text
  pub changes : split.changes ≡ []

-- what the text says
abbrev pub SplitsTo : List ℕ → ℕ → ℕ → SplitView → Type 0
SplitsTo text cores pipes split = MatchBool (is_second text) (IsSecond text cores pipes split) (IsOther text split)
