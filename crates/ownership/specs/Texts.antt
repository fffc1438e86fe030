-- The text of a directory: its head line, and a line `pipe Q core C` for each pipe.
use Rattle.std.specs.Prelude.{ℕ, ◌+◌, List, [], ◌∷◌, length, Option, Some, None, option_and_then, codes}
use Rattle.mn_base.specs.Lines.{text_of_lines}
use Rattle.mn_base.specs.Fields.{fields_of, line_of_fields}
use Rattle.changes.specs.Head.{directory_head}
use Rattle.ownership.specs.Directory.{DirectoryView}
use Rattle.ownership.specs.Owned.{Owned}

unfoldable pub pipe_labels : List (List ℕ)
pipe_labels = codes "pipe " ∷ codes " core " ∷ []

abbrev pub owned_of_numbers : List ℕ → Option Owned
owned_of_numbers (q ∷ c ∷ []) = Some (record { pipe = q; core = c })
owned_of_numbers other = None

-- the pipe and the core that a line says, or none where it isn't of that form
unfoldable pub owned_of : List ℕ → Option Owned
owned_of line = option_and_then owned_of_numbers (fields_of pipe_labels line)

-- lines of pipes that are numbered from q on
abbrev pub pipe_lines : ℕ → List ℕ → List (List ℕ)
pipe_lines q [] = []
pipe_lines q (core ∷ cores) = line_of_fields pipe_labels (q ∷ core ∷ []) ∷ pipe_lines (q + 1) cores

-- the text of a directory, pipe by pipe
abbrev pub directory_text : DirectoryView → List ℕ
directory_text d = text_of_lines (directory_head d.cores (length d.owners) ∷ pipe_lines 0 d.owners)
