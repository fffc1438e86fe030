-- The head line of a directory text of the first version: how many cores there are, and how many pipes.
use Rattle.std.specs.Prelude.{ℕ, List, [], ◌∷◌, codes}
use Rattle.mn_base.specs.Fields.{line_of_fields}

unfoldable pub first_head_labels : List (List ℕ)
first_head_labels = codes "modelnet-directory 1 cores " ∷ codes " pipes " ∷ []

abbrev pub directory_head : ℕ → ℕ → List ℕ
directory_head cores pipes = line_of_fields first_head_labels (cores ∷ pipes ∷ [])
