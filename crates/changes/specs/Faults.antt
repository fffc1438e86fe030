-- The first fault of a directory text of the second version. Lines are numbered from 1.
use Rattle.std.specs.Prelude.{ℕ, ◌≡◌, ◌+◌, ◌-◌, ◌==◌, nat_lt, nat_le, nat_eq, Bool, true, not, ◌&&◌, List, [], ◌∷◌, length, drop, Option, Some, None, option_and_then, slice_get, slice_index_or, if◌then◌else◌, codes}
use Rattle.std.specs.List.{starts_with}
use Rattle.std.specs.Option.{option_map_or}
use Rattle.mn_base.specs.declared.limits.TheConstants.{CHANGES_MAX}
use Rattle.mn_base.specs.Lines.{lines_of, first_line_fault}
use Rattle.mn_base.specs.Fields.{fields_of}
use Rattle.changes.specs.declared.split.Change.{Change}
use Rattle.changes.specs.declared.faults.ChangesFault.{ChangesFault}
use Rattle.changes.specs.declared.faults.ChangesFault.TheVariants.{Head, Count, Line, Range, Order}
use Rattle.changes.specs.Changes.{change_of, is_change, precedes_change}

-- the bytes that a text of the second version begins with
unfoldable pub second_mark : List ℕ
second_mark = codes "modelnet-directory 2 "

abbrev pub is_second : List ℕ → Bool
is_second text = starts_with nat_eq text second_mark

unfoldable pub second_head_labels : List (List ℕ)
second_head_labels = codes "modelnet-directory 2 cores " ∷ codes " pipes " ∷ codes " changes " ∷ []

-- the number of changes, where the numbers of the head line are these cores and pipes, and no more changes than the limit
abbrev pub count_of_numbers : ℕ → ℕ → List ℕ → Option ℕ
count_of_numbers cores pipes (k ∷ p ∷ count ∷ []) = if (k == cores) && (p == pipes) && nat_le count CHANGES_MAX then Some count else None
count_of_numbers cores pipes other = None

-- the number of changes that a head line says, or none where it isn't a head line of these cores and pipes
unfoldable pub count_of : ℕ → ℕ → List ℕ → Option ℕ
count_of cores pipes line = option_and_then (count_of_numbers cores pipes) (fields_of second_head_labels line)

-- the change of the last line, if there is one
abbrev pub last_change : List (List ℕ) → Option Change
last_change lines = option_and_then change_of (slice_get lines (length lines - 1))

-- the fault of line n that says this change, if `last` is the change before it
abbrev pub fault_of_change : ℕ → ℕ → Option Change → Change → Option ChangesFault
fault_of_change pipes n last change =
    if not (nat_lt change.pipe pipes) then Some (Line n)
    else (if not (is_change change) then Some (Range n)
    else (if not (option_map_or (λ earlier. precedes_change earlier change) last true) then Some (Order n)
    else None))

-- the fault of line n
abbrev pub change_line_fault : ℕ → ℕ → Option Change → List ℕ → Option ChangesFault
change_line_fault pipes n last line = option_map_or (fault_of_change pipes n last) (change_of line) (Some (Line n))

-- the fault of a line of changes, by the lines of changes before it
abbrev pub change_fault : ℕ → List (List ℕ) → List ℕ → Option ChangesFault
change_fault pipes before line = change_line_fault pipes (pipes + 2 + length before) (last_change before) line

-- the first fault after the head line, if that says so many changes
abbrev pub fault_behind_head : ℕ → List (List ℕ) → ℕ → Option ChangesFault
fault_behind_head pipes lines count =
    if not (length lines == 1 + pipes + count) then Some Count else first_line_fault (change_fault pipes) [] (drop (1 + pipes) lines)

-- the first fault, or none
abbrev pub changes_fault : List ℕ → ℕ → ℕ → Option ChangesFault
changes_fault text cores pipes =
    if is_second text
    then (let lines = lines_of text in option_map_or (fault_behind_head pipes lines) (count_of cores pipes (slice_index_or lines 0 [])) (Some Head))
    else None

-- this fault is the first of the text
abbrev pub ChangesFirst : List ℕ → ℕ → ℕ → ChangesFault → Type 0
ChangesFirst text cores pipes fault = changes_fault text cores pipes ≡ Some fault
