-- The first fault of a directory text. Lines are numbered from 1.
use Rattle.std.specs.Prelude.{ℕ, ◌≡◌, ◌+◌, ◌==◌, nat_lt, Bool, false, not, ◌&&◌, List, [], ◌∷◌, length, find, Option, Some, None, option_map, slice_index_or, drop, if◌then◌else◌}
use Rattle.std.specs.List.{range_with_len, filter_map}
use Rattle.std.specs.Option.{option_map_or, option_or}
use Rattle.mn_base.specs.Lines.{lines_of, first_line_fault}
use Rattle.mn_base.specs.Fields.{fields_of}
use Rattle.changes.specs.Head.{first_head_labels}
use Rattle.distill.specs.Distilled.{DistilledView}
use Rattle.ownership.specs.declared.faults.AssignFault.{AssignFault}
use Rattle.ownership.specs.declared.faults.AssignFault.TheVariants.{Head, Line, Core, Twice, Missing}
use Rattle.ownership.specs.Owned.{Owned, is_owned}
use Rattle.ownership.specs.Texts.{owned_of}

-- whether numbers are those of the head line
abbrev pub are_head : ℕ → ℕ → List ℕ → Bool
are_head cores pipes (k ∷ p ∷ []) = (k == cores) && (p == pipes)
are_head cores pipes other = false

-- whether a line is the head line of these cores and pipes
unfoldable pub is_head : ℕ → ℕ → List ℕ → Bool
is_head cores pipes line = option_map_or (are_head cores pipes) (fields_of first_head_labels line) false

-- the fault of line n that says this owner, where the lines before name the pipes that pass the test
abbrev pub fault_of_owned : ℕ → ℕ → ℕ → (ℕ → Bool) → Owned → Option AssignFault
fault_of_owned pipes cores n has_owner o =
    if not (nat_lt o.pipe pipes) then Some (Line n)
    else (if not (nat_lt o.core cores) then Some (Core n)
    else (if has_owner o.pipe then Some (Twice n)
    else None))

-- the fault of line n
abbrev pub owner_line_fault : ℕ → ℕ → ℕ → (ℕ → Bool) → List ℕ → Option AssignFault
owner_line_fault pipes cores n has_owner line = option_map_or (fault_of_owned pipes cores n has_owner) (owned_of line) (Some (Line n))

-- what lines say, without those that aren't of the form
abbrev pub said_by : List (List ℕ) → List Owned
said_by lines = filter_map owned_of lines

-- the fault of a line of a pipe, by the lines of pipes before it
abbrev pub owner_fault : ℕ → ℕ → List (List ℕ) → List ℕ → Option AssignFault
owner_fault pipes cores before line = owner_line_fault pipes cores (2 + length before) (is_owned (said_by before)) line

-- the least pipe without a line
abbrev pub missing_fault : ℕ → List (List ℕ) → Option AssignFault
missing_fault pipes lines =
    option_map (λ q. Missing q) (find (λ q. not (is_owned (said_by lines) q)) (range_with_len 0 pipes))

-- the first fault after the head line
abbrev pub owners_fault : ℕ → ℕ → List (List ℕ) → Option AssignFault
owners_fault pipes cores body = option_or (first_line_fault (owner_fault pipes cores) [] body) (missing_fault pipes body)

-- the first fault, or none
abbrev pub directory_fault : List ℕ → DistilledView → ℕ → Option AssignFault
directory_fault text d cores = let lines = lines_of text in
    if is_head cores (length d.pipes) (slice_index_or lines 0 []) then owners_fault (length d.pipes) cores (drop 1 lines) else Some Head

-- this fault is the first of the text
abbrev pub DirectoryFirst : List ℕ → DistilledView → ℕ → AssignFault → Type 0
DirectoryFirst text d cores fault = directory_fault text d cores ≡ Some fault
