-- What the text of a value says, where it is one that its option allows. A text is the list of its bytes; the colon is 58.
use Rattle.std.specs.Prelude.{ℕ, Bool, true, false, ◌==◌, ◌&&◌, nat_le, List, [], ◌∷◌, Option, Some, None, bytes_eq, codes, if◌then◌else◌}
use Rattle.std.specs.List.{slice_split}
use Rattle.mn_base.specs.declared.limits.TheConstants.{FRONTIERS_MAX, CORES_MAX, TURNS_MAX, WORKLOAD_PACKETS_MAX, TICK_NS_MIN, TICK_NS_MAX}
use Rattle.mn_base.specs.Decimal.{decimal_of}
use Rattle.distill.specs.declared.modes.Mode.{Mode}
use Rattle.distill.specs.declared.modes.Mode.TheVariants.{Hop, Walk, End, WalkOut}
use Rattle.journal.specs.declared.setup.LossBy.{LossBy}
use Rattle.journal.specs.declared.setup.LossBy.TheVariants.{Packet, Arrival}
use Rattle.mn_words.specs.Steps.{◌>>=◌}

-- the number that a plain decimal text writes, where it is from `least` to `most`
unfoldable pub number_within : ℕ → ℕ → List ℕ → Option ℕ
number_within least most text = do
  number ← decimal_of text
  if nat_le least number && nat_le number most then Some number else None

-- the parts of a text between its colons
unfoldable pub colon_parts : List ℕ → List (List ℕ)
colon_parts text = slice_split (λ b. b == 58) text

-- the parts of what stands after a colon, and none where there is none
abbrev pub rest_parts : Option (List ℕ) → List (List ℕ)
rest_parts None = []
rest_parts (Some text) = colon_parts text

-- a tick length, in ns
abbrev pub tick_of : List ℕ → Option ℕ
tick_of text = number_within TICK_NS_MIN TICK_NS_MAX text

-- a number of cores
abbrev pub cores_of : List ℕ → Option ℕ
cores_of text = number_within 1 CORES_MAX text

-- a number of turns
abbrev pub turns_of : List ℕ → Option ℕ
turns_of text = number_within 0 TURNS_MAX text

-- a number of packets of a workload
abbrev pub packets_of : List ℕ → Option ℕ
packets_of text = number_within 1 WORKLOAD_PACKETS_MAX text

-- whether something is to be done
unfoldable pub yes_or_no : List ℕ → Option Bool
yes_or_no text =
    if bytes_eq text (codes "yes") then Some true else
    if bytes_eq text (codes "no") then Some false else
    None

-- how loss words are numbered
unfoldable pub loss_of : List ℕ → Option LossBy
loss_of text =
    if bytes_eq text (codes "packet") then Some Packet else
    if bytes_eq text (codes "arrival") then Some Arrival else
    None

-- how many frontiers a text names
abbrev pub frontier_count : List ℕ → Option ℕ
frontier_count text = number_within 1 FRONTIERS_MAX text

-- one number of frontiers, for walk-in, or two, of which the second is for walk-out
unfoldable pub walk_numbers : List (List ℕ) → Option Mode
walk_numbers (first ∷ []) = do
  walk_in ← frontier_count first
  Some (Walk walk_in)
walk_numbers (first ∷ second ∷ []) = do
  walk_in ← frontier_count first
  walk_out ← frontier_count second
  Some (WalkOut walk_in walk_out)
walk_numbers parts = None

-- `walk` stands before the numbers
unfoldable pub walk_of : List (List ℕ) → Option Mode
walk_of [] = None
walk_of (first ∷ parts) = if bytes_eq first (codes "walk") then walk_numbers parts else None

-- how much is kept of a topology
unfoldable pub mode_of : List ℕ → Option Mode
mode_of text =
    if bytes_eq text (codes "hop") then Some Hop else
    if bytes_eq text (codes "end") then Some End else
    walk_of (colon_parts text)
