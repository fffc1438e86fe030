-- The least of a list of due visits.
use Rattle.std.specs.Prelude.{List, [], ◌∷◌, Option, Some, None, if◌then◌else◌}
use Rattle.mn_base.specs.declared.due.Due.{Due}
use Rattle.mn_base.specs.Canonical.{is_before}

abbrev pub lesser : Due → Option Due → Due
lesser x None = x
lesser x (Some y) = if is_before y x then y else x

-- the least in canonical order
abbrev pub least : List Due → Option Due
least [] = None
least (x ∷ xs) = Some (lesser x (least xs))
