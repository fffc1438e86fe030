-- Due visits in canonical order, and one more put in its place.
use Rattle.std.specs.Prelude.{◌≢◌, ℕ, List, [], ◌∷◌, if◌then◌else◌}
use Rattle.mn_base.specs.Among.{Among}
use Rattle.mn_base.specs.declared.due.Due.{Due}
use Rattle.mn_base.specs.Canonical.{Before, is_before}

-- none of the visits is one of this packet
abbrev pub HasNoneOf : ℕ → List Due → Type 0
HasNoneOf packet visits = (other : Due) → Among other visits → other.packet ≢ packet

-- each visit is earlier than all after it, and of each packet there is one at most
abbrev pub IsCanonical : List Due → Type 0
IsCanonical [] = Unit {0}
IsCanonical (x ∷ rest) = ((other : Due) → Among other rest → Before x other) × HasNoneOf x.packet rest × IsCanonical rest

-- a list with one more visit, in front of the first that it is earlier than
abbrev pub placed : Due → List Due → List Due
placed due [] = due ∷ []
placed due (x ∷ rest) = if is_before due x then due ∷ x ∷ rest else x ∷ placed due rest
