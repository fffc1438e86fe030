-- The statements of the laws.
use Rattle.std.specs.Prelude.{◌≡◌, ◌↔◌, List}
use Rattle.mn_base.specs.Among.{Among}
use Rattle.mn_base.specs.declared.due.Due.{Due}
use Rattle.deadline_heap.specs.Canonical.{IsCanonical}

-- two lists in canonical order with the same members are one list
abbrev pub MembersNameTheList : Type 0
MembersNameTheList =
    (xs ys : List Due) → IsCanonical xs → IsCanonical ys → ((due : Due) → Among due xs ↔ Among due ys) → xs ≡ ys
