-- The visits of the wheel and of the ordered map as one list.
use Rattle.std.specs.Prelude.{◌≡◌, ◌≢◌, Bool, true, false, List, [], ◌∷◌, Option, Some, None}
use Rattle.mn_base.specs.Among.{Among}
use Rattle.mn_base.specs.declared.due.Due.{Due}
use Rattle.mn_base.specs.Canonical.{Before}
use Rattle.deadline_heap.specs.Canonical.{placed, IsCanonical}
use Rattle.deadline_heap.specs.declared.heap.Lead.{Lead}

-- the visits of the map, put one by one into those of the wheel
abbrev pub merged : List Due → List Due → List Due
merged near [] = near
merged near (x ∷ far) = placed x (merged near far)

-- what both keep: each is in canonical order, and no packet stands in both
pub record AreApart (near far : List Due) : Type 0 where
  pub near_canonical : IsCanonical near
  pub far_canonical : IsCanonical far
  pub apart : (x y : Due) → Among x near → Among y far → x.packet ≢ y.packet

abbrev pub Leads : Option Due → Option Due → Bool → Due → Type 0
Leads near far true due = (near ≡ Some due) × ((other : Due) → far ≡ Some other → Before due other)
Leads near far false due = (far ≡ Some due) × ((other : Due) → near ≡ Some other → (Before other due → ⊥))

-- the one given is the earlier of the two, and told whether it is the wheel's; none is given where there is none
abbrev pub LeadsBoth : Option Due → Option Due → Option Lead → Type 0
LeadsBoth near far None = (near ≡ None) × (far ≡ None)
LeadsBoth near far (Some lead) = Leads near far lead.is_near lead.due
