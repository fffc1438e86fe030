-- What an insertion into one part says of the one list, by the part's answer.
use Rattle.std.proofs.Common.{◌≡◌, ◌⊎◌, List, Result, Ok, Err, sym, ap, ◌∙◌, subst}
use Rattle.std.specs.Prelude.{◌↔◌, OnOk, OnErr}
use Rattle.mn_base.specs.Among.{Among}
use Rattle.mn_base.specs.declared.refusal.NoMemory.{NoMemory}
use Rattle.mn_base.specs.declared.due.Due.{Due}
use Rattle.deadline_heap.specs.Canonical.{HasNoneOf, placed}
use Rattle.deadline_heap.specs.HeapParts.{merged, AreApart}
use Rattle.deadline_heap.proofs.Orders.{Among-placed}
use Rattle.deadline_heap.proofs.Merging.{apart-placed-near, apart-placed-far, fresh_near, fresh_far, merged-placed-near, merged-placed-far}

abbrev pub Answer : Type 0
Answer = Result (Unit {0}) NoMemory

-- the parts stay apart, whatever the answer
pub apart_near : (r : Answer) (due : Due) (near after far : List Due) → HasNoneOf due.packet (merged near far) → AreApart near far
    → OnOk r (after ≡ placed due near) → OnErr r (after ≡ near) → AreApart after far
apart_near (Ok _) due near after far fresh parts ok err =
    subst (λ (l : List Due). AreApart l far) (sym ok)
    (apart-placed-near due near far (fresh_near due.packet near far fresh) (fresh_far due.packet near far fresh) parts)
apart_near (Err _) due near after far fresh parts ok err = subst (λ (l : List Due). AreApart l far) (sym err) parts

pub apart_far : (r : Answer) (due : Due) (near far after : List Due) → HasNoneOf due.packet (merged near far) → AreApart near far
    → OnOk r (after ≡ placed due far) → OnErr r (after ≡ far) → AreApart near after
apart_far (Ok _) due near far after fresh parts ok err =
    subst (λ (l : List Due). AreApart near l) (sym ok)
    (apart-placed-far due near far (fresh_near due.packet near far fresh) (fresh_far due.packet near far fresh) parts)
apart_far (Err _) due near far after fresh parts ok err = subst (λ (l : List Due). AreApart near l) (sym err) parts

-- at Ok the one list has the visit in its place
pub placed_near : (r : Answer) (due : Due) (near after far old : List Due) → merged near far ≡ old → HasNoneOf due.packet old
    → AreApart near far → OnOk r (after ≡ placed due near) → OnOk r (merged after far ≡ placed due old)
placed_near (Ok _) due near after far old is fresh parts ok =
    ap (λ (l : List Due). merged l far) ok
    ∙ merged-placed-near due near far (subst (HasNoneOf due.packet) (sym is) fresh) parts
    ∙ ap (placed due) is
placed_near (Err _) due near after far old is fresh parts ok = tt

pub placed_far : (r : Answer) (due : Due) (near far after old : List Due) → merged near far ≡ old → HasNoneOf due.packet old
    → AreApart near far → OnOk r (after ≡ placed due far) → OnOk r (merged near after ≡ placed due old)
placed_far (Ok _) due near far after old is fresh parts ok =
    ap (merged near) ok
    ∙ merged-placed-far due near far (subst (HasNoneOf due.packet) (sym is) fresh) parts
    ∙ ap (placed due) is
placed_far (Err _) due near far after old is fresh parts ok = tt

-- so its members are those of before and the new one
members : (r : Answer) (due : Due) (new old : List Due) → OnOk r (new ≡ placed due old)
    → OnOk r ((other : Due) → Among other new ↔ ((due ≡ other) ⊎ Among other old))
members (Ok _) due new old is = λ other. subst (λ (l : List Due). Among other l ↔ ((due ≡ other) ⊎ Among other old)) (sym is)
    (Among-placed other due old)
members (Err _) due new old is = tt

pub members_near : (r : Answer) (due : Due) (near after far old : List Due) → merged near far ≡ old → HasNoneOf due.packet old
    → AreApart near far → OnOk r (after ≡ placed due near)
    → OnOk r ((other : Due) → Among other (merged after far) ↔ ((due ≡ other) ⊎ Among other old))
members_near r due near after far old is fresh parts ok = members r due (merged after far) old
    (placed_near r due near after far old is fresh parts ok)

pub members_far : (r : Answer) (due : Due) (near far after old : List Due) → merged near far ≡ old → HasNoneOf due.packet old
    → AreApart near far → OnOk r (after ≡ placed due far)
    → OnOk r ((other : Due) → Among other (merged near after) ↔ ((due ≡ other) ⊎ Among other old))
members_far r due near far after old is fresh parts ok = members r due (merged near after) old
    (placed_far r due near far after old is fresh parts ok)
