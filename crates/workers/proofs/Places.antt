-- Where cores are, and what becomes of them there.
use Rattle.std.proofs.Common.{List, [], ◌∷◌, refl, sym, ap, ◌∙◌, subst}
use Rattle.std.specs.Prelude.{All}
use Rattle.std.specs.List.{AllZip}
use Rattle.std.proofs.lemmas.List.Elements.{All-nil, All-cons, All-head, All-tail}
use Rattle.core_loop.specs.CoreView.{CoreView}
use Rattle.workers.specs.declared.place.Place.{Place}
use Rattle.workers.specs.declared.place.Place.TheVariants.{Here, There}
use Rattle.workers.specs.declared.station.Station.{Station}
use Rattle.workers.specs.Standing.{ComesBack}
use Rattle.workers.specs.Places.{IsPlaceOf, StaysPlace, ComesHere, IsHere}
use Rattle.workers.proofs.GoingOn.{goes-nowhere, goes-on, comes-on}
use Rattle.workers.proofs.Zipped.{AllZip-same, AllZip-over, All-from_zip}

-- a place stays as it is
pub stays-same : (p : Place) → StaysPlace p p
stays-same (Here a) = goes-nowhere a.core
stays-same (There h) = refl

pub stays-on : (p q r : Place) → StaysPlace p q → StaysPlace q r → StaysPlace p r
stays-on (Here a) (Here b) (Here c) first next = goes-on a.core b.core c.core first next
stays-on (Here a) (Here b) (There j) first next = elim next [ ]
stays-on (Here a) (There i) r first next = elim first [ ]
stays-on (There h) (There i) (There j) first next = next ∙ first
stays-on (There h) (There i) (Here c) first next = elim next [ ]
stays-on (There h) (Here b) r first next = elim first [ ]

-- it is the place of the same core
pub place-stays : (given : Station) (p q : Place) → IsPlaceOf given p → StaysPlace p q → IsPlaceOf given q
place-stays given (Here a) (Here b) is stays = comes-on given.core a.core b.core is stays
place-stays given (Here a) (There i) is stays = elim stays [ ]
place-stays given (There h) (Here b) is stays = elim stays [ ]
place-stays given (There h) (There i) is stays = ap (λ k. k.promise.0.value) stays ∙ is

-- a worker's promise is kept
pub place-comes_here : (given : Station) (p q : Place) → IsPlaceOf given p → ComesHere p q → IsPlaceOf given q
place-comes_here given (Here a) (Here b) is comes = subst (λ (s : Station). ComesBack given.core s.core) (sym comes) is
place-comes_here given (Here a) (There i) is comes = elim comes [ ]
place-comes_here given (There h) (There i) is comes = elim comes [ ]
place-comes_here given (There h) (Here b) is comes = subst (λ (c : CoreView). ComesBack c b.core) is comes

pub here-comes : (p q : Place) → ComesHere p q → IsHere q
here-comes (Here a) (Here b) comes = tt
here-comes (There h) (Here b) comes = tt
here-comes (Here a) (There i) comes = elim comes [ ]
here-comes (There h) (There i) comes = elim comes [ ]

-- what is here stays here
pub here-stays : (p q : Place) → StaysPlace p q → IsHere p → IsHere q
here-stays (Here a) (Here b) stays here = tt
here-stays (Here a) (There i) stays here = elim stays [ ]
here-stays (There h) q stays here = elim here [ ]

-- ---- all of them

-- while the caller turns its own
pub places-stay : (all : List Station) (ps qs : List Place) → AllZip IsPlaceOf all ps → AllZip StaysPlace ps qs → AllZip IsPlaceOf all qs
places-stay all ps qs are stay = AllZip-over IsPlaceOf StaysPlace IsPlaceOf all ps qs place-stays are stay

-- and when the workers have given back theirs
pub places-come_back : (all : List Station) (ps qs rs : List Place) → AllZip IsPlaceOf all ps → AllZip StaysPlace ps qs → AllZip ComesHere qs rs
    → AllZip IsPlaceOf all rs
places-come_back all ps qs rs are stay come =
    AllZip-over IsPlaceOf ComesHere IsPlaceOf all qs rs place-comes_here (places-stay all ps qs are stay) come

pub all-come_here : (ps qs : List Place) → AllZip ComesHere ps qs → All IsHere qs
all-come_here ps qs come = All-from_zip ComesHere IsHere ps qs here-comes come

pub all-stay_here : (ps qs : List Place) → AllZip StaysPlace ps qs → All IsHere ps → All IsHere qs
all-stay_here [] [] stay here = All-nil IsHere
all-stay_here [] (q ∷ qs) stay here = elim stay [ ]
all-stay_here (p ∷ ps) [] stay here = elim stay [ ]
all-stay_here (p ∷ ps) (q ∷ qs) stay here =
    All-cons IsHere q qs (here-stays p q stay.0 (All-head IsHere p ps here)) (all-stay_here ps qs stay.1 (All-tail IsHere p ps here))

pub all-stay_same : (ps : List Place) → AllZip StaysPlace ps ps
all-stay_same ps = AllZip-same StaysPlace ps stays-same

pub all-stay_on : (ps qs rs : List Place) → AllZip StaysPlace ps qs → AllZip StaysPlace qs rs → AllZip StaysPlace ps rs
all-stay_on ps qs rs first next = AllZip-over StaysPlace StaysPlace StaysPlace ps qs rs stays-on first next
