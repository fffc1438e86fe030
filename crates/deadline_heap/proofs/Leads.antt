-- The earlier of the two parts' firsts is the first of the one list, and what is left when it is taken out.
use Rattle.std.proofs.Common.{◌≡◌, ◌≢◌, inl, inr, ℕ, ◌<◌, ◌≤◌, Bool, true, false, List, [], ◌∷◌, Option, Some, None, refl, sym, ap, ◌∙◌, subst, arith}
use Rattle.std.specs.Prelude.{MatchOption, IfSome, slice_get}
use Rattle.mn_base.specs.Among.{Among}
use Rattle.mn_base.specs.declared.due.Due.{Due}
use Rattle.mn_base.specs.Canonical.{Before}
use Rattle.deadline_heap.specs.Canonical.{IsCanonical}
use Rattle.deadline_heap.specs.HeapParts.{merged, AreApart, Leads}
use Rattle.deadline_heap.proofs.Orders.{earlier_trans, earlier_total}
use Rattle.deadline_heap.proofs.Merging.{Among-merged, canonical-merged, apart_rest-near, apart_rest-far, merged-near-first, merged-far-first}

pub earlier-tick : (x y : Due) → Before x y → x.tick ≤ y.tick
earlier-tick x y (inl lower) = omega arith
earlier-tick x y (inr tie) = omega arith

-- in a list in order, nothing has a lesser tick than the first
pub first_is_least : (x : Due) (rest : List Due) → IsCanonical (x ∷ rest) → (other : Due) → Among other (x ∷ rest) → x.tick ≤ other.tick
first_is_least x rest order other (inl here) = let same : x.tick ≡ other.tick = ap (λ (d : Due). d.tick) here in omega arith
first_is_least x rest order other (inr later) = earlier-tick x other (order.0 other later)

-- the wheel's first leads the whole map
leads_far : (due : Due) (near far : List Due) → IsCanonical far → Leads (slice_get near 0) (slice_get far 0) true due → (x : Due)
    → Among x far → Before due x
leads_far due near [] order leads x there = absurd there
leads_far due near (f ∷ far) order leads x (inl here) = leads.1 x (ap Some here)
leads_far due near (f ∷ far) order leads x (inr later) = earlier_trans due f x (leads.1 f refl) (order.0 x later)

-- the map's first leads the whole wheel
leads_near : (due : Due) (near far : List Due) → IsCanonical near → ((x : Due) → Among x near → x.packet ≢ due.packet)
    → Leads (slice_get near 0) (slice_get far 0) false due → (x : Due) → Among x near → Before due x
leads_near due [] far order apart leads x there = absurd there
leads_near due (n ∷ near) far order apart leads x (inl here) =
    subst (λ (z : Due). Before due z) here (earlier_total n due (λ same. apart n (inl refl) (sym same)) (leads.1 n refl))
leads_near due (n ∷ near) far order apart leads x (inr later) =
    earlier_trans due n x (earlier_total n due (λ same. apart n (inl refl) (sym same)) (leads.1 n refl)) (order.0 x later)

-- ---- the wheel's first is taken out

pub taken_near : (due : Due) (near rest far : List Due) → AreApart near far → Leads (slice_get near 0) (slice_get far 0) true due
    → near ≡ due ∷ rest → merged near far ≡ due ∷ merged rest far
taken_near due near rest far parts leads is =
    ap (λ (l : List Due). merged l far) is ∙ merged-near-first due rest far (leads_far due near far parts.far_canonical leads)

-- what was taken out is the one that leads
near_is_lead : (lead due : Due) (near rest far : List Due) → Leads (slice_get near 0) (slice_get far 0) true lead → near ≡ due ∷ rest
    → due ≡ lead
near_is_lead lead due near rest far leads is =
    let one : Some due ≡ Some lead = sym (ap (λ (l : List Due). slice_get l 0) is) ∙ leads.0 in
    cc

pub popped_near : (r : Option Due) (lead : Due) (limit : ℕ) (near rest far : List Due) → AreApart near far
    → Leads (slice_get near 0) (slice_get far 0) true lead → lead.tick < limit
    → MatchOption r (near ≡ []) (λ due. near ≡ due ∷ rest) → IfSome r
    (λ due. (merged near far ≡ due ∷ merged rest far) × (due.tick < limit))
popped_near None lead limit near rest far parts leads early is = tt
popped_near (Some due) lead limit near rest far parts leads early is =
    let same : due ≡ lead = near_is_lead lead due near rest far leads is in (
      taken_near due near rest far parts (subst (λ (d : Due). Leads (slice_get near 0) (slice_get far 0) true d) (sym same) leads) is,
      subst (λ (d : Due). d.tick < limit) (sym same) early,
    )

pub apart_popped_near : (r : Option Due) (lead : Due) (near rest far : List Due) → AreApart near far
    → Leads (slice_get near 0) (slice_get far 0) true lead
    → MatchOption r (near ≡ []) (λ due. near ≡ due ∷ rest) → AreApart rest far
apart_popped_near None lead near rest far parts leads is =
    let wrong : None ≡ Some lead = ap (λ (l : List Due). slice_get l 0) (sym is) ∙ leads.0 in
    cc
apart_popped_near (Some due) lead near rest far parts leads is = apart_rest-near due rest far
    (subst (λ (l : List Due). AreApart l far) is parts)

-- ---- the map's first is taken out

pub taken_far : (due : Due) (near far rest : List Due) → AreApart near far → Leads (slice_get near 0) (slice_get far 0) false due
    → far ≡ due ∷ rest → merged near far ≡ due ∷ merged near rest
taken_far due near far rest parts leads is =
    ap (merged near) is
    ∙ merged-far-first due near rest (subst IsCanonical is parts.far_canonical)
    (leads_near due near far parts.near_canonical
    (λ x there. parts.apart x due there (subst (λ (l : List Due). Among due l) (sym is) (inl refl))) leads)

far_is_lead : (lead due : Due) (near far rest : List Due) → Leads (slice_get near 0) (slice_get far 0) false lead → far ≡ due ∷ rest
    → due ≡ lead
far_is_lead lead due near far rest leads is =
    let one : Some due ≡ Some lead = sym (ap (λ (l : List Due). slice_get l 0) is) ∙ leads.0 in
    cc

pub popped_far : (r : Option Due) (lead : Due) (limit : ℕ) (near far rest : List Due) → AreApart near far
    → Leads (slice_get near 0) (slice_get far 0) false lead → lead.tick < limit
    → MatchOption r (far ≡ []) (λ due. far ≡ due ∷ rest) → IfSome r (λ due. (merged near far ≡ due ∷ merged near rest) × (due.tick < limit))
popped_far None lead limit near far rest parts leads early is = tt
popped_far (Some due) lead limit near far rest parts leads early is =
    let same : due ≡ lead = far_is_lead lead due near far rest leads is in (
      taken_far due near far rest parts (subst (λ (d : Due). Leads (slice_get near 0) (slice_get far 0) false d) (sym same) leads) is,
      subst (λ (d : Due). d.tick < limit) (sym same) early,
    )

pub apart_popped_far : (r : Option Due) (lead : Due) (near far rest : List Due) → AreApart near far
    → Leads (slice_get near 0) (slice_get far 0) false lead
    → MatchOption r (far ≡ []) (λ due. far ≡ due ∷ rest) → AreApart near rest
apart_popped_far None lead near far rest parts leads is =
    let wrong : None ≡ Some lead = ap (λ (l : List Due). slice_get l 0) (sym is) ∙ leads.0 in
    cc
apart_popped_far (Some due) lead near far rest parts leads is = apart_rest-far due near rest
    (subst (λ (l : List Due). AreApart near l) is parts)

-- ---- the first of the one list

-- a list that begins with its first
split_first : (xs : List Due) (due : Due) → slice_get xs 0 ≡ Some due → (rest : List Due) × (xs ≡ due ∷ rest)
split_first [] due first = let wrong : None ≡ Some due = first in cc
split_first (x ∷ xs) due first = let one : Some x ≡ Some due = first in let same : x ≡ due = cc in (xs, ap (λ (d : Due). d ∷ xs) same)

pub begins_with_lead : (b : Bool) (lead : Due) (near far : List Due) → AreApart near far
    → Leads (slice_get near 0) (slice_get far 0) b lead → (rest : List Due) × (merged near far ≡ lead ∷ rest)
begins_with_lead true lead near far parts leads =
    let split = split_first near lead leads.0 in
    (merged split.0 far, taken_near lead near split.0 far parts leads split.1)
begins_with_lead false lead near far parts leads =
    let split = split_first far lead leads.0 in
    (merged near split.0, taken_far lead near far split.0 parts leads split.1)

pub lead_is_least : (b : Bool) (lead : Due) (near far : List Due) → AreApart near far
    → Leads (slice_get near 0) (slice_get far 0) b lead → (other : Due) → Among other (merged near far) → lead.tick ≤ other.tick
lead_is_least b lead near far parts leads other there =
    let begins = begins_with_lead b lead near far parts leads in
    first_is_least lead begins.0 (subst IsCanonical begins.1 (canonical-merged near far parts)) other
    (subst (λ (l : List Due). Among other l) begins.1 there)

pub first-merged : (b : Bool) (lead : Due) (near far : List Due) → AreApart near far
    → Leads (slice_get near 0) (slice_get far 0) b lead → Some lead ≡ slice_get (merged near far) 0
first-merged b lead near far parts leads =
    let begins = begins_with_lead b lead near far parts leads in ap (λ (l : List Due). slice_get l 0) (sym begins.1)

-- both are empty where there is none
pub none-merged : (near far : List Due) → slice_get near 0 ≡ None → slice_get far 0 ≡ None → merged near far ≡ []
none-merged [] [] a b = refl
none-merged [] (f ∷ far) a b = let wrong : Some f ≡ None = b in cc
none-merged (n ∷ near) far a b = let wrong : Some n ≡ None = a in cc

-- as the code knows it: by the two answers
pub leads_at : (near far : Option Due) (xs ys : List Due) (b : Bool) (lead : Due) → near ≡ slice_get xs 0 → far ≡ slice_get ys 0
    → Leads near far b lead → Leads (slice_get xs 0) (slice_get ys 0) b lead
leads_at near far xs ys b lead is_near is_far leads =
    subst (λ (o : Option Due). Leads (slice_get xs 0) o b lead) is_far (subst (λ (o : Option Due). Leads o far b lead) is_near leads)

-- nothing is due before a limit that the first isn't below
pub least_before : (b : Bool) (lead : Due) (limit : ℕ) (near far : List Due) → AreApart near far
    → Leads (slice_get near 0) (slice_get far 0) b lead → limit ≤ lead.tick → (other : Due) → Among other (merged near far)
    → limit ≤ other.tick
least_before b lead limit near far parts leads late other there =
    let least : lead.tick ≤ other.tick = lead_is_least b lead near far parts leads other there in
    omega arith

-- and the wheel may rise to it
pub near_at_least : (b : Bool) (lead : Due) (near far : List Due) → AreApart near far
    → Leads (slice_get near 0) (slice_get far 0) b lead → (other : Due) → Among other near → lead.tick ≤ other.tick
near_at_least b lead near far parts leads other there = lead_is_least b lead near far parts leads other
    ((Among-merged other near far).1 (inl there))
