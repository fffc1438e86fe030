-- What a post and a take change: one box of all.
use Rattle.std.proofs.Common.{◌≡◌, ◌≢◌, ◌⊎◌, inl, inr, ℕ, zero, suc, ◌+◌, ◌*◌, ◌<◌, ◌≤◌, List, [], ◌∷◌, length, replicate, map, false, Option, Some, None, slice_index_or, refl, sym, ap, ◌∙◌, subst, arith, get_or-set_same, get_or-set_other}
use Rattle.std.proofs.Math.ListN.{set, length-set}
use Rattle.std.proofs.lemmas.List.{map-set, get_or-map, length-map, length-replicate, get_or_default}
use Rattle.std.proofs.lemmas.Bool.{cases_order}
use Rattle.std.specs.Option.{is_some}
use Rattle.std.specs.Vec.{with_item}
use Rattle.mn_base.specs.declared.limits.TheConstants.{CORES_MAX}
use Rattle.journal.specs.IsSetup.{IsSetup}
use Rattle.parcel.specs.ParcelView.{ParcelView}
use Rattle.parcel.specs.Parcels.{IsParcel}
use Rattle.parcel.specs.declared.plain_boxes.PlainBox.{PlainBox}
use Rattle.parcel.specs.declared.plain_boxes.PlainBoxes.TheInside.{Inside}
use Rattle.parcel.specs.PlainBoxesView.{BoxView, PlainBoxesView, Keeps, AreInStep, HasNoParcel, HasParcel, place, idle_box, box_at, posted_to, taken_from}
use Rattle.parcel.specs.PlainBoxes.{AreBoxes, boxes_view, parcels_in, seen_box, bare_box}
use Rattle.parcel.proofs.FewWindows.{few_windows}

abbrev pub at : PlainBoxesView → ℕ → BoxView
at v k = slice_index_or v.boxes k idle_box

-- the box at k becomes b, and nothing else changes
pub record Sets (p q : PlainBoxesView) (k : ℕ) (b : BoxView) : Type 0 where
  pub setup : q.setup ≡ p.setup
  pub core : q.core ≡ p.core
  pub here : at q k ≡ b
  pub elsewhere : (i : ℕ) → i ≢ k → at q i ≡ at p i

-- what f tells of each box doesn't fall, where it doesn't fall at the one that changes
rises : (f : BoxView → ℕ) (p q : PlainBoxesView) (k : ℕ) (b : BoxView) → Sets p q k b → f (at p k) ≤ f b → (i : ℕ) → f (at p i) ≤ f (at q i)
rises f p q k b sets more i = go (cases_order i k)
  where
    other : i ≢ k → f (at p i) ≤ f (at q i)
    other ne = let e = ap f (sets.elsewhere i ne) in omega arith

    go : (i ≡ k) ⊎ ((i < k) ⊎ (k < i)) → f (at p i) ≤ f (at q i)
    go (inl e) =
        let P : ℕ → Type 0 = λ n. f (at p n) ≤ f (at q n) in
        subst P (sym e) (let h = ap f sets.here in omega arith)
    go (inr (inl l)) = other (omega arith)
    go (inr (inr l)) = other (omega arith)

-- and stays, where it stays at the one that changes
stays : (f : BoxView → ℕ) (p q : PlainBoxesView) (k : ℕ) (b : BoxView) → Sets p q k b → f b ≡ f (at p k) → (i : ℕ) → f (at q i) ≡ f (at p i)
stays f p q k b sets same i = go (cases_order i k)
  where
    go : (i ≡ k) ⊎ ((i < k) ⊎ (k < i)) → f (at q i) ≡ f (at p i)
    go (inl e) =
        let P : ℕ → Type 0 = λ n. f (at q n) ≡ f (at p n) in
        subst P (sym e) (ap f sets.here ∙ same)
    go (inr (inl l)) = ap f (sets.elsewhere i (omega arith))
    go (inr (inr l)) = ap f (sets.elsewhere i (omega arith))

-- the core that is served posts to another
pub record Posts (p q : PlainBoxesView) (to : ℕ) : Type 0 where
  pub keeps : Keeps p q
  pub ok : posted_to q to ≡ posted_to p to + 1
  pub others : (j : ℕ) → j ≢ to → posted_to q j ≡ posted_to p j
  pub taken : (j : ℕ) → taken_from q j ≡ taken_from p j

posts_one : (p q : PlainBoxesView) (to : ℕ) (b : BoxView) → to < CORES_MAX → Sets p q (place p.core to) b
    → b.posted ≡ posted_to p to + 1 → b.taken ≡ (box_at p p.core to).taken → Posts p q to
posts_one p q to b within sets more same = record {
  keeps = record {
    setup = sets.setup;
    core = sets.core;
    posts_of_others = λ sender receiver low other. ap (λ (x : BoxView). x.posted) (sets.elsewhere (place sender receiver) (omega arith));
    takes_of_others = λ sender receiver low other. stays (λ x. x.taken) p q _ b sets same (place sender receiver);
    posts = λ j. omega (arith, rises (λ x. x.posted) p q (place p.core to) b sets (omega arith) (place p.core j), moved j);
    takes = λ j. omega (arith, rises (λ x. x.taken) p q (place p.core to) b sets (omega arith) (place j p.core), moved_taken j);
  };
  ok = moved to ∙ ap (λ (x : BoxView). x.posted) sets.here ∙ more;
  others = λ j other. moved j ∙ ap (λ (x : BoxView). x.posted) (sets.elsewhere (place p.core j) (omega arith));
  taken = λ j. moved_taken j ∙ stays (λ x. x.taken) p q _ b sets same (place j p.core);
}
  where
    moved : (j : ℕ) → posted_to q j ≡ (box_at q p.core j).posted
    moved j = ap (λ (core : ℕ). (box_at q core j).posted) sets.core

    moved_taken : (j : ℕ) → taken_from q j ≡ (box_at q j p.core).taken
    moved_taken j = ap (λ (core : ℕ). (box_at q j core).taken) sets.core

-- the core that is served takes from another
pub record Takes (p q : PlainBoxesView) (from : ℕ) : Type 0 where
  pub keeps : Keeps p q
  pub ok : taken_from q from ≡ taken_from p from + 1
  pub others : (j : ℕ) → j ≢ from → taken_from q j ≡ taken_from p j
  pub posted : (j : ℕ) → posted_to q j ≡ posted_to p j

takes_one : (p q : PlainBoxesView) (from : ℕ) (b : BoxView) → p.core < CORES_MAX → Sets p q (place from p.core) b
    → b.posted ≡ (box_at p from p.core).posted → b.taken ≡ taken_from p from + 1 → Takes p q from
takes_one p q from b within sets same more = record {
  keeps = record {
    setup = sets.setup;
    core = sets.core;
    posts_of_others = λ sender receiver low other. stays (λ x. x.posted) p q _ b sets same (place sender receiver);
    takes_of_others = λ sender receiver low other. ap (λ (x : BoxView). x.taken) (sets.elsewhere (place sender receiver) (omega arith));
    posts = λ j. omega (arith, rises (λ x. x.posted) p q (place from p.core) b sets (omega arith) (place p.core j), moved j);
    takes = λ j. omega (arith, rises (λ x. x.taken) p q (place from p.core) b sets (omega arith) (place j p.core), moved_taken j);
  };
  ok = moved_taken from ∙ ap (λ (x : BoxView). x.taken) sets.here ∙ more;
  others = λ j other. moved_taken j ∙ ap (λ (x : BoxView). x.taken) (sets.elsewhere (place j p.core) (omega arith));
  posted = λ j. moved j ∙ stays (λ x. x.posted) p q _ b sets same (place p.core j);
}
  where
    moved : (j : ℕ) → posted_to q j ≡ (box_at q p.core j).posted
    moved j = ap (λ (core : ℕ). (box_at q core j).posted) sets.core

    moved_taken : (j : ℕ) → taken_from q j ≡ (box_at q j p.core).taken
    moved_taken j = ap (λ (core : ℕ). (box_at q j core).taken) sets.core

-- ---- the same of the fields

-- what stands at k is seen as this
seen_at : (s : Inside) (p : PlainBoxesView) → boxes_view s ≡ p → (k : ℕ) (old : PlainBox) → k < length s.boxes.items
    → old ≡ slice_index_or s.boxes.items k old → at p k ≡ seen_box old
seen_at s p is k old within read =
    ap (λ (v : PlainBoxesView). at v k) (sym is) ∙ get_or-map seen_box s.boxes.items k old idle_box within ∙ ap seen_box (sym read)

sets_of : (s : Inside) (p : PlainBoxesView) → boxes_view s ≡ p → (k : ℕ) (new : PlainBox) → k < length s.boxes.items
    → Sets p (boxes_view record s { boxes = with_item s.boxes k new }) k (seen_box new)
sets_of s p is k new within = subst (λ (v : PlainBoxesView). Sets v (boxes_view record s { boxes = with_item s.boxes k new }) k (seen_box new)) is record {
  setup = refl;
  core = refl;
  here =
      ap (λ (xs : List BoxView). slice_index_or xs k idle_box) (map-set seen_box s.boxes.items k new)
      ∙ get_or-set_same (map seen_box s.boxes.items) k (seen_box new) idle_box (omega (arith, length-map s.boxes.items seen_box));
  elsewhere = λ i ne.
      ap (λ (xs : List BoxView). slice_index_or xs i idle_box) (map-set seen_box s.boxes.items k new)
      ∙ get_or-set_other (map seen_box s.boxes.items) k i (seen_box new) idle_box ne;
}

-- a place of the boxes
within_boxes : (s : Inside) → AreBoxes s → (sender receiver k : ℕ) → sender < s.setup.now.cores → receiver < s.setup.now.cores
    → k ≡ place sender receiver → k < length s.boxes.items
within_boxes s are sender receiver k low also is = omega (arith, are.count, are.cores)

-- A box is in hand for a trade with another core: `old` was read at k out of boxes that are well, and the setup has the core.
pub record IsLent (s : Inside) (p : PlainBoxesView) (other k : ℕ) (old : PlainBox) : Type 0 where
  pub view_is : boxes_view s ≡ p
  pub are : AreBoxes s
  pub known : other < p.setup.cores
  pub read : old ≡ slice_index_or s.boxes.items k old

-- an empty box to another core gets a parcel
pub posts_box : {s : Inside} {p : PlainBoxesView} {to k : ℕ} {old : PlainBox} → IsLent s p to k old → k ≡ place s.core to
    → is_some old.parcel ≡ false → (new : ParcelView)
    → Posts p (boxes_view record s { boxes = with_item s.boxes k record { taken = old.taken; parcel = Some new } }) to
posts_box {s} {p} {to} {k} {old} lent at_k free new =
    let is : boxes_view s ≡ p = lent.view_is in
    let are : AreBoxes s = lent.are in
    let low : to < s.setup.now.cores = subst (λ (v : PlainBoxesView). to < v.setup.cores) (sym is) lent.known in
    let within : k < length s.boxes.items = within_boxes s are s.core to k are.core low at_k in
    let core : s.core ≡ p.core = ap (λ (v : PlainBoxesView). v.core) is in
    let here : k ≡ place p.core to = at_k ∙ ap (λ (n : ℕ). place n to) core in
    let fresh : PlainBox = record { taken = old.taken; parcel = Some new } in
    let after : PlainBoxesView = boxes_view record s { boxes = with_item s.boxes k fresh } in
    let seen : box_at p p.core to ≡ seen_box old =
    subst (λ (n : ℕ). at p n ≡ seen_box old) here (seen_at s p is k old within lent.read) in
    let none_there : parcels_in old.parcel ≡ 0 = ap parcels_in (none old.parcel free) in
    let posted : posted_to p to ≡ old.taken + parcels_in old.parcel = ap (λ (b : BoxView). b.posted) seen in
    posts_one p after to (seen_box fresh) (omega (arith, are.cores))
    (subst (λ (n : ℕ). Sets p after n (seen_box fresh)) here (sets_of s p is k fresh within))
    (omega arith)
    (ap (λ (b : BoxView). b.taken) (sym seen))
  where
    none : (o : Option ParcelView) → is_some o ≡ false → o ≡ None
    none None free = refl
    none (Some x) free = cc

-- a full box from another core gives its parcel
pub takes_box : {s : Inside} {p : PlainBoxesView} {from k : ℕ} {old : PlainBox} → IsLent s p from k old → k ≡ place from s.core
    → {given : ParcelView} → old.parcel ≡ Some given → (rest : Option ParcelView) → rest ≡ None
    → Takes p (boxes_view record s { boxes = with_item s.boxes k record { taken = old.taken + 1; parcel = rest } }) from
takes_box {s} {p} {from} {k} {old} lent at_k full rest bare =
    let is : boxes_view s ≡ p = lent.view_is in
    let are : AreBoxes s = lent.are in
    let low : from < s.setup.now.cores = subst (λ (v : PlainBoxesView). from < v.setup.cores) (sym is) lent.known in
    let within : k < length s.boxes.items = within_boxes s are from s.core k low are.core at_k in
    let core : s.core ≡ p.core = ap (λ (v : PlainBoxesView). v.core) is in
    let here : k ≡ place from p.core = at_k ∙ ap (λ (n : ℕ). place from n) core in
    let new : PlainBox = record { taken = old.taken + 1; parcel = rest } in
    let after : PlainBoxesView = boxes_view record s { boxes = with_item s.boxes k new } in
    let seen : box_at p from p.core ≡ seen_box old =
    subst (λ (n : ℕ). at p n ≡ seen_box old) here (seen_at s p is k old within lent.read) in
    let one_there : parcels_in old.parcel ≡ 1 = ap parcels_in full in
    let none_left : parcels_in rest ≡ 0 = ap parcels_in bare in
    let posted : (box_at p from p.core).posted ≡ old.taken + parcels_in old.parcel = ap (λ (b : BoxView). b.posted) seen in
    takes_one p after from (seen_box new) (omega (arith, are.cores, are.core))
    (subst (λ (n : ℕ). Sets p after n (seen_box new)) here (sets_of s p is k new within))
    (omega arith)
    (ap (λ (b : BoxView). b.taken + 1) (sym seen))

-- the parcel in a box is that of the number to be taken
pub parcel_in : {s : Inside} {p : PlainBoxesView} {from k : ℕ} {old : PlainBox} → IsLent s p from k old → k ≡ place from s.core
    → (given : ParcelView) → old.parcel ≡ Some given → IsParcel p.setup from p.core (taken_from p from) given
parcel_in {s} {p} {from} {k} {old} lent at_k given full =
    let is : boxes_view s ≡ p = lent.view_is in
    let are : AreBoxes s = lent.are in
    let low : from < s.setup.now.cores = subst (λ (v : PlainBoxesView). from < v.setup.cores) (sym is) lent.known in
    let within : k < length s.boxes.items = within_boxes s are from s.core k low are.core at_k in
    let there : slice_index_or s.boxes.items (place from s.core) bare_box ≡ old =
    ap (λ (n : ℕ). slice_index_or s.boxes.items n bare_box) (sym at_k) ∙ get_or_default s.boxes.items k bare_box old within
    ∙ sym lent.read in
    let parcel = are.parcels from s.core given (omega (arith, are.cores, are.core)) (ap (λ (b : PlainBox). b.parcel) there ∙ full) in
    let numbered : IsParcel s.setup.now from s.core old.taken given =
    subst (λ (b : PlainBox). IsParcel s.setup.now from s.core b.taken given) there parcel in
    let seen : taken_from (boxes_view s) from ≡ old.taken =
    ap (λ (b : BoxView). b.taken)
    (subst (λ (n : ℕ). at (boxes_view s) n ≡ seen_box old) at_k (seen_at s (boxes_view s) refl k old within lent.read)) in
    subst (λ (v : PlainBoxesView). IsParcel v.setup from v.core (taken_from v from) given) is
    (subst (λ (n : ℕ). IsParcel s.setup.now from s.core n given) (sym seen) numbered)

-- ---- each box is in step

one_in_step : (xs : List PlainBox) (k : ℕ)
    → HasNoParcel (slice_index_or (map seen_box xs) k idle_box) ⊎ HasParcel (slice_index_or (map seen_box xs) k idle_box)
one_in_step [] k = inl refl
one_in_step (x ∷ xs) zero = go x.parcel
  where
    go : (o : Option ParcelView) → (x.taken + parcels_in o ≡ x.taken) ⊎ (x.taken + parcels_in o ≡ x.taken + 1)
    go None = inl (omega arith)
    go (Some p) = inr refl
one_in_step (x ∷ xs) (suc k) = one_in_step xs k

pub in_step : (s : Inside) → AreInStep (boxes_view s)
in_step s sender receiver = one_in_step s.boxes.items (place sender receiver)

-- ---- the first boxes

pub all_idle : (n k : ℕ) → slice_index_or (map seen_box (replicate n bare_box)) k idle_box ≡ idle_box
all_idle zero k = refl
all_idle (suc n) zero = refl
all_idle (suc n) (suc k) = all_idle n k

bare_at : (n k : ℕ) → slice_index_or (replicate n bare_box) k bare_box ≡ bare_box
bare_at zero k = refl
bare_at (suc n) zero = refl
bare_at (suc n) (suc k) = bare_at n k

pub no_parcels : (n k : ℕ) (p : ParcelView) → (slice_index_or (replicate n bare_box) k bare_box).parcel ≡ Some p → ⊥
no_parcels n k p is = let e = ap (λ (b : PlainBox). b.parcel) (bare_at n k) in cc

-- ---- the invariant

place-one : (sender receiver a b : ℕ) → receiver < CORES_MAX → b < CORES_MAX → place a b ≡ place sender receiver
    → (a ≡ sender) × (b ≡ receiver)
place-one sender receiver a b low also same = (omega arith, omega arith)

-- all is well where the box that changes holds what it is to hold
pub sets_box : (s : Inside) → AreBoxes s → (sender receiver k : ℕ) → sender < s.setup.now.cores → receiver < s.setup.now.cores
    → k ≡ place sender receiver → (new : PlainBox)
    → ((p : ParcelView) → new.parcel ≡ Some p → IsParcel s.setup.now sender receiver new.taken p)
    → AreBoxes record s { boxes = with_item s.boxes k new }
sets_box s are sender receiver k low also at_k new holds = record {
  cores = are.cores;
  core = are.core;
  few = are.few;
  count = length-set s.boxes.items k new ∙ are.count;
  parcels = λ a b p inside there. go a b p inside (cases_order (place a b) k) there;
}
  where
    within : k < length s.boxes.items
    within = within_boxes s are sender receiver k low also at_k

    column : receiver < CORES_MAX
    column = let h = are.cores in omega (arith, also, h)

    other : (a b : ℕ) (p : ParcelView) → b < CORES_MAX → place a b ≢ k
        → (slice_index_or (set s.boxes.items k new) (place a b) bare_box).parcel ≡ Some p
        → IsParcel s.setup.now a b (slice_index_or (set s.boxes.items k new) (place a b) bare_box).taken p
    other a b p inside ne there =
        let same = get_or-set_other s.boxes.items k (place a b) new bare_box ne in
        subst (λ (x : PlainBox). IsParcel s.setup.now a b x.taken p) (sym same)
        (are.parcels a b p inside (ap (λ (x : PlainBox). x.parcel) (sym same) ∙ there))

    go : (a b : ℕ) (p : ParcelView) → b < CORES_MAX → (place a b ≡ k) ⊎ ((place a b < k) ⊎ (k < place a b))
        → (slice_index_or (set s.boxes.items k new) (place a b) bare_box).parcel ≡ Some p
        → IsParcel s.setup.now a b (slice_index_or (set s.boxes.items k new) (place a b) bare_box).taken p
    go a b p inside (inl e) there =
        let one = place-one sender receiver a b column inside (e ∙ at_k) in
        let here : slice_index_or (set s.boxes.items k new) (place a b) bare_box ≡ new =
        ap (λ (n : ℕ). slice_index_or (set s.boxes.items k new) n bare_box) e ∙ get_or-set_same s.boxes.items k new bare_box within in
        let parcel = holds p (ap (λ (x : PlainBox). x.parcel) (sym here) ∙ there) in
        let at_a = subst (λ (n : ℕ). IsParcel s.setup.now n receiver new.taken p) (sym one.0) parcel in
        let at_b = subst (λ (n : ℕ). IsParcel s.setup.now a n new.taken p) (sym one.1) at_a in
        subst (λ (x : PlainBox). IsParcel s.setup.now a b x.taken p) (sym here) at_b
    go a b p inside (inr (inl l)) there = other a b p inside (omega arith) there
    go a b p inside (inr (inr l)) there = other a b p inside (omega arith) there

-- at first they hold nothing
pub first_boxes : (s : Inside) → IsSetup s.setup.now → s.core ≡ 0 → (n : ℕ) → s.boxes.items ≡ replicate n bare_box → n ≡ CORES_MAX * CORES_MAX
    → AreBoxes s
first_boxes s is zeroth n items all = record {
  cores = is.cores_most;
  core = let h = is.cores_least in omega (arith, h, zeroth);
  few = few_windows s.setup.now is;
  count = ap length items ∙ length-replicate n bare_box ∙ all;
  parcels = λ a b p inside there.
      absurd (no_parcels n (place a b) p (ap (λ (l : List PlainBox). (slice_index_or l (place a b) bare_box).parcel) (sym items) ∙ there));
}

some-one : (a b : ParcelView) → Some a ≡ Some b → a ≡ b
some-one a b e = cc

none-some : (o : Option ParcelView) (p : ParcelView) → o ≡ None → o ≡ Some p → ⊥
none-some o p a b = cc

-- a box without a parcel
pub bare_kept : {s : Inside} {p : PlainBoxesView} {from k : ℕ} {old : PlainBox} → IsLent s p from k old → k ≡ place from s.core
    → (n : ℕ) (rest : Option ParcelView) → rest ≡ None
    → AreBoxes record s { boxes = with_item s.boxes k record { taken = n; parcel = rest } }
bare_kept {s} {p} {from} {k} lent at_k n rest bare =
    let low : from < s.setup.now.cores = subst (λ (v : PlainBoxesView). from < v.setup.cores) (sym lent.view_is) lent.known in
    sets_box s lent.are from s.core k low lent.are.core at_k record { taken = n; parcel = rest }
    (λ q there. absurd (none-some rest q bare there))

module _ {s : Inside} {p : PlainBoxesView} {to k : ℕ} {old : PlainBox} (lent : IsLent s p to k old) (at_k : k ≡ place s.core to) where
  low-to : to < s.setup.now.cores
  low-to = subst (λ (v : PlainBoxesView). to < v.setup.cores) (sym lent.view_is) lent.known

  within-to : k < length s.boxes.items
  within-to = within_boxes s lent.are s.core to k lent.are.core low-to at_k

  -- a box that is as it was
  pub full_kept : AreBoxes record s { boxes = with_item s.boxes k old }
  full_kept = sets_box s lent.are s.core to k lent.are.core low-to at_k old holds
    where
      there : slice_index_or s.boxes.items (place s.core to) bare_box ≡ old
      there =
          ap (λ (n : ℕ). slice_index_or s.boxes.items n bare_box) (sym at_k) ∙ get_or_default s.boxes.items k bare_box old within-to
          ∙ sym lent.read

      holds : (q : ParcelView) → old.parcel ≡ Some q → IsParcel s.setup.now s.core to old.taken q
      holds q full =
          let inside : to < CORES_MAX = let h = lent.are.cores in omega (arith, h, low-to) in
          subst (λ (b : PlainBox). IsParcel s.setup.now s.core to b.taken q) there
          (lent.are.parcels s.core to q inside (ap (λ (b : PlainBox). b.parcel) there ∙ full))

  -- a box with the parcel that is posted
  pub post_kept : is_some old.parcel ≡ false → (new : ParcelView) → IsParcel p.setup p.core to (posted_to p to) new
      → AreBoxes record s { boxes = with_item s.boxes k record { taken = old.taken; parcel = Some new } }
  post_kept free new parcel =
      sets_box s lent.are s.core to k lent.are.core low-to at_k record { taken = old.taken; parcel = Some new } holds
    where
      none : (o : Option ParcelView) → is_some o ≡ false → parcels_in o ≡ 0
      none None free = refl
      none (Some x) free = cc

      numbered : IsParcel s.setup.now s.core to (posted_to (boxes_view s) to) new
      numbered = subst (λ (v : PlainBoxesView). IsParcel v.setup v.core to (posted_to v to) new) (sym lent.view_is) parcel

      seen : box_at (boxes_view s) s.core to ≡ seen_box old
      seen = subst (λ (n : ℕ). at (boxes_view s) n ≡ seen_box old) at_k (seen_at s (boxes_view s) refl k old within-to lent.read)

      posted : posted_to (boxes_view s) to ≡ old.taken
      posted =
          let e : posted_to (boxes_view s) to ≡ old.taken + parcels_in old.parcel = ap (λ (b : BoxView). b.posted) seen in
          let n = none old.parcel free in omega (arith, e, n)

      holds : (q : ParcelView) → Some new ≡ Some q → IsParcel s.setup.now s.core to old.taken q
      holds q same =
          subst (λ (x : ParcelView). IsParcel s.setup.now s.core to old.taken x) (some-one new q same)
          (subst (λ (n : ℕ). IsParcel s.setup.now s.core to n new) posted numbered)
