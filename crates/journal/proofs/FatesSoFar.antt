-- What the visits so far make of the packets, from one visit to the next.
use Rattle.std.proofs.Common.{◌≡◌, ◌⊎◌, inl, inr, ℕ, zero, suc, ◌+◌, ◌-◌, ◌<◌, Bool, cond, List, [], ◌∷◌, ◌++◌, length, map, Option, Some, find, slice_get, slice_set, slice_index_or, ◌==◌, refl, sym, ap, ap₂, ◌∙◌, arith, eq-eqb}
use Rattle.std.specs.Option.{option_map_or}
use Rattle.std.proofs.lemmas.Bool.{cases_order, ne_eqb}
use Rattle.std.proofs.lemmas.List.{reverse-append, length-map}
use Rattle.std.proofs.lemmas.Option.{slice_get_within, get_or_from_slice_get}
use Rattle.pipe.specs.declared.due_visits.DueVisit.{DueVisit}
use Rattle.pipe.specs.HeldVisits.{TakesVisit}
use Rattle.journal.specs.declared.setup.PacketPlan.{PacketPlan}
use Rattle.journal.specs.declared.visit.Visit.{Visit}
use Rattle.journal.specs.declared.fate.Fate.{Fate}
use Rattle.journal.specs.declared.fate.Fate.TheVariants.{Left}
use Rattle.journal.specs.SetupView.{SetupView}
use Rattle.journal.specs.IsSetup.{IsSetup}
use Rattle.journal.specs.Steps.{visit_of}
use Rattle.journal.specs.Journal.{hop_count}
use Rattle.journal.specs.Fates.{fate_of_visit, last_visit, fate_after, fate_of}
use Rattle.journal.specs.IsPipe.{SetupPipeView}
use Rattle.journal.specs.Held.{IsMaking, IsToMake}
use Rattle.journal.proofs.Making.{next-indexed, next-counts, making-whole}

-- the fates are those after the visits of some list, which the maker has made
pub record AreFatesSoFar (S : SetupView) (pipes : List SetupPipeView) (held : List DueVisit) (made : ℕ) (fates : List Fate) : Type 0 where
  pub visits : List Visit
  pub making : IsMaking S visits pipes held made
  pub fates_are : fates ≡ map (fate_after visits) S.packets

last_visit-push : (J : List Visit) (v : Visit) (number : ℕ)
    → last_visit (J ++ v ∷ []) number ≡ cond (v.packet == number) (Some v) (last_visit J number)
last_visit-push J v number = ap (find (λ (u : Visit). u.packet == number)) (reverse-append J (v ∷ []))

-- a visit is the last of its packet so far, and says nothing of another
fate-own : (J : List Visit) (v : Visit) (p : PacketPlan) → p.number ≡ v.packet → fate_of_visit v ≡ fate_after (J ++ v ∷ []) p
fate-own J v p same =
    let last = last_visit-push J v p.number in
    let own : cond (v.packet == p.number) (Some v) (last_visit J p.number) ≡ Some v =
    ap (λ (b : Bool). cond b (Some v) (last_visit J p.number)) (eq-eqb v.packet p.number (sym same)) in
    ap (λ (o : Option Visit). option_map_or fate_of_visit o (Left p.entry_tick)) (sym own ∙ sym last)

fate-other : (J : List Visit) (v : Visit) (p : PacketPlan) → (v.packet ≡ p.number → ⊥) → fate_after J p ≡ fate_after (J ++ v ∷ []) p
fate-other J v p other =
    let last = last_visit-push J v p.number in
    let old : cond (v.packet == p.number) (Some v) (last_visit J p.number) ≡ last_visit J p.number =
    ap (λ (b : Bool). cond b (Some v) (last_visit J p.number)) (ne_eqb v.packet p.number other) in
    ap (λ (o : Option Visit). option_map_or fate_of_visit o (Left p.entry_tick)) (sym old ∙ sym last)

-- a mapped list with one element written is mapped by what agrees elsewhere
map-same : {X Y : Type 0} (f g : X → Y) (xs : List X) → ((j : ℕ) (z : X) → slice_get xs j ≡ Some z → f z ≡ g z) → map f xs ≡ map g xs
map-same f g [] same = refl
map-same {X} {Y} f g (x ∷ xs) same =
    ap₂ (λ (y : Y) (ys : List Y). y ∷ ys) (same 0 x refl) (map-same f g xs (λ j z at. same (suc j) z at))

set-map : {X Y : Type 0} (f g : X → Y) (xs : List X) (i : ℕ) (x : X) (y : Y) → slice_get xs i ≡ Some x → y ≡ g x
    → ((j : ℕ) (z : X) → slice_get xs j ≡ Some z → (j ≡ i → ⊥) → f z ≡ g z) → slice_set (map f xs) i y ≡ map g xs
set-map f g [] i x y at is other = cc
set-map {X} {Y} f g (a ∷ xs) zero x y at is other =
    let same : a ≡ x = cc in
    ap₂ (λ (b : Y) (ys : List Y). b ∷ ys) (is ∙ ap g (sym same))
    (map-same f g xs (λ j z here. other (suc j) z here (λ e. absurd (omega arith))))
set-map {X} {Y} f g (a ∷ xs) (suc i) x y at is other =
    ap₂ (λ (b : Y) (ys : List Y). b ∷ ys) (other 0 a refl (λ e. absurd (omega arith)))
    (set-map f g xs i x y at is (λ j z here ne. other (suc j) z here (λ e. ne (omega arith))))

-- packets at two indices have two numbers
apart : (S : SetupView) → IsSetup S → (i j : ℕ) (p q : PacketPlan) → slice_get S.packets i ≡ Some p → slice_get S.packets j ≡ Some q
    → (j ≡ i → ⊥) → p.number ≡ q.number → ⊥
apart S is i j p q at here ne same = go (cases_order i j)
  where
    first : (slice_index_or S.packets i p).number ≡ p.number
    first = ap (λ (r : PacketPlan). r.number) (get_or_from_slice_get S.packets i p p at)

    second : (slice_index_or S.packets j p).number ≡ q.number
    second = ap (λ (r : PacketPlan). r.number) (get_or_from_slice_get S.packets j q p here)

    go : (i ≡ j) ⊎ ((i < j) ⊎ (j < i)) → ⊥
    go (inl e) = ne (sym e)
    go (inr (inl l)) =
        let less : (slice_index_or S.packets i p).number < (slice_index_or S.packets j p).number =
        is.numbers_rise i j p l (slice_get_within S.packets j q here) in
        absurd (omega (arith, less, first, second, same))
    go (inr (inr l)) =
        let less : (slice_index_or S.packets j p).number < (slice_index_or S.packets i p).number =
        is.numbers_rise j i p l (slice_get_within S.packets i p at) in
        absurd (omega (arith, less, first, second, same))

-- one visit more writes the fate of its packet
pub fates-push : (S : SetupView) → IsSetup S → (J : List Visit) (v : Visit) (i : ℕ) (p : PacketPlan) → slice_get S.packets i ≡ Some p
    → p.number ≡ v.packet → slice_set (map (fate_after J) S.packets) i (fate_of_visit v) ≡ map (fate_after (J ++ v ∷ [])) S.packets
fates-push S is J v i p at number =
    set-map (fate_after J) (fate_after (J ++ v ∷ [])) S.packets i p (fate_of_visit v) at (fate-own J v p number)
    (λ j q here ne. fate-other J v q (λ same. apart S is i j p q at here ne (number ∙ same)))

-- before any visit
pub so_far-nil : {S : SetupView} {pipes : List SetupPipeView} {held : List DueVisit} {made : ℕ} {fates : List Fate}
    → IsMaking S [] pipes held made
    → fates ≡ map (fate_after []) S.packets → AreFatesSoFar S pipes held made fates
so_far-nil m e = record { visits = []; making = m; fates_are = e }

module _ {S : SetupView} {pipes : List SetupPipeView} {held : List DueVisit} {made : ℕ} {fates : List Fate}
    (a : AreFatesSoFar S pipes held made fates)
    {next : DueVisit} {rest : List DueVisit} (takes : TakesVisit held next rest) where
  -- the due visit that was taken out is the next of these visits
  pub so_far-to_make : IsToMake S a.visits next pipes rest made
  so_far-to_make = record { held = held; making = a.making; takes = takes }

  -- its packet has a fate to write
  pub so_far-index : next.index < length fates
  so_far-index =
      let i = next-indexed a.making.setup so_far-to_make in
      let within : next.index < length S.packets = slice_get_within S.packets next.index i.plan i.at in
      let long : length fates ≡ length S.packets = ap length a.fates_are ∙ length-map S.packets (fate_after a.visits) in
      omega (arith, within, long)

  -- there are fewer visits left
  pub so_far-falls : (more : ℕ) → more ≡ made + 1 → hop_count S - more < hop_count S - made
  so_far-falls more e = omega (arith, e, next-counts a.making.setup so_far-to_make)

  -- once it is made and its fate is written
  pub so_far-next : (v : Visit) (fate : Fate) (after : List SetupPipeView) (new : List DueVisit) (more : ℕ)
      → v ≡ visit_of S a.visits next.due
      → fate ≡ fate_of_visit v → IsMaking S (a.visits ++ visit_of S a.visits next.due ∷ []) after new more
      → AreFatesSoFar S after new more (slice_set fates next.index fate)
  so_far-next v fate after new more is fate_is making =
      let i = next-indexed a.making.setup so_far-to_make in
      record {
        visits = a.visits ++ visit_of S a.visits next.due ∷ [];
        making = making;
        fates_are =
            ap₂ (λ (fs : List Fate) (f : Fate). slice_set fs next.index f) a.fates_are (fate_is ∙ ap fate_of_visit is)
            ∙ fates-push S a.making.setup a.visits (visit_of S a.visits next.due) next.index i.plan i.at i.number;
      }

-- where nothing is held, they are the fates
pub so_far-whole : {S : SetupView} {pipes : List SetupPipeView} {made : ℕ} {fates : List Fate} → AreFatesSoFar S pipes [] made fates
    → fates ≡ map (fate_of S) S.packets
so_far-whole {S} a = a.fates_are ∙ ap (λ (J : List Visit). map (fate_after J) S.packets) (making-whole a.making)
