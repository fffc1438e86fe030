-- What taking the first visit out of a slot, and putting one in, do to the visits of the wheel.
use Rattle.std.proofs.Common.{◌≡◌, ◌≢◌, ◌⊎◌, inl, inr, ⊎_elim, ℕ, zero, suc, ◌+◌, ◌-◌, ◌/◌, ◌%◌, ◌^◌, ◌<◌, ◌≤◌, Bool, true, false, cond, List, [], ◌∷◌, ◌++◌, length, map, refl, sym, ap, ◌∙◌, subst, arith, length-set, Some, None}
use Rattle.std.specs.Prelude.{◌==◌, nat_lt, slice_index, slice_index_or, slice_get, slice_set, ◌||◌, ◌&&◌, if◌then◌else◌}
use Rattle.std.proofs.lemmas.Bool.{cases_eq, eqb-true, and_parts, le-ltb, eq-eqb, ne_eqb}
use Rattle.std.specs.Int.{bit_at}
use Rattle.std.specs.List.{list_all}
use Rattle.std.proofs.lemmas.Nat.Bits.{bit_at-zero}
use Rattle.std.proofs.lemmas.List.{get_or-set_same, get_or-set_other, get_or_default}
use Rattle.mn_base.specs.Among.{Among}
use Rattle.mn_base.proofs.Members.{Among-from-map}
use Rattle.mn_base.specs.declared.due.Due.{Due}
use Rattle.deadline_heap.specs.declared.wheel.TheConstants.{SLOTS}
use Rattle.deadline_heap.specs.Bits.{bit_of, ring_bit, IsFirstSet}
use Rattle.mn_base.specs.Canonical.{Before, is_before}
use Rattle.deadline_heap.specs.Canonical.{HasNoneOf, placed}
use Rattle.deadline_heap.specs.Entries.{at_tick, entered, HasNoEntry}
use Rattle.deadline_heap.specs.WheelView.{slot_of, visits_from, IsAhead, IsWheel}
use Rattle.deadline_heap.proofs.Orders.{placed-first, placed-past, Among-placed, earlier_once}
use Rattle.deadline_heap.proofs.Ring.{Slots, visits_from-suc, visits_from-same, visits_from-empty, Among-slot, in_slot, turn_begins, first_visit}

-- ---- one slot changes

pub slot_of-set_same : (slots : Slots) (tick : ℕ) (entries : List (ℕ × ℕ)) → length slots ≡ SLOTS
    → slot_of (slice_set slots (tick % SLOTS) entries) tick ≡ entries
slot_of-set_same slots tick entries count = let within : tick % SLOTS < length slots = omega arith in get_or-set_same slots (tick % SLOTS)
    entries [] within

pub slot_of-set_other : (slots : Slots) (tick other : ℕ) (entries : List (ℕ × ℕ)) → other % SLOTS ≢ tick % SLOTS
    → slot_of (slice_set slots (tick % SLOTS) entries) other ≡ slot_of slots other
slot_of-set_other slots tick other entries apart = get_or-set_other slots (tick % SLOTS) (other % SLOTS) entries [] apart

-- ticks of one turn have slots of their own
pub apart_in_turn : (base tick other : ℕ) → base ≤ tick → tick < base + SLOTS → base ≤ other → other < base + SLOTS → other ≢ tick
    → other % SLOTS ≢ tick % SLOTS
apart_in_turn base tick other from to other_from other_to differ same = differ (omega arith)

-- ---- the first is taken out

-- the rest of its slot and the other slots are what is left
pub visits_from-popped : (slots : Slots) (words : List ℕ) (base ahead : ℕ) (entry : ℕ × ℕ) (rest : List (ℕ × ℕ))
    → IsWheel slots words base → IsFirstSet (ring_bit words base) 0 SLOTS ahead → slot_of slots (base + ahead) ≡ entry ∷ rest
    → visits_from slots base SLOTS ≡ at_tick (base + ahead) entry ∷ visits_from (slice_set slots ((base + ahead) % SLOTS) rest)
    (base + ahead) SLOTS
visits_from-popped slots words base ahead entry rest inside first here =
    first_visit slots words base ahead entry rest inside first here
    ∙ ap (λ (l : List Due). at_tick tick entry ∷ (map (at_tick tick) rest ++ l))
    (visits_from-same slots after (tick + 1) (SLOTS - 1) others)
    ∙ ap (λ (es : List (ℕ × ℕ)). at_tick tick entry ∷ (map (at_tick tick) es ++ visits_from after (tick + 1) (SLOTS - 1)))
    (sym (slot_of-set_same slots tick rest inside.count))
    ∙ ap (λ (l : List Due). at_tick tick entry ∷ l) (sym (turn_begins after tick))
  where
    tick : ℕ
    tick = base + ahead

    after : Slots
    after = slice_set slots (tick % SLOTS) rest

    others : (t : ℕ) → tick + 1 ≤ t → t < (tick + 1) + (SLOTS - 1) → slot_of slots t ≡ slot_of after t
    others t past before =
        let from : tick ≤ tick = omega arith in
        let to : tick < tick + SLOTS = omega arith in
        let from_t : tick ≤ t = omega arith in
        let to_t : t < tick + SLOTS = omega arith in
        let differ : t ≢ tick = λ same. omega (arith, same) in
        sym (slot_of-set_other slots tick t rest (apart_in_turn tick tick t from to from_t to_t differ))

-- a bit still says whether its slot has an entry, where the slot's own is cleared if nothing is left in it
pub IsWheel-popped : {slots : Slots} {words : List ℕ} (after : List ℕ) {base ahead : ℕ} {entry : ℕ × ℕ} {rest : List (ℕ × ℕ)}
    → IsWheel slots words base → IsFirstSet (ring_bit words base) 0 SLOTS ahead → slot_of slots (base + ahead) ≡ entry ∷ rest
    → bit_of after ((base + ahead) % SLOTS) ≡ (if (length rest == 0) then 0 else bit_of words ((base + ahead) % SLOTS))
    → ((other : ℕ) → other ≢ (base + ahead) % SLOTS → bit_of after other ≡ bit_of words other)
    → IsWheel (slice_set slots ((base + ahead) % SLOTS) rest) after (base + ahead)
IsWheel-popped {slots} {words} after {base} {ahead} {entry} {rest} inside first here bit others = record {
  count = length-set slots (tick % SLOTS) rest ∙ inside.count;
  empty = λ t clear. empty_at t clear (cases_eq (t % SLOTS) (tick % SLOTS));
  used = λ t set_there. used_at t set_there (cases_eq (t % SLOTS) (tick % SLOTS));
  fits = λ due there. inside.fits due
      (subst (λ (l : List Due). Among due l) (sym (visits_from-popped slots words base ahead entry rest inside first here)) (inr there));
}
  where
    tick : ℕ
    tick = base + ahead

    turned : Slots
    turned = slice_set slots (tick % SLOTS) rest

    -- the slot is the one that changed
    its_own : (t : ℕ) → t % SLOTS ≡ tick % SLOTS → slot_of turned t ≡ rest
    its_own t same = ap (λ (i : ℕ). slice_index_or turned i []) same ∙ slot_of-set_same slots tick rest inside.count

    -- its bit is clear just where nothing is left
    left_over : (es : List (ℕ × ℕ)) → bit_of after (tick % SLOTS) ≡ (if (length es == 0) then 0 else bit_of words (tick % SLOTS))
        → bit_of after (tick % SLOTS) ≡ 0 → es ≡ []
    left_over [] now clear = refl
    left_over (e ∷ es) now clear =
        let some : length (e ∷ es) ≡ 0 → ⊥ = λ none. omega (arith, none) in
        let kept : (if (length (e ∷ es) == 0) then 0 else bit_of words (tick % SLOTS)) ≡ bit_of words (tick % SLOTS) =
        ap (λ (b : Bool). if b then 0 else bit_of words (tick % SLOTS)) (ne_eqb (length (e ∷ es)) 0 some) in
        let wrong : 0 ≡ 1 = sym clear ∙ now ∙ kept ∙ first.set_here in
        absurd (omega (arith, wrong))

    none_left : (es : List (ℕ × ℕ)) → bit_of after (tick % SLOTS) ≡ (if (length es == 0) then 0 else bit_of words (tick % SLOTS))
        → bit_of after (tick % SLOTS) ≡ 1 → 0 < length es
    none_left [] now one = absurd (omega (arith, sym now ∙ one))
    none_left (e ∷ es) now one = omega arith

    empty_at : (t : ℕ) → bit_of after (t % SLOTS) ≡ 0 → (t % SLOTS ≡ tick % SLOTS) ⊎ (t % SLOTS ≡ tick % SLOTS → ⊥) → slot_of turned t ≡ []
    empty_at t clear (inl same) = its_own t same ∙ left_over rest bit (ap (bit_of after) (sym same) ∙ clear)
    empty_at t clear (inr differ) = slot_of-set_other slots tick t rest differ ∙ inside.empty t (sym (others (t % SLOTS) differ) ∙ clear)

    used_at : (t : ℕ) → bit_of after (t % SLOTS) ≡ 1 → (t % SLOTS ≡ tick % SLOTS) ⊎ (t % SLOTS ≡ tick % SLOTS → ⊥)
        → 0 < length (slot_of turned t)
    used_at t one (inl same) = subst (λ (es : List (ℕ × ℕ)). 0 < length es) (sym (its_own t same))
        (none_left rest bit (ap (bit_of after) (sym same) ∙ one))
    used_at t one (inr differ) = subst (λ (es : List (ℕ × ℕ)). 0 < length es) (sym (slot_of-set_other slots tick t rest differ))
        (inside.used t (sym (others (t % SLOTS) differ) ∙ one))

-- ---- one is put in

-- in its own slot a visit is placed as its entry is
placed_in_slot : (tick : ℕ) (entry : ℕ × ℕ) (es : List (ℕ × ℕ)) (rest : List Due) → ((x : Due) → Among x rest → tick < x.tick)
    → placed (at_tick tick entry) (map (at_tick tick) es ++ rest) ≡ map (at_tick tick) (entered entry es) ++ rest
placed_in_slot tick entry [] rest later = placed-first (at_tick tick entry) rest (λ x there. inl (later x there))
placed_in_slot tick entry (e ∷ es) rest later = go (nat_lt entry.0 e.0) refl (placed_in_slot tick entry es rest later)
  where
    new : Due
    new = at_tick tick entry

    old : Due
    old = at_tick tick e

    -- ties are decided by packet
    by_packet : (b : Bool) → nat_lt entry.0 e.0 ≡ b → is_before new old ≡ b
    by_packet b is =
        let no_less : tick ≤ tick = omega arith in
        ap (λ (l : Bool). l || ((tick == tick) && nat_lt entry.0 e.0)) (le-ltb tick tick no_less)
        ∙ ap (λ (t : Bool). t && nat_lt entry.0 e.0) (eq-eqb tick tick refl)
        ∙ is

    go : (b : Bool) → nat_lt entry.0 e.0 ≡ b → placed new (map (at_tick tick) es ++ rest) ≡ map (at_tick tick) (entered entry es) ++ rest
        → placed new (old ∷ (map (at_tick tick) es ++ rest)) ≡ map (at_tick tick)
        (cond (nat_lt entry.0 e.0) (entry ∷ e ∷ es) (e ∷ entered entry es)) ++ rest
    go true is behind =
        ap (λ (b : Bool). cond b (new ∷ old ∷ (map (at_tick tick) es ++ rest)) (old ∷ placed new (map (at_tick tick) es ++ rest)))
        (by_packet true is)
        ∙ ap (λ (b : Bool). map (at_tick tick) (cond b (entry ∷ e ∷ es) (e ∷ entered entry es)) ++ rest) (sym is)
    go false is behind =
        ap (λ (b : Bool). cond b (new ∷ old ∷ (map (at_tick tick) es ++ rest)) (old ∷ placed new (map (at_tick tick) es ++ rest)))
        (by_packet false is)
        ∙ ap (λ (l : List Due). old ∷ l) behind
        ∙ ap (λ (b : Bool). map (at_tick tick) (cond b (entry ∷ e ∷ es) (e ∷ entered entry es)) ++ rest) (sym is)

-- in a turn that has the tick, one more entry in its slot is one more visit in its place
visits_from-placed : (slots after : Slots) (tick count : ℕ) (due : Due) → tick ≤ due.tick → due.tick < tick + count
    → slot_of after due.tick ≡ entered (due.packet, due.hop) (slot_of slots due.tick)
    → ((t : ℕ) → tick ≤ t → t < tick + count → t ≢ due.tick → slot_of after t ≡ slot_of slots t)
    → visits_from after tick count ≡ placed due (visits_from slots tick count)
visits_from-placed slots after tick zero due from to here others = absurd (omega arith)
visits_from-placed slots after tick (suc count) due from to here others = go (cases_eq tick due.tick)
    (λ from_next to_next same. visits_from-placed slots after (tick + 1) count due from_next to_next here same)
  where
    goal_parts : (es : List (ℕ × ℕ)) → slot_of after tick ≡ es → (l : List Due) → visits_from after (tick + 1) count ≡ l
        → visits_from after tick (suc count) ≡ map (at_tick tick) es ++ l
    goal_parts es own l rest =
        visits_from-suc after tick count
        ∙ ap (λ (x : List (ℕ × ℕ)). map (at_tick tick) x ++ visits_from after (tick + 1) count) own
        ∙ ap (λ (x : List Due). map (at_tick tick) es ++ x) rest

    go : (tick ≡ due.tick) ⊎ (tick ≡ due.tick → ⊥)
        → (tick + 1 ≤ due.tick → due.tick < (tick + 1) + count →
        ((t : ℕ) → tick + 1 ≤ t → t < (tick + 1) + count → t ≢ due.tick → slot_of after t ≡ slot_of slots t)
        → visits_from after (tick + 1) count ≡ placed due (visits_from slots (tick + 1) count))
        → visits_from after tick (suc count) ≡ placed due (visits_from slots tick (suc count))
    go (inl own) next =
        goal_parts (entered (due.packet, due.hop) (slot_of slots tick))
        (subst (λ (t : ℕ). slot_of after t ≡ entered (due.packet, due.hop) (slot_of slots t)) (sym own) here)
        (visits_from slots (tick + 1) count)
        (visits_from-same after slots (tick + 1) count (λ t past before.
        let past_too : tick ≤ t = omega arith in
        let before_too : t < tick + suc count = omega arith in
        let differ : t ≢ due.tick = λ same. omega (arith, same, own) in
        others t past_too before_too differ))
        ∙ sym (placed_in_slot tick (due.packet, due.hop) (slot_of slots tick) (visits_from slots (tick + 1) count) (λ x there.
        let later : tick + 1 ≤ x.tick = (in_slot slots (tick + 1) count x there).past in omega arith))
        ∙ ap (λ (d : Due). placed d (map (at_tick tick) (slot_of slots tick) ++ visits_from slots (tick + 1) count))
        (ap (λ (t : ℕ). at_tick t (due.packet, due.hop)) own)
        ∙ ap (placed due) (sym (visits_from-suc slots tick count))
    go (inr later) next =
        let from_next : tick + 1 ≤ due.tick = omega (arith, later) in
        let to_next : due.tick < (tick + 1) + count = omega arith in
        let start : tick ≤ tick = omega arith in
        let within : tick < tick + suc count = omega arith in
        goal_parts (slot_of slots tick) (others tick start within later)
        (placed due (visits_from slots (tick + 1) count))
        (next from_next to_next (λ t past before.
        let past_too : tick ≤ t = omega arith in
        let before_too : t < tick + suc count = omega arith in
        others t past_too before_too))
        ∙ sym (placed-past due (map (at_tick tick) (slot_of slots tick)) (visits_from slots (tick + 1) count) not_before)
        ∙ ap (placed due) (sym (visits_from-suc slots tick count))
      where
        not_before : (x : Due) → Among x (map (at_tick tick) (slot_of slots tick)) → Before due x → ⊥
        not_before x there earlier =
            let found = Among-from-map (at_tick tick) x (slot_of slots tick) there in
            let at : tick ≡ x.tick = ap (λ (d : Due). d.tick) found.2 in
            let after_x : x.tick < due.tick = omega (arith, later) in
            earlier_once due x earlier (inl after_x)

pub visits_from-inserted : (slots : Slots) (base : ℕ) (due : Due) (entries : List (ℕ × ℕ)) → length slots ≡ SLOTS
    → IsAhead base due.tick → entries ≡ entered (due.packet, due.hop) (slot_of slots due.tick)
    → visits_from (slice_set slots (due.tick % SLOTS) entries) base SLOTS ≡ placed due (visits_from slots base SLOTS)
visits_from-inserted slots base due entries count ahead is =
    visits_from-placed slots (slice_set slots (due.tick % SLOTS) entries) base SLOTS due ahead.0 ahead.1
    (slot_of-set_same slots due.tick entries count ∙ is)
    (λ t from to differ. slot_of-set_other slots due.tick t entries (apart_in_turn base due.tick t ahead.0 ahead.1 from to differ))

-- a packet that no visit has stands in no slot of the turn
pub fresh_in_slot : (slots : Slots) (base : ℕ) (due : Due) → IsAhead base due.tick
    → HasNoneOf due.packet (visits_from slots base SLOTS) → HasNoEntry due.packet (slot_of slots due.tick)
fresh_in_slot slots base due ahead fresh entry there = fresh (at_tick due.tick entry)
    (Among-slot slots base SLOTS due.tick entry ahead.0 ahead.1 there)

-- an entry more is an entry at least
entered-some : (entry : ℕ × ℕ) (es : List (ℕ × ℕ)) → 0 < length (entered entry es)
entered-some entry [] = omega arith
entered-some entry (e ∷ es) = go (nat_lt entry.0 e.0)
  where
    go : (b : Bool) → 0 < length (cond b (entry ∷ e ∷ es) (e ∷ entered entry es))
    go true = omega arith
    go false = omega arith

pub IsWheel-inserted : {slots : Slots} {words : List ℕ} (after : List ℕ) {base : ℕ} (due : Due) {entries : List (ℕ × ℕ)}
    → IsWheel slots words base → IsAhead base due.tick → due.tick < 2 ^ 64
    → entries ≡ entered (due.packet, due.hop) (slot_of slots due.tick)
    → bit_of after (due.tick % SLOTS) ≡ 1
    → ((other : ℕ) → other ≢ due.tick % SLOTS → bit_of after other ≡ bit_of words other)
    → IsWheel (slice_set slots (due.tick % SLOTS) entries) after base
IsWheel-inserted {slots} {words} after {base} due {entries} inside ahead fits is bit others = record {
  count = length-set slots (due.tick % SLOTS) entries ∙ inside.count;
  empty = λ t clear. empty_at t clear (cases_eq (t % SLOTS) (due.tick % SLOTS));
  used = λ t one. used_at t one (cases_eq (t % SLOTS) (due.tick % SLOTS));
  fits = λ x there.
      ⊎_elim (λ new. subst (λ (d : Due). d.tick < 2 ^ 64) new fits) (λ old. inside.fits x old)
      ((Among-placed x due (visits_from slots base SLOTS)).0
      (subst (λ (l : List Due). Among x l) (visits_from-inserted slots base due entries inside.count ahead is) there));
}
  where
    filled : Slots
    filled = slice_set slots (due.tick % SLOTS) entries

    empty_at : (t : ℕ) → bit_of after (t % SLOTS) ≡ 0 → (t % SLOTS ≡ due.tick % SLOTS) ⊎ (t % SLOTS ≡ due.tick % SLOTS → ⊥)
        → slot_of filled t ≡ []
    empty_at t clear (inl same) = absurd (omega (arith, sym clear ∙ ap (bit_of after) same ∙ bit))
    empty_at t clear (inr differ) = slot_of-set_other slots due.tick t entries differ ∙ inside.empty t
        (sym (others (t % SLOTS) differ) ∙ clear)

    used_at : (t : ℕ) → bit_of after (t % SLOTS) ≡ 1 → (t % SLOTS ≡ due.tick % SLOTS) ⊎ (t % SLOTS ≡ due.tick % SLOTS → ⊥)
        → 0 < length (slot_of filled t)
    used_at t one (inl same) =
        subst (λ (es : List (ℕ × ℕ)). 0 < length es)
        (sym (ap (λ (i : ℕ). slice_index_or filled i []) same ∙ slot_of-set_same slots due.tick entries inside.count ∙ is))
        (entered-some (due.packet, due.hop) (slot_of slots due.tick))
    used_at t one (inr differ) = subst (λ (es : List (ℕ × ℕ)). 0 < length es) (sym (slot_of-set_other slots due.tick t entries differ))
        (inside.used t (sym (others (t % SLOTS) differ) ∙ one))

-- ---- as the code reads a slot

-- a read of the slot's place gives the slot, whatever stands for one out of bounds
pub slot_at : (slots : Slots) (tick : ℕ) (d : List (ℕ × ℕ)) → length slots ≡ SLOTS
    → slice_index_or slots (tick % SLOTS) d ≡ slot_of slots tick
slot_at slots tick d count = let within : tick % SLOTS < length slots = omega arith in get_or_default slots (tick % SLOTS) d [] within

-- the first of the first slot in use is the first of all
pub first_is : (slots : Slots) (words : List ℕ) (base ahead : ℕ) (entry : ℕ × ℕ) → IsWheel slots words base
    → IsFirstSet (ring_bit words base) 0 SLOTS ahead
    → Some entry ≡ slice_get (slot_of slots (base + ahead)) 0 → Some (at_tick (base + ahead) entry) ≡ slice_get
    (visits_from slots base SLOTS) 0
first_is slots words base ahead entry inside first head = go (slot_of slots (base + ahead)) refl head
  where
    go : (es : List (ℕ × ℕ)) → slot_of slots (base + ahead) ≡ es → Some entry ≡ slice_get es 0
        → Some (at_tick (base + ahead) entry) ≡ slice_get (visits_from slots base SLOTS) 0
    go [] here none = let wrong : Some entry ≡ None = none in cc
    go (e ∷ es) here some =
        let one : Some entry ≡ Some e = some in
        let same : entry ≡ e = cc in
        ap (λ (x : ℕ × ℕ). Some (at_tick (base + ahead) x)) same
        ∙ ap (λ (l : List Due). slice_get l 0) (sym (first_visit slots words base ahead e es inside first here))

-- a slot in use has a first
pub slot_has_first : (slots : Slots) (words : List ℕ) (base ahead : ℕ) → IsWheel slots words base
    → IsFirstSet (ring_bit words base) 0 SLOTS ahead → None ≡ slice_get (slot_of slots (base + ahead)) 0 → ⊥
slot_has_first slots words base ahead inside first head = go (slot_of slots (base + ahead)) (inside.used (base + ahead) first.set_here) head
  where
    go : (es : List (ℕ × ℕ)) → 0 < length es → None ≡ slice_get es 0 → ⊥
    go [] some none = omega arith
    go (e ∷ es) some none = let wrong : None ≡ Some e = none in cc

-- ---- an empty wheel

-- words that are 0 have no bit
clear_words : (words : List ℕ) → list_all (λ w. w == 0) words ≡ true → (i : ℕ) → slice_index words i ≡ 0
clear_words [] all i = refl
clear_words (w ∷ words) all zero = eqb-true w 0 (and_parts (w == 0) (list_all (λ v. v == 0) words) all).0
clear_words (w ∷ words) all (suc i) = clear_words words (and_parts (w == 0) (list_all (λ v. v == 0) words) all).1 i

pub no_visits : (slots : Slots) → ((i : ℕ) → slice_index_or slots i [] ≡ []) → visits_from slots 0 SLOTS ≡ []
no_visits slots empty = visits_from-empty slots 0 SLOTS (λ t from to. empty (t % SLOTS))

pub IsWheel-empty : (slots : Slots) (words : List ℕ) → length slots ≡ SLOTS → ((i : ℕ) → slice_index_or slots i [] ≡ [])
    → list_all (λ w. w == 0) words ≡ true → IsWheel slots words 0
IsWheel-empty slots words count empty clear = record {
  count = count;
  empty = λ t none. empty (t % SLOTS);
  used = λ t one.
      let none : bit_of words (t % SLOTS) ≡ 0 = ap (λ (w : ℕ). bit_at w (t % SLOTS % 64)) (clear_words words clear (t % SLOTS / 64)) ∙
      bit_at-zero (t % SLOTS % 64) in
      let wrong : 0 ≡ 1 = sym none ∙ one in
      cc;
  fits = λ due there. absurd (subst (λ (l : List Due). Among due l) (no_visits slots empty) there);
}
