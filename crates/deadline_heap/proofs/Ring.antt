-- The visits of the wheel as the ticks of one turn, each with its slot.
use Rattle.std.proofs.Common.{◌≡◌, ◌⊎◌, inl, inr, ℕ, zero, suc, ◌+◌, ◌-◌, ◌%◌, ◌^◌, ◌<◌, ◌≤◌, List, [], ◌∷◌, ◌++◌, length, map, refl, sym, ap, ◌∙◌, subst, arith, append_assoc}
use Rattle.std.specs.Prelude.{slice_index_or}
use Rattle.std.proofs.lemmas.Bool.{cases_lt, cases_eq}
use Rattle.mn_base.specs.Among.{Among}
use Rattle.mn_base.proofs.Members.{Among-append, Among-append-left, Among-append-right, Among-map, Among-from-map}
use Rattle.mn_base.specs.declared.due.Due.{Due}
use Rattle.deadline_heap.specs.declared.wheel.TheConstants.{SLOTS}
use Rattle.deadline_heap.specs.Bits.{bit_of, ring_bit, IsClear, IsFirstSet}
use Rattle.deadline_heap.specs.Entries.{at_tick}
use Rattle.deadline_heap.specs.WheelView.{slot_of, visits_from, IsWheel}

abbrev pub Slots : Type 0
Slots = List (List (ℕ × ℕ))

-- ---- the ticks one by one

pub visits_from-suc : (slots : Slots) (tick count : ℕ)
    → visits_from slots tick (suc count) ≡ map (at_tick tick) (slot_of slots tick) ++ visits_from slots (tick + 1) count
unfolding visits_from
visits_from-suc slots tick count = refl

pub visits_from-zero : (slots : Slots) (tick : ℕ) → visits_from slots tick 0 ≡ []
unfolding visits_from
visits_from-zero slots tick = refl

pub visits_from-append : (slots : Slots) (tick m n : ℕ)
    → visits_from slots tick (m + n) ≡ visits_from slots tick m ++ visits_from slots (tick + m) n
visits_from-append slots tick zero n =
    let count : zero + n ≡ n = omega arith in
    let start : tick ≡ tick + zero = omega arith in
    ap (visits_from slots tick) count
    ∙ ap (λ (t : ℕ). visits_from slots t n) start
    ∙ ap (λ (l : List Due). l ++ visits_from slots (tick + zero) n) (sym (visits_from-zero slots tick))
visits_from-append slots tick (suc m) n =
    let count : suc m + n ≡ suc (m + n) = omega arith in
    let start : (tick + 1) + m ≡ tick + suc m = omega arith in
    ap (visits_from slots tick) count
    ∙ visits_from-suc slots tick (m + n)
    ∙ ap (λ (l : List Due). map (at_tick tick) (slot_of slots tick) ++ l) (visits_from-append slots (tick + 1) m n)
    ∙ sym (append_assoc (map (at_tick tick) (slot_of slots tick)) (visits_from slots (tick + 1) m) (visits_from slots ((tick + 1) + m) n))
    ∙ ap (λ (l : List Due). l ++ visits_from slots ((tick + 1) + m) n) (sym (visits_from-suc slots tick m))
    ∙ ap (λ (t : ℕ). visits_from slots tick (suc m) ++ visits_from slots t n) start

-- slots that are empty have no visit
pub visits_from-empty : (slots : Slots) (tick count : ℕ) → ((t : ℕ) → tick ≤ t → t < tick + count → slot_of slots t ≡ [])
    → visits_from slots tick count ≡ []
visits_from-empty slots tick zero empty = visits_from-zero slots tick
visits_from-empty slots tick (suc count) empty =
    let start : tick ≤ tick = omega arith in
    let within : tick < tick + suc count = omega arith in
    visits_from-suc slots tick count
    ∙ ap (λ (es : List (ℕ × ℕ)). map (at_tick tick) es ++ visits_from slots (tick + 1) count) (empty tick start within)
    ∙ visits_from-empty slots (tick + 1) count (λ t past before.
    let past_too : tick ≤ t = omega arith in
    let before_too : t < tick + suc count = omega arith in
    empty t past_too before_too)

-- equal slots have equal visits
pub visits_from-same : (slots others : Slots) (tick count : ℕ)
    → ((t : ℕ) → tick ≤ t → t < tick + count → slot_of slots t ≡ slot_of others t)
    → visits_from slots tick count ≡ visits_from others tick count
visits_from-same slots others tick zero same = visits_from-zero slots tick ∙ sym (visits_from-zero others tick)
visits_from-same slots others tick (suc count) same =
    let start : tick ≤ tick = omega arith in
    let within : tick < tick + suc count = omega arith in
    visits_from-suc slots tick count
    ∙ ap (λ (es : List (ℕ × ℕ)). map (at_tick tick) es ++ visits_from slots (tick + 1) count) (same tick start within)
    ∙ ap (λ (l : List Due). map (at_tick tick) (slot_of others tick) ++ l) (visits_from-same slots others (tick + 1) count (λ t past before.
    let past_too : tick ≤ t = omega arith in
    let before_too : t < tick + suc count = omega arith in
    same t past_too before_too))
    ∙ sym (visits_from-suc others tick count)

-- an entry of a slot is a visit at its tick
pub Among-slot : (slots : Slots) (tick count t : ℕ) (entry : ℕ × ℕ) → tick ≤ t → t < tick + count → Among entry (slot_of slots t)
    → Among (at_tick t entry) (visits_from slots tick count)
Among-slot slots tick zero t entry past before there = absurd (omega arith)
Among-slot slots tick (suc count) t entry past before there =
    subst (λ (l : List Due). Among (at_tick t entry) l) (sym (visits_from-suc slots tick count))
    (go (cases_eq t tick) (λ past_too before_too. Among-slot slots (tick + 1) count t entry past_too before_too there))
  where
    go : (t ≡ tick) ⊎ (t ≡ tick → ⊥)
        → (tick + 1 ≤ t → t < (tick + 1) + count → Among (at_tick t entry) (visits_from slots (tick + 1) count))
        → Among (at_tick t entry) (map (at_tick tick) (slot_of slots tick) ++ visits_from slots (tick + 1) count)
    go (inl here) rest =
        Among-append-left (at_tick t entry) (map (at_tick tick) (slot_of slots tick)) (visits_from slots (tick + 1) count)
        (subst (λ (s : ℕ). Among (at_tick t entry) (map (at_tick s) (slot_of slots s))) here
        (Among-map (at_tick t) entry (slot_of slots t) there))
    go (inr later) rest =
        let past_too : tick + 1 ≤ t = omega (arith, later) in
        let before_too : t < (tick + 1) + count = omega arith in
        Among-append-right (at_tick t entry) (map (at_tick tick) (slot_of slots tick)) (visits_from slots (tick + 1) count)
        (rest past_too before_too)

-- a visit has one of the ticks, and is an entry of its slot
pub record IsInSlot (slots : Slots) (tick count : ℕ) (due : Due) : Type 0 where
  pub past : tick ≤ due.tick
  pub before : due.tick < tick + count
  pub entry : Among (due.packet, due.hop) (slot_of slots due.tick)

pub in_slot : (slots : Slots) (tick count : ℕ) (due : Due) → Among due (visits_from slots tick count) → IsInSlot slots tick count due
in_slot slots tick zero due there = absurd (subst (λ (l : List Due). Among due l) (visits_from-zero slots tick) there)
in_slot slots tick (suc count) due there =
    go (Among-append due (map (at_tick tick) (slot_of slots tick)) (visits_from slots (tick + 1) count)
    (subst (λ (l : List Due). Among due l) (visits_from-suc slots tick count) there)) (in_slot slots (tick + 1) count due)
  where
    go : Among due (map (at_tick tick) (slot_of slots tick)) ⊎ Among due (visits_from slots (tick + 1) count)
        → (Among due (visits_from slots (tick + 1) count) → IsInSlot slots (tick + 1) count due) → IsInSlot slots tick (suc count) due
    go (inl here) rest =
        let found = Among-from-map (at_tick tick) due (slot_of slots tick) here in
        let at : tick ≡ due.tick = ap (λ (d : Due). d.tick) found.2 in
        let same : found.0 ≡ (due.packet, due.hop) = ap (λ (d : Due). (d.packet, d.hop)) found.2 in
        record {
          past = omega arith;
          before = omega arith;
          entry = subst (λ (t : ℕ). Among (due.packet, due.hop) (slot_of slots t)) at
              (subst (λ (e : ℕ × ℕ). Among e (slot_of slots tick)) same found.1);
        }
    go (inr later) rest =
        let past_too : tick + 1 ≤ due.tick = (rest later).past in
        let before_too : due.tick < (tick + 1) + count = (rest later).before in
        record { past = omega arith; before = omega arith; entry = (rest later).entry }

-- ---- the base moves up

-- over slots that are empty, a turn from further on has the same visits
pub rises_over : (slots : Slots) (base ahead : ℕ) → ahead ≤ SLOTS → ((t : ℕ) → base ≤ t → t < base + ahead → slot_of slots t ≡ [])
    → visits_from slots base SLOTS ≡ visits_from slots (base + ahead) SLOTS
rises_over slots base ahead within empty =
    let rest : ℕ = SLOTS - ahead in
    let first : SLOTS ≡ ahead + rest = omega arith in
    let second : rest + ahead ≡ SLOTS = omega arith in
    ap (visits_from slots base) first
    ∙ visits_from-append slots base ahead rest
    ∙ ap (λ (l : List Due). l ++ visits_from slots (base + ahead) rest) (visits_from-empty slots base ahead empty)
    ∙ sym (nothing_behind (visits_from slots (base + ahead) rest))
    ∙ ap (λ (l : List Due). visits_from slots (base + ahead) rest ++ l)
    (sym (visits_from-empty slots ((base + ahead) + rest) ahead a_turn_later))
    ∙ sym (visits_from-append slots (base + ahead) rest ahead)
    ∙ ap (visits_from slots (base + ahead)) second
  where
    nothing_behind : (l : List Due) → l ++ [] ≡ l
    nothing_behind [] = refl
    nothing_behind (x ∷ l) = ap (λ (r : List Due). x ∷ r) (nothing_behind l)

    a_turn_later : (t : ℕ) → (base + ahead) + (SLOTS - ahead) ≤ t → t < ((base + ahead) + (SLOTS - ahead)) + ahead → slot_of slots t ≡ []
    a_turn_later t past before =
        let back : ℕ = t - SLOTS in
        let same : t % SLOTS ≡ back % SLOTS = omega arith in
        let from : base ≤ back = omega arith in
        let to : back < base + ahead = omega arith in
        ap (λ (i : ℕ). slice_index_or slots i []) same ∙ empty back from to

-- a list without members
no_members : {X : Type 0} (xs : List X) → ((x : X) → Among x xs → ⊥) → xs ≡ []
no_members [] none = refl
no_members (x ∷ xs) none = absurd (none x (inl refl))

-- a base that is past no visit may be any
pub rises_to : (slots : Slots) (base tick : ℕ) → base ≤ tick
    → ((due : Due) → Among due (visits_from slots base SLOTS) → tick ≤ due.tick)
    → visits_from slots base SLOTS ≡ visits_from slots tick SLOTS
rises_to slots base tick order past = go (cases_lt (tick - base) SLOTS)
  where
    -- the slots before the new base are empty
    empty : (t : ℕ) → base ≤ t → t < base + SLOTS → t < tick → slot_of slots t ≡ []
    empty t from to before =
        no_members (slot_of slots t) (λ entry there. let late : tick ≤ t = past (at_tick t entry)
        (Among-slot slots base SLOTS t entry from to there) in absurd (omega arith))

    go : (tick - base < SLOTS) ⊎ (SLOTS ≤ tick - base) → visits_from slots base SLOTS ≡ visits_from slots tick SLOTS
    go (inl near) =
        let ahead : ℕ = tick - base in
        let at : base + ahead ≡ tick = omega arith in
        let within : ahead ≤ SLOTS = omega arith in
        rises_over slots base ahead within (λ t from to.
        let to_turn : t < base + SLOTS = omega arith in
        let before : t < tick = omega arith in
        empty t from to_turn before)
        ∙ ap (λ (t : ℕ). visits_from slots t SLOTS) at
    go (inr far) =
        visits_from-empty slots base SLOTS (λ t from to. let before : t < tick = omega arith in empty t from to before)
        ∙ sym (visits_from-empty slots tick SLOTS all_empty)
      where
        all_empty : (t : ℕ) → tick ≤ t → t < tick + SLOTS → slot_of slots t ≡ []
        all_empty t from to =
            let back : ℕ = base + (t - base) % SLOTS in
            let same : t % SLOTS ≡ back % SLOTS = omega arith in
            let past_base : base ≤ back = omega arith in
            let in_turn : back < base + SLOTS = omega arith in
            let before : back < tick = omega arith in
            ap (λ (i : ℕ). slice_index_or slots i []) same ∙ empty back past_base in_turn before

-- the fields keep what they keep when the base moves up so
pub rises : (slots : Slots) (words : List ℕ) (base tick : ℕ) → base ≤ tick
    → ((due : Due) → Among due (visits_from slots base SLOTS) → tick ≤ due.tick) → IsWheel slots words base → IsWheel slots words tick
rises slots words base tick order past inside = record {
  count = inside.count;
  empty = inside.empty;
  used = inside.used;
  fits = λ due there. inside.fits due (subst (λ (l : List Due). Among due l) (sym (rises_to slots base tick order past)) there);
}

-- ---- the first visit

-- a turn of the wheel begins with the slot of its first tick
pub turn_begins : (slots : Slots) (tick : ℕ)
    → visits_from slots tick SLOTS ≡ map (at_tick tick) (slot_of slots tick) ++ visits_from slots (tick + 1) (SLOTS - 1)
turn_begins slots tick = visits_from-suc slots tick (SLOTS - 1)

-- up to the first bit that is set, the slots are empty
pub turn_from_first : (slots : Slots) (words : List ℕ) (base ahead : ℕ) → IsWheel slots words base
    → IsFirstSet (ring_bit words base) 0 SLOTS ahead → visits_from slots base SLOTS ≡ visits_from slots (base + ahead) SLOTS
turn_from_first slots words base ahead inside first =
    let below : ahead < SLOTS = first.below in
    let within : ahead ≤ SLOTS = omega arith in
    rises_over slots base ahead within (λ t from to.
    let j : ℕ = t - base in
    let at : base + j ≡ t = omega arith in
    let zero_on : 0 ≤ j = omega arith in
    let before : j < ahead = omega arith in
    inside.empty t (subst (λ (s : ℕ). bit_of words (s % SLOTS) ≡ 0) at (first.clear_before j zero_on before)))

-- no bit, no visit
pub no_visit : (slots : Slots) (words : List ℕ) (base : ℕ) → IsWheel slots words base → IsClear (ring_bit words base) 0 SLOTS
    → visits_from slots base SLOTS ≡ []
no_visit slots words base inside clear =
    visits_from-empty slots base SLOTS (λ t from to.
    let j : ℕ = t - base in
    let at : base + j ≡ t = omega arith in
    let zero_on : 0 ≤ j = omega arith in
    let before : j < SLOTS = omega arith in
    inside.empty t (subst (λ (s : ℕ). bit_of words (s % SLOTS) ≡ 0) at (clear j zero_on before)))

-- the first entry of that slot is the first visit
pub first_visit : (slots : Slots) (words : List ℕ) (base ahead : ℕ) (entry : ℕ × ℕ) (rest : List (ℕ × ℕ)) → IsWheel slots words base
    → IsFirstSet (ring_bit words base) 0 SLOTS ahead → slot_of slots (base + ahead) ≡ entry ∷ rest
    → visits_from slots base SLOTS ≡ at_tick (base + ahead) entry ∷
    (map (at_tick (base + ahead)) rest ++ visits_from slots ((base + ahead) + 1) (SLOTS - 1))
first_visit slots words base ahead entry rest inside first here =
    turn_from_first slots words base ahead inside first
    ∙ turn_begins slots (base + ahead)
    ∙ ap (λ (es : List (ℕ × ℕ)). map (at_tick (base + ahead)) es ++ visits_from slots ((base + ahead) + 1) (SLOTS - 1)) here

-- its tick fits the type
pub tick_fits : (slots : Slots) (words : List ℕ) (base ahead : ℕ) → IsWheel slots words base
    → IsFirstSet (ring_bit words base) 0 SLOTS ahead → base + ahead < 2 ^ 64
tick_fits slots words base ahead inside first = go (slot_of slots (base + ahead)) refl
  where
    used : 0 < length (slot_of slots (base + ahead))
    used = inside.used (base + ahead) first.set_here

    go : (es : List (ℕ × ℕ)) → slot_of slots (base + ahead) ≡ es → base + ahead < 2 ^ 64
    go [] none = let some : 0 < length (slot_of slots (base + ahead)) = used in absurd
        (omega (arith, ap (λ (l : List (ℕ × ℕ)). length l) none))
    go (entry ∷ rest) here =
        let below : ahead < SLOTS = first.below in
        let from : base ≤ base + ahead = omega arith in
        let to : base + ahead < base + SLOTS = omega arith in
        inside.fits (at_tick (base + ahead) entry)
        (Among-slot slots base SLOTS (base + ahead) entry from to (subst (λ (es : List (ℕ × ℕ)). Among entry es) (sym here) (inl refl)))
