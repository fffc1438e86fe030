-- The first bit of a word, and what setting and clearing a bit changes.
use Rattle.std.proofs.Common.{◌≡◌, ◌≢◌, ℕ, ◌+◌, ◌-◌, ◌*◌, ◌/◌, ◌%◌, ◌^◌, ◌<◌, ◌≤◌, List, length, sym, ap, ◌∙◌, arith, bit_and, bit_or, w64, ◌⊎◌, inl, inr}
use Rattle.std.specs.Prelude.{slice_index, slice_set}
use Rattle.std.specs.Int.{bit_at, bit_not, trailing_zeros}
use Rattle.std.proofs.lemmas.Bool.{cases_lt, cases_eq}
use Rattle.std.proofs.lemmas.List.{get_or-set_same, get_or-set_other}
use Rattle.std.proofs.lemmas.Nat.{shr-shr, shr_le}
use Rattle.std.proofs.lemmas.Nat.Bits.{bit_at-zero, bit_at_above, bit_at-trailing_zeros, bit_at_set_same, bit_at_set_other, bit_at_clear_same, bit_at_clear_other}
use Rattle.deadline_heap.specs.Bits.{bit_of, IsClear, IsFirstSet}

-- ---- one word

bit_at-shr : (n f i : ℕ) → bit_at (n / 2 ^ f) i ≡ bit_at n (f + i)
bit_at-shr n f i = ap (λ (q : ℕ). q % 2) (shr-shr n f i)

-- a bit past f is a bit of the word shifted by f
shifted : (n f j : ℕ) → f ≤ j → bit_at n j ≡ bit_at (n / 2 ^ f) (j - f)
shifted n f j past = let at : j ≡ f + (j - f) = omega arith in ap (bit_at n) at ∙ sym (bit_at-shr n f (j - f))

-- a word that is 0 when shifted has no bit from there on
pub clear_word : (n f : ℕ) → n / 2 ^ f ≡ 0 → IsClear (bit_at n) f 64
clear_word n f none j past within = shifted n f j past ∙ ap (λ (q : ℕ). bit_at q (j - f)) none ∙ bit_at-zero (j - f)

-- else the zeros after it lead to the first
pub first_set_of_word : (n f : ℕ) → n < 2 ^ 64 → 0 < n / 2 ^ f → IsFirstSet (bit_at n) f 64 (f + trailing_zeros w64 (n / 2 ^ f))
first_set_of_word n f fits some =
    let rest : ℕ = n / 2 ^ f in
    let zeros : ℕ = trailing_zeros w64 rest in
    let no_more : rest ≤ n = shr_le n f in
    let rest_fits : rest < 2 ^ 64 = omega arith in
    let lowest = bit_at-trailing_zeros w64 rest some rest_fits in
    let here : bit_at n (f + zeros) ≡ 1 = sym (bit_at-shr n f zeros) ∙ lowest.1 in
    record {
      at_least = omega arith;
      below = inside n (f + zeros) fits here;
      set_here = here;
      clear_before = λ j past before.
          let closer : j - f < zeros = omega arith in
          shifted n f j past ∙ lowest.2 (j - f) closer;
    }
  where
    inside : (m k : ℕ) → m < 2 ^ 64 → bit_at m k ≡ 1 → k < 64
    inside m k small one = go (cases_lt k 64)
      where
        go : (k < 64) ⊎ (64 ≤ k) → k < 64
        go (inl within) = within
        go (inr past) = let zero_there : bit_at m k ≡ 0 = bit_at_above m 64 k small past in absurd (omega (arith, sym zero_there ∙ one))

-- ---- a write

-- the bit that is set is 1, and no other changes
pub bit_of-set_same : (words : List ℕ) (slot : ℕ) → slot / 64 < length words
    → bit_of (slice_set words (slot / 64) (bit_or (slice_index words (slot / 64)) (1 * 2 ^ (slot % 64) % 2 ^ 64))) slot ≡ 1
bit_of-set_same words slot inside =
    let within : slot % 64 < 64 = omega arith in
    ap (λ (w : ℕ). bit_at w (slot % 64))
    (get_or-set_same words (slot / 64) (bit_or (slice_index words (slot / 64)) (1 * 2 ^ (slot % 64) % 2 ^ 64)) 0 inside)
    ∙ bit_at_set_same w64 (slice_index words (slot / 64)) (slot % 64) within

pub bit_of-clear_same : (words : List ℕ) (slot : ℕ) → slot / 64 < length words
    → bit_of (slice_set words (slot / 64) (bit_and (slice_index words (slot / 64)) (bit_not w64 (1 * 2 ^ (slot % 64) % 2 ^ 64)))) slot ≡ 0
bit_of-clear_same words slot inside =
    let within : slot % 64 < 64 = omega arith in
    ap (λ (w : ℕ). bit_at w (slot % 64))
    (get_or-set_same words (slot / 64) (bit_and (slice_index words (slot / 64)) (bit_not w64 (1 * 2 ^ (slot % 64) % 2 ^ 64))) 0 inside)
    ∙ bit_at_clear_same w64 (slice_index words (slot / 64)) (slot % 64) within

-- a word that changes in one bit alone changes one slot alone
pub bit_of-others : (words : List ℕ) (slot word : ℕ) → slot / 64 < length words
    → ((i : ℕ) → i < 64 → i ≢ slot % 64 → bit_at word i ≡ bit_at (slice_index words (slot / 64)) i)
    → (other : ℕ) → other ≢ slot → bit_of (slice_set words (slot / 64) word) other ≡ bit_of words other
bit_of-others words slot word inside bits other differ = go (cases_eq (other / 64) (slot / 64))
  where
    go : (other / 64 ≡ slot / 64) ⊎ (other / 64 ≡ slot / 64 → ⊥) → bit_of (slice_set words (slot / 64) word) other ≡ bit_of words other
    go (inl same) =
        let within : other % 64 < 64 = omega arith in
        let apart : other % 64 ≢ slot % 64 = λ e. differ (omega arith) in
        ap (λ (at : ℕ). bit_at (slice_index (slice_set words (slot / 64) word) at) (other % 64)) same
        ∙ ap (λ (w : ℕ). bit_at w (other % 64)) (get_or-set_same words (slot / 64) word 0 inside)
        ∙ bits (other % 64) within apart
        ∙ ap (λ (at : ℕ). bit_at (slice_index words at) (other % 64)) (sym same)
    go (inr other_word) = ap (λ (w : ℕ). bit_at w (other % 64)) (get_or-set_other words (slot / 64) (other / 64) word 0 other_word)

pub bit_of-set_other : (words : List ℕ) (slot : ℕ) → slot / 64 < length words → (other : ℕ) → other ≢ slot
    → bit_of (slice_set words (slot / 64) (bit_or (slice_index words (slot / 64)) (1 * 2 ^ (slot % 64) % 2 ^ 64))) other ≡ bit_of words
    other
bit_of-set_other words slot inside =
    let within : slot % 64 < 64 = omega arith in
    bit_of-others words slot (bit_or (slice_index words (slot / 64)) (1 * 2 ^ (slot % 64) % 2 ^ 64)) inside
    (λ i small apart. bit_at_set_other w64 (slice_index words (slot / 64)) (slot % 64) within i apart)

pub bit_of-clear_other : (words : List ℕ) (slot : ℕ) → slot / 64 < length words → (other : ℕ) → other ≢ slot
    → bit_of (slice_set words (slot / 64) (bit_and (slice_index words (slot / 64)) (bit_not w64 (1 * 2 ^ (slot % 64) % 2 ^ 64)))) other ≡
    bit_of words other
bit_of-clear_other words slot inside =
    let within : slot % 64 < 64 = omega arith in
    bit_of-others words slot (bit_and (slice_index words (slot / 64)) (bit_not w64 (1 * 2 ^ (slot % 64) % 2 ^ 64))) inside
    (λ i small apart. bit_at_clear_other w64 (slice_index words (slot / 64)) (slot % 64) within i small apart)
