-- Why reading digit by digit gives the value of the whole text.
use Rattle.std.proofs.Common.{◌≡◌, ◌≤◌, ◌<◌, ◌^◌, ◌+◌, ℕ, zero, suc, Bool, true, false, List, [], ◌∷◌, ◌++◌, ◌/◌, ◌%◌, length, take, get_or, refl, sym, ◌∙◌, ap, subst, arith, Some, None, ◌&&◌, nat_lt, length-append}
use Rattle.std.proofs.lemmas.List.{take_all}
use Rattle.std.proofs.lemmas.List.Folds.{list_all-append}
use Rattle.std.proofs.lemmas.Bool.{le-leb, le-ltb, lt-ltb}
use Rattle.std.proofs.lemmas.Fmt.{decimal_by_steps}
use Rattle.std.specs.Prelude.{decimal}
use Rattle.std.specs.List.{list_all, fold}
use Rattle.std.proofs.lemmas.List.Sums.{fold_more, fold-append}
use Rattle.mn_base.specs.Decimal.{is_digit, with_digit, number_of, is_decimal, decimal_of}

-- a digit more never makes the value less
pub value_grows : (value : ℕ) (text : List ℕ) → value ≤ fold with_digit value text
value_grows value [] = omega arith
value_grows value (b ∷ text) = omega (arith, value_grows (with_digit value b) text)

-- the value of a front is at most that of the whole
pub front_is_least : (value : ℕ) (text : List ℕ) (i : ℕ) → fold with_digit value (take i text) ≤ fold with_digit value text
front_is_least value [] zero = omega arith
front_is_least value [] (suc i) = omega arith
front_is_least value (b ∷ text) zero = value_grows value (b ∷ text)
front_is_least value (b ∷ text) (suc i) = front_is_least (with_digit value b) text i

-- another text has no value
pub not_decimal : (text : List ℕ) → is_decimal text ≡ false → None ≡ decimal_of text
not_decimal text no_decimal = rw no_decimal refl

pub ends_false : (a b : Bool) → b ≡ false → (a && b) ≡ false
ends_false a b e = grind (arith, e)

-- digits, one at least, of a value below 2^64
pub is_decimal_of : (text : List ℕ) → 0 < length text → list_all is_digit text ≡ true → number_of text < 2 ^ 64 → is_decimal text ≡ true
is_decimal_of text some digits small = rw (lt-ltb 0 (length text) some, digits, lt-ltb (number_of text) (2 ^ 64) small) refl

-- all of it was read
pub whole_value : (text : List ℕ) (i value : ℕ) → length text ≤ i → 0 < length text → list_all is_digit (take i text) ≡ true
    → value ≡ number_of (take i text) → value < 2 ^ 64 → Some value ≡ decimal_of text
whole_value text i value end some digits same small =
    let whole : take i text ≡ text = take_all i text end in
    let all_digits : list_all is_digit text ≡ true = rw (← whole) digits in
    let value_is : value ≡ number_of text = same ∙ ap number_of whole in
    rw (is_decimal_of text some all_digits (subst (λ n. n < 2 ^ 64) value_is small)) (ap Some value_is)

-- a front with a value of 2^64 or more
pub too_great : (text : List ℕ) (i : ℕ) → 2 ^ 64 ≤ number_of (take i text) → None ≡ decimal_of text
too_great text i great =
    let beyond : 2 ^ 64 ≤ number_of text = omega (arith, front_is_least 0 text i, great) in
    not_decimal text (ends_false (nat_lt 0 (length text) && list_all is_digit text) _ (le-ltb (number_of text) (2 ^ 64) beyond))

-- a digit that makes the value 2^64 or more
pub beyond_u64 : (text : List ℕ) (i value b : ℕ) → i < length text → value ≡ number_of (take i text) → b ≡ get_or text i 0
    → (with_digit value b < 2 ^ 64 → ⊥) → None ≡ decimal_of text
beyond_u64 text i value b within same read over =
    let longer : number_of (take (i + 1) text) ≡ with_digit (number_of (take i text)) (get_or text i 0) =
    fold_more with_digit 0 text i 0 within in
    too_great text (i + 1) (rw longer (rw (← same) (rw (← read) (omega (arith, over)))))

-- a digit more was read
pub one_more : (text : List ℕ) (i value b : ℕ) → i < length text → value ≡ number_of (take i text) → b ≡ get_or text i 0
    → with_digit value b ≡ number_of (take (i + 1) text)
one_more text i value b within same read = sym (fold_more with_digit 0 text i 0 within ∙ cc)

-- ---- a printed number
-- a text of digits that is worth n
record Writes (n : ℕ) (text : List ℕ) : Type 0 where
  some : 0 < length text
  digits : list_all is_digit text ≡ true
  value : number_of text ≡ n

-- a digit is written as its byte
writes_digit : (n : ℕ) → n < 10 → Writes n ((48 + n) ∷ [])
writes_digit n small = record {
  some = omega arith;
  digits = rw (is_digit_of n small) refl;
  value = omega arith;
}
  where
    is_digit_of : (d : ℕ) → d < 10 → is_digit (48 + d) ≡ true
    is_digit_of d small = rw (le-leb 48 (48 + d) (omega arith), le-leb (48 + d) 57 (omega arith)) refl

-- a longer number is written as all but its last digit, and then that
writes_more : (n : ℕ) (front : List ℕ) → 10 ≤ n → Writes (n / 10) front → Writes n (front ++ (48 + n % 10) ∷ [])
writes_more n front great is =
    let last : Writes (n % 10) ((48 + n % 10) ∷ []) = writes_digit (n % 10) (omega arith) in
    record {
      some = omega (arith, length-append front ((48 + n % 10) ∷ []));
      digits = list_all-append is_digit front ((48 + n % 10) ∷ []) ∙ rw (is.digits, last.digits) refl;
      value = fold-append with_digit 0 front ((48 + n % 10) ∷ []) ∙ rw is.value (omega arith);
    }

-- what is printed of a number reads back as that number
pub decimal_reads_back : (n : ℕ) → n < 2 ^ 64 → decimal_of (decimal n) ≡ Some n
decimal_reads_back n small =
    let is : Writes n (decimal n) = decimal_by_steps Writes writes_digit writes_more n small in
    let below : number_of (decimal n) < 2 ^ 64 = rw is.value small in
    rw (is_decimal_of (decimal n) is.some is.digits below) (ap Some is.value)
