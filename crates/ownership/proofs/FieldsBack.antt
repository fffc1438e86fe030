-- The numbers of a line that was made of labels and numbers.
use Rattle.std.proofs.Common.{◌≡◌, ◌<◌, ◌+◌, ◌^◌, ℕ, suc, Bool, true, false, cond, not, ◌&&◌, nat_lt, List, [], ◌∷◌, ◌++◌, length, refl, arith, append_assoc, Some, None, eq-eqb}
use Rattle.std.specs.Prelude.{nat_eq, decimal}
use Rattle.std.proofs.Math.Seq.{take-append_seam, drop-append_seam}
use Rattle.std.specs.List.{list_all, prefix_len, starts_with, AllByRecursion}
use Rattle.std.specs.Cmp.Lexicographic.{pointwise}
use Rattle.mn_base.specs.Decimal.{is_digit, number_of, decimal_of}
use Rattle.mn_base.proofs.Decimals.{decimal_reads_back}
use Rattle.mn_base.specs.Fields.{field_of, fields_of, line_of_fields}

-- a label has a byte at least, and the first is no digit
abbrev pub is_label : List ℕ → Bool
is_label [] = false
is_label (b ∷ bs) = not (is_digit b)

abbrev pub AreLabels : List (List ℕ) → Type 0
AreLabels labels = AllByRecursion (λ label. is_label label ≡ true) labels

each_same : (xs : List ℕ) → pointwise nat_eq xs xs ≡ true
each_same [] = refl
each_same (x ∷ xs) = rw (eq-eqb x x refl, each_same xs) refl

-- a text begins with what stands in front
label_in_front : (label rest : List ℕ) → starts_with nat_eq (label ++ rest) label ≡ true
label_in_front label rest = rw (take-append_seam label rest) (each_same label)

-- a text that has a decimal's value is digits
all_digits : (text : List ℕ) (n : ℕ) → decimal_of text ≡ Some n → list_all is_digit text ≡ true
all_digits text n e = go (nat_lt 0 (length text)) (list_all is_digit text) (nat_lt (number_of text) (2 ^ 64)) e
  where
    go : (a b c : Bool) → cond (a && b && c) (Some (number_of text)) None ≡ Some n → b ≡ true
    go a true c e = refl
    go true false c e = cc
    go false false c e = cc

-- what is printed of a number is digits
pub all_digits_of : (n : ℕ) → n < 2 ^ 64 → list_all is_digit (decimal n) ≡ true
all_digits_of n small = all_digits (decimal n) n (decimal_reads_back n small)

-- digits in front of a text that begins with none
prefix_of_digits : (digits rest : List ℕ) → list_all is_digit digits ≡ true → prefix_len is_digit rest ≡ 0
    → prefix_len is_digit (digits ++ rest) ≡ length digits
prefix_of_digits [] rest all none = none
prefix_of_digits (d ∷ ds) rest all none = go (is_digit d) all (λ rest_all. prefix_of_digits ds rest rest_all none)
  where
    go : (b : Bool) → (b && list_all is_digit ds) ≡ true
        → (list_all is_digit ds ≡ true → prefix_len is_digit (ds ++ rest) ≡ length ds)
        → cond b (1 + prefix_len is_digit (ds ++ rest)) 0 ≡ suc (length ds)
    go true all later = rw (later all) (omega arith)
    go false all later = cc

-- a label, a printed number and a text that doesn't begin with a digit
pub field_in_front : (label : List ℕ) (n : ℕ) (rest : List ℕ) → n < 2 ^ 64 → prefix_len is_digit rest ≡ 0
    → field_of label (label ++ decimal n ++ rest) ≡ Some (n, rest)
unfolding field_of
field_in_front label n rest small none =
    let digits : list_all is_digit (decimal n) ≡ true = all_digits (decimal n) n (decimal_reads_back n small) in
    let len : prefix_len is_digit (decimal n ++ rest) ≡ length (decimal n) = prefix_of_digits (decimal n) rest digits none in
    rw (
      append_assoc label (decimal n) rest,
      label_in_front label (decimal n ++ rest),
      drop-append_seam label (decimal n ++ rest),
      len,
      take-append_seam (decimal n) rest,
      drop-append_seam (decimal n) rest,
      decimal_reads_back n small,
    )
    refl

-- what follows a number doesn't begin with a digit
no_digit_next : (labels : List (List ℕ)) (numbers : List ℕ) → AreLabels labels → prefix_len is_digit (line_of_fields labels numbers) ≡ 0
no_digit_next [] numbers are = refl
no_digit_next (label ∷ labels) [] are = refl
no_digit_next ([] ∷ labels) (n ∷ numbers) are = cc
no_digit_next ((b ∷ bs) ∷ labels) (n ∷ numbers) are = go (is_digit b) are.0
  where
    go : (c : Bool) → not c ≡ true → cond c (1 + prefix_len is_digit (bs ++ decimal n ++ line_of_fields labels numbers)) 0 ≡ 0
    go true e = cc
    go false e = refl

pub fields_read_back : (labels : List (List ℕ)) (numbers : List ℕ) → AreLabels labels → length labels ≡ length numbers
    → AllByRecursion (λ n. n < 2 ^ 64) numbers → fields_of labels (line_of_fields labels numbers) ≡ Some numbers
fields_read_back [] [] are same small = refl
fields_read_back [] (n ∷ numbers) are same small = absurd (omega (arith, same))
fields_read_back (label ∷ labels) [] are same small = absurd (omega (arith, same))
fields_read_back (label ∷ labels) (n ∷ numbers) are same small =
    rw (
      field_in_front label n (line_of_fields labels numbers) small.0 (no_digit_next labels numbers are.1),
      fields_read_back labels numbers are.1 (omega (arith, same)) small.1,
    )
    refl
