-- Addresses: parts round points, one after the other.
use Rattle.std.proofs.Common.{◌≡◌, ◌<◌, ◌+◌, ◌&&◌, ◌^◌, ℕ, Bool, true, false, not, cond, nat_lt, List, [], ◌∷◌, length, take, drop, refl, sym, ◌∙◌, ap, subst, arith, inl, inr, Option, Some, None}
use Rattle.std.proofs.lemmas.Bool.{cases_lt, eqb-true}
use Rattle.std.proofs.lemmas.List.Folds.{list_all_at}
use Rattle.std.proofs.lemmas.List.Splits.{slice_split_none, slice_split_first}
use Rattle.std.proofs.lemmas.List.Sums.{prefix_len_passes, prefix_len_stops, prefix_len-le-length}
use Rattle.std.specs.List.{list_all, prefix_len, slice_split, onto_first}
use Rattle.mn_base.specs.Decimal.{is_digit, number_of, decimal_of}
use Rattle.gml_lex.specs.Words.{is_point}
use Rattle.gml_reader.specs.Values.{address_part, joined, address_from}

abbrev isnt_point : ℕ → Bool
isnt_point b = not (is_point b)

not_true : (b : Bool) → not b ≡ true → b ≡ false
not_true true e = cc
not_true false e = refl

not_false : (b : Bool) → not b ≡ false → b ≡ true
not_false true e = refl
not_false false e = cc

-- no point stands in the whole
pub one_part : (xs : List ℕ) (n : ℕ) → n ≡ prefix_len isnt_point xs → n ≡ length xs → slice_split is_point xs ≡ xs ∷ []
one_part xs n is whole =
    slice_split_none is_point xs (λ k d within. not_true _ (prefix_len_passes isnt_point xs k d (omega (arith, is, whole, within))))

-- the first point stands after so many bytes
first_part : (xs : List ℕ) (n : ℕ) → n ≡ prefix_len isnt_point xs → n < length xs
    → slice_split is_point xs ≡ take n xs ∷ slice_split is_point (drop (n + 1) xs)
first_part xs n is some =
    subst (λ m. slice_split is_point xs ≡ take m xs ∷ slice_split is_point (drop (m + 1) xs)) (sym is)
    (slice_split_first is_point xs 0 (omega (arith, is, some)))

-- as the code cuts it
pub parted : (xs : List ℕ) {front back : List ℕ} (n : ℕ) → n ≡ prefix_len isnt_point xs → n < length xs → front ≡ take n xs
    → back ≡ drop (n + 1) xs → slice_split is_point xs ≡ front ∷ slice_split is_point back
parted xs {front} {back} n is some front_is back_is =
    first_part xs n is some ∙ ap (λ part. part ∷ slice_split is_point (drop (n + 1) xs)) (sym front_is)
    ∙ ap (λ rest. front ∷ slice_split is_point rest) (sym back_is)

-- ---- the last part
-- parts with a first one
record HasFirst (parts : List (List ℕ)) : Type 0 where
  first : List ℕ
  more : List (List ℕ)
  is : parts ≡ first ∷ more

onto_some : (x : ℕ) (parts : List (List ℕ)) → HasFirst (onto_first x parts)
onto_some x [] = record { first = x ∷ []; more = []; is = refl }
onto_some x (part ∷ parts) = record { first = x ∷ part; more = parts; is = refl }

either_some : (b : Bool) (parts others : List (List ℕ)) → HasFirst parts → HasFirst others → HasFirst (cond b parts others)
either_some true parts others p o = p
either_some false parts others p o = o

-- a text has a part at least
split_some : (xs : List ℕ) → HasFirst (slice_split is_point xs)
split_some [] = record { first = []; more = []; is = refl }
split_some (x ∷ xs) =
    either_some (is_point x) ([] ∷ slice_split is_point xs) (onto_first x (slice_split is_point xs))
    (record { first = []; more = slice_split is_point xs; is = refl }) (onto_some x (slice_split is_point xs))

-- with no last part there is no address
joined-None : (a b c : Option ℕ) → joined a b c None ≡ None
joined-None None b c = refl
joined-None (Some w) None c = refl
joined-None (Some w) (Some x) None = refl
joined-None (Some w) (Some x) (Some y) = refl

point_isnt_digit : (b : ℕ) → is_point b ≡ true → is_digit b ≡ false
point_isnt_digit b e = let same : b ≡ 46 = eqb-true b 46 e in subst (λ x. is_digit x ≡ false) (sym same) refl

-- a text with another byte than digits is no number, so no part
no_decimal : (xs : List ℕ) → list_all is_digit xs ≡ false → decimal_of xs ≡ None
no_decimal xs e = by_tests (nat_lt 0 (length xs)) (list_all is_digit xs) (nat_lt (number_of xs) (2 ^ 64)) e
  where
    by_tests : (a b c : Bool) → b ≡ false → cond ((a && b) && c) (Some (number_of xs)) None ≡ None
    by_tests true true c e = cc
    by_tests true false c e = refl
    by_tests false b c e = refl

no_part : (xs : List ℕ) → decimal_of xs ≡ None → address_part xs ≡ None
no_part xs e = rw e (by_test _)
  where
    by_test : (b : Bool) → ◌≡◌ {A = Option ℕ} (cond b None None) None
    by_test true = refl
    by_test false = refl

-- and so is one with a point
point_in_part : (xs : List ℕ) → prefix_len isnt_point xs < length xs → address_part xs ≡ None
point_in_part xs some =
    let point = not_false _ (prefix_len_stops isnt_point xs 0 some) in
    no_part xs (no_decimal xs (list_all_at is_digit xs (prefix_len isnt_point xs) 0 some (point_isnt_digit _ point)))

-- five parts or more are no address
five_parts : (a b c d : List ℕ) (parts : List (List ℕ)) → HasFirst parts → address_from (a ∷ b ∷ c ∷ d ∷ parts) ≡ None
five_parts a b c d parts s = ap (λ ps. address_from (a ∷ b ∷ c ∷ d ∷ ps)) s.is

-- after three parts the rest is the fourth, or there is no address
pub last_part : (a b c d : List ℕ)
    → address_from (a ∷ b ∷ c ∷ slice_split is_point d) ≡ joined (address_part a) (address_part b) (address_part c) (address_part d)
last_part a b c d =
    elim (cases_lt (prefix_len isnt_point d) (length d)) [
      | inl some ↦ ap (λ ps. address_from (a ∷ b ∷ c ∷ ps)) (first_part d (prefix_len isnt_point d) refl some)
          ∙ five_parts a b c (take (prefix_len isnt_point d) d) (slice_split is_point (drop (prefix_len isnt_point d + 1) d))
          (split_some (drop (prefix_len isnt_point d + 1) d))
          ∙ sym
          (ap (joined (address_part a) (address_part b) (address_part c)) (point_in_part d some)
          ∙ joined-None (address_part a) (address_part b) (address_part c))
      | inr whole ↦ let within = prefix_len-le-length isnt_point d in ap (λ ps. address_from (a ∷ b ∷ c ∷ ps))
          (one_part d (prefix_len isnt_point d) refl (omega (arith, whole, within)))
    ]
