-- A text of the second version is no shorter than that of the first which it splits to: its head line is longer, a number takes no more
-- bytes printed than where it was read, and of the other lines only some are kept.
use Rattle.std.proofs.Common.{◌≡◌, ◌<◌, ◌≤◌, ◌+◌, ◌*◌, ◌^◌, ◌-◌, ◌==◌, ℕ, Bool, true, false, cond, ◌&&◌, nat_lt, nat_le, List, [], ◌∷◌, ◌++◌, length, take, drop, Option, Some, None, Result, Ok, Err, refl, sym, ap, ◌∙◌, subst, arith, length-drop, length-append}
use Rattle.std.specs.Prelude.{MatchBool, IfOk, codes, decimal, nat_eq, option_map, option_and_then}
use Rattle.std.specs.List.{list_all, fold, prefix_len, starts_with}
use Rattle.std.proofs.lemmas.Bool.{ltb-true, leb-true, and_parts}
use Rattle.std.proofs.lemmas.Fmt.{length-decimal-le}
use Rattle.std.proofs.lemmas.List.Folds.{length-prefix_len}
use Rattle.std.proofs.lemmas.List.Sums.{prefix_len-le-length}
use Rattle.std.proofs.Math.Nat.{pow-succ', mul_assoc, mul-le-mul_right}
use Rattle.mn_base.specs.Decimal.{is_digit, with_digit, number_of, decimal_of}
use Rattle.mn_base.specs.Fields.{digits_of, after_digits, field_of, fields_of, line_of_fields}
use Rattle.mn_base.specs.Lines.{onto_first_line, lines_of, text_of_lines}
use Rattle.mn_base.specs.declared.refusal.Refusal.{Refusal}
use Rattle.changes.specs.declared.faults.ChangesFault.{ChangesFault}
use Rattle.changes.specs.Head.{first_head_labels, directory_head}
use Rattle.changes.specs.Faults.{is_second, second_head_labels}
use Rattle.changes.specs.SplitView.{SplitView}
use Rattle.changes.specs.Splits.{IsSecond, IsOther, SplitsTo}
use Rattle.changes.proofs.Ahead.{text_of_lines-append}

-- ---- a number
-- digits after a value make it less than ten times as much for each
value_below : (value : ℕ) (text : List ℕ) → list_all is_digit text ≡ true → fold with_digit value text < (value + 1) * 10 ^ length text
value_below value [] digits = omega arith
value_below value (b ∷ text) digits =
    let tests = and_parts (is_digit b) (list_all is_digit text) digits in
    let low = leb-true b 57 (and_parts (nat_le 48 b) (nat_le b 57) tests.0).1 in
    let later = value_below (with_digit value b) text tests.1 in
    let first : with_digit value b + 1 ≤ (value + 1) * 10 = omega (arith, low) in
    let all = mul-le-mul_right (10 ^ length text) first in
    let ten = pow-succ' 10 (length text) in
    let power : (value + 1) * 10 ^ length (b ∷ text) ≡ (value + 1) * 10 * 10 ^ length text =
    ap (λ k. (value + 1) * k) ten ∙ sym (mul_assoc (value + 1) 10 (10 ^ length text)) in
    omega (arith, later, all, power)

record Reads (text : List ℕ) (n : ℕ) : Type 0 where
  some : 0 < length text
  digits : list_all is_digit text ≡ true
  small : number_of text < 2 ^ 64
  value : number_of text ≡ n

reads : (text : List ℕ) (n : ℕ) → decimal_of text ≡ Some n → Reads text n
reads text n e = go (nat_lt 0 (length text)) (list_all is_digit text) (nat_lt (number_of text) (2 ^ 64)) refl refl refl e
  where
    go : (a b c : Bool) → nat_lt 0 (length text) ≡ a → list_all is_digit text ≡ b → nat_lt (number_of text) (2 ^ 64) ≡ c
        → cond (a && b && c) (Some (number_of text)) None ≡ Some n → Reads text n
    go true true true some digits small e = record {
      some = ltb-true 0 (length text) some;
      digits = digits;
      small = ltb-true (number_of text) (2 ^ 64) small;
      value = cc;
    }
    go true true false some digits small e = cc
    go true false c some digits small e = cc
    go false b c some digits small e = cc

-- a number takes no more bytes printed than where it was read
printed_is_short : (text : List ℕ) (n : ℕ) → decimal_of text ≡ Some n → length (decimal n) ≤ length text
printed_is_short text n e =
    let is = reads text n e in
    let below : n < 10 ^ length text = (let most = value_below 0 text is.digits in omega (arith, most, is.value)) in
    length-decimal-le (length text) n is.some below (omega (arith, is.small, is.value))

-- ---- labels and numbers
split_len : (text : List ℕ) → length (digits_of text) + length (after_digits text) ≡ length text
split_len text =
    omega (arith, length-prefix_len is_digit text, length-drop (prefix_len is_digit text) text, prefix_len-le-length is_digit text)

-- a number that is read, what follows it, and what stood in front of it
number_is_short : (front : ℕ) (text behind : List ℕ) (n : ℕ) (rest : List ℕ) → length behind ≡ length text - front
    → option_map {U = ℕ × List ℕ} (λ m. (m, after_digits behind)) (decimal_of (digits_of behind)) ≡ Some (n, rest)
    → front + length (decimal n) + length rest ≤ length text
number_is_short front text behind n rest left e = go (decimal_of (digits_of behind)) refl e
  where
    go : (o : Option ℕ) → decimal_of (digits_of behind) ≡ o → option_map {U = ℕ × List ℕ} (λ m. (m, after_digits behind)) o ≡ Some (n, rest)
        → front + length (decimal n) + length rest ≤ length text
    go None is e = cc
    go (Some m) is e =
        let parts : (m, after_digits behind) ≡ (n, rest) = cc in
        let value : m ≡ n = ap (λ (p : ℕ × List ℕ). p.0) parts in
        let after : after_digits behind ≡ rest = ap (λ (p : ℕ × List ℕ). p.1) parts in
        let short = printed_is_short (digits_of behind) m is in
        let some = (reads (digits_of behind) m is).some in
        let both = split_len behind in
        subst (λ (r : List ℕ). front + length (decimal n) + length r ≤ length text) after
        (subst (λ (k : ℕ). front + length (decimal k) + length (after_digits behind) ≤ length text) value
        (omega (arith, short, some, both, left)))

-- a label, its number and what follows them take no more bytes than the text
field_is_short : (label text : List ℕ) (n : ℕ) (rest : List ℕ) → field_of label text ≡ Some (n, rest)
    → length label + length (decimal n) + length rest ≤ length text
unfolding field_of
field_is_short label text n rest e = go (starts_with nat_eq text label) e
  where
    go : (b : Bool)
        → cond b (option_map {U = ℕ × List ℕ} (λ m. (m, after_digits (drop (length label) text))) (decimal_of (digits_of (drop (length label) text)))) None
        ≡ Some (n, rest) → length label + length (decimal n) + length rest ≤ length text
    go false e = cc
    go true e = number_is_short (length label) text (drop (length label) text) n rest (length-drop (length label) text) e

line_len : (label : List ℕ) (labels : List (List ℕ)) (n : ℕ) (numbers : List ℕ)
    → length (line_of_fields (label ∷ labels) (n ∷ numbers))
    ≡ length label + (length (decimal n) + length (line_of_fields labels numbers))
line_len label labels n numbers =
    omega (arith, length-append (label ++ decimal n) (line_of_fields labels numbers), length-append label (decimal n))

-- a line of labels is no shorter than the line that is printed of its numbers
fields_are_short : (labels : List (List ℕ)) (line numbers : List ℕ) → fields_of labels line ≡ Some numbers
    → length (line_of_fields labels numbers) ≤ length line
fields_are_short [] line numbers e = omega arith
fields_are_short (label ∷ labels) line numbers e =
    go (λ rest more later. fields_are_short labels rest more later) (field_of label line) refl e
  where
    behind : ((rest more : List ℕ) → fields_of labels rest ≡ Some more → length (line_of_fields labels more) ≤ length rest)
        → (n : ℕ) (rest : List ℕ) → field_of label line ≡ Some (n, rest) → (o : Option (List ℕ)) → fields_of labels rest ≡ o
        → option_map (λ (ns : List ℕ). n ∷ ns) o ≡ Some numbers → length (line_of_fields (label ∷ labels) numbers) ≤ length line
    behind shorter n rest field None later e = cc
    behind shorter n rest field (Some more) later e =
        let same : n ∷ more ≡ numbers = cc in
        let front = field_is_short label line n rest field in
        let tail = shorter rest more later in
        subst (λ (ns : List ℕ). length (line_of_fields (label ∷ labels) ns) ≤ length line) same
        (omega (arith, front, tail, line_len label labels n more))

    go : ((rest more : List ℕ) → fields_of labels rest ≡ Some more → length (line_of_fields labels more) ≤ length rest)
        → (o : Option (ℕ × List ℕ)) → field_of label line ≡ o
        → option_and_then (λ field. option_map (λ (ns : List ℕ). field.0 ∷ ns) (fields_of labels field.1)) o ≡ Some numbers
        → length (line_of_fields (label ∷ labels) numbers) ≤ length line
    go shorter None field e = cc
    go shorter (Some (n, rest)) field e = behind shorter n rest field (fields_of labels rest) refl e

-- ---- lines
-- the lines of a text, each with its line feed, are longer than it by the last line feed at most
lines_are_short : (text : List ℕ) → length (text_of_lines (lines_of text)) ≤ length text + 1
lines_are_short [] = omega arith
lines_are_short (b ∷ bs) = go (b == 10) (lines_are_short bs)
  where
    onto : (ls : List (List ℕ)) → length (text_of_lines ls) ≤ length bs + 1
        → length (text_of_lines (onto_first_line b ls)) ≤ length (b ∷ bs) + 1
    onto [] short = omega arith
    onto (line ∷ ls) short = omega (arith, short)

    go : (c : Bool) → length (text_of_lines (lines_of bs)) ≤ length bs + 1
        → length (text_of_lines (cond c ([] ∷ lines_of bs) (onto_first_line b (lines_of bs)))) ≤ length (b ∷ bs) + 1
    go true short = omega (arith, short)
    go false short = onto (lines_of bs) short

-- ---- the two head lines
-- the first version's head line is that of the second without the number of changes
heads : (cores pipes count : ℕ)
    → length (directory_head cores pipes) + 9 ≤ length (line_of_fields second_head_labels (cores ∷ pipes ∷ count ∷ []))
unfolding first_head_labels second_head_labels
heads cores pipes count =
    let pipes_label = codes " pipes " in
    let changes_label = codes " changes " in
    omega (
      arith,
      line_len (codes "modelnet-directory 1 cores ") (pipes_label ∷ []) cores (pipes ∷ []),
      line_len pipes_label [] pipes [],
      line_len (codes "modelnet-directory 2 cores ") (pipes_label ∷ changes_label ∷ []) cores (pipes ∷ count ∷ []),
      line_len pipes_label (changes_label ∷ []) pipes (count ∷ []),
      line_len changes_label [] count [],
    )

second_is_short : (text : List ℕ) (cores pipes : ℕ) (split : SplitView) → IsSecond text cores pipes split
    → length split.directory ≤ length text
second_is_short text cores pipes split is =
    let all : length (text_of_lines (is.head ∷ is.pipe_lines ++ is.change_lines)) ≤ length text + 1 =
    subst (λ (ls : List (List ℕ)). length (text_of_lines ls) ≤ length text + 1) is.lines (lines_are_short text) in
    let head = fields_are_short second_head_labels is.head (cores ∷ pipes ∷ length is.change_lines ∷ []) is.numbers in
    let less = heads cores pipes (length is.change_lines) in
    let lines = ap length (text_of_lines-append is.pipe_lines is.change_lines) in
    let len = length-append (text_of_lines is.pipe_lines) (text_of_lines is.change_lines) in
    let of_all = length-append is.head (10 ∷ text_of_lines (is.pipe_lines ++ is.change_lines)) in
    let of_first = length-append (directory_head cores pipes) (10 ∷ text_of_lines is.pipe_lines) in
    subst (λ (t : List ℕ). length t ≤ length text) (sym is.directory) (omega (arith, all, head, less, lines, len, of_all, of_first))

-- what a text splits to is no longer than the text
pub splits_short : (text : List ℕ) (cores pipes : ℕ) (result : Result SplitView (Refusal ChangesFault)) → IfOk result (SplitsTo text cores pipes)
    → IfOk result (λ split. length split.directory ≤ length text)
splits_short text cores pipes (Ok split) found = go (is_second text) found
  where
    go : (b : Bool) → MatchBool b (IsSecond text cores pipes split) (IsOther text split) → length split.directory ≤ length text
    go true second = second_is_short text cores pipes split second
    go false other = subst (λ (t : List ℕ). length t ≤ length text) (sym other.directory) (omega arith)
splits_short text cores pipes (Err refusal) found = tt
