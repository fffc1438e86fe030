-- A text is its first line and the lines of what follows it.
use Rattle.std.proofs.Common.{◌≡◌, ◌<◌, ◌==◌, ◌+◌, ℕ, Bool, true, false, cond, not, List, [], ◌∷◌, length, take, drop, refl, ap, arith, one-add}
use Rattle.std.specs.List.{prefix_len}
use Rattle.mn_base.specs.Lines.{onto_first_line, lines_of}

-- how many bytes stand before the first line feed
abbrev pub before_feed : List ℕ → ℕ
before_feed text = prefix_len (λ b. not (b == 10)) text

-- where a line feed follows the first line: byte by byte in front of it
pub line_before_feed : (text : List ℕ) (feed : ℕ) (after : List ℕ) → drop (before_feed text) text ≡ feed ∷ after
    → lines_of text ≡ take (before_feed text) text ∷ lines_of after
line_before_feed [] feed after e = cc
line_before_feed (x ∷ xs) feed after e = go (x == 10) refl (line_before_feed xs feed after) e
  where
    go : (c : Bool) → (x == 10) ≡ c
        → (drop (before_feed xs) xs ≡ feed ∷ after → lines_of xs ≡ take (before_feed xs) xs ∷ lines_of after)
        → drop (cond (not c) (1 + before_feed xs) 0) (x ∷ xs) ≡ feed ∷ after
        → cond c ([] ∷ lines_of xs) (onto_first_line x (lines_of xs))
        ≡ take (cond (not c) (1 + before_feed xs) 0) (x ∷ xs) ∷ lines_of after
    go true is more e = let same : xs ≡ after = cc in ap (λ l. [] ∷ lines_of l) same
    go false is more e =
        let behind : drop (before_feed xs) xs ≡ feed ∷ after = rw one-add at e in
        rw (more behind, one-add) refl

-- where none does, the text is one line
pub line_at_end : (text : List ℕ) → 0 < length text → length (drop (before_feed text) text) ≡ 0
    → lines_of text ≡ take (before_feed text) text ∷ lines_of (drop (before_feed text) text)
line_at_end [] some e = absurd (omega arith)
line_at_end (x ∷ xs) some e = go (x == 10) refl (rest xs (line_at_end xs)) e
  where
    rest : (ys : List ℕ)
        → (0 < length ys → length (drop (before_feed ys) ys) ≡ 0
        → lines_of ys ≡ take (before_feed ys) ys ∷ lines_of (drop (before_feed ys) ys))
        → length (drop (before_feed ys) ys) ≡ 0
        → onto_first_line x (lines_of ys) ≡ (x ∷ take (before_feed ys) ys) ∷ lines_of (drop (before_feed ys) ys)
    rest [] more e = refl
    rest (y ∷ ys) more e = rw (more (omega arith) e) refl

    go : (c : Bool) → (x == 10) ≡ c
        → (length (drop (before_feed xs) xs) ≡ 0
        → onto_first_line x (lines_of xs) ≡ (x ∷ take (before_feed xs) xs) ∷ lines_of (drop (before_feed xs) xs))
        → length (drop (cond (not c) (1 + before_feed xs) 0) (x ∷ xs)) ≡ 0
        → cond c ([] ∷ lines_of xs) (onto_first_line x (lines_of xs))
        ≡ take (cond (not c) (1 + before_feed xs) 0) (x ∷ xs) ∷ lines_of (drop (cond (not c) (1 + before_feed xs) 0) (x ∷ xs))
    go true is more e = absurd (omega (arith, e))
    go false is more e =
        let behind : length (drop (before_feed xs) xs) ≡ 0 = rw one-add at e in
        rw one-add (more behind)
