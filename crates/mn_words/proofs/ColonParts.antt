-- The parts of a text between its colons, one after another.
use Rattle.std.proofs.Common.{◌≡◌, ◌<◌, ◌==◌, ◌+◌, ℕ, Bool, true, false, cond, not, List, [], ◌∷◌, length, refl, ap, arith, None}
use Rattle.std.specs.Prelude.{bytes_eq, codes}
use Rattle.std.specs.List.{slice_split, onto_first, position_or_len, before_first, after_first}
use Rattle.std.proofs.lemmas.List.Splits.{slice_split_first}
use Rattle.mn_words.specs.declared.order.PipeSpec.{PipeSpec}
use Rattle.mn_words.specs.Moves.{move_of_parts, move_spec_of}
use Rattle.mn_words.specs.Pipes.{pipe_of_parts, pipe_spec_of, red_of_parts}
use Rattle.mn_words.specs.Values.{colon_parts, walk_of, walk_numbers}

uncut : {X : Type 0} (p : X → Bool) (xs : List X) → position_or_len p xs ≡ length xs → slice_split p xs ≡ xs ∷ []
uncut p [] none = refl
uncut {X} p (x ∷ xs) none = from (p x) none (λ later. uncut p xs later)
  where
    from : (b : Bool) → cond (not b) (1 + position_or_len p xs) 0 ≡ length (x ∷ xs)
        → (position_or_len p xs ≡ length xs → slice_split p xs ≡ xs ∷ [])
        → cond b ([] ∷ slice_split p xs) (onto_first x (slice_split p xs)) ≡ (x ∷ xs) ∷ []
    from true none rest = absurd (omega (arith, none))
    from false none rest = ap (onto_first x) (rest (omega (arith, none)))

-- a word without a colon is its one part
pub colon_parts-whole : (word : List ℕ) → position_or_len (λ b. b == 58) word ≡ length word → colon_parts word ≡ word ∷ []
unfolding colon_parts
colon_parts-whole word none = uncut (λ b. b == 58) word none

-- the first part ends at the first colon
pub colon_parts-cut : (word front back : List ℕ) → position_or_len (λ b. b == 58) word < length word
    → front ≡ before_first (λ b. b == 58) word → back ≡ after_first (λ b. b == 58) word → colon_parts word ≡ front ∷ colon_parts back
unfolding colon_parts
colon_parts-cut word front back some front_is back_is = rw (front_is, back_is) (slice_split_first (λ b. b == 58) word 0 some)

pub ruleset cuts = (colon_parts-whole, colon_parts-cut)

onto_first-some : {X : Type 0} (x : X) (parts : List (List X)) → onto_first x parts ≡ [] → ⊥
onto_first-some x [] none = cc
onto_first-some x (part ∷ parts) none = cc

-- every word has a part, even the empty one
colon_parts-some : (word : List ℕ) → colon_parts word ≡ [] → ⊥
unfolding colon_parts
colon_parts-some [] none = cc
colon_parts-some (b ∷ word) none = from (b == 58) none
  where
    from : (colon : Bool) → cond colon ([] ∷ slice_split (λ b. b == 58) word) (onto_first b (slice_split (λ b. b == 58) word)) ≡ [] → ⊥
    from true none = cc
    from false none = onto_first-some b (slice_split (λ b. b == 58) word) none

-- fewer than four parts are no pipe, and so are five or more
pub pipe_of_few : (parts : List (List ℕ)) → length parts < 4 → pipe_of_parts parts ≡ None
unfolding pipe_of_parts
pipe_of_few [] few = refl
pipe_of_few (a ∷ []) few = refl
pipe_of_few (a ∷ b ∷ []) few = refl
pipe_of_few (a ∷ b ∷ c ∷ []) few = refl
pipe_of_few (a ∷ b ∷ c ∷ d ∷ parts) few = absurd (omega (arith, few))

pub pipe_of_more : (word a b c d back : List ℕ) → colon_parts word ≡ a ∷ b ∷ c ∷ d ∷ colon_parts back → pipe_spec_of word ≡ None
unfolding pipe_spec_of pipe_of_parts
pipe_of_more word a b c d back parts = rw parts (from (colon_parts back) (colon_parts-some back))
  where
    from : (parts : List (List ℕ)) → (parts ≡ [] → ⊥) → pipe_of_parts (a ∷ b ∷ c ∷ d ∷ parts) ≡ None
    from [] some = absurd (some refl)
    from (part ∷ parts) some = refl

-- fewer than four parts say nothing of early drops, and so do five or more
pub red_of_few : (base : PipeSpec) (parts : List (List ℕ)) → length parts < 4 → red_of_parts base parts ≡ None
unfolding red_of_parts
red_of_few base [] few = refl
red_of_few base (a ∷ []) few = refl
red_of_few base (a ∷ b ∷ []) few = refl
red_of_few base (a ∷ b ∷ c ∷ []) few = refl
red_of_few base (a ∷ b ∷ c ∷ d ∷ parts) few = absurd (omega (arith, few))

pub red_of_more : (base : PipeSpec) (a b c d back : List ℕ) → red_of_parts base (a ∷ b ∷ c ∷ d ∷ colon_parts back) ≡ None
unfolding red_of_parts
red_of_more base a b c d back = from (colon_parts back) (colon_parts-some back)
  where
    from : (parts : List (List ℕ)) → (parts ≡ [] → ⊥) → red_of_parts base (a ∷ b ∷ c ∷ d ∷ parts) ≡ None
    from [] some = absurd (some refl)
    from (part ∷ parts) some = refl

pub ruleset counts = (pipe_of_few, pipe_of_more, red_of_few, red_of_more)

-- a text without a colon names no walk
pub walk_of_one : (text : List ℕ) → colon_parts text ≡ text ∷ [] → walk_of (colon_parts text) ≡ None
unfolding walk_of walk_numbers
walk_of_one text parts = rw parts (from (bytes_eq text (codes "walk")))
  where
    from : (b : Bool) → cond b (walk_numbers []) None ≡ None
    from true = refl
    from false = refl

-- more than two numbers are no walk
pub walk_numbers_more : (text a b back : List ℕ) → colon_parts text ≡ a ∷ b ∷ colon_parts back → walk_numbers (colon_parts text) ≡ None
unfolding walk_numbers
walk_numbers_more text a b back parts = rw parts (from (colon_parts back) (colon_parts-some back))
  where
    from : (parts : List (List ℕ)) → (parts ≡ [] → ⊥) → walk_numbers (a ∷ b ∷ parts) ≡ None
    from [] some = absurd (some refl)
    from (part ∷ parts) some = refl

-- fewer than three parts are no move, and so are four or more
pub move_of_one : (word a : List ℕ) → colon_parts word ≡ a ∷ [] → move_spec_of word ≡ None
unfolding move_spec_of move_of_parts
move_of_one word a parts = rw parts refl

pub move_of_two : (word a b : List ℕ) → colon_parts word ≡ a ∷ b ∷ [] → move_spec_of word ≡ None
unfolding move_spec_of move_of_parts
move_of_two word a b parts = rw parts refl

pub move_of_more : (word a b c back : List ℕ) → colon_parts word ≡ a ∷ b ∷ c ∷ colon_parts back → move_spec_of word ≡ None
unfolding move_spec_of move_of_parts
move_of_more word a b c back parts = rw parts (from (colon_parts back) (colon_parts-some back))
  where
    from : (parts : List (List ℕ)) → (parts ≡ [] → ⊥) → move_of_parts (a ∷ b ∷ c ∷ parts) ≡ None
    from [] some = absurd (some refl)
    from (part ∷ parts) some = refl

pub ruleset move_counts = (move_of_one, move_of_two, move_of_more)
