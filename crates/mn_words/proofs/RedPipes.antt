-- The PIPE of `red`, four parts after four.
use denote.Ref.{Bor}
use Rattle.std.proofs.Common.{◌≡◌, ◌<◌, ℕ, true, false, List, [], ◌∷◌, length, Option, None, Some, is_some, refl, sym, ap, ◌∙◌, arith}
use Rattle.std.specs.Option.{option_copied}
use Rattle.mn_words.specs.declared.order.PipeSpec.{PipeSpec}
use Rattle.mn_words.specs.Pipes.{pipe_of_parts, red_of_parts, red_pipe_of_parts, red_spec_of}
use Rattle.mn_words.specs.Steps.{◌>>=◌}
use Rattle.mn_words.specs.Values.{colon_parts, rest_parts}
use Rattle.mn_words.proofs.ColonParts.{red_of_more}

-- fewer than four parts
pub has_few : (word : List ℕ) → length (colon_parts word) < 4 → red_spec_of word ≡ None
unfolding red_spec_of red_pipe_of_parts
has_few word few = from (colon_parts word) few
  where
    from : (parts : List (List ℕ)) → length parts < 4 → red_pipe_of_parts parts ≡ None
    from [] few = refl
    from (a ∷ []) few = refl
    from (a ∷ b ∷ []) few = refl
    from (a ∷ b ∷ c ∷ []) few = refl
    from (a ∷ b ∷ c ∷ d ∷ parts) few = absurd (omega (arith, few))

-- four parts and none after them
pub has_four : (word : List ℕ) {a b c d : List ℕ} (rest : Option (Bor (List ℕ))) → colon_parts word ≡ a ∷ b ∷ c ∷ d ∷ rest_parts (option_copied rest)
    → rest ≡ None → red_spec_of word ≡ None
unfolding red_spec_of red_pipe_of_parts red_of_parts
has_four word {a = a} {b = b} {c = c} {d = d} None parts none = rw parts (from (pipe_of_parts (a ∷ b ∷ c ∷ d ∷ [])))
  where
    from : (base : Option PipeSpec) → (base >>= λ base. red_of_parts base []) ≡ None
    from None = refl
    from (Some base) = refl
has_four word (Some back) parts none = absurd cc

-- four parts that are no pipe
pub has_no_base : (word : List ℕ) {a b c d : List ℕ} (rest : Option (Bor (List ℕ))) (base : Option PipeSpec)
    → colon_parts word ≡ a ∷ b ∷ c ∷ d ∷ rest_parts (option_copied rest) → base ≡ pipe_of_parts (a ∷ b ∷ c ∷ d ∷ []) → base ≡ None
    → red_spec_of word ≡ None
unfolding red_spec_of red_pipe_of_parts
has_no_base word rest base parts is none = rw (parts, sym is ∙ none) refl

-- and four that are one, with a colon after them
pub has_base : (word : List ℕ) {a b c d : List ℕ} {rest : Option (Bor (List ℕ))} {back : Bor (List ℕ)} {found : Option PipeSpec}
    {base : PipeSpec}
    → colon_parts word ≡ a ∷ b ∷ c ∷ d ∷ rest_parts (option_copied rest) → rest ≡ Some back → found ≡ pipe_of_parts (a ∷ b ∷ c ∷ d ∷ [])
    → found ≡ Some base → red_spec_of word ≡ red_of_parts base (colon_parts back.now)
unfolding red_spec_of red_pipe_of_parts
has_base word parts behind is one = rw (parts, sym is ∙ one, behind) refl

-- five parts or more say nothing of early drops
pub has_more : (base : PipeSpec) (word : List ℕ) {a b c d : List ℕ} (rest : Option (Bor (List ℕ)))
    → colon_parts word ≡ a ∷ b ∷ c ∷ d ∷ rest_parts (option_copied rest) → is_some rest ≡ true
    → red_of_parts base (colon_parts word) ≡ None
has_more base word {a = a} {b = b} {c = c} {d = d} (Some back) parts some = ap (red_of_parts base) parts ∙ red_of_more base a b c d back.now
has_more base word None parts some = absurd cc

pub has_all : (base : PipeSpec) (word : List ℕ) {a b c d : List ℕ} (rest : Option (Bor (List ℕ)))
    → colon_parts word ≡ a ∷ b ∷ c ∷ d ∷ rest_parts (option_copied rest) → is_some rest ≡ false
    → red_of_parts base (colon_parts word) ≡ red_of_parts base (a ∷ b ∷ c ∷ d ∷ [])
has_all base word None parts none = ap (red_of_parts base) parts
has_all base word (Some back) parts none = absurd cc
