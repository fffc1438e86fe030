-- What the bare words of a list say, read one after another.
use Rattle.std.proofs.Common.{◌≡◌, ◌≤◌, ◌<◌, ◌+◌, ℕ, Bool, true, false, cond, nat_le, arith, List, [], ◌∷◌, ◌++◌, length, Option, Some, None, append_assoc, append-nil, refl, sym, ◌∙◌, ap}
use Rattle.std.specs.Option.{option_map}
use Rattle.std.proofs.lemmas.Bool.{le-leb, lt-leb}
use Rattle.std.proofs.lemmas.Grind.{common_steps}
use Rattle.mn_words.specs.Pipes.{each_of, few_of}

-- what was said, and after it what the words that are left say
abbrev pub behind : {A : Type 0} → (List ℕ → Option A) → List A → List (List ℕ) → Option (List A)
behind said all words = option_map (λ more. all ++ more) (each_of said words)

behind-more : {A : Type 0} (said : List ℕ → Option A) (all : List A) (word : List ℕ) (words : List (List ℕ)) (one : A) → said word ≡ Some one
    → behind said all (word ∷ words) ≡ behind said (all ++ one ∷ []) words
unfolding each_of
behind-more {A} said all word words one is_one = rw is_one (same (each_of said words))
  where
    same : (rest : Option (List A))
        → option_map (λ more. all ++ more) (option_map (λ more. one ∷ more) rest) ≡ option_map
        (λ more. (all ++ one ∷ []) ++ more) rest
    same None = refl
    same (Some rest) = ap Some (sym (append_assoc all (one ∷ []) rest))

behind-stop : {A : Type 0} (said : List ℕ → Option A) (all : List A) (word : List ℕ) (words : List (List ℕ)) → said word ≡ None
    → behind said all (word ∷ words) ≡ None
unfolding each_of
behind-stop said all word words nothing = rw nothing refl

behind-end : {A : Type 0} (said : List ℕ → Option A) (all : List A) → behind said all [] ≡ Some all
unfolding each_of
behind-end said all = ap Some (append-nil all)

few-few : {A : Type 0} (most : ℕ) (said : List ℕ → Option A) (words : List (List ℕ)) → length words ≤ most
    → few_of most said words ≡ each_of said words
unfolding few_of
few-few most said words few = rw (le-leb (length words) most few) refl

few-many : {A : Type 0} (most : ℕ) (said : List ℕ → Option A) (words : List (List ℕ)) → most < length words → few_of most said words ≡ None
unfolding few_of
few-many most said words many = rw (lt-leb (length words) most many) refl

few-none : {A : Type 0} (most : ℕ) (said : List ℕ → Option A) (words : List (List ℕ)) → each_of said words ≡ None
    → few_of most said words ≡ None
unfolding few_of
few-none {A} most said words none = rw none (from (nat_le (length words) most))
  where
    nothing : Option (List A)
    nothing = None

    from : (b : Bool) → cond b nothing nothing ≡ nothing
    from true = refl
    from false = refl

-- this was read of all words, and those words are left
pub record HaveRead {A : Type 0} (said : List ℕ → Option A) (all left : List (List ℕ)) (found : List A) : Type 0 where
  pub read : each_of said all ≡ behind said found left
  pub count : length found + length left ≡ length all

none_read : {A : Type 0} (said : List ℕ → Option A) (words : List (List ℕ)) → each_of said words ≡ behind said [] words
none_read {A} said words = from (each_of said words)
  where
    from : (rest : Option (List A)) → rest ≡ option_map (λ more. [] ++ more) rest
    from None = refl
    from (Some rest) = refl

-- at first nothing was read
pub reads-none : {A : Type 0} (said : List ℕ → Option A) (all : List (List ℕ)) → HaveRead said all all []
reads-none said all = record { read = none_read said all; count = omega arith }

-- with one more word read
pub reads-more : {A : Type 0} (said : List ℕ → Option A) (all left next : List (List ℕ)) (word : List ℕ) (found : List A) (one : A)
    → HaveRead said all left found → left ≡ word ∷ next → Some one ≡ said word → HaveRead said all next (found ++ one ∷ [])
reads-more said all left next word found one have front is_one = record {
  read = have.read ∙ ap (behind said found) front ∙ behind-more said found word next one (sym is_one);
  count = counted;
}
  where
    counted : length (found ++ one ∷ []) + length next ≡ length all
    counted = grind (arith, common_steps, front, have.count)

-- a word that says nothing stops the reading
pub read-stop : {A : Type 0} (most : ℕ) (said : List ℕ → Option A) (all left next : List (List ℕ)) (word : List ℕ) (found : List A)
    → HaveRead said all left found → left ≡ word ∷ next → None ≡ said word → few_of most said all ≡ None
read-stop most said all left next word found have front nothing =
    few-none most said all (have.read ∙ ap (behind said found) front ∙ behind-stop said found word next (sym nothing))

-- and so does a word after as many as there may be
pub read-too_many : {A : Type 0} (most : ℕ) (said : List ℕ → Option A) (all left next : List (List ℕ)) (word : List ℕ) (found : List A)
    → HaveRead said all left found → left ≡ word ∷ next → most ≤ length found → few_of most said all ≡ None
read-too_many most said all left next word found have front full = few-many most said all above
  where
    above : most < length all
    above = grind (arith, common_steps, front, full, have.count)

-- all was read
pub read-end : {A : Type 0} (most : ℕ) (said : List ℕ → Option A) (all left : List (List ℕ)) (found : List A) → HaveRead said all left found
    → left ≡ [] → length found ≤ most → (few_of most said all ≡ Some found) × (length found ≡ length all)
read-end most said all left found have none few = (
  few-few most said all (omega (arith, few, counted)) ∙ have.read ∙ ap (behind said found) none ∙ behind-end said found,
  counted,
)
  where
    counted : length found ≡ length all
    counted = grind (arith, common_steps, none, have.count)
