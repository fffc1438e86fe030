-- Tokens are a file or are misplaced at one place.
use Rattle.std.proofs.Common.{◌≡◌, ◌<◌, ◌≤◌, ◌+◌, ℕ, List, [], ◌++◌, length, take, drop, refl, sym, ◌∙◌, ap, subst, arith, inl, inr, append_assoc, append-nil}
use Rattle.std.proofs.lemmas.Bool.{cases_lt}
use Rattle.std.proofs.lemmas.List.{take-append-drop, take-take, take_all}
use Rattle.gml_lex.specs.declared.kinds.Token.{Token}
use Rattle.gml_reader.specs.declared.grammar.Misplaced.{Misplaced}
use Rattle.gml_reader.specs.declared.grammar.Misplaced.TheVariants.{Bad, Deep, Cut}
use Rattle.gml_reader.specs.Grammar.{IsFile, IsFront}
use Rattle.gml_reader.specs.Places.{IsShallowTo, IsShallow, IsBadAt, IsDeepAt, IsMisplaced}

-- ---- what stands before a front is one
-- tokens that begin a file, without the last of them
prefix_front : (front back : List Token) → IsFront (front ++ back) → IsFront front
prefix_front front back f = record {
  more = back ++ f.more;
  file = f.file;
  list = f.list;
  spelled_is = sym (append_assoc front back f.more) ∙ f.spelled_is;
}

front_before : (tokens : List Token) (i j : ℕ) → i ≤ j → IsFront (take j tokens) → IsFront (take i tokens)
front_before tokens i j before f =
    subst IsFront (take-take i j tokens before)
    (prefix_front (take i (take j tokens)) (drop i (take j tokens)) (subst IsFront (sym (take-append-drop i (take j tokens))) f))

front_of_whole : (tokens : List Token) (i : ℕ) → i ≤ length tokens → IsFront tokens → IsFront (take i tokens)
front_of_whole tokens i within f =
    front_before tokens i (length tokens) within (subst IsFront (sym (take_all (length tokens) tokens (omega arith))) f)

-- ---- what excludes what
-- tokens that begin a file have no bad one among them
not_bad : (tokens : List Token) (at : ℕ) → IsFront tokens → IsBadAt tokens at → ⊥
not_bad tokens at f bad = bad.bad (front_of_whole tokens (at + 1) (omega (arith, bad.inside)) f)

-- and tokens that nest at most 32 deep none that is too deep
not_deep : (tokens : List Token) (to at : ℕ) → at < to → IsShallowTo to tokens → IsDeepAt tokens at → ⊥
not_deep tokens to at before shallow deep = omega (arith, shallow (at + 1) (omega (arith, before)), deep.deep)

-- a token that begins no file stands before no front
not_past : (tokens : List Token) (at to : ℕ) → at < to → IsBadAt tokens at → IsFront (take to tokens) → ⊥
not_past tokens at to before bad f = bad.bad (front_before tokens (at + 1) to (omega (arith, before)) f)

-- of a bad token and one that is too deep the earlier excludes the other
bad_or_deep : (tokens : List Token) (at other : ℕ) → IsBadAt tokens at → IsDeepAt tokens other → ⊥
bad_or_deep tokens at other bad deep =
    elim (cases_lt other at) [
      | inl before ↦ not_deep tokens at other before bad.shallow deep
      | inr later ↦ not_past tokens at (other + 1) (omega (arith, later)) bad deep.before
    ]

-- of two such tokens each is the first
one_bad : (tokens : List Token) (at other : ℕ) → IsBadAt tokens at → IsBadAt tokens other → at ≡ other
one_bad tokens at other a b =
    elim (cases_lt at other) [
      | inl before ↦ absurd (not_past tokens at other before a b.before)
      | inr later ↦ elim (cases_lt other at) [
        | inl behind ↦ absurd (not_past tokens other at behind b a.before)
        | inr same ↦ omega (arith, later, same)
      ]
    ]

one_deep : (tokens : List Token) (at other : ℕ) → IsDeepAt tokens at → IsDeepAt tokens other → at ≡ other
one_deep tokens at other a b =
    elim (cases_lt at other) [
      | inl before ↦ absurd (not_deep tokens other at before b.shallow a)
      | inr later ↦ elim (cases_lt other at) [
        | inl behind ↦ absurd (not_deep tokens at other behind a.shallow b)
        | inr same ↦ omega (arith, later, same)
      ]
    ]

-- so tokens are misplaced at one place at most
pub one_misplaced : (tokens : List Token) (m n : Misplaced) → IsMisplaced tokens m → IsMisplaced tokens n → m ≡ n
one_misplaced tokens (Bad at) (Bad other) a b = ap Bad (one_bad tokens at other a b)
one_misplaced tokens (Bad at) (Deep other) a b = absurd (bad_or_deep tokens at other a b)
one_misplaced tokens (Bad at) Cut a b = absurd (not_bad tokens at b.front a)
one_misplaced tokens (Deep at) (Bad other) a b = absurd (bad_or_deep tokens other at b a)
one_misplaced tokens (Deep at) (Deep other) a b = ap Deep (one_deep tokens at other a b)
one_misplaced tokens (Deep at) Cut a b = absurd (not_deep tokens (length tokens) at a.inside b.shallow a)
one_misplaced tokens Cut (Bad other) a b = absurd (not_bad tokens other a.front b)
one_misplaced tokens Cut (Deep other) a b = absurd (not_deep tokens (length tokens) other b.inside a.shallow b)
one_misplaced tokens Cut Cut a b = refl

-- ---- a file is not misplaced
front_of_file : (tokens : List Token) → IsFile tokens → IsFront tokens
front_of_file tokens f = record { more = []; file = f.file; list = f.list; spelled_is = append-nil tokens ∙ f.spelled_is }

pub not_misplaced : (tokens : List Token) (m : Misplaced) → IsFile tokens → IsShallow tokens → IsMisplaced tokens m → ⊥
not_misplaced tokens (Bad at) file shallow m = not_bad tokens at (front_of_file tokens file) m
not_misplaced tokens (Deep at) file shallow m = not_deep tokens (length tokens) at m.inside shallow m
not_misplaced tokens Cut file shallow m = m.cut file
