-- Sets of pipes by their numbers: what an insertion adds, and what the first taken out is.
use Rattle.std.proofs.Common.{◌≡◌, ◌↔◌, ℕ, ◌<◌, ◌+◌, ◌⊎◌, inl, inr, Bool, true, cond, List, [], ◌∷◌, length, Option, Some, None, IfSome, is_some, MatchOption, Ordering, refl, sym, ap, subst, ◌∙◌, arith}
use Rattle.std.specs.declared.cmp.Ordering.TheVariants.{Less, Equal, Greater}
use Rattle.std.specs.List.{All, list_any}
use Rattle.std.specs.Ordering.{nat_cmp, is_eq}
use Rattle.std.specs.BTreeMap.{is_at}
use Rattle.std.proofs.lemmas.Bool.{cases_Bool, cond-true, cond-false, false≢true, true≢false}
use Rattle.std.proofs.lemmas.Cmp.{ranked, tied_itself, nat_cmp_total}
use Rattle.std.proofs.lemmas.Map.Lookups.{exact_unsigned}
use Rattle.mn_base.specs.Among.{Among}
use Rattle.mn_base.proofs.Members.{All-Among, Among-from-list_any, list_any-true}
use Rattle.ownership.specs.Turning.{AreEmpty, PopsLeast}

is_equal : (o : Ordering) → is_eq o ≡ true → o ≡ Equal
is_equal Less passes = absurd (false≢true passes)
is_equal Equal passes = refl
is_equal Greater passes = absurd (false≢true passes)

at_itself : (k : ℕ) → is_at (nat_cmp k) k ≡ true
at_itself k = ap is_eq (tied_itself nat_cmp_total k)

contains_among : (k : ℕ) (ks : List ℕ) → list_any (is_at (nat_cmp k)) ks ≡ true → Among k ks
contains_among k ks passes =
    let found = Among-from-list_any (is_at (nat_cmp k)) ks passes in
    subst (λ e. Among e ks) (sym (exact_unsigned k found.0 (is_equal (nat_cmp k found.0) found.2))) found.1

among_contains : (k : ℕ) (ks : List ℕ) → Among k ks → list_any (is_at (nat_cmp k)) ks ≡ true
among_contains k ks there = list_any-true (is_at (nat_cmp k)) k ks there (at_itself k)

-- after an insertion the pipe is a member, and all that were
pub among_pushed : (old new : List ℕ) (pipe : ℕ)
    → ((k : ℕ) → list_any (is_at (nat_cmp k)) new ≡ cond (is_at (nat_cmp pipe) k) true (list_any (is_at (nat_cmp k)) old))
    → (k : ℕ) → Among k new ↔ ((pipe ≡ k) ⊎ Among k old)
among_pushed old new pipe updates k = (
  λ among.
      elim (cases_Bool test) [
        | inl passes ↦ inl (exact_unsigned pipe k (is_equal (nat_cmp pipe k) passes))
        | inr fails ↦
            inr (contains_among k old (sym (cond-false test true had fails) ∙ sym (updates k) ∙ among_contains k new among))
      ],
  λ either.
      contains_among k new
      (updates k
      ∙ elim (cases_Bool test) [
        | inl passes ↦ cond-true test true had passes
        | inr fails ↦
            elim either [
              | inl same ↦
                  absurd (true≢false (sym (subst (λ e. is_at (nat_cmp pipe) e ≡ true) same (at_itself pipe)) ∙ fails))
              | inr there ↦ cond-false test true had fails ∙ among_contains k old there
            ]
      ]),
)
  where
    test : Bool
    test = is_at (nat_cmp pipe) k

    had : Bool
    had = list_any (is_at (nat_cmp k)) old

-- what stands after the first is greater
greater : (first : ℕ) (new : List ℕ) → All (λ k. nat_cmp first k ≡ Less) new → (k : ℕ) → Among k new → first < k
greater first new above k there = ranked first k Less (sym (All-Among (λ q. nat_cmp first q ≡ Less) k new above there))

pops : (old new : List ℕ) (first : ℕ) → old ≡ first ∷ new → All (λ k. nat_cmp first k ≡ Less) new → PopsLeast old first new
pops old new first removal above = record {
  there = subst (λ ks. Among first ks) (sym removal) (inl refl);
  rest = λ k. (
    λ later. (
      subst (λ ks. Among k ks) (sym removal) (inr later),
      λ (same : k ≡ first). let low = greater first new above k later in omega (arith, same),
    ),
    λ both. elim (subst (λ ks. Among k ks) removal both.0) [ inl here ↦ absurd (both.1 (sym here)) | inr later ↦ later ],
  );
  least = λ k there.
      elim (subst (λ ks. Among k ks) removal there) [
        | inl here ↦ omega (arith, here)
        | inr later ↦ (let low = greater first new above k later in omega arith)
      ];
  fewer = (let len : length old ≡ length (first ∷ new) = ap length removal in omega (arith, len));
}

nil_of : (xs : List ℕ) → length xs ≡ 0 → xs ≡ []
nil_of [] none = refl
nil_of (x ∷ xs) none = absurd (omega (arith, none))

pub pops_least : (old new : List ℕ) (r : Option ℕ) → ((is_some r ≡ true) ↔ (0 < length old))
    → length new + cond (is_some r) 1 0 ≡ length old → IfSome r (λ first. old ≡ first ∷ new)
    → IfSome r (λ first. All (λ k. nat_cmp first k ≡ Less) new)
    → MatchOption r (AreEmpty old new) (λ first. PopsLeast old first new)
pops_least [] new None variant len removal above = record { before = refl; after = nil_of new (omega (arith, len)) }
pops_least (k ∷ ks) new None variant len removal above = absurd (false≢true (variant.1 (omega arith)))
pops_least old new (Some first) variant len removal above = pops old new first removal above
