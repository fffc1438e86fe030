-- A map has one key less when one that it has is taken out.
use Rattle.std.proofs.Common.{◌≡◌, ⊎_elim, ℕ, ◌+◌, ◌-◌, ◌≤◌, Bool, cond, List, IsSome, is_some, sym, ap, ◌∙◌, subst, arith}
use Rattle.std.specs.Ordering.{nat_cmp}
use Rattle.std.specs.Cmp.{nat_cmp_total}
use Rattle.std.specs.FinMap as fin
use Rattle.std.proofs.lemmas.Bool.{cases_eq, false≢true}

some-key : (m : fin.FinMap nat_cmp (List ℕ)) (k : ℕ) → IsSome (fin.get m k) → 1 ≤ fin.len m
some-key m k some = ⊎_elim (λ none. absurd (clash none)) (λ other. omega (arith, other)) (cases_eq (fin.len m) 0)
  where
    clash : fin.len m ≡ 0 → ⊥
    clash none =
        false≢true (sym (ap is_some (fin.get-empty nat_cmp k))
        ∙ subst (λ (n : fin.FinMap nat_cmp (List ℕ)). IsSome (fin.get n k)) (fin.empty_of_len m none) some)

pub one-less : (m : fin.FinMap nat_cmp (List ℕ)) (k : ℕ) → IsSome (fin.get m k) → fin.len (fin.remove m k) + 1 ≡ fin.len m
one-less m k some =
    let less : fin.len (fin.remove m k) ≡ fin.len m - 1 =
    fin.len-remove nat_cmp_total m k ∙ ap (λ (b : Bool). cond b (fin.len m - 1) (fin.len m)) some in
    omega (arith, less, some-key m k some)
