-- Steps of the loops that make the parts of a setup.
use Rattle.std.proofs.Common.{◌≡◌, ◌<◌, ◌+◌, ◌++◌, suc, ℕ, List, [], ◌∷◌, length, take, get_or, Result, Ok, Err, ◌∙◌, ap, arith}
use Rattle.std.specs.List.{AllZip, enumerate_from, filter_map}
use Rattle.std.proofs.lemmas.List.{take_more, length-take-le, append-nil}
use Rattle.std.proofs.lemmas.List.Elements.{filter_map-append}
use Rattle.changes.proofs.Lists.{AllZip-push}
use Rattle.mn_base.specs.declared.causes.Unbound.{Unbound}
use Rattle.journal.specs.declared.setup.PacketPlan.{PacketPlan}
use Rattle.plan.specs.Answers.{cause_of_answer}

-- one pair more of two lists that agree
pub AllZip-next : {A B : Type 0} (R : A → B → Type 0) (xs : List A) (ys : List B) (i : ℕ) (d : A) (y : B) → i < length xs
    → AllZip R (take i xs) ys → R (get_or xs i d) y → AllZip R (take (i + 1) xs) (ys ++ y ∷ [])
AllZip-next R xs ys i d y within all one = rw (take_more xs i d within) (AllZip-push R (take i xs) ys (get_or xs i d) y all one)

enumerate-push : {X : Type 0} (n : ℕ) (xs : List X) (x : X) → enumerate_from n (xs ++ x ∷ []) ≡ enumerate_from n xs ++ (n + length xs, x) ∷ []
enumerate-push n [] x = ap (λ (k : ℕ). (k, x) ∷ []) (let same : n ≡ n + 0 = omega arith in same)
enumerate-push {X} n (y ∷ xs) x =
    ap (λ (zs : List (ℕ × X)). (n, y) ∷ zs)
    (enumerate-push (n + 1) xs x
    ∙ ap (λ (k : ℕ). enumerate_from (n + 1) xs ++ (k, x) ∷ []) (let same : n + 1 + length xs ≡ n + suc (length xs) = omega arith in same))

-- the causes with one answer more
causes_next : (answers : List (Result PacketPlan Unbound)) (i : ℕ) (d : Result PacketPlan Unbound) → i < length answers
    → filter_map cause_of_answer (enumerate_from 0 (take (i + 1) answers))
    ≡ filter_map cause_of_answer (enumerate_from 0 (take i answers)) ++ filter_map cause_of_answer ((i, get_or answers i d) ∷ [])
causes_next answers i d within =
    ap (λ (xs : List (Result PacketPlan Unbound)). filter_map cause_of_answer (enumerate_from 0 xs)) (take_more answers i d within)
    ∙ ap (filter_map cause_of_answer) (enumerate-push 0 (take i answers) (get_or answers i d))
    ∙ filter_map-append cause_of_answer (enumerate_from 0 (take i answers)) ((0 + length (take i answers), get_or answers i d) ∷ [])
    ∙ ap (λ (k : ℕ). filter_map cause_of_answer (enumerate_from 0 (take i answers)) ++ filter_map cause_of_answer ((k, get_or answers i d) ∷ []))
    (let long : length (take i answers) ≡ i = length-take-le i answers (omega (arith, within)) in omega (arith, long))

pub cause_more : (answers : List (Result PacketPlan Unbound)) (i : ℕ) (cause : Unbound) (d : Result PacketPlan Unbound) → i < length answers
    → get_or answers i d ≡ Err cause
    → filter_map cause_of_answer (enumerate_from 0 (take (i + 1) answers))
    ≡ filter_map cause_of_answer (enumerate_from 0 (take i answers)) ++ (i, cause) ∷ []
cause_more answers i cause d within is =
    causes_next answers i d within
    ∙ ap (λ (x : Result PacketPlan Unbound). filter_map cause_of_answer (enumerate_from 0 (take i answers)) ++ filter_map cause_of_answer ((i, x) ∷ [])) is

pub no_cause_more : (answers : List (Result PacketPlan Unbound)) (i : ℕ) (plan : PacketPlan) (d : Result PacketPlan Unbound) → i < length answers
    → get_or answers i d ≡ Ok plan
    → filter_map cause_of_answer (enumerate_from 0 (take (i + 1) answers)) ≡ filter_map cause_of_answer (enumerate_from 0 (take i answers))
no_cause_more answers i plan d within is =
    causes_next answers i d within
    ∙ ap (λ (x : Result PacketPlan Unbound). filter_map cause_of_answer (enumerate_from 0 (take i answers)) ++ filter_map cause_of_answer ((i, x) ∷ [])) is
    ∙ append-nil (filter_map cause_of_answer (enumerate_from 0 (take i answers)))
