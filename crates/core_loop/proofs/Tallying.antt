-- The cores of a setup count in the tally, one after the other.
use Rattle.std.proofs.Common.{◌≡◌, ◌⊎◌, inl, inr, ℕ, ◌+◌, ◌*◌, ◌≤◌, ◌==◌, nat_lt, cond, Bool, length, filter, sym, ap, ◌∙◌, arith}
use Rattle.std.proofs.Math.Nat.{add-mul}
use Rattle.std.proofs.lemmas.Bool.{lt-ltb, le-ltb}
use Rattle.journal.specs.declared.visit.Visit.{Visit}
use Rattle.journal.specs.SetupView.{SetupView}
use Rattle.journal.specs.IsSetup.{IsSetup}
use Rattle.journal.specs.Journal.{journal_of}
use Rattle.parcel.specs.Owners.{owner_of}
use Rattle.parcel.specs.Windows.{window_count}
use Rattle.parcel.proofs.Origins.{owner-below}
use Rattle.core_loop.specs.TallyView.{TallyView, stopping_sum, added}
use Rattle.core_loop.specs.Turns.{own_visit_count}
use Rattle.core_loop.proofs.Counted.{three, le-below}
use Rattle.core_loop.proofs.Differ.{count-plus}
use Rattle.core_loop.proofs.Finished.{filter-all}
use Rattle.core_loop.proofs.Kept.{filter-none}

-- the visits to pipes of the cores below a number
abbrev pub visits_of : SetupView → ℕ → ℕ
visits_of S many = length (filter (λ v. nat_lt (owner_of S v.pipe) many) (journal_of S))

-- ---- sums that stop

twice : (a b c : ℕ) → stopping_sum (stopping_sum a b) c ≡ stopping_sum a (b + c)
twice a b c = omega arith

added-twice : (t : TallyView) (a b c d e f : ℕ) → added (added t a b c) d e f ≡ added t (a + d) (b + e) (c + f)
added-twice t a b c d e f =
    ap (λ (n : ℕ).
    record { cores = n; windows = stopping_sum (stopping_sum t.windows b) e; visits = stopping_sum (stopping_sum t.visits c) f })
    (twice t.cores a d)
    ∙ ap (λ (n : ℕ). record { cores = stopping_sum t.cores (a + d); windows = n; visits = stopping_sum (stopping_sum t.visits c) f }) (twice t.windows b e)
    ∙ ap (λ (n : ℕ). record { cores = stopping_sum t.cores (a + d); windows = stopping_sum t.windows (b + e); visits = n }) (twice t.visits c f)

-- ---- visits by their owners

pub visits-none : (S : SetupView) → visits_of S 0 ≡ 0
visits-none S = ap length (filter-none (λ (v : Visit). nat_lt (owner_of S v.pipe) 0) (journal_of S) (λ v a. le-ltb (owner_of S v.pipe) 0 (omega arith)))

pub visits-more : (S : SetupView) (many : ℕ) → visits_of S (many + 1) ≡ visits_of S many + own_visit_count S many
visits-more S many =
    count-plus (λ (v : Visit). nat_lt (owner_of S v.pipe) (many + 1)) (λ (v : Visit). nat_lt (owner_of S v.pipe) many)
    (λ (v : Visit). owner_of S v.pipe == many) (journal_of S)
    (λ v a. ap (λ (b : Bool). cond {A = ℕ} b 1 0) (le-below (owner_of S v.pipe) many) ∙ three (owner_of S v.pipe) many)

-- each visit has one owner, which is a core
pub visits-all : (S : SetupView) → IsSetup S → visits_of S S.cores ≡ length (journal_of S)
visits-all S is = ap length (filter-all (λ (v : Visit). nat_lt (owner_of S v.pipe) S.cores) (journal_of S) (λ v a. lt-ltb _ _ (owner-below S is v a)))

-- ---- core by core

-- so many cores are counted; before the first, the tally is as it was
abbrev pub IsCounted : SetupView → TallyView → ℕ → TallyView → Type 0
IsCounted S before many now = ((many ≡ 0) × (now ≡ before)) ⊎ (now ≡ added before many (many * window_count S) (visits_of S many))

-- one core more is counted
pub counted-more : (S : SetupView) (before : TallyView) (many : ℕ) (now next : TallyView) → IsCounted S before many now
    → next ≡ added now 1 (window_count S) (own_visit_count S many)
    → next ≡ added before (many + 1) ((many + 1) * window_count S) (visits_of S (many + 1))
counted-more S before many now next (inr is) more =
    more
    ∙ ap (λ (t : TallyView). added t 1 (window_count S) (own_visit_count S many)) is
    ∙ added-twice before many (many * window_count S) (visits_of S many) 1 (window_count S) (own_visit_count S many)
    ∙ ap (λ (n : ℕ). added before (many + 1) n (visits_of S many + own_visit_count S many)) (sym windows)
    ∙ ap (added before (many + 1) ((many + 1) * window_count S)) (sym (visits-more S many))
  where
    windows : (many + 1) * window_count S ≡ many * window_count S + window_count S
    windows = let e : (many + 1) * window_count S ≡ many * window_count S + 1 * window_count S = add-mul many 1 (window_count S) in omega (arith, e)
counted-more S before many now next (inl first) more =
    more
    ∙ ap (λ (t : TallyView). added t 1 (window_count S) (own_visit_count S many)) first.1
    ∙ ap (λ (k : ℕ). added before 1 k (own_visit_count S many)) (sym windows)
    ∙ ap (added before 1 ((many + 1) * window_count S)) (sym visits)
    ∙ ap (λ (k : ℕ). added before k ((many + 1) * window_count S) (visits_of S (many + 1))) (let e : 1 ≡ many + 1 = omega (arith, first.0) in e)
  where
    windows : (many + 1) * window_count S ≡ window_count S
    windows = (let z : many + 1 ≡ 1 = omega (arith, first.0) in
        ap (λ (k : ℕ). k * window_count S) z ∙ (let e : 1 * window_count S ≡ window_count S = omega arith in e))

    visits : visits_of S (many + 1) ≡ own_visit_count S many
    visits =
        let m = visits-more S many in
        let z : visits_of S many ≡ 0 = ap (visits_of S) first.0 ∙ visits-none S in
        omega (arith, m, z)

-- when all cores are counted, all windows and visits are
pub counted-ends : (S : SetupView) → IsSetup S → (before : TallyView) (many : ℕ) (now : TallyView) → IsCounted S before many now
    → many ≡ S.cores → now ≡ added before S.cores (S.cores * window_count S) (length (journal_of S))
counted-ends S is before many now (inl first) all = absurd (let l : 1 ≤ S.cores = is.cores_least in omega (arith, first.0, all, l))
counted-ends S is before many now (inr e) all =
    e
    ∙ ap (λ (k : ℕ). added before k (k * window_count S) (visits_of S k)) all
    ∙ ap (added before S.cores (S.cores * window_count S)) (visits-all S is)
