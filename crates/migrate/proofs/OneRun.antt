-- A run with moves comes to one thing: each window starts at one tick, each visit is in one window, and windows follow each other.
use Rattle.std.proofs.Common.{◌≡◌, ◌⊎◌, inl, inr, ℕ, zero, suc, ◌+◌, ◌<◌, ◌≤◌, List, [], ◌∷◌, slice_index, refl, sym, ap, ap₂, ◌∙◌, subst, arith}
use Rattle.std.specs.List.{AllZip}
use Rattle.std.proofs.lemmas.Bool.{cases_order, cases_lt}
use Rattle.journal.specs.declared.visit.Visit.{Visit}
use Rattle.journal.specs.SetupView.{SetupView}
use Rattle.journal.specs.Journal.{journal_of}
use Rattle.parcel.specs.Laws.{IsLeastFrom}
use Rattle.migrate.specs.declared.moves.Move.{Move}
use Rattle.migrate.specs.Moves.{owners_in, len_in, IsStart, HasWindows, IsOfWindow, IsRunBy, moves_below, visits_each, MovesAreOne}

module _ (S : SetupView) (moves : List Move) where
  least-one : (bound s t : ℕ) → IsLeastFrom S bound s → IsLeastFrom S bound t → s ≡ t
  least-one bound s t a b =
      let u = a.visited in
      let v = b.visited in
      let l : t ≤ u.0.tick = b.least u.0 u.1 (let k = a.late in omega (arith, k, u.2)) in
      let m : s ≤ v.0.tick = a.least v.0 v.1 (let k = b.late in omega (arith, k, v.2)) in
      omega (arith, l, m, u.2, v.2)

  -- a window starts at one tick
  pub start-one : (window s t : ℕ) → IsStart S moves window s → IsStart S moves window t → s ≡ t
  start-one zero s t a b = least-one 0 s t a b
  start-one (suc window) s t a b =
      let same : a.0 ≡ b.0 = start-one window a.0 b.0 a.1 b.1 in
      least-one (b.0 + len_in S moves window) s t
      (subst (λ (k : ℕ). IsLeastFrom S (k + len_in S moves window) s) same a.2) b.2

  -- a later window starts at the end of an earlier one, or later
  pub start-later : (window later s t : ℕ) → IsStart S moves window s → IsStart S moves later t → window < later
      → s + len_in S moves window ≤ t
  start-later window zero s t a b l = absurd (omega (arith, l))
  start-later window (suc later) s t a b l = go (cases_lt window later) (start-later window later s b.0 a b.1)
    where
      behind : b.0 + len_in S moves later ≤ t
      behind = b.2.late

      go : (window < later) ⊎ (later ≤ window) → (window < later → s + len_in S moves window ≤ b.0)
          → s + len_in S moves window ≤ t
      go (inl below) deeper = let d = deeper below in omega (arith, d, behind)
      go (inr above) deeper =
          let same : window ≡ later = omega (arith, l, above) in
          let start : b.0 ≡ s = start-one later b.0 s b.1 (subst (λ (k : ℕ). IsStart S moves k s) same a) in
          let len : len_in S moves window ≡ len_in S moves later = ap (len_in S moves) same in
          omega (arith, behind, start, len)

  -- a visit is in one window
  pub window-one : (m n : ℕ) (v : Visit) → IsOfWindow S moves m v → IsOfWindow S moves n v → m ≡ n
  window-one m n v a b = go (cases_order m n)
    where
      before : (m n : ℕ) → IsOfWindow S moves m v → IsOfWindow S moves n v → m < n → ⊥
      before m n a b l =
          let d : a.start + len_in S moves m ≤ b.start = start-later m n a.start b.start a.starts b.starts l in
          let high = a.high in
          let low = b.low in
          omega (arith, d, high, low)

      go : (m ≡ n) ⊎ ((m < n) ⊎ (n < m)) → m ≡ n
      go (inl e) = e
      go (inr (inl l)) = absurd (before m n a b l)
      go (inr (inr l)) = absurd (before n m b a l)

  -- so one core runs it
  run-one : (v : Visit) (c d : ℕ) → IsRunBy S moves v c → IsRunBy S moves v d → c ≡ d
  run-one v c d a b =
      sym a.2 ∙ ap (λ (n : ℕ). slice_index (owners_in S moves n) v.pipe) (window-one a.0 b.0 v a.1 b.1) ∙ b.2

  runs-one : (J : List Visit) (cs ds : List ℕ) → AllZip (IsRunBy S moves) J cs → AllZip (IsRunBy S moves) J ds → cs ≡ ds
  runs-one [] [] [] a b = refl
  runs-one [] [] (d ∷ ds) a b = absurd b
  runs-one [] (c ∷ cs) ds a b = absurd a
  runs-one (v ∷ J) [] ds a b = absurd a
  runs-one (v ∷ J) (c ∷ cs) [] a b = absurd b
  runs-one (v ∷ J) (c ∷ cs) (d ∷ ds) a b =
      ap₂ (λ (x : ℕ) (xs : List ℕ). x ∷ xs) (run-one v c d a.0 b.0) (runs-one J cs ds a.1 b.1)

  windows-one : (m n : ℕ) → HasWindows S moves m → HasWindows S moves n → m ≡ n
  windows-one m n a b = go (cases_order m n)
    where
      fewer : (m n : ℕ) → HasWindows S moves m → HasWindows S moves n → m < n → ⊥
      fewer m n a b l = let s = b.starts m l in a.ends s.0 s.1

      go : (m ≡ n) ⊎ ((m < n) ⊎ (n < m)) → m ≡ n
      go (inl e) = e
      go (inr (inl l)) = absurd (fewer m n a b l)
      go (inr (inr l)) = absurd (fewer n m b a l)

pub moves_are_one : (S : SetupView) → MovesAreOne S
moves_are_one S moves windows others moved more visits counts a b = (
  same,
  a.moved_are ∙ ap (moves_below moves) same ∙ sym b.moved_are,
  a.visits_are ∙ ap (visits_each S.cores) (runs-one S moves (journal_of S) a.cores b.cores a.run_by b.run_by) ∙ sym b.visits_are,
)
  where
    same : windows ≡ others
    same = windows-one S moves windows others a.windows_are b.windows_are
