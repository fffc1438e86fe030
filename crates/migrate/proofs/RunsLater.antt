-- Parts of a window, one after the other.
use Rattle.std.proofs.Common.{◌≡◌, ◌⊎◌, inl, inr, ⊎_elim, ℕ, ◌+◌, ◌<◌, ◌≤◌, ◌==◌, Bool, true, false, cond, List, [], ◌∷◌, ◌++◌, length, filter, Some, slice_index, append-nil, append_assoc, length-append, add-zero, refl, sym, ap, ◌∙◌, subst, arith}
use Rattle.std.proofs.lemmas.Bool.{cases_lt}
use Rattle.std.proofs.lemmas.Option.{slice_get_within}
use Rattle.journal.specs.declared.visit.Visit.{Visit}
use Rattle.journal.specs.SetupView.{SetupView}
use Rattle.journal.specs.IsSetup.{IsSetup}
use Rattle.journal.specs.Journal.{journal_of}
use Rattle.journal.proofs.HeldFirst.{at-within}
use Rattle.mn_base.proofs.Members.{Among-append}
use Rattle.migrate.specs.ShelvesView.{ShelfView, ShelvesView, IsShelfOf}
use Rattle.migrate.specs.declared.window.Head.{Head}
use Rattle.migrate.specs.Windows.{visits_of_core}
use Rattle.migrate.specs.Running.{IsHeadOf, HaveNone, HaveNoneBefore, RunsOn, StaysAtRun, RunsPart, HasRunBefore}
use Rattle.migrate.proofs.Fronts.{rest-of}

visits-more : (owners : List ℕ) (core : ℕ) (xs ys : List Visit)
    → visits_of_core owners core (xs ++ ys) ≡ visits_of_core owners core xs + visits_of_core owners core ys
visits-more owners core [] ys = zero-plus (visits_of_core owners core ys)
  where
    zero-plus : (n : ℕ) → n ≡ 0 + n
    zero-plus n = omega arith
visits-more owners core (x ∷ xs) ys = go (slice_index owners x.pipe == core) (visits-more owners core xs ys)
  where
    go : (b : Bool) → visits_of_core owners core (xs ++ ys) ≡ visits_of_core owners core xs + visits_of_core owners core ys
        → length (cond b (x ∷ filter (λ v. slice_index owners v.pipe == core) (xs ++ ys))
        (filter (λ v. slice_index owners v.pipe == core) (xs ++ ys)))
        ≡ length (cond b (x ∷ filter (λ v. slice_index owners v.pipe == core) xs) (filter (λ v. slice_index owners v.pipe == core) xs))
        + visits_of_core owners core ys
    go true e = omega (arith, e)
    go false e = e

-- where nothing is made
pub runs-nothing : (end : ℕ) (w : ShelvesView) → HasRunBefore end w w
runs-nothing end w bytes J r = record {
  part = [];
  early = λ u m. absurd m;
  runs = subst (λ (K : List Visit). RunsOn bytes K w) (sym (append-nil J)) r;
  visits = λ core s t e f.
      (let both : Some s ≡ Some t = sym e ∙ f in
      let same : s ≡ t = cc in
      ap (λ (u : ShelfView). u.visits) (sym same) ∙ sym (add-zero s.visits));
}

-- what is before an earlier tick is before a later one
pub runs-wider : (low high : ℕ) (v w : ShelvesView) → low ≤ high → HasRunBefore low v w → HasRunBefore high v w
runs-wider low high v w l f bytes J r =
    let p = f bytes J r in
    record { part = p.part; early = λ u m. (let k = p.early u m in omega (arith, k, l)); runs = p.runs; visits = p.visits }

-- one part after another
pub runs-then : (end : ℕ) (v w x : ShelvesView) → StaysAtRun v w → HasRunBefore end v w → HasRunBefore end w x → HasRunBefore end v x
runs-then end v w x stays f g bytes J r = record {
  part = p.part ++ q.part;
  early = λ u m. ⊎_elim (λ a. p.early u a) (λ a. q.early u a) (Among-append u p.part q.part m);
  runs = subst (λ (K : List Visit). RunsOn bytes K x) (append_assoc J p.part q.part) q.runs;
  visits = visits;
}
  where
    p : RunsPart bytes J end v w
    p = f bytes J r

    q : RunsPart bytes (J ++ p.part) end w x
    q = g bytes (J ++ p.part) p.runs

    visits : (core : ℕ) (s u : ShelfView) → IsShelfOf v core s → IsShelfOf x core u
        → u.visits ≡ s.visits + visits_of_core v.owners core (p.part ++ q.part)
    visits core s u e h =
        let within : core < length w.shelves =
        (let l = slice_get_within v.shelves core s e in
        omega (arith, l, r.after.one_a_core, p.runs.after.one_a_core, ap (λ (S : SetupView). S.cores) stays.setup)) in
        let t = at-within w.shelves core within in
        let first : t.0.visits ≡ s.visits + visits_of_core v.owners core p.part = p.visits core s t.0 e t.1 in
        let then : u.visits ≡ t.0.visits + visits_of_core w.owners core q.part = q.visits core t.0 u t.1 h in
        let owners : visits_of_core w.owners core q.part ≡ visits_of_core v.owners core q.part =
        ap (λ (o : List ℕ). visits_of_core o core q.part) stays.owners in
        let whole = visits-more v.owners core p.part q.part in
        omega (arith, first, then, owners, whole)

pub stays-same : (w : ShelvesView) → StaysAtRun w w
stays-same w = record { setup = refl; owners = refl; end = refl; windows = refl; failed = refl }

pub stays-then : (v w x : ShelvesView) → StaysAtRun v w → StaysAtRun w x → StaysAtRun v x
stays-then v w x a b = record {
  setup = b.setup ∙ a.setup;
  owners = b.owners ∙ a.owners;
  end = b.end ∙ a.end;
  windows = b.windows ∙ a.windows;
  failed = b.failed ∙ a.failed;
}

-- no more visits are made than the journal has
pub made-few : (w : ShelvesView) → IsSetup w.setup → (bytes : List (List ℕ)) (J : List Visit) → RunsOn bytes J w
    → w.made ≤ length (journal_of w.setup)
made-few w is bytes J r =
    let rest = rest-of w.setup is J r.after.growing in
    let l : length (journal_of w.setup) ≡ length J + length rest.0 = ap length rest.1 ∙ length-append J rest.0 in
    omega (arith, l, r.made)

-- and of those that were made in parts
pub then-few : (end : ℕ) (v w : ShelvesView) → IsSetup w.setup → HasRunBefore end v w → (bytes : List (List ℕ)) (J : List Visit)
    → RunsOn bytes J v → w.made ≤ length (journal_of w.setup)
then-few end v w is f bytes J r =
    let p = f bytes J r in made-few w is bytes (J ++ p.part) p.runs

-- where nothing is due, nothing is due before a tick
pub none-early : (shelves : List ShelfView) (end : ℕ) → HaveNone shelves → HaveNoneBefore shelves end
none-early shelves end none core s y e m = absurd (none core s y e m)

-- nor where the first is no earlier
pub first-late : (shelves : List ShelfView) (end : ℕ) (head : Head) → IsHeadOf shelves head → end ≤ head.due.tick
    → HaveNoneBefore shelves end
first-late shelves end head f l core s y e m = go (cases_lt y.tick head.due.tick)
  where
    go : (y.tick < head.due.tick) ⊎ (head.due.tick ≤ y.tick) → end ≤ y.tick
    go (inl early) = absurd (f.least core s y e m (inl early))
    go (inr late) = omega (arith, late, l)
