-- A window comes to its end: no core makes more visits than the journal has.
use Rattle.std.proofs.Common.{◌≡◌, ℕ, ◌+◌, ◌-◌, ◌^◌, ◌<◌, ◌≤◌, ◌==◌, Bool, true, false, cond, List, [], ◌∷◌, ◌++◌, length, filter, sym, ap, ◌∙◌, subst, arith}
use Rattle.std.proofs.lemmas.List.{length-append}
use Rattle.mn_base.specs.declared.due.Due.{Due}
use Rattle.journal.specs.declared.visit.Visit.{Visit}
use Rattle.journal.specs.Journal.{journal_of}
use Rattle.journal.specs.SetupView.{SetupView}
use Rattle.parcel.specs.declared.counts.CoreCounts.{CoreCounts}
use Rattle.parcel.specs.Owners.{owner_of}
use Rattle.parcel.specs.Lookahead.{lookahead_of}
use Rattle.parcel.specs.Laws.{Starts}
use Rattle.core_loop.specs.Work.{WorkView, Runs, Chooses, StaysAtWork, IsEnd}
use Rattle.parcel.proofs.FewWindows.{few_visits}

-- a filter keeps no more than there are
no-more : {X : Type 0} (p : X → Bool) (xs : List X) → length (filter p xs) ≤ length xs
no-more p [] = omega arith
no-more {X} p (x ∷ xs) = go (p x) (no-more p xs)
  where
    go : (b : Bool) → length (filter p xs) ≤ length xs → length (cond b (x ∷ filter p xs) (filter p xs)) ≤ length (x ∷ xs)
    go true l = omega (arith, l)
    go false l = omega (arith, l)

pub visits-within : (w : WorkView) → Runs w → w.counts.visits ≤ length (journal_of w.setup)
visits-within w r =
    let own : Visit → Bool = λ v. owner_of w.setup v.pipe == w.number in
    let most : length (filter own r.front) ≤ length r.front = no-more own r.front in
    let whole : length (r.front ++ r.rest) ≡ length (journal_of w.setup) = ap length r.split.whole in
    let visits : w.counts.visits ≡ length (filter own r.front) = r.have_left.visits in
    omega (arith, most, whole, visits, length-append r.front r.rest)

-- so with one visit more, fewer are left
pub fewer-left : (v w : WorkView) → StaysAtWork v w → Runs w → w.counts.visits ≡ v.counts.visits + 1
    → length (journal_of w.setup) - w.counts.visits < length (journal_of v.setup) - v.counts.visits
fewer-left v w s r more =
    let most : w.counts.visits ≤ length (journal_of w.setup) = visits-within w r in
    let same : length (journal_of w.setup) ≡ length (journal_of v.setup) = ap (λ S. length (journal_of S)) s.same_setup in
    omega (arith, most, same, more)

-- what stays twice, stays
pub stays-both : (u v w : WorkView) → StaysAtWork u v → StaysAtWork v w → StaysAtWork u w
stays-both u v w a b =
    let again : CoreCounts → CoreCounts = λ c. record c { visits = w.counts.visits } in
    record {
      same_setup = b.same_setup ∙ a.same_setup;
      same_number = b.same_number ∙ a.same_number;
      same_counts = b.same_counts ∙ ap again a.same_counts;
    }

-- the window has the same end
pub end-stays : (v w : WorkView) (end : ℕ) → StaysAtWork v w → IsEnd v end → IsEnd w end
end-stays v w end s e = (e.0, starts, ends)
  where
    windows : w.counts.windows ≡ v.counts.windows
    windows = ap (λ (c : CoreCounts). c.windows) s.same_counts

    starts : Starts w.setup w.counts.windows e.0
    starts = subst (λ (S : SetupView). Starts S w.counts.windows e.0) (sym s.same_setup)
        (subst (λ (n : ℕ). Starts v.setup n e.0) (sym windows) e.1)

    ends : e.0 + lookahead_of w.setup ≡ end
    ends = ap (λ (S : SetupView). e.0 + lookahead_of S) s.same_setup ∙ e.2

-- so few that the count fits
pub visits-few : (w : WorkView) (x : Due) → Chooses w x → w.counts.visits < 2 ^ 28
visits-few w x c =
    let own : Visit → Bool = λ v. owner_of w.setup v.pipe == w.number in
    let most : length (filter own c.front) ≤ length c.front = no-more own c.front in
    let whole : length (c.front ++ c.rest) ≡ length (journal_of w.setup) = ap length c.split.whole in
    let visits : w.counts.visits ≡ length (filter own c.front) = c.have_left.visits in
    omega (arith, most, whole, visits, length-append c.front c.rest, few_visits w.setup c.split.is_setup)
