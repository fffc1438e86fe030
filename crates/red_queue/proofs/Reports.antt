-- Counts and texts of a report, one visit or packet after the other.
use Rattle.std.proofs.Common.{◌≡◌, ℕ, ◌+◌, ◌^◌, ◌<◌, ◌≤◌, ◌==◌, Bool, true, false, cond, ◌&&◌, List, [], ◌∷◌, ◌++◌, length, filter, take, get_or, Option, Some, slice_get, refl, sym, ap, ap₂, ◌∙◌, subst, arith, append_assoc, add-one}
use Rattle.std.specs.Option.{option_map_or}
use Rattle.std.specs.Prelude.{codes}
use Rattle.std.proofs.lemmas.List.{length-take-le, get_or_default}
use Rattle.std.proofs.lemmas.Option.{slice_get_read}
use Rattle.std.proofs.lemmas.List.Filters.{length-filter_more}
use Rattle.red_queue.specs.declared.fate.RedFate.{RedFate}
use Rattle.red_queue.specs.declared.report_text.Counts.{Counts}
use Rattle.red_queue.specs.declared.step.RedStep.{RedStep}
use Rattle.red_queue.specs.declared.step.RedStep.TheVariants.{Lost, Early, Full, Pass}
use Rattle.red_queue.specs.declared.visit.RedVisit.{RedVisit}
use Rattle.red_queue.specs.SetupView.{RedSetupView}
use Rattle.red_queue.specs.Fates.{fates_by}
use Rattle.red_queue.specs.Outcome.{is_lost_step}
use Rattle.red_queue.specs.Report.{is_passed_step, is_full_step, is_early_step, red_step_count, red_counts_by, counted, counted_at, HasRedRoom, HaveRedRoom, AreCounts, IsCounted, text_line, red_packets_line, pipe_text, red_drop_line, drop_text, texts_below, red_report_text}

abbrev one : Bool → ℕ
one b = cond b 1 0

-- one visit more of the list counts where it is to the pipe and has such a step
count-more : (has : RedStep → Bool) (J : List RedVisit) (pipe i : ℕ) (d : RedVisit) → i < length J
    → red_step_count has (take (i + 1) J) pipe
    ≡ red_step_count has (take i J) pipe + one (((get_or J i d).hop == pipe) && has (get_or J i d).step)
count-more has J pipe i d within = length-filter_more (λ (v : RedVisit). (v.hop == pipe) && has v.step) J i d within

-- no more visits are counted than there are
few-counted : (has : RedStep → Bool) (J : List RedVisit) (pipe : ℕ) → red_step_count has J pipe ≤ length J
few-counted has [] pipe = omega arith
few-counted has (v ∷ J) pipe = go ((v.hop == pipe) && has v.step) (few-counted has J pipe)
  where
    go : (b : Bool) → red_step_count has J pipe ≤ length J
        → length (cond b (v ∷ filter (λ (u : RedVisit). (u.hop == pipe) && has u.step) J) (filter (λ (u : RedVisit). (u.hop == pipe) && has u.step) J))
        ≤ length (v ∷ J)
    go true rest = omega arith
    go false rest = omega arith

pub counts-room : (J : List RedVisit) (pipe i : ℕ) (c : Counts) → i < length J → length J < 2 ^ 64
    → c ≡ red_counts_by (take i J) pipe → HasRedRoom c
counts-room J pipe i c within fits is =
    let front : length (take i J) ≡ i = length-take-le i J (omega arith) in
    subst HasRedRoom (sym is) (record {
      passed = let few = few-counted is_passed_step (take i J) pipe in omega (arith, few, front);
      lost = let few = few-counted is_lost_step (take i J) pipe in omega (arith, few, front);
      full = let few = few-counted is_full_step (take i J) pipe in omega (arith, few, front);
      early = let few = few-counted is_early_step (take i J) pipe in omega (arith, few, front);
    })

-- counts are equal where their parts are
same_counts : (c d : Counts) → c.passed ≡ d.passed → c.lost ≡ d.lost → c.full ≡ d.full → c.early ≡ d.early → c ≡ d
same_counts c d passed lost full early =
    let make : ℕ → ℕ → ℕ → ℕ → Counts = λ p l f e. record { passed = p; lost = l; full = f; early = e } in
    ap₂ (λ (p l : ℕ). make p l c.full c.early) passed lost ∙ ap₂ (λ (f e : ℕ). make d.passed d.lost f e) full early

up : (n : ℕ) → n ≡ n + 0
up n = omega arith

-- one visit more of the list is counted, if it is to the pipe
pub counts-next : (J : List RedVisit) (pipe i : ℕ) (d : RedVisit) (c new : Counts) → i < length J
    → c ≡ red_counts_by (take i J) pipe → new ≡ counted_at pipe c (get_or J i d) → new ≡ red_counts_by (take (i + 1) J) pipe
counts-next J pipe i d c new within so_far is =
    is ∙ ap (λ (k : Counts). counted_at pipe k (get_or J i d)) so_far ∙ go ((get_or J i d).hop == pipe) (get_or J i d).step refl refl
  where
    before : Counts
    before = red_counts_by (take i J) pipe

    more : (has : RedStep → Bool) (b : Bool) (s : RedStep) → ((get_or J i d).hop == pipe) ≡ b → (get_or J i d).step ≡ s
        → red_step_count has (take (i + 1) J) pipe ≡ red_step_count has (take i J) pipe + one (b && has s)
    more has b s here same =
        count-more has J pipe i d within
        ∙ ap (λ (e : Bool). red_step_count has (take i J) pipe + one (e && has (get_or J i d).step)) here
        ∙ ap (λ (t : RedStep). red_step_count has (take i J) pipe + one (b && has t)) same

    all : (b : Bool) (s : RedStep) → ((get_or J i d).hop == pipe) ≡ b → (get_or J i d).step ≡ s → (k : Counts)
        → k.passed ≡ red_step_count is_passed_step (take i J) pipe + one (b && is_passed_step s)
        → k.lost ≡ red_step_count is_lost_step (take i J) pipe + one (b && is_lost_step s)
        → k.full ≡ red_step_count is_full_step (take i J) pipe + one (b && is_full_step s)
        → k.early ≡ red_step_count is_early_step (take i J) pipe + one (b && is_early_step s)
        → k ≡ red_counts_by (take (i + 1) J) pipe
    all b s here same k passed lost full early =
        same_counts k (red_counts_by (take (i + 1) J) pipe)
        (passed ∙ sym (more is_passed_step b s here same)) (lost ∙ sym (more is_lost_step b s here same))
        (full ∙ sym (more is_full_step b s here same)) (early ∙ sym (more is_early_step b s here same))

    go : (b : Bool) (s : RedStep) → ((get_or J i d).hop == pipe) ≡ b → (get_or J i d).step ≡ s
        → cond b (counted before s) before ≡ red_counts_by (take (i + 1) J) pipe
    go false s here same = all false s here same before (up _) (up _) (up _) (up _)
    go true Lost here same = all true Lost here same (counted before Lost) (up _) refl (up _) (up _)
    go true Early here same = all true Early here same (counted before Early) (up _) (up _) (up _) refl
    go true Full here same = all true Full here same (counted before Full) (up _) (up _) refl (up _)
    go true (Pass exit) here same = all true (Pass exit) here same (counted before (Pass exit)) refl (up _) (up _) (up _)

-- all counts so far have room for one visit more
pub all-room : (J : List RedVisit) (pipes i : ℕ) (counts : List Counts) → i < length J → length J < 2 ^ 64
    → AreCounts (take i J) pipes counts → HaveRedRoom counts
all-room J pipes i counts within fits a = λ pipe d here.
    counts-room J pipe i _ within fits (a.each pipe d (omega (arith, here, a.count)))

-- one visit more of the list is counted at its pipe
pub all-next : (J : List RedVisit) (pipes i : ℕ) (d : RedVisit) (counts new : List Counts) → i < length J
    → AreCounts (take i J) pipes counts → IsCounted (get_or J i d) counts new → AreCounts (take (i + 1) J) pipes new
all-next J pipes i d counts new within a one = record {
  count = one.count ∙ a.count;
  each = λ pipe e here.
      counts-next J pipe i d _ _ within (a.each pipe e here) (one.each pipe e (omega (arith, here, a.count)));
}

-- texts below a number, and the next one
pub texts-next : (text_of : ℕ → List ℕ) (n : ℕ) (before now new one : List ℕ) → now ≡ before ++ texts_below text_of n
    → new ≡ now ++ one → one ≡ text_of n → new ≡ before ++ texts_below text_of (n + 1)
texts-next text_of n before now new one so_far is same =
    is ∙ ap₂ (λ (a b : List ℕ). a ++ b) so_far same
    ∙ append_assoc before (texts_below text_of n) (text_of n)
    ∙ ap (λ k. before ++ texts_below text_of k) (sym (add-one n))

-- the same for the line of a packet by its fate
pub drops-next : (fates : List RedFate) (n : ℕ) (d : RedFate) (before now new : List ℕ) → n < length fates
    → now ≡ before ++ texts_below (drop_text fates) n → new ≡ now ++ red_drop_line n (get_or fates n d)
    → new ≡ before ++ texts_below (drop_text fates) (n + 1)
drops-next fates n d before now new within so_far is =
    let at : slice_get fates n ≡ Some (get_or fates n d) =
    slice_get_read fates (length fates) n (get_or fates n d) refl within (get_or_default fates n d (get_or fates n d) within) in
    texts-next (drop_text fates) n before now new (red_drop_line n (get_or fates n d)) so_far is
    (sym (ap (λ (o : Option RedFate). option_map_or (red_drop_line n) o []) at))

-- the parts of a report together
pub report-written : (R : RedSetupView) (J : List RedVisit) (fates : List RedFate) (pipes : ℕ) (head packets rows all : List ℕ)
    → fates ≡ fates_by R J → pipes ≡ length R.pipes
    → head ≡ text_line (codes "modelnet red report 1") → packets ≡ head ++ red_packets_line fates
    → rows ≡ packets ++ texts_below (pipe_text J) pipes → all ≡ rows ++ texts_below (drop_text fates) (length fates)
    → all ≡ red_report_text R J
unfolding red_report_text
report-written R J fates pipes head packets rows all same count first second third fourth =
    let title : List ℕ = text_line (codes "modelnet red report 1") in
    let counts : List ℕ = red_packets_line (fates_by R J) in
    let lines : List ℕ = texts_below (pipe_text J) (length R.pipes) in
    let to_packets : packets ≡ title ++ counts =
    second ∙ ap₂ (λ (a : List ℕ) (fs : List RedFate). a ++ red_packets_line fs) first same in
    let to_rows : rows ≡ (title ++ counts) ++ lines =
    third ∙ ap₂ (λ (a : List ℕ) (n : ℕ). a ++ texts_below (pipe_text J) n) to_packets count in
    fourth
    ∙ ap₂ (λ (a : List ℕ) (fs : List RedFate). a ++ texts_below (drop_text fs) (length fs)) to_rows same
