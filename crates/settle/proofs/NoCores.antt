-- Cores don't show in what leaves, what is dropped and what pipes did.
use Rattle.std.proofs.Common.{◌≡◌, ℕ, List, [], ◌∷◌, length, map, filter_map, refl, sym, ap, ◌∙◌, subst}
use Rattle.std.specs.List.{zip, cons_option, range_with_len}
use Rattle.std.specs.List.Sorted.{IsPermutation}
use Rattle.std.proofs.lemmas.List.{length-map}
use Rattle.journal.specs.declared.setup.PacketPlan.{PacketPlan}
use Rattle.journal.specs.declared.visit.Visit.{Visit}
use Rattle.journal.specs.SetupView.{SetupView}
use Rattle.journal.specs.Journal.{journal_of}
use Rattle.journal.specs.Fates.{fate_after}
use Rattle.journal.specs.Laws.{coreless, bare}
use Rattle.journal.proofs.Bare.{cores_do_not_matter}
use Rattle.settle.specs.declared.outcome.Leaving.{Leaving}
use Rattle.settle.specs.declared.outcome.DropLine.{DropLine}
use Rattle.settle.specs.OutcomeView.{OutcomeView}
use Rattle.parcel.specs.Counts.{counts_of}
use Rattle.settle.specs.IsOutcome.{leaving_of, drop_of, leavings, drop_lines, IsOutcome}
use Rattle.settle.specs.Laws.{OutcomesReadNoCore}
use Rattle.settle.proofs.OneOutcome.{outcomes_agree}

module _ (J : List Visit) where
  -- the lists of packets, by their plans without entry cores
  abbrev left : List PacketPlan → List (List ℕ) → List Leaving
  left ps bytes = filter_map (λ p. leaving_of p.0.number p.1 (fate_after J p.0)) (zip ps bytes)

  abbrev dropped : List PacketPlan → List DropLine
  dropped ps = filter_map (λ p. drop_of p.number (fate_after J p)) ps

  left-coreless : (ps : List PacketPlan) (bytes : List (List ℕ)) → left (map coreless ps) bytes ≡ left ps bytes
  left-coreless [] bytes = refl
  left-coreless (p ∷ ps) [] = refl
  left-coreless (p ∷ ps) (b ∷ bytes) = ap (cons_option (leaving_of p.number b (fate_after J p))) (left-coreless ps bytes)

  dropped-coreless : (ps : List PacketPlan) → dropped (map coreless ps) ≡ dropped ps
  dropped-coreless [] = refl
  dropped-coreless (p ∷ ps) = ap (cons_option (drop_of p.number (fate_after J p))) (dropped-coreless ps)

-- the outcome of a setup is that of any other that differs in cores alone
outcome-moved : (S R : SetupView) (J : List Visit) (bytes : List (List ℕ)) (o : OutcomeView) → bare R ≡ bare S → IsOutcome R J bytes o
    → IsOutcome S J bytes o
outcome-moved S R J bytes o same is =
    let packets : map coreless R.packets ≡ map coreless S.packets = ap (λ (s : SetupView). s.packets) same in
    let pipes : R.pipes ≡ S.pipes = ap (λ (s : SetupView). s.pipes) same in
    let lists : leavings R J bytes ≡ leavings S J bytes =
    sym (left-coreless J R.packets bytes) ∙ ap (λ ps. left J ps bytes) packets ∙ left-coreless J S.packets bytes in
    let lines : drop_lines R J ≡ drop_lines S J = sym (dropped-coreless J R.packets) ∙ ap (dropped J) packets ∙ dropped-coreless J S.packets in
    record {
      each_has_bytes =
          is.each_has_bytes ∙ sym (length-map R.packets coreless) ∙ ap (λ ps. length ps) packets ∙ length-map S.packets coreless;
      leaving = subst (λ ls. IsPermutation ls o.leaving) lists is.leaving;
      in_order = is.in_order;
      dropped = is.dropped ∙ lines;
      pipe_counts = is.pipe_counts ∙ ap (λ ps. map (counts_of J) (range_with_len 0 (length ps))) pipes;
    }

pub outcomes_read_no_core : OutcomesReadNoCore
outcomes_read_no_core S R bytes o p same is also =
    let journals : journal_of R ≡ journal_of S = sym (cores_do_not_matter S R same).0 in
    outcomes_agree S (journal_of S) bytes o p is
    (outcome-moved S R (journal_of S) bytes p (sym same) (subst (λ J. IsOutcome R J bytes p) journals also))
