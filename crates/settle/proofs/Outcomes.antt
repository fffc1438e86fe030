-- What was gathered is the outcome.
use Rattle.std.proofs.Common.{◌≡◌, ℕ, List, [], ◌∷◌, length, map, filter_map, refl, ap, ◌∙◌, subst}
use Rattle.std.specs.List.{zip, cons_option, range_with_len}
use Rattle.std.specs.List.Sorted.{IsPermutation, IsSortedByKey}
use Rattle.journal.specs.declared.setup.PacketPlan.{PacketPlan}
use Rattle.journal.specs.declared.visit.Visit.{Visit}
use Rattle.journal.specs.declared.fate.Fate.{Fate}
use Rattle.journal.specs.SetupView.{SetupView}
use Rattle.journal.specs.IsSetup.{IsSetup}
use Rattle.journal.specs.Fates.{fate_after}
use Rattle.settle.specs.declared.outcome.Leaving.{Leaving}
use Rattle.settle.specs.OutcomeView.{OutcomeView}
use Rattle.parcel.specs.Counts.{counts_of}
use Rattle.settle.specs.IsOutcome.{leaving_of, drop_of, IsOutcome}
use Rattle.parcel.proofs.InOrder.{pair_cmp}
use Rattle.settle.proofs.InOrder.{tick_and_packet, leavings-rise, packets-differ, sorted-in_order}

-- a list of fates beside the packets is the packets, each with its fate
leavings-beside : (fate : PacketPlan → Fate) (ps : List PacketPlan) (bytes : List (List ℕ))
    → filter_map (λ p. leaving_of p.0.0.number p.1 p.0.1) (zip (zip ps (map fate ps)) bytes) ≡ filter_map (λ p. leaving_of p.0.number p.1
    (fate p.0)) (zip ps bytes)
leavings-beside fate [] bytes = refl
leavings-beside fate (p ∷ ps) [] = refl
leavings-beside fate (p ∷ ps) (b ∷ bytes) =
    ap (cons_option (leaving_of p.number b (fate p))) (leavings-beside fate ps bytes)

-- a list of fates beside the packets drops the packets, each with its fate
pub drops-beside : (fate : PacketPlan → Fate) (ps : List PacketPlan)
    → filter_map (λ p. drop_of p.0.number p.1) (zip ps (map fate ps)) ≡ filter_map (λ p. drop_of p.number (fate p)) ps
drops-beside fate [] = refl
drops-beside fate (p ∷ ps) = ap (cons_option (drop_of p.number (fate p))) (drops-beside fate ps)

-- what was gathered, where ps and qs are what the code reads as the packets
pub record IsGathered (S : SetupView) (visits : List Visit) (bytes : List (List ℕ)) (o : OutcomeView) : Type 0 where
  pub fates : List Fate
  pub ps : List PacketPlan
  pub qs : List PacketPlan
  pub left : List Leaving
  pub setup : IsSetup S
  pub as_many : length bytes ≡ length S.packets
  pub fates_are : fates ≡ map (fate_after visits) S.packets
  pub ps_are : ps ≡ S.packets
  pub qs_are : qs ≡ S.packets
  pub left_are : left ≡ filter_map (λ p. leaving_of p.0.0.number p.1 p.0.1) (zip (zip ps fates) bytes)
  pub moved : IsPermutation left o.leaving
  pub sorted : IsSortedByKey tick_and_packet pair_cmp o.leaving
  pub dropped : o.dropped ≡ filter_map (λ p. drop_of p.0.number p.1) (zip qs fates)
  pub counted : o.pipe_counts ≡ map (counts_of visits) (range_with_len 0 (length S.pipes))

pub IsOutcome-gathered : {S : SetupView} {visits : List Visit} {bytes : List (List ℕ)} {o : OutcomeView} → IsGathered S visits bytes o
    → IsOutcome S visits bytes o
IsOutcome-gathered {S} {visits} {bytes} {o} g =
    let found =
    g.left_are
    ∙ ap (λ ps. filter_map (λ p. leaving_of p.0.0.number p.1 p.0.1) (zip (zip ps g.fates) bytes)) g.ps_are
    ∙ ap (λ fates. filter_map (λ p. leaving_of p.0.0.number p.1 p.0.1) (zip (zip S.packets fates) bytes)) g.fates_are
    ∙ leavings-beside (fate_after visits) S.packets bytes in
    let permuted = subst (λ xs. IsPermutation xs o.leaving) found g.moved in
    let rise = leavings-rise (fate_after visits) S.packets bytes g.setup.numbers_rise in
    record {
      each_has_bytes = g.as_many;
      leaving = permuted;
      in_order = sorted-in_order o.leaving g.sorted (packets-differ _ o.leaving rise permuted);
      dropped =
          g.dropped
          ∙ ap (λ qs. filter_map (λ p. drop_of p.0.number p.1) (zip qs g.fates)) g.qs_are
          ∙ ap (λ fates. filter_map (λ p. drop_of p.0.number p.1) (zip S.packets fates)) g.fates_are
          ∙ drops-beside (fate_after visits) S.packets;
      pipe_counts = g.counted;
    }
