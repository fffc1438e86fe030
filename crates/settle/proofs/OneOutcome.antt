-- There is one outcome: what leaves is in order, and all else is a function of the visits.
use Rattle.std.proofs.Common.{◌≡◌, ◌<◌, List, sym, ◌∙◌, inl, inr, arith}
use Rattle.std.specs.List.Sorted.{IsPermutation}
use Rattle.std.proofs.lemmas.List.Sorted.{IsPermutation-sym, IsPermutation-trans, Contains-permutation}
use Rattle.mn_base.proofs.Members.{among-from_contains, contains-from_among}
use Rattle.parcel.proofs.InOrder.{Within, same_list}
use Rattle.settle.specs.declared.outcome.Leaving.{Leaving}
use Rattle.settle.specs.IsOutcome.{leavings, LeavesBefore}
use Rattle.settle.specs.Laws.{OutcomesAgree}

-- no packet leaves before itself, nor two before one another
never_both : (a b : Leaving) → LeavesBefore a b → LeavesBefore b a → ⊥
never_both a b (inl earlier) (inl later) = omega arith
never_both a b (inl earlier) (inr tie) = let same : b.tick ≡ a.tick = tie.0 in omega arith
never_both a b (inr tie) (inl later) = let same : a.tick ≡ b.tick = tie.0 in omega arith
never_both a b (inr tie) (inr back) =
    let there : a.packet < b.packet = tie.1 in
    let again : b.packet < a.packet = back.1 in
    omega arith

within-permutation : (xs ys : List Leaving) → IsPermutation xs ys → Within xs ys
within-permutation xs ys moved z among =
    among-from_contains z ys (Contains-permutation xs ys z moved (contains-from_among z xs among))

pub outcomes_agree : OutcomesAgree
outcomes_agree S visits bytes o p is also =
    let listed = leavings S visits bytes in
    let there = IsPermutation-trans o.leaving listed p.leaving (IsPermutation-sym listed o.leaving is.leaving) also.leaving in
    record {
      leaving =
          same_list LeavesBefore never_both o.leaving p.leaving is.in_order also.in_order
          (within-permutation o.leaving p.leaving there)
          (within-permutation p.leaving o.leaving (IsPermutation-sym o.leaving p.leaving there));
      dropped = is.dropped ∙ sym also.dropped;
      pipe_counts = is.pipe_counts ∙ sym also.pipe_counts;
    }
