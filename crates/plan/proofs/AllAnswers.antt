-- The answers of a trace, packet by packet, and what is bound and what isn't by them.
use Rattle.std.proofs.Common.{◌≡◌, ◌≤◌, ◌+◌, ℕ, suc, true, List, [], ◌∷◌, ◌++◌, length, get_or, All, Result, Ok, Err, refl, sym, ap, ap₂, ◌∙◌, arith}
use Rattle.std.specs.Prelude.{slice_index}
use Rattle.std.specs.List.{enumerate_from, zip, list_any, filter_map}
use Rattle.std.specs.Result.{result_ok}
use Rattle.std.proofs.lemmas.List.Elements.{All-head, All-tail}
use Rattle.std.proofs.lemmas.Slice.Zip.{AllZip-long}
use Rattle.changes.proofs.Lists.{AllZip-push}
use Rattle.mn_base.specs.declared.causes.Unbound.{Unbound}
use Rattle.mn_base.specs.Times.{entry_tick_of}
use Rattle.pcap_io.specs.declared.packet.Packet.{Packet}
use Rattle.journal.specs.declared.setup.PacketPlan.{PacketPlan}
use Rattle.plan.specs.Binding.{Binding}
use Rattle.plan.specs.Grounds.{Grounds}
use Rattle.plan.specs.Plans.{has_ends, bounds, uses_of, route_index, plan_of_bound, plan_if_bound, bytes_if_bound, cause_if_unbound}
use Rattle.plan.specs.Answers.{answer_of, answers_from, IsBindingBy, AreAnswered, uses_after, IsAnswer, bytes_if_answered, cause_of_answer}
use Rattle.plan.proofs.FirstUses.{uses-push, each_used, index_stays, uses_few}

-- answers whose routes keep their index stay
same_answers : (by : Grounds) (uses more : List Binding) (n : ℕ) (packets : List Packet) (bindings : List (Result Binding Unbound))
    → All (λ b. route_index more b ≡ route_index uses b) (bounds bindings)
    → answers_from by more n packets bindings ≡ answers_from by uses n packets bindings
same_answers by uses more n [] bindings same = refl
same_answers by uses more n (p ∷ packets) [] same = refl
same_answers by uses more n (p ∷ packets) (Ok b ∷ bindings) same =
    ap₂ (λ (index : ℕ) (rest : List (Result PacketPlan Unbound)).
    (let a : Result PacketPlan Unbound = Ok (record {
      number = n;
      entry_tick = entry_tick_of by.base_ns by.tick_ns p.time_ns;
      len = p.original;
      route = index;
      core = slice_index by.entries b.source;
    }) in a) ∷ rest)
    (All-head (λ c. route_index more c ≡ route_index uses c) b (bounds bindings) same)
    (same_answers by uses more (n + 1) packets bindings (All-tail (λ c. route_index more c ≡ route_index uses c) b (bounds bindings) same))
same_answers by uses more n (p ∷ packets) (Err cause ∷ bindings) same =
    ap (λ (rest : List (Result PacketPlan Unbound)). (let a : Result PacketPlan Unbound = Err cause in a) ∷ rest)
    (same_answers by uses more (n + 1) packets bindings same)

-- one answer more
answers-push : (by : Grounds) (uses : List Binding) (n : ℕ) (packets : List Packet) (bindings : List (Result Binding Unbound))
    (p : Packet) (binding : Result Binding Unbound) → length packets ≡ length bindings
    → answers_from by uses n (packets ++ p ∷ []) (bindings ++ binding ∷ [])
    ≡ answers_from by uses n packets bindings ++ answer_of by uses (n + length packets) p binding ∷ []
answers-push by uses n [] [] p binding same =
    ap (λ (k : ℕ). answer_of by uses k p binding ∷ []) (let none : n ≡ n + 0 = omega arith in none)
answers-push by uses n [] (c ∷ bindings) p binding same = absurd (omega (arith, same))
answers-push by uses n (q ∷ packets) [] p binding same = absurd (omega (arith, same))
answers-push by uses n (q ∷ packets) (c ∷ bindings) p binding same =
    ap (λ (rest : List (Result PacketPlan Unbound)). answer_of by uses n q c ∷ rest)
    (answers-push by uses (n + 1) packets bindings p binding (omega (arith, same))
    ∙ ap (λ (k : ℕ). answers_from by uses (n + 1) packets bindings ++ answer_of by uses k p binding ∷ [])
    (let next : n + 1 + length packets ≡ n + suc (length packets) = omega arith in next))

-- nothing is answered yet
pub none_answered : (by : Grounds) → AreAnswered by [] [] []
none_answered by = record { bindings = []; bound = tt; uses_are = refl; answers_are = refl }

-- one packet more is answered
pub one_answered : (by : Grounds) (packets : List Packet) (uses new : List Binding) (answers : List (Result PacketPlan Unbound)) (p : Packet)
    (number : ℕ) (answer : Result PacketPlan Unbound) → AreAnswered by packets uses answers → number ≡ length packets
    → IsAnswer by uses number p new answer → AreAnswered by (packets ++ p ∷ []) new (answers ++ answer ∷ [])
one_answered by packets uses new answers p number answer are number_is is = record {
  bindings = are.bindings ++ is.binding ∷ [];
  bound = AllZip-push (IsBindingBy by) packets are.bindings p is.binding are.bound is.bound;
  uses_are = now_used;
  answers_are =
      ap₂ (λ (xs : List (Result PacketPlan Unbound)) (x : Result PacketPlan Unbound). xs ++ x ∷ [])
      (are.answers_are ∙ sym stay)
      (is.answer_is ∙ ap (λ (k : ℕ). answer_of by new k p is.binding) (number_is ∙ zero))
      ∙ sym (answers-push by new 0 packets are.bindings p is.binding (sym (AllZip-long (IsBindingBy by) packets are.bindings are.bound)));
}
  where
    zero : length packets ≡ 0 + length packets
    zero = omega arith

    now_used : new ≡ uses_of (are.bindings ++ is.binding ∷ [])
    now_used = is.uses ∙ ap (λ (us : List Binding). uses_after us is.binding) are.uses_are ∙ sym (uses-push are.bindings is.binding)

    index : (b : Binding) → list_any (has_ends b) (uses_of are.bindings) ≡ true → route_index new b ≡ route_index uses b
    index b used =
        let before : list_any (has_ends b) uses ≡ true = ap (λ (us : List Binding). list_any (has_ends b) us) are.uses_are ∙ used in
        ap (λ (us : List Binding). route_index us b) is.uses ∙ index_stays uses is.binding b before

    stay : answers_from by new 0 packets are.bindings ≡ answers_from by uses 0 packets are.bindings
    stay =
        same_answers by uses new 0 packets are.bindings
        (λ k d within. index (get_or (bounds are.bindings) k d) (each_used (bounds are.bindings) k d within))

-- there are no more uses than packets
pub answered_few : (by : Grounds) (packets : List Packet) (uses : List Binding) (answers : List (Result PacketPlan Unbound))
    → AreAnswered by packets uses answers → length uses ≤ length packets
answered_few by packets uses answers are =
    let long : length are.bindings ≡ length packets = AllZip-long (IsBindingBy by) packets are.bindings are.bound in
    let count : length uses ≡ length (uses_of are.bindings) = ap length are.uses_are in
    omega (arith, long, count, uses_few are.bindings)

-- ---- what is bound and what isn't
pub bound_by : (by : Grounds) (uses : List Binding) (n : ℕ) (packets : List Packet) (bindings : List (Result Binding Unbound))
    → filter_map result_ok (answers_from by uses n packets bindings)
    ≡ filter_map (plan_if_bound by.base_ns by.tick_ns by.entries uses) (enumerate_from n (zip packets bindings))
bound_by by uses n [] bindings = refl
bound_by by uses n (p ∷ packets) [] = refl
bound_by by uses n (p ∷ packets) (Ok b ∷ bindings) =
    ap (λ (rest : List PacketPlan). plan_of_bound by.base_ns by.tick_ns by.entries uses n p b ∷ rest) (bound_by by uses (n + 1) packets bindings)
bound_by by uses n (p ∷ packets) (Err cause ∷ bindings) = bound_by by uses (n + 1) packets bindings

pub bytes_by : (by : Grounds) (uses : List Binding) (n : ℕ) (packets : List Packet) (bindings : List (Result Binding Unbound))
    → filter_map (λ p. bytes_if_answered p.0 p.1) (zip packets (answers_from by uses n packets bindings))
    ≡ filter_map bytes_if_bound (zip packets bindings)
bytes_by by uses n [] bindings = refl
bytes_by by uses n (p ∷ packets) [] = refl
bytes_by by uses n (p ∷ packets) (Ok b ∷ bindings) =
    ap (λ (rest : List (List ℕ)). p.bytes ∷ rest) (bytes_by by uses (n + 1) packets bindings)
bytes_by by uses n (p ∷ packets) (Err cause ∷ bindings) = bytes_by by uses (n + 1) packets bindings

pub causes_by : (by : Grounds) (uses : List Binding) (n : ℕ) (packets : List Packet) (bindings : List (Result Binding Unbound))
    → length packets ≡ length bindings
    → filter_map cause_of_answer (enumerate_from n (answers_from by uses n packets bindings))
    ≡ filter_map cause_if_unbound (enumerate_from n bindings)
causes_by by uses n [] [] same = refl
causes_by by uses n [] (c ∷ bindings) same = absurd (omega (arith, same))
causes_by by uses n (p ∷ packets) [] same = absurd (omega (arith, same))
causes_by by uses n (p ∷ packets) (Ok b ∷ bindings) same = causes_by by uses (n + 1) packets bindings (omega (arith, same))
causes_by by uses n (p ∷ packets) (Err cause ∷ bindings) same =
    ap (λ (rest : List (ℕ × Unbound)). (n, cause) ∷ rest) (causes_by by uses (n + 1) packets bindings (omega (arith, same)))
