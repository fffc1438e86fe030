-- The packets that left pipes in a row that drop early: they can be written as a trace, and their order is one.
use Rattle.std.proofs.Common.{◌≡◌, ◌≢◌, ◌≤◌, ◌<◌, ◌+◌, ◌*◌, ℕ, zero, suc, true, false, eqb, List, [], ◌∷◌, length, map, find, Some, IsSome, All, AllPairs, refl, ap, subst, ◌∙◌, inl, inr, arith, ⊎_elim}
use Rattle.std.specs.Prelude.{slice_get}
use Rattle.std.specs.Option.{option_map}
use Rattle.std.specs.List.{cons_option}
use Rattle.std.specs.List.Sorted.{IsPermutation, IsSortedByKey}
use Rattle.std.proofs.lemmas.Bool.{eq-eqb}
use Rattle.std.proofs.lemmas.Bool.Decides.{eqb_tells}
use Rattle.std.proofs.lemmas.List.Elements.{All-cons}
use Rattle.std.proofs.lemmas.List.Kept.{AllPairs-cons}
use Rattle.std.proofs.lemmas.List.Sorted.{All-permutation, IsPermutation-sym, IsPermutation-trans, Contains-permutation}
use Rattle.std.proofs.lemmas.Option.{slice_get-map, slice_get_within, get_or_from_slice_get}
use Rattle.mn_base.proofs.Members.{among-from_contains, contains-from_among}
use Rattle.mn_base.specs.Times.{output_time}
use Rattle.mn_base.specs.declared.limits.TheConstants.{PACKET_BYTES_MAX, OUTPUT_NS_END, RECORD_NS_END}
use Rattle.journal.specs.declared.setup.PacketPlan.{PacketPlan}
use Rattle.journal.specs.SetupView.{SetupView, packet_of}
use Rattle.journal.specs.IsSetup.{IsSetup}
use Rattle.parcel.proofs.InOrder.{Within, pair_cmp, same_list}
use Rattle.settle.specs.declared.outcome.Leaving.{Leaving}
use Rattle.settle.specs.IsOutcome.{LeavesBefore}
use Rattle.settle.proofs.InOrder.{packets-differ, sorted-in_order, tick_and_packet}
use Rattle.red_queue.specs.declared.fate.RedFate.{RedFate}
use Rattle.red_queue.specs.declared.fate.RedFate.TheVariants.{Left, Dropped}
use Rattle.red_queue.specs.Laws.{AllLeaveInTime}
use Rattle.red_queue.specs.SetupView.{RedSetupView}
use Rattle.modelnet.specs.RedRun.{red_leaving_of, red_leavings, red_packet_of}
use Rattle.modelnet.proofs.Outputs.{CanBeWritten}

-- what holds of all holds of the one at a place
at_place : {X : Type 0} (P : X → Type 0) (xs : List X) (k : ℕ) (x : X) → All P xs → slice_get xs k ≡ Some x → P x
at_place P xs k x all is = subst P (get_or_from_slice_get xs k x x is) (all k x (slice_get_within xs k x is))

-- what holds of each packet that left, by its place among the packets, holds of all that left
each_leaving : (Q : Leaving → Type 0) (ps : List PacketPlan) (fates : List RedFate) (bytes : List (List ℕ))
    → ((k tick : ℕ) (p : PacketPlan) (b : List ℕ) → slice_get ps k ≡ Some p → slice_get fates k ≡ Some (Left tick)
    → slice_get bytes k ≡ Some b → Q (record { tick = tick; packet = p.number; bytes = b }))
    → All Q (red_leavings ps fates bytes)
each_leaving Q [] fates bytes each = λ i d within. absurd (omega arith)
each_leaving Q (p ∷ ps) [] bytes each = λ i d within. absurd (omega arith)
each_leaving Q (p ∷ ps) (f ∷ fates) [] each = λ i d within. absurd (omega arith)
each_leaving Q (p ∷ ps) (f ∷ fates) (b ∷ bytes) each =
    go f (λ tick is. each 0 tick p b refl (ap Some is) refl)
    (each_leaving Q ps fates bytes (λ k tick q c at_p at_f at_b. each (suc k) tick q c at_p at_f at_b))
  where
    go : (g : RedFate) → ((tick : ℕ) → g ≡ Left tick → Q (record { tick = tick; packet = p.number; bytes = b }))
        → All Q (red_leavings ps fates bytes) → All Q (cons_option (red_leaving_of p.number b g) (red_leavings ps fates bytes))
    go (Left tick) holds rest = All-cons Q _ _ (holds tick refl) rest
    go (Dropped pipe tick cause) holds rest = rest

-- in packet order their numbers rise
leavings-rise : (ps : List PacketPlan) (fates : List RedFate) (bytes : List (List ℕ)) → AllPairs (λ p q. p.number < q.number) ps
    → AllPairs (λ a b. a.packet < b.packet) (red_leavings ps fates bytes)
leavings-rise [] fates bytes up = λ i j d lt within. absurd (omega arith)
leavings-rise (p ∷ ps) [] bytes up = λ i j d lt within. absurd (omega arith)
leavings-rise (p ∷ ps) (f ∷ fates) [] up = λ i j d lt within. absurd (omega arith)
leavings-rise (p ∷ ps) (f ∷ fates) (b ∷ bytes) up =
    go f
    (each_leaving (λ left. p.number < left.packet) ps fates bytes (λ k tick q c at_p at_f at_b.
    at_place (λ (r : PacketPlan). p.number < r.number) ps k q (λ i d within. up 0 (suc i) d (omega arith) (omega arith)) at_p))
    (leavings-rise ps fates bytes (λ i j d lt within. up (suc i) (suc j) d (omega arith) (omega arith)))
  where
    go : (g : RedFate) → All (λ left. p.number < left.packet) (red_leavings ps fates bytes)
        → AllPairs (λ a b. a.packet < b.packet) (red_leavings ps fates bytes)
        → AllPairs (λ a b. a.packet < b.packet) (cons_option (red_leaving_of p.number b g) (red_leavings ps fates bytes))
    go (Left tick) above rest = AllPairs-cons (λ a b. a.packet < b.packet) _ _ above rest
    go (Dropped pipe tick cause) above rest = rest

-- sorted by tick and packet number, they are in order
pub leavings-in_order : (ps : List PacketPlan) (fates : List RedFate) (bytes : List (List ℕ)) (leaving : List Leaving)
    → AllPairs (λ p q. p.number < q.number) ps → IsPermutation (red_leavings ps fates bytes) leaving
    → IsSortedByKey tick_and_packet pair_cmp leaving → AllPairs LeavesBefore leaving
leavings-in_order ps fates bytes leaving up moved sorted =
    sorted-in_order leaving sorted (packets-differ (red_leavings ps fates bytes) leaving (leavings-rise ps fates bytes up) moved)

found : (ps : List PacketPlan) (k : ℕ) (p : PacketPlan) → slice_get ps k ≡ Some p → IsSome (find (λ q. eqb q.number p.number) ps)
found [] k p is = absurd cc
found (q ∷ ps) zero p is =
    let same : q ≡ p = cc in
    rw (eq-eqb q.number p.number (ap (λ (r : PacketPlan). r.number) same)) refl
found (q ∷ ps) (suc k) p is =
    ⊎_elim
    (λ (same : (eqb q.number p.number ≡ true) × (q.number ≡ p.number)). rw same.0 refl)
    (λ (other : (eqb q.number p.number ≡ false) × (q.number ≢ p.number)). rw other.0 (found ps k p is))
    (eqb_tells q.number p.number)

-- they can be written, where all leave in time and their bytes are short
pub red_can_be_written : {S : SetupView} (R : RedSetupView) (fates : List RedFate) (bytes : List (List ℕ)) (leaving : List Leaving)
    → IsSetup S → R.tick_ns ≡ S.tick_ns → R.packets ≡ map red_packet_of S.packets → AllLeaveInTime R fates
    → All (λ b. length b ≤ PACKET_BYTES_MAX) bytes → IsPermutation (red_leavings S.packets fates bytes) leaving
    → CanBeWritten S leaving
red_can_be_written {S} R fates bytes leaving s ticks packets in_time short moved = record {
  of_setup = holds (λ left. IsSome (packet_of S left.packet)) (λ k tick p b at_p at_f at_b. found S.packets k p at_p);
  different = packets-differ listed leaving (leavings-rise S.packets fates bytes s.numbers_rise) moved;
  lengths = holds (λ left. length left.bytes ≤ PACKET_BYTES_MAX)
      (λ k tick p b at_p at_f at_b. at_place (λ c. length c ≤ PACKET_BYTES_MAX) bytes k b short at_b);
  times = holds (λ left. output_time S.base_ns S.tick_ns left.tick < RECORD_NS_END) in_range;
}
  where
    listed : List Leaving
    listed = red_leavings S.packets fates bytes

    holds : (Q : Leaving → Type 0)
        → ((k tick : ℕ) (p : PacketPlan) (b : List ℕ) → slice_get S.packets k ≡ Some p → slice_get fates k ≡ Some (Left tick)
        → slice_get bytes k ≡ Some b → Q (record { tick = tick; packet = p.number; bytes = b }))
        → All Q leaving
    holds Q each = All-permutation Q listed leaving moved (each_leaving Q S.packets fates bytes each)

    in_range : (k tick : ℕ) (p : PacketPlan) (b : List ℕ) → slice_get S.packets k ≡ Some p → slice_get fates k ≡ Some (Left tick)
        → slice_get bytes k ≡ Some b → output_time S.base_ns S.tick_ns tick < RECORD_NS_END
    in_range k tick p b at_p at_f at_b =
        let entered : slice_get R.packets k ≡ Some (red_packet_of p) =
        rw packets (slice_get-map red_packet_of S.packets k ∙ ap (option_map red_packet_of) at_p) in
        let leaves = rw ticks at in_time k tick (red_packet_of p) at_f entered in
        let enters = at_place (λ (q : PacketPlan). S.base_ns + q.entry_tick * S.tick_ns < OUTPUT_NS_END) S.packets k p s.times_fit at_p in
        omega (arith, leaves, enters)

-- no packet leaves before itself, nor two before one another
never_both : (a b : Leaving) → LeavesBefore a b → LeavesBefore b a → ⊥
never_both a b (inl earlier) (inl later) = omega arith
never_both a b (inl earlier) (inr tie) = let same : b.tick ≡ a.tick = tie.0 in omega arith
never_both a b (inr tie) (inl later) = let same : a.tick ≡ b.tick = tie.0 in omega arith
never_both a b (inr tie) (inr back) =
    let there : a.packet < b.packet = tie.1 in
    let again : b.packet < a.packet = back.1 in
    omega arith

within-permutation : (xs ys : List Leaving) → IsPermutation xs ys → Within xs ys
within-permutation xs ys moved z among =
    among-from_contains z ys (Contains-permutation xs ys z moved (contains-from_among z xs among))

-- in order they are one list
pub one_leaving : (listed xs ys : List Leaving) → IsPermutation listed xs → IsPermutation listed ys → AllPairs LeavesBefore xs
    → AllPairs LeavesBefore ys → xs ≡ ys
one_leaving listed xs ys moved also up_xs up_ys =
    let there = IsPermutation-trans xs listed ys (IsPermutation-sym listed xs moved) also in
    same_list LeavesBefore never_both xs ys up_xs up_ys (within-permutation xs ys there)
    (within-permutation ys xs (IsPermutation-sym xs ys there))
