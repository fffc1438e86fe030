-- The packets that left, put in the order of (tick, packet).
use Rattle.std.proofs.Common.{◌≡◌, ◌≢◌, ℕ, suc, ◌<◌, List, [], ◌∷◌, length, get_or, map, filter_map, AllPairs, All, arith}
use Rattle.std.specs.List.{zip, cons_option}
use Rattle.std.specs.List.Sorted.{IsPermutation, IsSortedByKey}
use Rattle.std.proofs.lemmas.List.{get_or-map, length-map}
use Rattle.std.proofs.lemmas.List.Elements.{All-cons}
use Rattle.std.proofs.lemmas.List.Kept.{AllPairs-cons}
use Rattle.journal.specs.declared.setup.PacketPlan.{PacketPlan}
use Rattle.journal.specs.declared.fate.Fate.{Fate}
use Rattle.journal.specs.declared.fate.Fate.TheVariants.{Left, Dropped}
use Rattle.parcel.proofs.InOrder.{pair_cmp, permuted-differ, sorted-in_order as in_order_by}
use Rattle.settle.specs.declared.outcome.Leaving.{Leaving}
use Rattle.settle.specs.IsOutcome.{leaving_of, LeavesBefore}

tail : {X : Type 0} (R : X → X → Type 0) (x : X) (xs : List X) → AllPairs R (x ∷ xs) → AllPairs R xs
tail R x xs pairs i j d lt within = pairs (suc i) (suc j) d (omega arith) (omega arith)

-- the packets that left, in packet order, where each packet has a fate
abbrev leavings_by : (PacketPlan → Fate) → List PacketPlan → List (List ℕ) → List Leaving
leavings_by fate ps bytes = filter_map (λ p. leaving_of p.0.number p.1 (fate p.0)) (zip ps bytes)

-- of packets above a number, those that left are above it
leavings-above : (fate : PacketPlan → Fate) (n : ℕ) (ps : List PacketPlan) (bytes : List (List ℕ)) → All (λ p. n < p.number) ps
    → All (λ left. n < left.packet) (leavings_by fate ps bytes)
leavings-above fate n [] bytes above = λ i d within. absurd (omega arith)
leavings-above fate n (p ∷ ps) [] above = λ i d within. absurd (omega arith)
leavings-above fate n (p ∷ ps) (b ∷ bytes) above =
    go (fate p) (leavings-above fate n ps bytes (λ i d within. above (suc i) d (omega arith)))
  where
    go : (f : Fate) → All (λ left. n < left.packet) (leavings_by fate ps bytes)
        → All (λ left. n < left.packet) (cons_option (leaving_of p.number b f) (leavings_by fate ps bytes))
    go (Left tick) rest = All-cons (λ left. n < left.packet) _ _ (above 0 p (omega arith)) rest
    go (Dropped pipe tick cause) rest = rest

-- in packet order their numbers rise
pub leavings-rise : (fate : PacketPlan → Fate) (ps : List PacketPlan) (bytes : List (List ℕ)) → AllPairs (λ p q. p.number < q.number) ps
    → AllPairs (λ a b. a.packet < b.packet) (filter_map (λ p. leaving_of p.0.number p.1 (fate p.0)) (zip ps bytes))
leavings-rise fate [] bytes up = λ i j d lt within. absurd (omega arith)
leavings-rise fate (p ∷ ps) [] up = λ i j d lt within. absurd (omega arith)
leavings-rise fate (p ∷ ps) (b ∷ bytes) up =
    go (fate p)
    (leavings-above fate p.number ps bytes (λ i d within. up 0 (suc i) d (omega arith) (omega arith)))
    (leavings-rise fate ps bytes (tail (λ p q. p.number < q.number) p ps up))
  where
    go : (f : Fate) → All (λ left. p.number < left.packet) (leavings_by fate ps bytes)
        → AllPairs (λ a b. a.packet < b.packet) (leavings_by fate ps bytes)
        → AllPairs (λ a b. a.packet < b.packet) (cons_option (leaving_of p.number b f) (leavings_by fate ps bytes))
    go (Left tick) above rest = AllPairs-cons (λ a b. a.packet < b.packet) _ _ above rest
    go (Dropped pipe tick cause) above rest = rest

no_leaving : Leaving
no_leaving = record { tick = 0; packet = 0; bytes = [] }

-- numbers that rise differ
risen-differ : (xs : List Leaving) → AllPairs (λ a b. a.packet < b.packet) xs
    → AllPairs (λ m n. m ≢ n) (map (λ (left : Leaving). left.packet) xs)
risen-differ xs up i j d lt within same =
    let number : Leaving → ℕ = λ left. left.packet in
    let long : length (map number xs) ≡ length xs = length-map xs number in
    let within_xs : j < length xs = omega (arith, long, within) in
    let at_i : get_or (map number xs) i d ≡ (get_or xs i no_leaving).packet = get_or-map number xs i no_leaving d (omega arith) in
    let at_j : get_or (map number xs) j d ≡ (get_or xs j no_leaving).packet = get_or-map number xs j no_leaving d within_xs in
    let rises : (get_or xs i no_leaving).packet < (get_or xs j no_leaving).packet = up i j no_leaving lt within_xs in
    omega (arith, at_i, at_j, rises, same)

-- whatever order they are put in, their numbers differ
pub packets-differ : (xs ys : List Leaving) → AllPairs (λ a b. a.packet < b.packet) xs → IsPermutation xs ys
    → AllPairs (λ a b. a.packet ≢ b.packet) ys
packets-differ xs ys up moved = permuted-differ (λ (left : Leaving). left.packet) xs ys (risen-differ xs up) moved

-- by what packets are sorted
abbrev pub tick_and_packet : Leaving → ℕ × ℕ
tick_and_packet left = (left.tick, left.packet)

-- sorted by (tick, packet), packets that differ rise strictly
pub sorted-in_order : (ys : List Leaving) → IsSortedByKey tick_and_packet pair_cmp ys → AllPairs (λ a b. a.packet ≢ b.packet) ys
    → AllPairs LeavesBefore ys
sorted-in_order ys sorted differ = in_order_by (λ (left : Leaving). left.tick) (λ (left : Leaving). left.packet) ys sorted differ
