-- Packets that leave in the order of their numbers.
use Rattle.std.proofs.Common.{◌≡◌, ◌≢◌, ℕ, ◌<◌, ◌≤◌, true, false, eqb, List, [], ◌∷◌, length, get_or, map, filter_map, All, AllPairs, refl, sym, ap, ◌∙◌, subst, inl, inr, ⊎_elim, arith}
use Rattle.std.specs.List.{zip, cons_option}
use Rattle.std.proofs.lemmas.Bool.Decides.{eqb_tells}
use Rattle.std.proofs.lemmas.List.{get_or-map, length-map}
use Rattle.std.proofs.lemmas.List.Elements.{All-cons}
use Rattle.std.proofs.lemmas.List.Kept.{AllPairs-cons}
use Rattle.journal.specs.declared.setup.PacketPlan.{PacketPlan}
use Rattle.journal.specs.declared.fate.Fate.{Fate}
use Rattle.journal.specs.declared.fate.Fate.TheVariants.{Left, Dropped}
use Rattle.journal.specs.SetupView.{SetupView}
use Rattle.journal.specs.IsSetup.{IsSetup}
use Rattle.journal.specs.Journal.{journal_of}
use Rattle.journal.specs.Fates.{fate_of}
use Rattle.settle.specs.declared.outcome.Leaving.{Leaving}
use Rattle.settle.specs.IsOutcome.{leaving_of, leavings, LeavesBefore}
use Rattle.settle.proofs.InOrder.{leavings-rise}
use Rattle.report.specs.Leaving.{left_tick, left_ticks}

-- ticks don't fall, from this one on
abbrev pub RiseFrom : ℕ → List ℕ → Type 0
RiseFrom last [] = Unit {0}
RiseFrom last (tick ∷ ticks) = (last ≤ tick) × RiseFrom tick ticks

above : (last : ℕ) (ticks : List ℕ) → RiseFrom last ticks → All (λ tick. last ≤ tick) ticks
above last [] rise = λ i d within. absurd (omega arith)
above last (tick ∷ ticks) rise =
    All-cons (λ t. last ≤ t) tick ticks rise.0
    (λ i d within. let more = above tick ticks rise.1 i d within in omega (arith, more, rise.0))

pub in_order : (last : ℕ) (ticks : List ℕ) → RiseFrom last ticks → AllPairs (λ a b. a ≤ b) ticks
in_order last [] rise = λ i j d lt within. absurd (omega arith)
in_order last (tick ∷ ticks) rise =
    AllPairs-cons (λ a b. a ≤ b) tick ticks (above tick ticks rise.1) (in_order tick ticks rise.1)

-- the ticks of the packets that leave, by their leavings
leavings-ticks : (fate : PacketPlan → Fate) (ps : List PacketPlan) (bytes : List (List ℕ)) → length bytes ≡ length ps
    → map (λ left. left.tick) (filter_map (λ p. leaving_of p.0.number p.1 (fate p.0)) (zip ps bytes)) ≡ left_ticks (map fate ps)
leavings-ticks fate [] [] same = refl
leavings-ticks fate [] (b ∷ bytes) same = absurd (omega (arith, same))
leavings-ticks fate (p ∷ ps) [] same = absurd (omega (arith, same))
leavings-ticks fate (p ∷ ps) (b ∷ bytes) same =
    go (fate p) (filter_map (λ p. leaving_of p.0.number p.1 (fate p.0)) (zip ps bytes)) (left_ticks (map fate ps))
    (leavings-ticks fate ps bytes (omega (arith, same)))
  where
    go : (f : Fate) (left : List Leaving) (ticks : List ℕ) → map (λ left. left.tick) left ≡ ticks
        → map (λ left. left.tick) (cons_option (leaving_of p.number b f) left) ≡ cons_option (left_tick f) ticks
    go (Left tick) left ticks rest = ap (λ ticks. tick ∷ ticks) rest
    go (Dropped pipe tick cause) left ticks rest = rest

-- where ticks don't fall and numbers rise, packets leave in the order of (tick, packet)
both_rise : (left : List Leaving) → AllPairs (λ a b. a ≤ b) (map (λ left. left.tick) left) → AllPairs (λ a b. a.packet < b.packet) left
    → AllPairs LeavesBefore left
both_rise left ticks numbers i j d lt within =
    let tick : Leaving → ℕ = λ left. left.tick in
    let long : length (map tick left) ≡ length left = length-map left tick in
    let at_i : get_or (map tick left) i 0 ≡ (get_or left i d).tick = get_or-map tick left i d 0 (omega arith) in
    let at_j : get_or (map tick left) j 0 ≡ (get_or left j d).tick = get_or-map tick left j d 0 within in
    let le : get_or (map tick left) i 0 ≤ get_or (map tick left) j 0 = ticks i j 0 lt (omega (arith, long, within)) in
    let a = (get_or left i d).tick in
    let b = (get_or left j d).tick in
    ⊎_elim
    (λ (same : (eqb a b ≡ true) × (a ≡ b)). inr (same.1, numbers i j d lt within))
    (λ (other : (eqb a b ≡ false) × (a ≢ b)). let ne : a ≢ b = other.1 in inl (omega (arith, at_i, at_j, le)))
    (eqb_tells a b)

pub leavings-in_order : (S : SetupView) (fates : List Fate) (bytes : List (List ℕ)) → IsSetup S → fates ≡ map (fate_of S) S.packets
    → length bytes ≡ length S.packets → AllPairs (λ a b. a ≤ b) (left_ticks fates)
    → AllPairs LeavesBefore (leavings S (journal_of S) bytes)
leavings-in_order S fates bytes setup fates_are as_many ticks =
    let same : left_ticks fates ≡ map (λ left. left.tick) (leavings S (journal_of S) bytes) =
    ap (λ fs. left_ticks fs) fates_are ∙ sym (leavings-ticks (fate_of S) S.packets bytes as_many) in
    both_rise (leavings S (journal_of S) bytes) (subst (AllPairs (λ a b. a ≤ b)) same ticks)
    (leavings-rise (fate_of S) S.packets bytes setup.numbers_rise)
