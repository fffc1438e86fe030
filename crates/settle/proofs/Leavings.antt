-- What holds of each packet that left, by the outcome.
use Rattle.std.proofs.Common.{◌≡◌, ◌≢◌, ℕ, true, false, eqb, List, [], ◌∷◌, find, IsSome, filter_map, AllPairs, All, refl, ap, inl, inr, arith, ⊎_elim}
use Rattle.std.specs.List.{zip, cons_option}
use Rattle.std.proofs.lemmas.Bool.{eq-eqb}
use Rattle.std.proofs.lemmas.Bool.Decides.{eqb_tells}
use Rattle.std.proofs.lemmas.List.Elements.{All-cons}
use Rattle.std.proofs.lemmas.List.Sorted.{All-permutation}
use Rattle.mn_base.specs.Among.{Among}
use Rattle.journal.specs.declared.setup.PacketPlan.{PacketPlan}
use Rattle.journal.specs.declared.visit.Visit.{Visit}
use Rattle.journal.specs.declared.fate.Fate.{Fate}
use Rattle.journal.specs.declared.fate.Fate.TheVariants.{Left, Dropped}
use Rattle.journal.specs.SetupView.{SetupView, packet_of}
use Rattle.journal.specs.IsSetup.{IsSetup}
use Rattle.journal.specs.Fates.{fate_after}
use Rattle.settle.specs.declared.outcome.Leaving.{Leaving}
use Rattle.settle.specs.OutcomeView.{OutcomeView}
use Rattle.settle.specs.IsOutcome.{leaving_of, leavings, IsOutcome}
use Rattle.settle.proofs.InOrder.{leavings-rise, packets-differ}

-- Q holds of a packet with this fate and these bytes, should it leave
abbrev pub IfLeft : (Leaving → Type 0) → ℕ → List ℕ → Fate → Type 0
IfLeft Q packet bytes fate = (tick : ℕ) → fate ≡ Left tick → Q (record { tick = tick; packet = packet; bytes = bytes })

each_listed : (Q : Leaving → Type 0) (fate : PacketPlan → Fate) (ps : List PacketPlan) (bytes : List (List ℕ))
    → ((p : PacketPlan) (b : List ℕ) → Among p ps → Among b bytes → IfLeft Q p.number b (fate p))
    → All Q (filter_map (λ p. leaving_of p.0.number p.1 (fate p.0)) (zip ps bytes))
each_listed Q fate [] bytes each = λ i d within. absurd (omega arith)
each_listed Q fate (p ∷ ps) [] each = λ i d within. absurd (omega arith)
each_listed Q fate (p ∷ ps) (b ∷ bytes) each =
    go (fate p) (each p b (inl refl) (inl refl)) (each_listed Q fate ps bytes (λ q c among listed. each q c (inr among) (inr listed)))
  where
    go : (f : Fate) → IfLeft Q p.number b f → All Q (filter_map (λ p. leaving_of p.0.number p.1 (fate p.0)) (zip ps bytes))
        → All Q (cons_option (leaving_of p.number b f) (filter_map (λ p. leaving_of p.0.number p.1 (fate p.0)) (zip ps bytes)))
    go (Left tick) holds rest = All-cons Q _ _ (holds tick refl) rest
    go (Dropped pipe tick cause) holds rest = rest

-- what holds of each packet with its bytes, should it leave, holds of all that left
pub each_left : (Q : Leaving → Type 0) (S : SetupView) (visits : List Visit) (bytes : List (List ℕ)) (o : OutcomeView)
    → IsOutcome S visits bytes o
    → ((p : PacketPlan) (b : List ℕ) → Among p S.packets → Among b bytes → IfLeft Q p.number b (fate_after visits p)) → All Q o.leaving
each_left Q S visits bytes o is each =
    All-permutation Q (leavings S visits bytes) o.leaving is.leaving (each_listed Q (fate_after visits) S.packets bytes each)

found : (p : PacketPlan) (ps : List PacketPlan) → Among p ps → IsSome (find (λ q. eqb q.number p.number) ps)
found p [] among = absurd among
found p (q ∷ ps) (inl same) = rw (eq-eqb q.number p.number (ap (λ r. r.number) same)) refl
found p (q ∷ ps) (inr among) =
    ⊎_elim
    (λ (same : (eqb q.number p.number ≡ true) × (q.number ≡ p.number)). rw same.0 refl)
    (λ (other : (eqb q.number p.number ≡ false) × (q.number ≢ p.number)). rw other.0 (found p ps among))
    (eqb_tells q.number p.number)

-- each packet that left is one of the setup
pub left-known : (S : SetupView) (visits : List Visit) (bytes : List (List ℕ)) (o : OutcomeView) → IsOutcome S visits bytes o
    → All (λ left. IsSome (packet_of S left.packet)) o.leaving
left-known S visits bytes o is =
    each_left (λ left. IsSome (packet_of S left.packet)) S visits bytes o is
    (λ p b among listed tick left. found p S.packets among)

-- what holds of all bytes holds of those of each packet that left
pub left-bytes : (P : List ℕ → Type 0) (S : SetupView) (visits : List Visit) (bytes : List (List ℕ)) (o : OutcomeView)
    → IsOutcome S visits bytes o → ((b : List ℕ) → Among b bytes → P b) → All (λ left. P left.bytes) o.leaving
left-bytes P S visits bytes o is each =
    each_left (λ left. P left.bytes) S visits bytes o is (λ p b among listed tick left. each b listed)

-- what holds of each tick at which a packet leaves holds of those of the outcome
pub left-ticks : (P : ℕ → Type 0) (S : SetupView) (visits : List Visit) (bytes : List (List ℕ)) (o : OutcomeView)
    → IsOutcome S visits bytes o → ((p : PacketPlan) (tick : ℕ) → Among p S.packets → fate_after visits p ≡ Left tick → P tick)
    → All (λ left. P left.tick) o.leaving
left-ticks P S visits bytes o is each =
    each_left (λ left. P left.tick) S visits bytes o is (λ p b among listed tick left. each p tick among left)

-- no packet leaves twice
pub left-differ : (S : SetupView) (visits : List Visit) (bytes : List (List ℕ)) (o : OutcomeView) → IsSetup S → IsOutcome S visits bytes o
    → AllPairs (λ a b. a.packet ≢ b.packet) o.leaving
left-differ S visits bytes o setup is =
    packets-differ (leavings S visits bytes) o.leaving (leavings-rise (fate_after visits) S.packets bytes setup.numbers_rise) is.leaving
