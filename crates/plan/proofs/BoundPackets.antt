-- The bound packets of a trace one by one: their numbers rise, and what holds of each packet beside its binding holds of its plan.
use Rattle.std.proofs.Common.{◌<◌, ◌≤◌, ◌+◌, inl, inr, ℕ, List, [], ◌∷◌, length, All, AllPairs, Result, Ok, Err, refl, arith}
use Rattle.std.specs.List.{zip, enumerate_from, filter_map}
use Rattle.std.proofs.lemmas.List.Elements.{All-cons, All-nil}
use Rattle.std.proofs.lemmas.List.Kept.{AllPairs-cons}
use Rattle.mn_base.specs.Among.{Among}
use Rattle.mn_base.specs.declared.causes.Unbound.{Unbound}
use Rattle.pcap_io.specs.declared.packet.Packet.{Packet}
use Rattle.journal.specs.declared.setup.PacketPlan.{PacketPlan}
use Rattle.plan.specs.Binding.{Binding}
use Rattle.plan.specs.Plans.{plan_of_bound, plan_if_bound}

-- the bound packets after the first n
abbrev pub bound_from : ℕ → ℕ → List ℕ → List Binding → ℕ → List Packet → List (Result Binding Unbound) → List PacketPlan
bound_from base tick_ns entries uses n packets bindings =
    filter_map (plan_if_bound base tick_ns entries uses) (enumerate_from n (zip packets bindings))

module _ (base tick_ns : ℕ) (entries : List ℕ) (uses : List Binding) where
  pub All-bound : (P : PacketPlan → Type 0) (n : ℕ) (packets : List Packet) (bindings : List (Result Binding Unbound))
      → ((number : ℕ) (p : Packet) (b : Binding) → n ≤ number → number < n + length packets → Among (p, Ok b) (zip packets bindings)
      → P (plan_of_bound base tick_ns entries uses number p b))
      → All P (bound_from base tick_ns entries uses n packets bindings)
  All-bound P n [] bindings each = All-nil P
  All-bound P n (p ∷ packets) [] each = All-nil P
  All-bound P n (p ∷ packets) (Ok b ∷ bindings) each =
      All-cons P (plan_of_bound base tick_ns entries uses n p b) (bound_from base tick_ns entries uses (n + 1) packets bindings)
      (each n p b (omega arith) (omega arith) (inl refl))
      (All-bound P (n + 1) packets bindings
      (λ number q c low high there. each number q c (omega (arith, low)) (omega (arith, high)) (inr there)))
  All-bound P n (p ∷ packets) (Err cause ∷ bindings) each =
      All-bound P (n + 1) packets bindings
      (λ number q c low high there. each number q c (omega (arith, low)) (omega (arith, high)) (inr there))

  pub bound_rise : (n : ℕ) (packets : List Packet) (bindings : List (Result Binding Unbound))
      → AllPairs (λ p q. p.number < q.number) (bound_from base tick_ns entries uses n packets bindings)
  bound_rise n [] bindings = λ i j d before within. absurd (omega arith)
  bound_rise n (p ∷ packets) [] = λ i j d before within. absurd (omega arith)
  bound_rise n (p ∷ packets) (Ok b ∷ bindings) =
      AllPairs-cons (λ (q r : PacketPlan). q.number < r.number) (plan_of_bound base tick_ns entries uses n p b)
      (bound_from base tick_ns entries uses (n + 1) packets bindings)
      (All-bound (λ q. n < q.number) (n + 1) packets bindings (λ number q c low high there. omega (arith, low)))
      (bound_rise (n + 1) packets bindings)
  bound_rise n (p ∷ packets) (Err cause ∷ bindings) = bound_rise (n + 1) packets bindings
