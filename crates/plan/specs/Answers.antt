-- What becomes of the packets of a trace: each as it enters, or why it isn't bound.
use Rattle.std.specs.Prelude.{◌≡◌, ℕ, List, map, Option, Some, None, Result, Ok, Err}
use Rattle.std.specs.List.{AllZip, enumerate_from, zip}
use Rattle.mn_base.specs.declared.causes.Unbound.{Unbound}
use Rattle.pcap_io.specs.declared.packet.Packet.{Packet}
use Rattle.journal.specs.declared.setup.PacketPlan.{PacketPlan}
use Rattle.plan.specs.Binding.{Binding, IsBinding}
use Rattle.plan.specs.Grounds.{Grounds}
use Rattle.plan.specs.Plans.{plan_of_bound, uses_of}
use Rattle.plan.specs.Router.{with_use}

abbrev pub answer_of : Grounds → List Binding → ℕ → Packet → Result Binding Unbound → Result PacketPlan Unbound
answer_of by uses number packet (Ok b) = Ok (plan_of_bound by.base_ns by.tick_ns by.entries uses number packet b)
answer_of by uses number packet (Err cause) = Err cause

-- packets are numbered from n on
abbrev pub answers_from : Grounds → List Binding → ℕ → List Packet → List (Result Binding Unbound) → List (Result PacketPlan Unbound)
answers_from by uses n packets bindings = map (λ p. answer_of by uses p.0 p.1.0 p.1.1) (enumerate_from n (zip packets bindings))

-- what a packet is bound to by these nodes and this graph
abbrev pub IsBindingBy : Grounds → Packet → Result Binding Unbound → Type 0
IsBindingBy by packet binding = let graph = by.graph in IsBinding by.nodes graph.arcs by.link_type packet.bytes binding

-- the packets are bound, and these are the first uses and the answers
pub record AreAnswered (by : Grounds) (packets : List Packet) (uses : List Binding) (answers : List (Result PacketPlan Unbound)) : Type 0 where
  pub bindings : List (Result Binding Unbound)
  pub bound : AllZip (IsBindingBy by) packets bindings
  pub uses_are : uses ≡ uses_of bindings
  pub answers_are : answers ≡ answers_from by uses 0 packets bindings

-- the uses after a packet that is bound so
abbrev pub uses_after : List Binding → Result Binding Unbound → List Binding
uses_after uses (Ok b) = with_use uses b
uses_after uses (Err cause) = uses

-- one packet is bound
pub record IsAnswer (by : Grounds) (old : List Binding) (number : ℕ) (packet : Packet) (new : List Binding) (answer : Result PacketPlan Unbound) : Type 0 where
  pub binding : Result Binding Unbound
  pub bound : IsBindingBy by packet binding
  pub uses : new ≡ uses_after old binding
  pub answer_is : answer ≡ answer_of by new number packet binding

-- ---- what is bound and what isn't, by the answers
abbrev pub bytes_if_answered : Packet → Result PacketPlan Unbound → Option (List ℕ)
bytes_if_answered packet (Ok plan) = Some packet.bytes
bytes_if_answered packet (Err cause) = None

abbrev pub cause_of_answer : ℕ × Result PacketPlan Unbound → Option (ℕ × Unbound)
cause_of_answer (number, Ok plan) = None
cause_of_answer (number, Err cause) = Some (number, cause)
