-- The routes of a trace in order of first use, and its packets, bound and unbound.
use Rattle.std.specs.Prelude.{ℕ, ◌==◌, Bool, not, ◌&&◌, List, [], ◌∷◌, map, filter, Option, Some, None, Result, Ok, Err, slice_index}
use Rattle.std.specs.List.{filter_map, enumerate_from, zip, position_or_len}
use Rattle.mn_base.specs.declared.causes.Unbound.{Unbound}
use Rattle.mn_base.specs.Times.{entry_tick_of}
use Rattle.pcap_io.specs.declared.packet.Packet.{Packet}
use Rattle.journal.specs.declared.setup.PacketPlan.{PacketPlan}
use Rattle.plan.specs.Binding.{Binding}

-- whether b is between these two nodes
abbrev pub joins : ℕ → ℕ → Binding → Bool
joins source destination b = (b.source == source) && (b.destination == destination)

-- whether c is between the two nodes of b
abbrev pub has_ends : Binding → Binding → Bool
has_ends b c = joins b.source b.destination c

-- the binding, if there is one
abbrev pub bound : Result Binding Unbound → Option Binding
bound (Ok b) = Some b
bound (Err cause) = None

-- those that are bound, in order
abbrev pub bounds : List (Result Binding Unbound) → List Binding
bounds bindings = filter_map bound bindings

-- the first binding of each ordered pair of nodes, in order
abbrev pub first_uses : List Binding → List Binding
first_uses [] = []
first_uses (b ∷ bs) = b ∷ filter (λ c. not (has_ends b c)) (first_uses bs)

-- the first use of each pair of nodes that some packet is bound to, in order
abbrev pub uses_of : List (Result Binding Unbound) → List Binding
uses_of bindings = first_uses (bounds bindings)

-- the routes, one for each ordered pair of nodes, in order of first use
abbrev pub routes_of : List (Result Binding Unbound) → List (List ℕ)
routes_of bindings = map (λ b. b.route) (uses_of bindings)

-- which of the routes a binding has
abbrev pub route_index : List Binding → Binding → ℕ
route_index uses b = position_or_len (has_ends b) uses

-- a packet of the trace with its number, beside what it is bound to
abbrev pub numbered : List Packet → List (Result Binding Unbound) → List (ℕ × (Packet × Result Binding Unbound))
numbered packets bindings = enumerate_from 0 (zip packets bindings)

-- a bound packet as it enters, at the entry core of its source
abbrev pub plan_of_bound : ℕ → ℕ → List ℕ → List Binding → ℕ → Packet → Binding → PacketPlan
plan_of_bound base tick_ns entries uses number packet b = record {
  number = number;
  entry_tick = entry_tick_of base tick_ns packet.time_ns;
  len = packet.original;
  route = route_index uses b;
  core = slice_index entries b.source;
}

abbrev pub plan_if_bound : ℕ → ℕ → List ℕ → List Binding → ℕ × (Packet × Result Binding Unbound) → Option PacketPlan
plan_if_bound base tick_ns entries uses (number, (packet, Ok b)) = Some (plan_of_bound base tick_ns entries uses number packet b)
plan_if_bound base tick_ns entries uses (number, (packet, Err cause)) = None

-- the bound packets of a trace, in order; packets that aren't bound are counted in the numbers
abbrev pub bound_packets : ℕ → ℕ → List ℕ → List Packet → List (Result Binding Unbound) → List PacketPlan
bound_packets base tick_ns entries packets bindings =
    filter_map (plan_if_bound base tick_ns entries (uses_of bindings)) (numbered packets bindings)

abbrev pub bytes_if_bound : Packet × Result Binding Unbound → Option (List ℕ)
bytes_if_bound (packet, Ok b) = Some packet.bytes
bytes_if_bound (packet, Err cause) = None

-- the bytes of the bound packets, in order
abbrev pub bound_bytes : List Packet → List (Result Binding Unbound) → List (List ℕ)
bound_bytes packets bindings = filter_map bytes_if_bound (zip packets bindings)

abbrev pub cause_if_unbound : ℕ × Result Binding Unbound → Option (ℕ × Unbound)
cause_if_unbound (number, Ok b) = None
cause_if_unbound (number, Err cause) = Some (number, cause)

-- the packets that aren't bound, in order, each with its number and its cause
abbrev pub unbound_packets : List (Result Binding Unbound) → List (ℕ × Unbound)
unbound_packets bindings = filter_map cause_if_unbound (enumerate_from 0 bindings)
