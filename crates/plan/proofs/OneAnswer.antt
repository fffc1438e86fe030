-- What becomes of one packet, by its ends and what the router answers.
use Rattle.std.proofs.Common.{◌≡◌, inl, inr, ℕ, List, Ok, Err, refl}
use Rattle.std.specs.Prelude.{slice_index}
use Rattle.mn_base.specs.declared.causes.Unbound.{Unbound}
use Rattle.mn_base.specs.Times.{entry_tick_of}
use Rattle.pcap_io.specs.declared.packet.Packet.{Packet}
use Rattle.plan.specs.Binding.{Binding, ends_of}
use Rattle.plan.specs.Grounds.{Grounds}
use Rattle.plan.specs.Router.{IsRouterAnswer}
use Rattle.plan.specs.Answers.{IsAnswer}

pub unbound_by_ends : (by : Grounds) (uses : List Binding) (number : ℕ) (packet : Packet) (cause : Unbound)
    → ends_of by.nodes by.link_type packet.bytes ≡ Err cause → IsAnswer by uses number packet uses (Err cause)
unbound_by_ends by uses number packet cause is = record { binding = Err cause; bound = inl is; uses = refl; answer_is = refl }

pub unbound_by_route : (by : Grounds) (uses new : List Binding) (number : ℕ) (packet : Packet) (s d : ℕ) (cause : Unbound)
    → ends_of by.nodes by.link_type packet.bytes ≡ Ok (s, d) → (let graph = by.graph in IsRouterAnswer graph.arcs uses s d new (Err cause))
    → IsAnswer by uses number packet new (Err cause)
unbound_by_route by uses new number packet s d cause ends missing = record {
  binding = Err cause;
  bound = inr (record { source = s; destination = d; ends_are = ends; routed = missing.1 });
  uses = missing.0;
  answer_is = refl;
}

pub bound_by_route : (by : Grounds) (uses new : List Binding) (number : ℕ) (packet : Packet) (s d index entry core : ℕ)
    → ends_of by.nodes by.link_type packet.bytes ≡ Ok (s, d) → (let graph = by.graph in IsRouterAnswer graph.arcs uses s d new (Ok index))
    → entry ≡ entry_tick_of by.base_ns by.tick_ns packet.time_ns → core ≡ slice_index by.entries s
    → IsAnswer by uses number packet new
    (Ok (record { number = number; entry_tick = entry; len = packet.original; route = index; core = core }))
bound_by_route by uses new number packet s d index entry core ends found entry_is core_is = record {
  binding = Ok (record { source = s; destination = d; route = found.route });
  bound = (ends, found.routed);
  uses = found.uses;
  answer_is = rw (entry_is, core_is, found.index_is) refl;
}
