-- What the reader's functions answer, by cases.
use Rattle.std.specs.Prelude.{◌≡◌, Option, Some, None, Result, Ok, Err}
use Rattle.mn_base.specs.declared.refusal.Refusal.{Refusal}
use Rattle.mn_base.specs.declared.refusal.Refusal.TheVariants as refusal
use Rattle.mn_base.specs.declared.refusal.Refusal.TheVariants.{Fault}
use Rattle.pcapng_in.specs.declared.fault.NgFault.{NgFault}
use Rattle.pcapng_in.specs.declared.state.State.{State}
use Rattle.pcapng_in.specs.State.{NgState}

-- what a reader's state says
abbrev pub seen : State → NgState
seen state = record {
  place = state.place;
  order = state.order;
  interfaces = state.interfaces.items;
  link_type = state.link_type;
  packets = state.packets.items;
  last_ns = state.last_ns;
}

-- a block without a fault leads to this state, and one with a fault is refused for it
abbrev pub Steps : Option NgFault → NgState → State → Result (Unit {0}) (Refusal NgFault) → Type 0
Steps told wanted new (Ok _) = (told ≡ None) × (seen new ≡ wanted)
Steps told wanted new (Err refusal.NoMemory) = Unit {0}
Steps told wanted new (Err (Fault fault)) = told ≡ Some fault
