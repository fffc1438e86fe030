-- A plan can be run: each packet of its setup has its bytes, and none is longer than a packet may be.
use Rattle.std.proofs.Common.{◌≡◌, ◌≤◌, ◌+◌, ℕ, suc, List, [], ◌∷◌, length, map, All, Option, Result, Ok, Err, IfOk, refl, sym, ◌∙◌, ap, subst}
use Rattle.std.specs.List.{zip, enumerate_from, filter_map}
use Rattle.std.proofs.lemmas.List.Elements.{All-cons, All-nil, All-head, All-tail}
use Rattle.mn_base.specs.declared.limits.TheConstants.{PACKET_BYTES_MAX}
use Rattle.mn_base.specs.declared.causes.Unbound.{Unbound}
use Rattle.mn_base.specs.declared.refusal.Refusal.{Refusal}
use Rattle.topo.specs.TopologyView.{TopologyView}
use Rattle.pcap_io.specs.declared.packet.Packet.{Packet}
use Rattle.pcap_io.specs.Capture.{Capture, IsPacket, IsTrace, trace_base}
use Rattle.plan.specs.Binding.{Binding}
use Rattle.plan.specs.Plans.{bound_bytes, uses_of}
use Rattle.plan.specs.PlannedView.{PlannedView}
use Rattle.plan.specs.declared.faults.PlanFault.{PlanFault}
use Rattle.plan.specs.declared.options.Options.{Options}
use Rattle.plan.specs.Setups.{IsPlan}
use Rattle.plan.proofs.BoundPackets.{bound_from}
use Rattle.modelnet.specs.Running.{IsRunnable}

-- a packet with a binding has a plan and its bytes, another has neither
each_has_bytes : (base tick_ns : ℕ) (entries : List ℕ) (uses : List Binding) (n : ℕ) (packets : List Packet)
    (bindings : List (Result Binding Unbound))
    → length (bound_bytes packets bindings) ≡ length (bound_from base tick_ns entries uses n packets bindings)
each_has_bytes base tick_ns entries uses n [] bindings = refl
each_has_bytes base tick_ns entries uses n (p ∷ packets) [] = refl
each_has_bytes base tick_ns entries uses n (p ∷ packets) (Ok b ∷ bindings) =
    ap suc (each_has_bytes base tick_ns entries uses (n + 1) packets bindings)
each_has_bytes base tick_ns entries uses n (p ∷ packets) (Err cause ∷ bindings) =
    each_has_bytes base tick_ns entries uses (n + 1) packets bindings

-- none has more bytes than a packet may have
abbrev IsShort : List ℕ → Type 0
IsShort bytes = length bytes ≤ PACKET_BYTES_MAX

-- the bytes are those of packets of the trace
are_short : (packets : List Packet) (bindings : List (Result Binding Unbound)) → All IsPacket packets
    → All IsShort (bound_bytes packets bindings)
are_short [] bindings each = All-nil IsShort
are_short (p ∷ packets) [] each = All-nil IsShort
are_short (p ∷ packets) (Ok b ∷ bindings) each =
    All-cons IsShort p.bytes (bound_bytes packets bindings) (All-head IsPacket p packets each).captured
    (are_short packets bindings (All-tail IsPacket p packets each))
are_short (p ∷ packets) (Err cause ∷ bindings) each = are_short packets bindings (All-tail IsPacket p packets each)

-- a plan of a trace within the limits can be run
pub is_runnable : (t : TopologyView) (trace : Capture) (options : Options) (text : Option (List ℕ)) (planned : PlannedView)
    → IsPlan t trace options text planned → IsTrace trace → IsRunnable planned
is_runnable t trace options text planned plan within =
    let over = plan.plans in
    let packets = over.setup.packets_are in
    record {
      each_has_bytes = ap length over.bytes ∙ each_has_bytes (trace_base trace) options.tick_ns plan.directory.entries
          (uses_of over.bindings) 0 trace.packets over.bindings ∙ sym (ap length packets);
      short = subst (All IsShort) (sym over.bytes) (are_short trace.packets over.bindings within.packets);
    }

pub plan_is_runnable : (t : TopologyView) (trace : Capture) (options : Options) (text : Option (List ℕ))
    (result : Result PlannedView (Refusal PlanFault)) → IsTrace trace → IfOk result (IsPlan t trace options text) → IfOk result IsRunnable
plan_is_runnable t trace options text (Ok planned) within plan = is_runnable t trace options text planned plan within
plan_is_runnable t trace options text (Err refusal) within none = tt
