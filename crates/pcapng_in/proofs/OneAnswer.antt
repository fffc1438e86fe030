-- A pcapng file has one reading or one first fault, never both, and always one of them.
use Rattle.std.proofs.Common.{◌≡◌, ◌≢◌, ℕ, zero, suc, ◌≤◌, ◌==◌, nat_lt, Bool, true, false, if◌then◌else◌, List, [], ◌∷◌, length, length-drop, Option, Some, None, refl, sym, ap, ◌∙◌, ◌⊎◌, inl, inr, arith}
use Rattle.std.proofs.lemmas.Bool.Decides.{nat_tests}
use Rattle.pcap_io.specs.declared.form.ByteOrder.{ByteOrder}
use Rattle.pcap_io.specs.declared.packet.Packet.{Packet}
use Rattle.pcap_io.specs.Capture.{Capture}
use Rattle.pcapng_in.specs.declared.blocks.TheConstants.{SECTION}
use Rattle.pcapng_in.specs.declared.fault.NgFault.{NgFault}
use Rattle.pcapng_in.specs.declared.fault.NgFault.TheVariants.{Cut, Magic, NoInterface}
use Rattle.pcapng_in.specs.Blocks.{kind_of, block_length, least_length, magic_order, length_fault, section_shape_fault, shape_fault, order_told, order_of_block}
use Rattle.pcapng_in.specs.State.{NgState, first_state, content_fault}
use Rattle.pcapng_in.specs.Reading.{length_here, or_then, block_fault, after_block, behind_block, ReadsBlocks, ReadsTo, Pcapng, HasBlockFault, NgFirst}
use Rattle.pcapng_in.proofs.BlockByBlock.{stuck_at_nothing, stuck_at_fault, ReadsTo-meet}

abbrev capture : ℕ → List Packet → Capture
capture link_type packets = record { link_type = link_type; packets = packets }

-- two readings to the end are one
one_end : (text : List ℕ) (end other : NgState) → ReadsTo text end [] → ReadsTo text other [] → end ≡ other
one_end text end other r s = (ReadsTo-meet text end other [] [] r s (stuck_at_nothing end) (stuck_at_nothing other)).end_is

pub one_ng_reading : (text : List ℕ) (trace other : Capture) → Pcapng text trace → Pcapng text other → trace ≡ other
one_ng_reading text trace other p q =
    let same = one_end text p.end q.end p.reads q.reads in
    let types : Some trace.link_type ≡ Some other.link_type =
    sym p.link_type_is ∙ ap (λ (s : NgState). s.link_type) same ∙ q.link_type_is in
    let link_type : trace.link_type ≡ other.link_type = cc in
    let packets : trace.packets ≡ other.packets = sym p.packets_are ∙ ap (λ (s : NgState). s.packets) same ∙ q.packets_are in
    ap (λ (n : ℕ). capture n trace.packets) link_type ∙ ap (capture other.link_type) packets

-- a file that is read to its end has no faulty block
no_block_fault : (text : List ℕ) (end : NgState) (fault : NgFault) → ReadsTo text end [] → HasBlockFault fault text → ⊥
no_block_fault text end fault reads has =
    has.left (ReadsTo-meet text has.state end has.rest [] has.before reads
    (stuck_at_fault has.state has.rest fault has.fault_is) (stuck_at_nothing end)).rest_is

pub never_ng_both : (text : List ℕ) (trace : Capture) (fault : NgFault) → Pcapng text trace → NgFirst text fault → ⊥
never_ng_both text trace fault p (inl has) = no_block_fault text p.end fault p.reads has
never_ng_both text trace fault p (inr has) =
    let same = one_end text p.end has.1.end p.reads has.1.reads in
    let e : Some trace.link_type ≡ None = sym p.link_type_is ∙ ap (λ (s : NgState). s.link_type) same ∙ has.1.none in
    absurd cc

pub one_ng_fault : (text : List ℕ) (fault other : NgFault) → NgFirst text fault → NgFirst text other → fault ≡ other
one_ng_fault text fault other (inl p) (inl q) =
    let same = ReadsTo-meet text p.state q.state p.rest q.rest p.before q.before
    (stuck_at_fault p.state p.rest fault p.fault_is) (stuck_at_fault q.state q.rest other q.fault_is) in
    let faults : block_fault p.state p.rest ≡ block_fault q.state q.rest =
    ap (λ (s : NgState). block_fault s p.rest) same.end_is ∙ ap (block_fault q.state) same.rest_is in
    let told : Some fault ≡ Some other = sym p.fault_is ∙ faults ∙ q.fault_is in
    cc
one_ng_fault text fault other (inl p) (inr q) = absurd (no_block_fault text q.1.end fault q.1.reads p)
one_ng_fault text fault other (inr p) (inl q) = absurd (no_block_fault text p.1.end other p.1.reads q)
one_ng_fault text fault other (inr p) (inr q) = p.0 ∙ sym q.0

-- ---- each file is answered

least_length-least : (kind : ℕ) → 12 ≤ least_length kind
least_length-least kind = grind (arith, nat_tests)

length_fault-none : (place : ℕ) (order : ByteOrder) (kind : ℕ) (text : List ℕ) → length_fault place order kind text ≡ None
    → least_length kind ≤ block_length order text
length_fault-none place order kind text none = grind (arith, nat_tests)

section_least : (place : ℕ) (order : ByteOrder) (told : Option ByteOrder) (text : List ℕ) → section_shape_fault place told text ≡ None
    → 12 ≤ block_length (order_told order told) text
section_least place order None text none = let e : Some (Magic place) ≡ None = none in absurd cc
section_least place order (Some told) text none = omega (arith, length_fault-none place told SECTION text none)

other_least : (place : ℕ) (order : ByteOrder) (text : List ℕ) (section : Bool)
    → (if section then section_shape_fault place (magic_order text) text else length_fault place order (kind_of order text) text) ≡ None
    → 12 ≤ block_length (if section then order_told order (magic_order text) else order) text
other_least place order text true none = section_least place order (magic_order text) text none
other_least place order text false none =
    omega (arith, length_fault-none place order (kind_of order text) text none, least_length-least (kind_of order text))

long_enough : (place : ℕ) (short : Bool) (told : Option NgFault) → (if short then Some (Cut place) else told) ≡ None
    → (short ≡ false) × (told ≡ None)
long_enough place true told none = let e : Some (Cut place) ≡ None = none in absurd cc
long_enough place false told none = (refl, none)

-- a block without a fault has twelve bytes and more
shape_least : (place : ℕ) (order : ByteOrder) (text : List ℕ) → shape_fault place order text ≡ None
    → (12 ≤ length text) × (12 ≤ block_length (order_of_block order text) text)
shape_least place order text none =
    let section = kind_of order text == SECTION in
    let behind = if section then section_shape_fault place (magic_order text) text else length_fault place order (kind_of order text) text in
    let parts = long_enough place (nat_lt (length text) 12) behind none in
    let twelve : 12 ≤ length text = let long : nat_lt (length text) 12 ≡ false = parts.0 in grind (arith, nat_tests) in
    (twelve, other_least place order text section parts.1)

or_then-first : (told other : Option NgFault) → or_then told other ≡ None → told ≡ None
or_then-first None other none = refl
or_then-first (Some fault) other none = absurd cc

block-shorter : (state : NgState) (text : List ℕ) (n : ℕ) → block_fault state text ≡ None → length text ≤ suc n
    → length (behind_block state text) ≤ n
block-shorter state text n none few =
    let shape = or_then-first (shape_fault state.place state.order text)
    (content_fault (order_of_block state.order text) (kind_of state.order text) (length_here state text) text state) none in
    let least = shape_least state.place state.order text shape in
    omega (arith, least.0, least.1, length-drop (length_here state text) text)

-- from a state on: blocks without a fault to the end
record Ends (state : NgState) (text : List ℕ) : Type 0 where
  blocks : ℕ
  end : NgState
  reads : ReadsBlocks blocks state text end []

-- from a state on: blocks without a fault, and then this fault
record Fails (state : NgState) (text : List ℕ) : Type 0 where
  fault : NgFault
  blocks : ℕ
  end : NgState
  rest : List ℕ
  reads : ReadsBlocks blocks state text end rest
  left : rest ≢ []
  fault_is : block_fault end rest ≡ Some fault

abbrev EndsOrFails : NgState → List ℕ → Type 0
EndsOrFails state text = Ends state text ⊎ Fails state text

more_blocks : (state : NgState) (text : List ℕ) → block_fault state text ≡ None
    → EndsOrFails (after_block state text) (behind_block state text) → EndsOrFails state text
more_blocks state text none (inl ends) = inl (record { blocks = suc ends.blocks; end = ends.end; reads = (none, ends.reads) })
more_blocks state text none (inr fails) = inr (record {
  fault = fails.fault;
  blocks = suc fails.blocks;
  end = fails.end;
  rest = fails.rest;
  reads = (none, fails.reads);
  left = fails.left;
  fault_is = fails.fault_is;
})

fault_here : (state : NgState) (text : List ℕ) (fault : NgFault) → text ≢ [] → block_fault state text ≡ Some fault → EndsOrFails state text
fault_here state text fault left is =
    inr (record { fault = fault; blocks = zero; end = state; rest = text; reads = (refl, refl); left = left; fault_is = is })

-- the length falls from block to block
blocks_end : (fuel : ℕ) (state : NgState) (text : List ℕ) → length text ≤ fuel → EndsOrFails state text
blocks_end fuel state [] enough = inl (record { blocks = zero; end = state; reads = (refl, refl) })
blocks_end zero state (b ∷ bs) enough = absurd (omega arith)
blocks_end (suc fuel) state (b ∷ bs) enough =
    let step : (told : Option NgFault) → block_fault state (b ∷ bs) ≡ told → EndsOrFails state (b ∷ bs) = λ told.
    elim told as (λ (t : Option NgFault). block_fault state (b ∷ bs) ≡ t → EndsOrFails state (b ∷ bs)) [
      | Some fault ↦ λ is. fault_here state (b ∷ bs) fault (λ e. cc) is
      | None ↦ λ is.
          more_blocks state (b ∷ bs) is
          (blocks_end fuel (after_block state (b ∷ bs)) (behind_block state (b ∷ bs)) (block-shorter state (b ∷ bs) fuel is enough))
    ] in
    step (block_fault state (b ∷ bs)) refl

abbrev NgAnswer : List ℕ → Type 0
NgAnswer text = ((trace : Capture) × Pcapng text trace) ⊎ ((fault : NgFault) × NgFirst text fault)

at_end : (text : List ℕ) (end : NgState) (reads : ReadsTo text end []) (told : Option ℕ) → end.link_type ≡ told → NgAnswer text
at_end text end reads None is = inr (NoInterface, inr (refl, record { end = end; reads = reads; none = is }))
at_end text end reads (Some link_type) is =
    inl (capture link_type end.packets, record { end = end; reads = reads; link_type_is = is; packets_are = refl })

pub each_ng_file : (text : List ℕ) → NgAnswer text
each_ng_file text =
    elim (blocks_end (length text) first_state text (omega arith)) [
      | inl ends ↦ at_end text ends.end (record { blocks = ends.blocks; reads = ends.reads }) ends.end.link_type refl
      | inr fails ↦ inr (
        fails.fault,
        inl (record {
          state = fails.end;
          rest = fails.rest;
          before = record { blocks = fails.blocks; reads = fails.reads };
          left = fails.left;
          fault_is = fails.fault_is;
        }),
      )
    ]
