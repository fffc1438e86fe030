-- What a pcapng file says (`text` is its bytes): whole blocks, one after the other, and nothing else.
use Rattle.std.specs.Prelude.{◌≡◌, ◌≢◌, ℕ, zero, suc, ◌+◌, ◌⊎◌, List, [], drop, Option, Some, None}
use Rattle.pcap_io.specs.Capture.{Capture}
use Rattle.pcapng_in.specs.declared.fault.NgFault.{NgFault}
use Rattle.pcapng_in.specs.declared.fault.NgFault.TheVariants.{NoInterface}
use Rattle.pcapng_in.specs.Blocks.{kind_of, block_length, order_of_block, shape_fault}
use Rattle.pcapng_in.specs.State.{NgState, first_state, content_fault, with_content}

-- the length of the block that opens the text, in its own byte order
abbrev pub length_here : NgState → List ℕ → ℕ
length_here state text = block_length (order_of_block state.order text) text

abbrev pub or_then : Option NgFault → Option NgFault → Option NgFault
or_then None told = told
or_then (Some fault) told = Some fault

-- the first thing that is wrong with the block that opens the text: its shape, and then its content
abbrev pub block_fault : NgState → List ℕ → Option NgFault
block_fault state text =
    or_then (shape_fault state.place state.order text)
    (content_fault (order_of_block state.order text) (kind_of state.order text) (length_here state text) text state)

-- what the file has said after that block
abbrev pub after_block : NgState → List ℕ → NgState
after_block state text =
    record (with_content (order_of_block state.order text) (kind_of state.order text) (length_here state text) text state) {
      place = state.place + length_here state text;
    }

abbrev pub behind_block : NgState → List ℕ → List ℕ
behind_block state text = drop (length_here state text) text

-- so many blocks without a fault open the text, lead from one state to another, and leave the rest
abbrev pub ReadsBlocks : ℕ → NgState → List ℕ → NgState → List ℕ → Type 0
ReadsBlocks zero state text end rest = (state ≡ end) × (text ≡ rest)
ReadsBlocks (suc n) state text end rest = (block_fault state text ≡ None) × ReadsBlocks n (after_block state text) (behind_block state text) end rest

-- a file's blocks lead to this state, and leave the rest
pub record ReadsTo (text : List ℕ) (state : NgState) (rest : List ℕ) : Type 0 where
  pub blocks : ℕ
  pub reads : ReadsBlocks blocks first_state text state rest

-- the file says this trace: the packets of its blocks, and the link type of its first interface
pub record Pcapng (text : List ℕ) (trace : Capture) : Type 0 where
  pub end : NgState
  pub reads : ReadsTo text end []
  pub link_type_is : end.link_type ≡ Some trace.link_type
  pub packets_are : end.packets ≡ trace.packets

-- whole blocks without a fault open the file, and the next one has this fault
pub record HasBlockFault (fault : NgFault) (text : List ℕ) : Type 0 where
  pub state : NgState
  pub rest : List ℕ
  pub before : ReadsTo text state rest
  pub left : rest ≢ []
  pub fault_is : block_fault state rest ≡ Some fault

-- the file ends without an interface
pub record HasNoInterface (text : List ℕ) : Type 0 where
  pub end : NgState
  pub reads : ReadsTo text end []
  pub none : end.link_type ≡ None

-- this fault is the first of the file
abbrev pub NgFirst : List ℕ → NgFault → Type 0
NgFirst text fault = HasBlockFault fault text ⊎ ((fault ≡ NoInterface) × HasNoInterface text)
