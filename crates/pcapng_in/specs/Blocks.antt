-- A block: its type and length (4 bytes each), its body, and its length again. Numbers are in the byte order of its section.
use Rattle.std.specs.Prelude.{◌≡◌, ℕ, ◌-◌, ◌%◌, ◌≤◌, ◌==◌, nat_lt, ◌||◌, not, if◌then◌else◌, List, length, Option, Some, None, Result, Ok, Err}
use Rattle.pcap_io.specs.declared.form.ByteOrder.{ByteOrder}
use Rattle.pcap_io.specs.declared.form.ByteOrder.TheVariants.{Little, Big}
use Rattle.pcap_io.specs.Form.{word}
use Rattle.pcapng_in.specs.declared.blocks.TheConstants.{SECTION, INTERFACE, SIMPLE, ENHANCED, MAGIC}
use Rattle.pcapng_in.specs.declared.blocks.Shape.{Shape}
use Rattle.pcapng_in.specs.declared.fault.NgFault.{NgFault}
use Rattle.pcapng_in.specs.declared.fault.NgFault.TheVariants.{Cut, Magic, Length}

abbrev pub kind_of : ByteOrder → List ℕ → ℕ
kind_of order text = word order 0 text

abbrev pub block_length : ByteOrder → List ℕ → ℕ
block_length order text = word order 4 text

-- the least length of a block of this type
abbrev pub least_length : ℕ → ℕ
least_length kind =
    if kind == SECTION then 28 else (if kind == INTERFACE then 20 else (if kind == ENHANCED then 32 else (if kind == SIMPLE then 16 else 12)))

-- the byte order in which the magic of a section header reads right
abbrev pub magic_order : List ℕ → Option ByteOrder
magic_order text = if word Little 8 text == MAGIC then Some Little else (if word Big 8 text == MAGIC then Some Big else None)

-- what is wrong with the length of a block of this type in this byte order
abbrev pub length_fault : ℕ → ByteOrder → ℕ → List ℕ → Option NgFault
length_fault place order kind text =
    if not (block_length order text % 4 == 0) || nat_lt (block_length order text) (least_length kind) then Some (Length place)
    else (if nat_lt (length text) (block_length order text) then Some (Cut place)
    else (if word order (block_length order text - 4) text == block_length order text then None
    else Some (Length place)))

-- in the order of its magic, or none has it
abbrev pub section_shape_fault : ℕ → Option ByteOrder → List ℕ → Option NgFault
section_shape_fault place None text = Some (Magic place)
section_shape_fault place (Some order) text = length_fault place order SECTION text

-- what is wrong with the shape of the block that opens the text, in a section of this byte order
abbrev pub shape_fault : ℕ → ByteOrder → List ℕ → Option NgFault
shape_fault place order text =
    if nat_lt (length text) 12 then Some (Cut place)
    else (if kind_of order text == SECTION then section_shape_fault place (magic_order text) text
    else length_fault place order (kind_of order text) text)

-- the byte order of the block that opens the text: a section header tells its own
abbrev pub order_told : ByteOrder → Option ByteOrder → ByteOrder
order_told order None = order
order_told order (Some told) = told

abbrev pub order_of_block : ByteOrder → List ℕ → ByteOrder
order_of_block order text = if kind_of order text == SECTION then order_told order (magic_order text) else order

-- the numbers that the block that opens the text has
pub record IsShape (order : ByteOrder) (kind : ℕ) (text : List ℕ) (shape : Shape) : Type 0 where
  pub order_is : shape.order ≡ order
  pub kind_is : shape.kind ≡ kind
  pub len_is : shape.len ≡ block_length order text
  pub least : least_length kind ≤ shape.len
  pub whole : shape.len ≤ length text

abbrev pub ReadsLength : ℕ → ByteOrder → ℕ → List ℕ → Result Shape NgFault → Type 0
ReadsLength place order kind text (Ok shape) = (length_fault place order kind text ≡ None) × IsShape order kind text shape
ReadsLength place order kind text (Err fault) = length_fault place order kind text ≡ Some fault

-- a good shape, or what is wrong with it
abbrev pub ReadsShape : ℕ → ByteOrder → List ℕ → Result Shape NgFault → Type 0
ReadsShape place order text (Ok shape) = (shape_fault place order text ≡ None) × IsShape (order_of_block order text) (kind_of order text) text shape
ReadsShape place order text (Err fault) = shape_fault place order text ≡ Some fault
