-- A file is read in one way only: as far as blocks without a fault go.
use Rattle.std.proofs.Common.{◌≡◌, ℕ, zero, suc, ◌+◌, ◌==◌, List, [], drop, Option, Some, None, refl, sym, ap, subst, ◌∙◌, inl, inr}
use Rattle.std.proofs.lemmas.Bool.{cases_Bool}
use Rattle.pcap_io.specs.declared.form.ByteOrder.{ByteOrder}
use Rattle.pcapng_in.specs.declared.blocks.TheConstants.{SECTION, INTERFACE, SIMPLE, ENHANCED}
use Rattle.pcapng_in.specs.declared.blocks.Shape.{Shape}
use Rattle.pcapng_in.specs.declared.fault.NgFault.{NgFault}
use Rattle.pcapng_in.specs.Blocks.{kind_of, order_of_block, shape_fault, IsShape}
use Rattle.pcapng_in.specs.State.{NgState, first_state, content_fault, with_content}
use Rattle.pcapng_in.specs.Reading.{length_here, block_fault, after_block, behind_block, ReadsBlocks, ReadsTo}

-- one more block at the end
pub ReadsBlocks-push : (n : ℕ) (state : NgState) (text : List ℕ) (end : NgState) (rest : List ℕ)
    → ReadsBlocks n state text end rest → block_fault end rest ≡ None
    → ReadsBlocks (suc n) state text (after_block end rest) (behind_block end rest)
ReadsBlocks-push zero state text end rest reads none = (
  ap (λ (s : NgState). block_fault s text) reads.0 ∙ ap (block_fault end) reads.1 ∙ none,
  (
    ap (λ (s : NgState). after_block s text) reads.0 ∙ ap (after_block end) reads.1,
    ap (λ (s : NgState). behind_block s text) reads.0 ∙ ap (behind_block end) reads.1,
  ),
)
ReadsBlocks-push (suc n) state text end rest reads none =
    (reads.0, ReadsBlocks-push n (after_block state text) (behind_block state text) end rest reads.1 none)

pub ReadsTo-push : (text : List ℕ) (end : NgState) (rest : List ℕ) → ReadsTo text end rest → block_fault end rest ≡ None
    → ReadsTo text (after_block end rest) (behind_block end rest)
ReadsTo-push text end rest before none =
    record { blocks = suc before.blocks; reads = ReadsBlocks-push before.blocks first_state text end rest before.reads none }

-- no block without a fault opens the text
abbrev pub IsStuck : NgState → List ℕ → Type 0
IsStuck state text = block_fault state text ≡ None → ⊥

pub stuck_at_nothing : (state : NgState) → IsStuck state []
stuck_at_nothing state none = absurd cc

pub stuck_at_fault : (state : NgState) (text : List ℕ) (fault : NgFault) → block_fault state text ≡ Some fault → IsStuck state text
stuck_at_fault state text fault is none = let e : Some fault ≡ None = sym is ∙ none in absurd cc

-- two readings, each as far as it goes, are one
pub record SameReads (end other : NgState) (rest rival : List ℕ) : Type 0 where
  pub end_is : end ≡ other
  pub rest_is : rest ≡ rival

pub ReadsBlocks-meet : (n m : ℕ) (state : NgState) (text : List ℕ) (end other : NgState) (rest rival : List ℕ)
    → ReadsBlocks n state text end rest → ReadsBlocks m state text other rival → IsStuck end rest → IsStuck other rival
    → SameReads end other rest rival
ReadsBlocks-meet zero zero state text end other rest rival r s stuck stuck' = record { end_is = sym r.0 ∙ s.0; rest_is = sym r.1 ∙ s.1 }
ReadsBlocks-meet zero (suc m) state text end other rest rival r s stuck stuck' =
    absurd (stuck (ap (block_fault end) (sym r.1) ∙ ap (λ (t : NgState). block_fault t text) (sym r.0) ∙ s.0))
ReadsBlocks-meet (suc n) zero state text end other rest rival r s stuck stuck' =
    absurd (stuck' (ap (block_fault other) (sym s.1) ∙ ap (λ (t : NgState). block_fault t text) (sym s.0) ∙ r.0))
ReadsBlocks-meet (suc n) (suc m) state text end other rest rival r s stuck stuck' =
    ReadsBlocks-meet n m (after_block state text) (behind_block state text) end other rest rival r.1 s.1 stuck stuck'

pub ReadsTo-meet : (text : List ℕ) (end other : NgState) (rest rival : List ℕ)
    → ReadsTo text end rest → ReadsTo text other rival → IsStuck end rest → IsStuck other rival → SameReads end other rest rival
ReadsTo-meet text end other rest rival r s stuck stuck' =
    ReadsBlocks-meet r.blocks s.blocks first_state text end other rest rival r.reads s.reads stuck stuck'

-- the content of a block by the shape that was read of it
pub content_fault-shape : (state : NgState) (text : List ℕ) (shape : Shape)
    → IsShape (order_of_block state.order text) (kind_of state.order text) text shape
    → content_fault shape.order shape.kind shape.len text state
    ≡ content_fault (order_of_block state.order text) (kind_of state.order text) (length_here state text) text state
content_fault-shape state text shape is =
    ap (λ (order : ByteOrder). content_fault order shape.kind shape.len text state) is.order_is
    ∙ ap (λ (kind : ℕ). content_fault (order_of_block state.order text) kind shape.len text state) is.kind_is
    ∙ ap (λ (len : ℕ). content_fault (order_of_block state.order text) (kind_of state.order text) len text state) is.len_is

pub with_content-shape : (state : NgState) (text : List ℕ) (shape : Shape)
    → IsShape (order_of_block state.order text) (kind_of state.order text) text shape
    → with_content shape.order shape.kind shape.len text state
    ≡ with_content (order_of_block state.order text) (kind_of state.order text) (length_here state text) text state
with_content-shape state text shape is =
    ap (λ (order : ByteOrder). with_content order shape.kind shape.len text state) is.order_is
    ∙ ap (λ (kind : ℕ). with_content (order_of_block state.order text) kind shape.len text state) is.kind_is
    ∙ ap (λ (len : ℕ). with_content (order_of_block state.order text) (kind_of state.order text) len text state) is.len_is

-- a block's fault is that of its shape, and then that of its content
pub block_fault-shape : (state : NgState) (text : List ℕ) (fault : NgFault) → shape_fault state.place state.order text ≡ Some fault
    → block_fault state text ≡ Some fault
block_fault-shape state text fault is = rw is refl

pub block_fault-content : (state : NgState) (text : List ℕ) (told : Option NgFault) → shape_fault state.place state.order text ≡ None
    → content_fault (order_of_block state.order text) (kind_of state.order text) (length_here state text) text state ≡ told
    → block_fault state text ≡ told
block_fault-content state text told none is = rw none is

-- the content of a block moves no place
with_content-place : (order : ByteOrder) (kind len : ℕ) (text : List ℕ) (state : NgState)
    → (with_content order kind len text state).place ≡ state.place
with_content-place order kind len text state =
    elim (cases_Bool (kind == SECTION)) [
      | inl section ↦ rw section refl
      | inr a ↦ elim (cases_Bool (kind == INTERFACE)) [
        | inl interface ↦ rw (a, interface) refl
        | inr b ↦ elim (cases_Bool (kind == ENHANCED)) [
          | inl enhanced ↦ rw (a, b, enhanced) refl
          | inr c ↦ elim (cases_Bool (kind == SIMPLE)) [ inl simple ↦ rw (a, b, c, simple) refl | inr d ↦ rw (a, b, c, d) refl ]
        ]
      ]
    ]

-- what a reader knows of the block that it has read: its shape and its content are good
pub record IsStep (state : NgState) (text : List ℕ) (shape : Shape) (new : NgState) : Type 0 where
  pub shape_good : shape_fault state.place state.order text ≡ None
  pub shape_is : IsShape (order_of_block state.order text) (kind_of state.order text) text shape
  pub content_good : content_fault shape.order shape.kind shape.len text state ≡ None
  pub content_is : new ≡ with_content shape.order shape.kind shape.len text state

pub step-place : (state : NgState) (text : List ℕ) (shape : Shape) (new : NgState) → IsStep state text shape new → new.place ≡ state.place
step-place state text shape new step =
    ap (λ (s : NgState). s.place) step.content_is ∙ with_content-place shape.order shape.kind shape.len text state

pub ReadsTo-step : (text : List ℕ) (state : NgState) (rest behind : List ℕ) (shape : Shape) (new : NgState) → ReadsTo text state rest
    → IsStep state rest shape new → behind ≡ drop shape.len rest → ReadsTo text (record new { place = new.place + shape.len }) behind
ReadsTo-step text state rest behind shape new before step behind_is =
    let is = step.shape_is in
    let good : block_fault state rest ≡ None =
    block_fault-content state rest None step.shape_good (sym (content_fault-shape state rest shape is) ∙ step.content_good) in
    let content : new ≡ with_content (order_of_block state.order rest) (kind_of state.order rest) (length_here state rest) rest state =
    step.content_is ∙ with_content-shape state rest shape is in
    let place : new.place + shape.len ≡ state.place + length_here state rest =
    let same = step-place state rest shape new step in let len = is.len_is in cc in
    let new_is : record new { place = new.place + shape.len } ≡ after_block state rest =
    ap (λ (p : ℕ). record new { place = p }) place ∙ ap (λ (s : NgState). record s { place = state.place + length_here state rest }) content in
    let rest_is : behind ≡ behind_block state rest = behind_is ∙ ap (λ (len : ℕ). drop len rest) is.len_is in
    subst (λ (s : NgState). ReadsTo text s behind) (sym new_is)
    (subst (λ (r : List ℕ). ReadsTo text (after_block state rest) r) (sym rest_is) (ReadsTo-push text state rest before good))
