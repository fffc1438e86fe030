-- The gate word `4n + phase`, where the box is in each phase, and what the five kinds of step tell.
use Rattle.std.specs.Prelude.{◌≡◌, ◌≢◌, ◌⊎◌, ℕ, ◌+◌, ◌-◌, ◌*◌, ◌<◌, Bool, true, false, List, [], ◌∷◌, Option, Some, None, length, slice_index}
use mathlib.Core.Option as maybe
use lib.ListN.{get_elem?}
use Rattle.atomic_table.specs.Table.{State, Me, Step, rest}
use Rattle.atomic_table.specs.Seated.{TableId}
use Rattle.gate_box.specs.declared.rule.Note.{Note}
use Rattle.gate_box.specs.declared.rule.TheConstants.{GATE, WORDS}

-- the box is empty and at home; the sender holds it; it is at home with the item; the receiver holds it
pub data Phase : Type 0 where
  free : Phase
  writing : Phase
  full : Phase
  reading : Phase

abbrev pub code : Phase → ℕ
code free = 0
code writing = 1
code full = 2
code reading = 3

-- how many items were posted, and how many were taken, in round n
abbrev pub sent : ℕ → Phase → ℕ
sent n free = n
sent n writing = n
sent n full = n + 1
sent n reading = n + 1

abbrev pub taken : ℕ → Phase → ℕ
taken n free = n
taken n writing = n
taken n full = n
taken n reading = n + 1

-- whether the sender, or the receiver, holds the box
abbrev pub writes : Phase → Bool
writes free = false
writes writing = true
writes full = false
writes reading = false

abbrev pub reads : Phase → Bool
reads free = false
reads writing = false
reads full = false
reads reading = true

-- where the box is, and what is in it
abbrev pub Lies : {N T : Type 0} → (N → ℕ → T → Type 0) → N → ℕ → Phase → List (maybe.Option (Option T)) → Type 0
Lies is_item name n free homes = homes ≡ maybe.some None ∷ []
Lies is_item name n writing homes = homes ≡ maybe.none ∷ []
Lies {T = T} is_item name n full homes = (x : T) × (homes ≡ maybe.some (Some x) ∷ []) × is_item name n x
Lies is_item name n reading homes = homes ≡ maybe.none ∷ []

-- what the seat j knows: the lane's name, and by its role how far it is and whether it holds the box
pub record Fits {N : Type 0} (name : N) (n : ℕ) (phase : Phase) (sender receiver j : ℕ) (v : Note N) : Type 0 where
  pub named : v.name ≡ name
  pub sends : v.sends ≡ true → (j ≡ sender) × (v.next ≡ sent n phase) × (v.holds ≡ writes phase)
  pub receives : v.receives ≡ true → (j ≡ receiver) × (v.next ≡ taken n phase) × (v.holds ≡ reads phase)

-- the rule of a lane: a round and a phase by which the gate word, the box and all seats stand; each role is one seat's alone
-- (the words beside the gate word are never used: they keep other data out of its cache line)
pub record LaneOk {N T : Type 0} (is_item : N → ℕ → T → Type 0) (name : N) (s : State (Option T) (Note N)) : Type 0 where
  pub n : ℕ
  pub phase : Phase
  pub sender : ℕ
  pub receiver : ℕ
  pub width : length s.words ≡ WORDS
  pub word : slice_index s.words GATE ≡ 4 * n + code phase
  pub lies : Lies is_item name n phase s.homes
  pub seats : (j : ℕ) (v : Note N) → get_elem? s.views j ≡ maybe.some v → Fits name n phase sender receiver j v

-- an end between two calls: it sits at its lane's table, has its one role, knows how many items it posted or took, and holds nothing
pub record IsSeated {N T : Type 0} (seat table : TableId) (me : Me (Option T) (Note N)) (sends receives : Bool) (next : ℕ) : Type 0 where
  pub table_is : seat ≡ table
  pub word_count : seat.words ≡ WORDS
  pub slot_count : seat.slots ≡ 1
  pub sends_is : me.0.sends ≡ sends
  pub receives_is : me.0.receives ≡ receives
  pub next_is : me.0.next ≡ next
  pub idle : me.0.holds ≡ false
  pub empty : me.1 ≡ []

-- ---- what a seat knows, before the roles are given to two seats and after

abbrev pub both_roles : {N : Type 0} → N → Note N
both_roles name = record { sends = true; receives = true; next = 0; holds = false; found = 0; misses = 0; name = name }

abbrev pub sender_note : {N : Type 0} → Note N → Note N
sender_note v = record v { receives = false }

abbrev pub receiver_note : {N : Type 0} → Note N → Note N
receiver_note v = record v { sends = false }

-- ---- and after each step

abbrev pub holding : {N : Type 0} → Note N → Note N
holding v = record v { holds = true }

abbrev pub passed : {N : Type 0} → Note N → Note N
passed v = record v { holds = false; next = v.next + 1 }

abbrev pub seized : {N : Type 0} → Note N → Note N
seized v = record v { holds = true; next = v.next + 1 }

abbrev pub freed : {N : Type 0} → Note N → Note N
freed v = record v { holds = false }

abbrev pub missed : {N : Type 0} → Note N → ℕ → Note N
missed v found = record v { found = found; misses = v.misses + 1 }

-- ---- what each kind of step tells

-- a claim takes the empty box where the word was the wanted one; else it is a miss, and the box is full or being emptied
abbrev pub Claims : {T N : Type 0} → Step (Option T) → Me (Option T) (Note N) → ℕ → Me (Option T) (Note N) → Type 0
Claims st m found w =
    (found ≡ st.first → w ≡ (holding m.0, (0, None) ∷ []))
    × (found ≢ st.first → (w ≡ (missed m.0 found, m.1)) × (0 < m.0.next) ×
    ((found ≡ 4 * (m.0.next - 1) + 2) ⊎ (found ≡ 4 * (m.0.next - 1) + 3)))

abbrev pub Posts : {T N : Type 0} → Step (Option T) → Me (Option T) (Note N) → ℕ → Me (Option T) (Note N) → Type 0
Posts st m found w = w ≡ (passed m.0, rest m.1)

-- a take gets the box with an item of this number where the word was the wanted one; else it is a miss, and the item isn't there yet
abbrev pub TakesItem : {N T : Type 0} → (N → ℕ → T → Type 0)
    → Step (Option T) → Me (Option T) (Note N) → ℕ → Me (Option T) (Note N) → Type 0
TakesItem {T = T} is_item st m found w =
    (found ≡ st.first → (x : T) × (w ≡ (seized m.0, (0, Some x) ∷ [])) × is_item m.0.name m.0.next x)
    × (found ≢ st.first → (w ≡ (missed m.0 found, m.1)) × (found < 4 * m.0.next + 2))

abbrev pub Clears : {T N : Type 0} → Step (Option T) → Me (Option T) (Note N) → ℕ → Me (Option T) (Note N) → Type 0
Clears st m found w = w ≡ (freed m.0, rest m.1)
