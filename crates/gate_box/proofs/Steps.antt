-- Each kind of step keeps the rule of a lane, and tells what its play says.
use Rattle.std.proofs.Common.{◌≡◌, ◌≢◌, ◌⊎◌, inl, inr, ⊎_elim, ℕ, zero, suc, ◌+◌, ◌-◌, ◌*◌, ◌<◌, eqb, Bool, true, false, true≢false, List, [], ◌∷◌, ◌++◌, length, set, get_or, Option, Some, None, refl, sym, ap, ◌∙◌, subst, arith, length-set, lit<}
use mathlib.Core.Option as maybe
use lib.ListN.{get_elem?}
use prog.Atomic.{either}
use Rattle.atomic_table.specs.Table.{State, Me, Act, step, rest, stepped, keeps, takes, gives, Valid, carried_after, put_back, Allows, Splits, opening}
use Rattle.atomic_table.specs.Seated.{TableId}
use Rattle.atomic_table.proofs.Lists.{at_set, exchanged}
use Rattle.std.proofs.lemmas.List.{get_or-set_same}
use Rattle.gate_box.specs.declared.rule.Note.{Note}
use Rattle.gate_box.specs.declared.rule.TheConstants.{GATE, WORDS}
use Rattle.gate_box.specs.Gate.{Phase, free, writing, full, reading, code, sent, taken, writes, reads, Lies, Fits, LaneOk, IsSeated, both_roles, sender_note, receiver_note, holding, passed, seized, freed, missed, Claims, Posts, TakesItem, Clears}

-- what stands after a list, by its place
pub at_end : {A : Type 0} (l : List A) (a b : A) (j : ℕ) → get_elem? (l ++ a ∷ []) j ≡ maybe.some b
    → (get_elem? l j ≡ maybe.some b) ⊎ ((j ≡ length l) × (a ≡ b))
at_end [] a b zero e = inr (refl, maybe.some-injective a b e)
at_end [] a b (suc j) e = absurd (maybe.some-ne-none b (sym e))
at_end (x ∷ xs) a b zero e = inl e
at_end (x ∷ xs) a b (suc j) e = ⊎_elim (λ old. inl old) (λ new. inr (ap suc new.0, new.1)) (at_end xs a b j e)

-- the gate word is what was written into it
gate_written : (words : List ℕ) (word : ℕ) → length words ≡ WORDS → get_or (set words GATE word) GATE 0 ≡ word
gate_written words word width =
    let within : GATE < length words = subst (λ (m : ℕ). GATE < m) (sym width) (lit< tt) in get_or-set_same words GATE word 0 within

-- no Bool is both
off : false ≡ true → ⊥
off e = true≢false (sym e)

module _ {N T : Type 0} (is_item : N → ℕ → T → Type 0) (name : N) where
  abbrev V : Type 0
  V = Note N

  abbrev S : Type 0
  S = State (Option T) (Note N)

  -- ---- one seat moves, and the other role's stays where it is

  -- the sender's seat has a new note, the word a new round and phase, and the receiver is as far as before
  record SenderMoves (s : S) (r : LaneOk is_item name s) (id n : ℕ) (phase : Phase) (word : ℕ) (homes : List (maybe.Option (Option T)))
      (old new : V) : Type 0 where
    at : get_elem? s.views id ≡ maybe.some old
    role : old.sends ≡ true
    word_is : word ≡ 4 * n + code phase
    lies : Lies is_item name n phase homes
    named : new.name ≡ old.name
    one_role : new.receives ≡ false
    next : new.next ≡ sent n phase
    held : new.holds ≡ writes phase
    same_taken : taken n phase ≡ taken r.n r.phase
    same_reads : reads phase ≡ reads r.phase

  -- then the rule still holds: the receiver's seat fits the new round and phase, too
  sender_moves : (s : S) (r : LaneOk is_item name s) (id n : ℕ) (phase : Phase) (word : ℕ) (homes : List (maybe.Option (Option T)))
      (old new : V) → SenderMoves s r id n phase word homes old new
      → LaneOk is_item name (record { words = set s.words GATE word; homes = homes; views = set s.views id new })
  sender_moves s r id n phase word homes old new m = record {
    n = n;
    phase = phase;
    sender = r.sender;
    receiver = r.receiver;
    width = length-set s.words GATE word ∙ r.width;
    word = gate_written s.words word r.width ∙ m.word_is;
    lies = m.lies;
    seats = λ j u there. ⊎_elim (mine j u) (other j u) (at_set s.views id j new u there);
  }
    where
      its : Fits name r.n r.phase r.sender r.receiver id old
      its = r.seats id old m.at

      mine : (j : ℕ) (u : V) → (j ≡ id) × (new ≡ u) → Fits name n phase r.sender r.receiver j u
      mine j u here = subst (λ (v : V). Fits name n phase r.sender r.receiver j v) here.1 (record {
        named = m.named ∙ its.named;
        sends = λ _. (here.0 ∙ (its.sends m.role).0, m.next, m.held);
        receives = λ hears. absurd (off (sym m.one_role ∙ hears));
      })

      other : (j : ℕ) (u : V) → (j ≢ id) × (get_elem? s.views j ≡ maybe.some u) → Fits name n phase r.sender r.receiver j u
      other j u there = record {
        named = (r.seats j u there.1).named;
        sends = λ yes. absurd (there.0 (((r.seats j u there.1).sends yes).0 ∙ sym (its.sends m.role).0));
        receives = λ yes. (
          ((r.seats j u there.1).receives yes).0,
          ((r.seats j u there.1).receives yes).1 ∙ sym m.same_taken,
          ((r.seats j u there.1).receives yes).2 ∙ sym m.same_reads,
        );
      }

  -- the same of the receiver's seat
  record ReceiverMoves (s : S) (r : LaneOk is_item name s) (id n : ℕ) (phase : Phase) (word : ℕ) (homes : List (maybe.Option (Option T)))
      (old new : V) : Type 0 where
    at : get_elem? s.views id ≡ maybe.some old
    role : old.receives ≡ true
    word_is : word ≡ 4 * n + code phase
    lies : Lies is_item name n phase homes
    named : new.name ≡ old.name
    one_role : new.sends ≡ false
    next : new.next ≡ taken n phase
    held : new.holds ≡ reads phase
    same_sent : sent n phase ≡ sent r.n r.phase
    same_writes : writes phase ≡ writes r.phase

  -- then the rule still holds: the sender's seat fits the new round and phase, too
  receiver_moves : (s : S) (r : LaneOk is_item name s) (id n : ℕ) (phase : Phase) (word : ℕ) (homes : List (maybe.Option (Option T)))
      (old new : V) → ReceiverMoves s r id n phase word homes old new
      → LaneOk is_item name (record { words = set s.words GATE word; homes = homes; views = set s.views id new })
  receiver_moves s r id n phase word homes old new m = record {
    n = n;
    phase = phase;
    sender = r.sender;
    receiver = r.receiver;
    width = length-set s.words GATE word ∙ r.width;
    word = gate_written s.words word r.width ∙ m.word_is;
    lies = m.lies;
    seats = λ j u there. ⊎_elim (mine j u) (other j u) (at_set s.views id j new u there);
  }
    where
      its : Fits name r.n r.phase r.sender r.receiver id old
      its = r.seats id old m.at

      mine : (j : ℕ) (u : V) → (j ≡ id) × (new ≡ u) → Fits name n phase r.sender r.receiver j u
      mine j u here = subst (λ (v : V). Fits name n phase r.sender r.receiver j v) here.1 (record {
        named = m.named ∙ its.named;
        sends = λ speaks. absurd (off (sym m.one_role ∙ speaks));
        receives = λ _. (here.0 ∙ (its.receives m.role).0, m.next, m.held);
      })

      other : (j : ℕ) (u : V) → (j ≢ id) × (get_elem? s.views j ≡ maybe.some u) → Fits name n phase r.sender r.receiver j u
      other j u there = record {
        named = (r.seats j u there.1).named;
        sends = λ yes. (
          ((r.seats j u there.1).sends yes).0,
          ((r.seats j u there.1).sends yes).1 ∙ sym m.same_sent,
          ((r.seats j u there.1).sends yes).2 ∙ sym m.same_writes,
        );
        receives = λ yes. absurd (there.0 (((r.seats j u there.1).receives yes).0 ∙ sym (its.receives m.role).0));
      }

  -- ---- in which round and phase a seat finds the word

  -- a sender that holds nothing finds its own round's word where the box is free
  found_free : (n k : ℕ) (phase : Phase) → k ≡ sent n phase → false ≡ writes phase → 4 * n + code phase ≡ 4 * k → (phase ≡ free) × (n ≡ k)
  found_free n k free next idle word = (refl, sym next)
  found_free n k writing next idle word = absurd (off idle)
  found_free n k full next idle word = absurd (omega arith)
  found_free n k reading next idle word = absurd (omega arith)

  -- and another word where the parcel before is there or being taken out
  found_busy : (n k : ℕ) (phase : Phase) → k ≡ sent n phase → false ≡ writes phase → 4 * n + code phase ≢ 4 * k
      → (0 < k) × ((4 * n + code phase ≡ 4 * (k - 1) + 2) ⊎ (4 * n + code phase ≡ 4 * (k - 1) + 3))
  found_busy n k free next idle differ = absurd (differ (omega arith))
  found_busy n k writing next idle differ = absurd (off idle)
  found_busy n k full next idle differ = (omega arith, inl (omega arith))
  found_busy n k reading next idle differ = (omega arith, inr (omega arith))

  -- a sender that holds the box finds it in its round
  found_writing : (n k : ℕ) (phase : Phase) → k ≡ sent n phase → true ≡ writes phase → (phase ≡ writing) × (n ≡ k)
  found_writing n k free next holds = absurd (off (sym holds))
  found_writing n k writing next holds = (refl, sym next)
  found_writing n k full next holds = absurd (off (sym holds))
  found_writing n k reading next holds = absurd (off (sym holds))

  -- a receiver that holds nothing finds the item of its round
  found_full : (n k : ℕ) (phase : Phase) → k ≡ taken n phase → false ≡ reads phase → 4 * n + code phase ≡ 4 * k + 2
      → (phase ≡ full) × (n ≡ k)
  found_full n k free next idle word = absurd (omega arith)
  found_full n k writing next idle word = absurd (omega arith)
  found_full n k full next idle word = (refl, sym next)
  found_full n k reading next idle word = absurd (off idle)

  -- and a lesser word where it isn't there yet
  found_empty : (n k : ℕ) (phase : Phase) → k ≡ taken n phase → false ≡ reads phase → 4 * n + code phase ≢ 4 * k + 2
      → 4 * n + code phase < 4 * k + 2
  found_empty n k free next idle differ = omega arith
  found_empty n k writing next idle differ = omega arith
  found_empty n k full next idle differ = absurd (differ (omega arith))
  found_empty n k reading next idle differ = absurd (off idle)

  -- a receiver that holds the box has counted its item
  found_reading : (n k : ℕ) (phase : Phase) → k ≡ taken n phase → true ≡ reads phase → (phase ≡ reading) × (n + 1 ≡ k)
  found_reading n k free next holds = absurd (off (sym holds))
  found_reading n k writing next holds = absurd (off (sym holds))
  found_reading n k full next holds = absurd (off (sym holds))
  found_reading n k reading next holds = (refl, sym next)

  -- ---- the steps

  abbrev pub M : Type 0
  M = Me (Option T) (Note N)

  -- what a seat's step from a state comes to: a new note, an act, the rule, and what is told
  abbrev Comes : S → ℕ → M → ℕ → (M → Type 0) → Type 0
  Comes s id me word told =
      (w : V) × (a : Act (Option T)) × Valid s.homes me.1 a × LaneOk is_item name (stepped s GATE word id me.1 w a) × told
      (w, carried_after me.1 a)

  -- the sender takes the empty box, or misses where the item before is there or being taken
  pub claims : (slots id : ℕ) {k : ℕ} {sat lane : TableId} {me : M} → IsSeated sat lane me true false k
      → Allows (LaneOk is_item name) slots id me GATE (λ y. either (eqb y (4 * k)) (4 * k + 1) y)
      (Claims (step slots GATE (4 * k) (4 * k + 1) maybe.none) me)
  claims slots id {k} {me} seat s r wide at small =
      exchanged y (4 * k) (4 * k + 1) (λ word. Comes s id me word (Claims (step slots GATE (4 * k) (4 * k + 1) maybe.none) me y)) hit miss
    where
      y : ℕ
      y = get_or s.words GATE 0

      is : y ≡ 4 * r.n + code r.phase
      is = r.word

      mine : (id ≡ r.sender) × (me.0.next ≡ sent r.n r.phase) × (me.0.holds ≡ writes r.phase)
      mine = (r.seats id me.0 at).sends seat.sends_is

      number : k ≡ sent r.n r.phase
      number = sym seat.next_is ∙ mine.1

      quiet : false ≡ writes r.phase
      quiet = sym seat.idle ∙ mine.2

      hit : y ≡ 4 * k → Comes s id me (4 * k + 1) (Claims (step slots GATE (4 * k) (4 * k + 1) maybe.none) me y)
      hit same =
          let found = found_free r.n k r.phase number quiet (sym is ∙ same) in
          let home : s.homes ≡ maybe.some None ∷ [] = subst (λ (p : Phase). Lies is_item name r.n p s.homes) found.0 r.lies in (
            holding me.0,
            takes 0 None,
            ap (λ (hs : List (maybe.Option (Option T))). get_elem? hs 0) home,
            sender_moves s r id k writing (4 * k + 1) (set s.homes 0 maybe.none) me.0 (holding me.0) (record {
              at = at;
              role = seat.sends_is;
              word_is = refl;
              lies = ap (λ (hs : List (maybe.Option (Option T))). set hs 0 maybe.none) home;
              named = refl;
              one_role = seat.receives_is;
              next = seat.next_is;
              held = refl;
              same_taken = sym found.1 ∙ ap (λ (p : Phase). taken r.n p) (sym found.0);
              same_reads = ap reads (sym found.0);
            }),
            ((λ _. ap (λ (held : List (ℕ × Option T)). (holding me.0, (0, None) ∷ held)) seat.empty), (λ differ. absurd (differ same))),
          )

      miss : y ≢ 4 * k → Comes s id me y (Claims (step slots GATE (4 * k) (4 * k + 1) maybe.none) me y)
      miss differ =
          let busy = found_busy r.n k r.phase number quiet (λ same. differ (is ∙ same)) in (
            missed me.0 y,
            keeps,
            tt,
            sender_moves s r id r.n r.phase y s.homes me.0 (missed me.0 y) (record {
              at = at;
              role = seat.sends_is;
              word_is = is;
              lies = r.lies;
              named = refl;
              one_role = seat.receives_is;
              next = mine.1;
              held = mine.2;
              same_taken = refl;
              same_reads = refl;
            }),
            (
              (λ same. absurd (differ same)),
              λ _. (
                refl,
                subst (λ (m : ℕ). 0 < m) (sym seat.next_is) busy.0,
                subst (λ (m : ℕ). (y ≡ 4 * (m - 1) + 2) ⊎ (y ≡ 4 * (m - 1) + 3)) (sym seat.next_is)
                    (⊎_elim (λ at2. inl (is ∙ at2)) (λ at3. inr (is ∙ at3)) busy.1),
              ),
            ),
          )

  -- a seat of one role that holds the box, with what is in it
  record HasBox (me : M) (sends receives : Bool) (next : ℕ) (inside : Option T) : Type 0 where
    sends_is : me.0.sends ≡ sends
    receives_is : me.0.receives ≡ receives
    holds : me.0.holds ≡ true
    next_is : me.0.next ≡ next
    carried : me.1 ≡ (0, inside) ∷ []

  -- the sender gives the box with item k, and the word is that of the full box
  posts : (slots id k : ℕ) (me : M) (x : T) → HasBox me true false k (Some x) → is_item me.0.name k x
      → Allows (LaneOk is_item name) slots id me GATE (λ _. 4 * k + 2)
      (λ _. Posts (step slots GATE (4 * k + 2) 0 maybe.none) me (4 * k + 2))
  posts slots id k me x box item s r wide at small = (
    passed me.0,
    gives,
    tt,
    subst (λ (hs : List (maybe.Option (Option T))). LaneOk is_item name
        (record { words = set s.words GATE (4 * k + 2); homes = hs; views = set s.views id (passed me.0) })) homes
        (sender_moves s r id k full (4 * k + 2) (maybe.some (Some x) ∷ []) me.0 (passed me.0) (record {
          at = at;
          role = box.sends_is;
          word_is = refl;
          lies = (x, refl, its_item);
          named = refl;
          one_role = box.receives_is;
          next = ap (λ (m : ℕ). m + 1) box.next_is;
          held = refl;
          same_taken = sym found.1 ∙ ap (λ (p : Phase). taken r.n p) (sym found.0);
          same_reads = ap reads (sym found.0);
        })),
    refl,
  )
    where
      mine : (id ≡ r.sender) × (me.0.next ≡ sent r.n r.phase) × (me.0.holds ≡ writes r.phase)
      mine = (r.seats id me.0 at).sends box.sends_is

      found : (r.phase ≡ writing) × (r.n ≡ k)
      found = found_writing r.n k r.phase (sym box.next_is ∙ mine.1) (sym box.holds ∙ mine.2)

      its_item : is_item name k x
      its_item = subst (λ (m : N). is_item m k x) (r.seats id me.0 at).named item

      out : s.homes ≡ maybe.none ∷ []
      out = subst (λ (p : Phase). Lies is_item name r.n p s.homes) found.0 r.lies

      homes : maybe.some (Some x) ∷ [] ≡ put_back s.homes me.1
      homes = sym (ap (put_back s.homes) box.carried ∙ ap (λ (hs : List (maybe.Option (Option T))). set hs 0 (maybe.some (Some x))) out)

  -- the receiver takes the full box with its item, or misses where no item is there yet
  pub takes_item : (slots id : ℕ) {k : ℕ} {sat lane : TableId} {me : M} → IsSeated sat lane me false true k
      → Allows (LaneOk is_item name) slots id me GATE (λ y. either (eqb y (4 * k + 2)) (4 * k + 3) y)
      (TakesItem is_item (step slots GATE (4 * k + 2) (4 * k + 3) maybe.none) me)
  takes_item slots id {k} {me} seat s r wide at small =
      exchanged y (4 * k + 2) (4 * k + 3)
      (λ word. Comes s id me word (TakesItem is_item (step slots GATE (4 * k + 2) (4 * k + 3) maybe.none) me y)) hit miss
    where
      y : ℕ
      y = get_or s.words GATE 0

      is : y ≡ 4 * r.n + code r.phase
      is = r.word

      mine : (id ≡ r.receiver) × (me.0.next ≡ taken r.n r.phase) × (me.0.holds ≡ reads r.phase)
      mine = (r.seats id me.0 at).receives seat.receives_is

      number : k ≡ taken r.n r.phase
      number = sym seat.next_is ∙ mine.1

      quiet : false ≡ reads r.phase
      quiet = sym seat.idle ∙ mine.2

      hit : y ≡ 4 * k + 2 → Comes s id me (4 * k + 3) (TakesItem is_item (step slots GATE (4 * k + 2) (4 * k + 3) maybe.none) me y)
      hit same =
          let found = found_full r.n k r.phase number quiet (sym is ∙ same) in
          let lies : (x : T) × (s.homes ≡ maybe.some (Some x) ∷ []) × is_item name r.n x = subst
          (λ (p : Phase). Lies is_item name r.n p s.homes) found.0 r.lies in (
            seized me.0,
            takes 0 (Some lies.0),
            ap (λ (hs : List (maybe.Option (Option T))). get_elem? hs 0) lies.1,
            receiver_moves s r id k reading (4 * k + 3) (set s.homes 0 maybe.none) me.0 (seized me.0) (record {
              at = at;
              role = seat.receives_is;
              word_is = refl;
              lies = ap (λ (hs : List (maybe.Option (Option T))). set hs 0 maybe.none) lies.1;
              named = refl;
              one_role = seat.sends_is;
              next = ap (λ (m : ℕ). m + 1) seat.next_is;
              held = refl;
              same_sent = ap (λ (m : ℕ). m + 1) (sym found.1) ∙ ap (λ (p : Phase). sent r.n p) (sym found.0);
              same_writes = ap writes (sym found.0);
            }),
            (
              (λ _. (
                lies.0,
                ap (λ (held : List (ℕ × Option T)). (seized me.0, (0, Some lies.0) ∷ held)) seat.empty,
                subst (λ (m : N). is_item m me.0.next lies.0) (sym (r.seats id me.0 at).named)
                    (subst (λ (m : ℕ). is_item name m lies.0) (found.1 ∙ sym seat.next_is) lies.2),
              )),
              (λ differ. absurd (differ same)),
            ),
          )

      miss : y ≢ 4 * k + 2 → Comes s id me y (TakesItem is_item (step slots GATE (4 * k + 2) (4 * k + 3) maybe.none) me y)
      miss differ =
          let early : y < 4 * k + 2 = subst (λ (m : ℕ). m < 4 * k + 2) (sym is)
          (found_empty r.n k r.phase number quiet (λ same. differ (is ∙ same))) in (
            missed me.0 y,
            keeps,
            tt,
            receiver_moves s r id r.n r.phase y s.homes me.0 (missed me.0 y) (record {
              at = at;
              role = seat.receives_is;
              word_is = is;
              lies = r.lies;
              named = refl;
              one_role = seat.sends_is;
              next = mine.1;
              held = mine.2;
              same_sent = refl;
              same_writes = refl;
            }),
            ((λ same. absurd (differ same)), λ _. (refl, subst (λ (m : ℕ). y < 4 * m + 2) (sym seat.next_is) early)),
          )

  -- the receiver gives the empty box, and the word is that of the next round
  clears : (slots id k : ℕ) (me : M) → HasBox me false true (k + 1) None
      → Allows (LaneOk is_item name) slots id me GATE (λ _. 4 * k + 4)
      (λ _. Clears (step slots GATE (4 * k + 4) 0 maybe.none) me (4 * k + 4))
  clears slots id k me box s r wide at small =
      let again : 4 * k + 4 ≡ 4 * (k + 1) + code free = omega arith in (
        freed me.0,
        gives,
        tt,
        subst (λ (hs : List (maybe.Option (Option T))). LaneOk is_item name
            (record { words = set s.words GATE (4 * k + 4); homes = hs; views = set s.views id (freed me.0) })) homes
            (receiver_moves s r id (k + 1) free (4 * k + 4) (maybe.some None ∷ []) me.0 (freed me.0) (record {
              at = at;
              role = box.receives_is;
              word_is = again;
              lies = refl;
              named = refl;
              one_role = box.sends_is;
              next = box.next_is;
              held = refl;
              same_sent = sym found.1 ∙ ap (λ (p : Phase). sent r.n p) (sym found.0);
              same_writes = ap writes (sym found.0);
            })),
        refl,
      )
    where
      mine : (id ≡ r.receiver) × (me.0.next ≡ taken r.n r.phase) × (me.0.holds ≡ reads r.phase)
      mine = (r.seats id me.0 at).receives box.receives_is

      found : (r.phase ≡ reading) × (r.n + 1 ≡ k + 1)
      found = found_reading r.n (k + 1) r.phase (sym box.next_is ∙ mine.1) (sym box.holds ∙ mine.2)

      out : s.homes ≡ maybe.none ∷ []
      out = subst (λ (p : Phase). Lies is_item name r.n p s.homes) found.0 r.lies

      homes : maybe.some None ∷ [] ≡ put_back s.homes me.1
      homes = sym (ap (put_back s.homes) box.carried ∙ ap (λ (hs : List (maybe.Option (Option T))). set hs 0 (maybe.some None)) out)

  -- ---- the start

  -- a new table stands in round 0 with an empty box, and its one seat has both roles
  pub begins : (words : List ℕ) → length words ≡ WORDS → get_or words GATE 0 ≡ 0
      → LaneOk is_item name (opening words (None ∷ []) (both_roles name))
  begins words width word = record {
    n = 0;
    phase = free;
    sender = 0;
    receiver = 0;
    width = width;
    word = word;
    lies = refl;
    seats = only;
  }
    where
      only : (j : ℕ) (v : V) → get_elem? (both_roles name ∷ []) j ≡ maybe.some v → Fits name 0 free 0 0 j v
      only zero v e = subst (λ (u : V). Fits name 0 free 0 0 0 u) (maybe.some-injective _ v e) (record {
        named = refl;
        sends = λ _. (refl, refl, refl);
        receives = λ _. (refl, refl, refl);
      })
      only (suc j) v e = absurd (maybe.some-ne-none v (sym e))

  -- the seat with both roles becomes the sender's, and the new one the receiver's
  pub splits : (id : ℕ) (v : V) → v.sends ≡ true → v.receives ≡ true → Splits (LaneOk is_item name) id v (sender_note v) (receiver_note v)
  splits id v sends receives s r at = record {
    n = r.n;
    phase = r.phase;
    sender = id;
    receiver = length s.views;
    width = r.width;
    word = r.word;
    lies = r.lies;
    seats = λ j u there. ⊎_elim (λ before. ⊎_elim (mine j u) (other j u) (at_set s.views id j (sender_note v) u before)) (new j u)
        (at_end (set s.views id (sender_note v)) (receiver_note v) u j there);
  }
    where
      its : Fits name r.n r.phase r.sender r.receiver id v
      its = r.seats id v at

      mine : (j : ℕ) (u : V) → (j ≡ id) × (sender_note v ≡ u) → Fits name r.n r.phase id (length s.views) j u
      mine j u here = subst (λ (w : V). Fits name r.n r.phase id (length s.views) j w) here.1 (record {
        named = its.named;
        sends = λ _. (here.0, (its.sends sends).1, (its.sends sends).2);
        receives = λ hears. absurd (off hears);
      })

      other : (j : ℕ) (u : V) → (j ≢ id) × (get_elem? s.views j ≡ maybe.some u) → Fits name r.n r.phase id (length s.views) j u
      other j u there = record {
        named = (r.seats j u there.1).named;
        sends = λ yes. absurd (there.0 (((r.seats j u there.1).sends yes).0 ∙ sym (its.sends sends).0));
        receives = λ yes. absurd (there.0 (((r.seats j u there.1).receives yes).0 ∙ sym (its.receives receives).0));
      }

      new : (j : ℕ) (u : V) → (j ≡ length (set s.views id (sender_note v))) × (receiver_note v ≡ u)
          → Fits name r.n r.phase id (length s.views) j u
      new j u here = subst (λ (w : V). Fits name r.n r.phase id (length s.views) j w) here.1 (record {
        named = its.named;
        sends = λ speaks. absurd (off speaks);
        receives = λ _. (here.0 ∙ length-set s.views id (sender_note v), (its.receives receives).1, (its.receives receives).2);
      })

  -- ---- as the code goes on from its first step

  -- after a claim and the exchange the sender holds the box with the item in it, and may post it
  pub posts_next : (slots id : ℕ) {k : ℕ} {sat lane : TableId} {m m1 m2 : M} {x : T} → IsSeated sat lane m true false k
      → m1 ≡ (holding m.0, (0, None) ∷ []) → m2 ≡ (m1.0, (0, Some x) ∷ rest m1.1) → is_item m.0.name k x
      → Allows (LaneOk is_item name) slots id m2 GATE (λ _. 4 * k + 2)
      (λ _. Posts (step slots GATE (4 * k + 2) 0 maybe.none) m2 (4 * k + 2))
  posts_next slots id {k} {m} {m1} {m2} {x} seat claimed filled item =
      subst (λ (u : M). Allows (LaneOk is_item name) slots id u GATE (λ _. 4 * k + 2)
      (λ _. Posts (step slots GATE (4 * k + 2) 0 maybe.none) u (4 * k + 2)))
      (sym (filled ∙ ap (λ (u : M). (u.0, (0, Some x) ∷ rest u.1)) claimed))
      (posts slots id k (holding m.0, (0, Some x) ∷ []) x (record {
        sends_is = seat.sends_is;
        receives_is = seat.receives_is;
        holds = refl;
        next_is = seat.next_is;
        carried = refl;
      }) item)

  -- after a take the receiver holds the box
  pub holds_box : (m m1 : M) (x : T) → m1 ≡ (seized m.0, (0, Some x) ∷ []) → (old : Option T) × (m1.1 ≡ (0, old) ∷ rest m1.1)
  holds_box m m1 x seized_it =
      let carried : m1.1 ≡ (0, Some x) ∷ [] = ap (λ (u : M). u.1) seized_it in
      (Some x, carried ∙ ap (λ (held : List (ℕ × Option T)). (0, Some x) ∷ rest held) (sym carried))

  -- and after the exchange it holds it empty, and may clear the word
  pub clears_next : (slots id : ℕ) {k : ℕ} {sat lane : TableId} {m m1 m2 : M} {x : T} → IsSeated sat lane m false true k
      → m1 ≡ (seized m.0, (0, Some x) ∷ []) → m2 ≡ (m1.0, (0, None) ∷ rest m1.1)
      → Allows (LaneOk is_item name) slots id m2 GATE (λ _. 4 * k + 4)
      (λ _. Clears (step slots GATE (4 * k + 4) 0 maybe.none) m2 (4 * k + 4))
  clears_next slots id {k} {m} {m1} {m2} {x} seat seized_it emptied =
      subst (λ (u : M). Allows (LaneOk is_item name) slots id u GATE (λ _. 4 * k + 4)
      (λ _. Clears (step slots GATE (4 * k + 4) 0 maybe.none) u (4 * k + 4)))
      (sym (emptied ∙ ap (λ (u : M). (u.0, (0, None) ∷ rest u.1)) seized_it))
      (clears slots id k (seized m.0, (0, None) ∷ []) (record {
        sends_is = seat.sends_is;
        receives_is = seat.receives_is;
        holds = refl;
        next_is = ap (λ (n : ℕ). n + 1) seat.next_is;
        carried = refl;
      }))
