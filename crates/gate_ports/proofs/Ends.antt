-- A post and a take change one end of all.
use Rattle.std.proofs.Common.{◌≡◌, ◌≢◌, ◌⊎◌, inl, inr, ℕ, ◌+◌, ◌<◌, ◌≤◌, List, length, map, slice_index, slice_index_or, refl, sym, ap, ◌∙◌, subst, arith, get_or-set_same, get_or-set_other}
use Rattle.std.proofs.Math.ListN.{set}
use Rattle.std.proofs.Math.Seq.{map-set_same}
use Rattle.std.proofs.lemmas.List.{map-set, get_or-map, length-map}
use Rattle.std.proofs.lemmas.Bool.{cases_order}
use Rattle.std.specs.Vec.{with_item}
use Rattle.gate_box.specs.EndView.{EndView}
use Rattle.gate_ports.specs.declared.lane_name.LaneName.{LaneName}
use Rattle.gate_ports.specs.declared.gate_ports.GatePorts.TheInside.{Inside}
use Rattle.gate_ports.specs.GatePortsView.{GatePortsView, NothingFalls}
use Rattle.gate_ports.specs.GatePorts.{AreEnds, lanes, nexts, misses, words, ports_view}

-- the number at i becomes x, and no other changes
record SetsOne (xs ys : List ℕ) (i x : ℕ) : Type 0 where
  here : slice_index ys i ≡ x
  elsewhere : (j : ℕ) → j ≢ i → slice_index ys j ≡ slice_index xs j

-- then none falls, if that one doesn't
rises : (xs ys : List ℕ) (i x : ℕ) → SetsOne xs ys i x → slice_index xs i ≤ x → (j : ℕ) → slice_index xs j ≤ slice_index ys j
rises xs ys i x sets more j = go (cases_order j i)
  where
    other : j ≢ i → slice_index xs j ≤ slice_index ys j
    other ne = let e = sets.elsewhere j ne in omega arith

    go : (j ≡ i) ⊎ ((j < i) ⊎ (i < j)) → slice_index xs j ≤ slice_index ys j
    go (inl e) =
        let P : ℕ → Type 0 = λ n. slice_index xs n ≤ slice_index ys n in
        subst P (sym e) (let h = sets.here in omega arith)
    go (inr (inl l)) = other (omega arith)
    go (inr (inr l)) = other (omega arith)

module _ (f : EndView LaneName → ℕ) (es : List (EndView LaneName)) (i : ℕ) (within : i < length es) where
  -- what f tells of each end
  told : (old : EndView LaneName) → old ≡ slice_index_or es i old → slice_index (map f es) i ≡ f old
  told old read = get_or-map f es i old 0 within ∙ ap f (sym read)

  sets : (new : EndView LaneName) → SetsOne (map f es) (map f (set es i new)) i (f new)
  sets new = record {
    here =
        ap (λ (xs : List ℕ). slice_index xs i) (map-set f es i new)
        ∙ get_or-set_same (map f es) i (f new) 0 (omega (arith, length-map es f));
    elsewhere = λ j ne.
        ap (λ (xs : List ℕ). slice_index xs j) (map-set f es i new) ∙ get_or-set_other (map f es) i j (f new) 0 ne;
  }

-- an end was lent out of a row and came back: it is of the same lane, its number didn't fall, nor did its count of misses
pub record ComesBackTo (es : List (EndView LaneName)) (i : ℕ) (old new : EndView LaneName) : Type 0 where
  pub read : old ≡ slice_index_or es i old
  pub lane : new.lane ≡ old.lane
  pub more : old.next ≤ new.next
  pub no_fewer : old.misses ≤ new.misses

-- then the lanes of the row stay
same_lanes : (es : List (EndView LaneName)) (i : ℕ) (old new : EndView LaneName) → ComesBackTo es i old new → lanes (set es i new) ≡ lanes es
same_lanes es i old new back =
    map-set_same (λ (e : EndView LaneName). e.lane) es i new old (back.lane ∙ ap (λ (e : EndView LaneName). e.lane) back.read)

-- a call that answered Ok raised its end's number
pub one_more : {old new : EndView LaneName} → new ≡ record old { next = old.next + 1 } → old.next ≤ new.next
one_more is = let e = ap (λ (x : EndView LaneName). x.next) is in omega (arith, e)

-- the sender of the lane to a core changes
pub record Posts (p q : GatePortsView) (to : ℕ) (old new : EndView LaneName) : Type 0 where
  pub keeps : NothingFalls p q
  pub others : (j : ℕ) → j ≢ to → slice_index q.posted j ≡ slice_index p.posted j
  pub old_next : slice_index p.posted to ≡ old.next
  pub new_next : slice_index q.posted to ≡ new.next
  pub old_misses : slice_index p.post_misses to ≡ old.misses
  pub new_misses : slice_index q.post_misses to ≡ new.misses
  pub new_word : slice_index q.post_words to ≡ new.found

-- then nothing falls, and its number, misses and word alone are other ones
pub posts : (s : Inside) (p : GatePortsView) → ports_view s ≡ p → AreEnds s → (to : ℕ) → to < p.setup.cores
    → (old new : EndView LaneName) → ComesBackTo s.senders.items to old new
    → Posts p (ports_view record s { senders = with_item s.senders to new }) to old new
posts s p is are to known old new back =
    subst (λ (v : GatePortsView). Posts v (ports_view record s { senders = with_item s.senders to new }) to old new) is record {
      keeps = record {
        setup = refl;
        core = refl;
        post_lanes = same_lanes s.senders.items to old new back;
        take_lanes = refl;
        posts = rises _ _ to new.next nexts_set (omega (arith, old_next, back.more));
        takes = λ j. omega arith;
        post_misses = rises _ _ to new.misses misses_set (omega (arith, old_misses, back.no_fewer));
        take_misses = λ j. omega arith;
      };
      others = nexts_set.elsewhere;
      old_next = old_next;
      new_next = nexts_set.here;
      old_misses = old_misses;
      new_misses = misses_set.here;
      new_word = words_set.here;
    }
  where
    within : to < length s.senders.items
    within =
        let h : to < s.setup.now.cores = subst (λ (v : GatePortsView). to < v.setup.cores) (sym is) known in
        let n = are.sender_count in omega (arith, h, n)

    old_next : slice_index (map (λ (e : EndView LaneName). e.next) s.senders.items) to ≡ old.next
    old_next = told (λ e. e.next) s.senders.items to within old back.read

    old_misses : slice_index (map (λ (e : EndView LaneName). e.misses) s.senders.items) to ≡ old.misses
    old_misses = told (λ e. e.misses) s.senders.items to within old back.read

    nexts_set : SetsOne (nexts s.senders.items) (nexts (set s.senders.items to new)) to new.next
    nexts_set = sets (λ e. e.next) s.senders.items to within new

    misses_set : SetsOne (misses s.senders.items) (misses (set s.senders.items to new)) to new.misses
    misses_set = sets (λ e. e.misses) s.senders.items to within new

    words_set : SetsOne (words s.senders.items) (words (set s.senders.items to new)) to new.found
    words_set = sets (λ e. e.found) s.senders.items to within new

-- the receiver of the lane from a core changes
pub record Takes (p q : GatePortsView) (from : ℕ) (old new : EndView LaneName) : Type 0 where
  pub keeps : NothingFalls p q
  pub others : (j : ℕ) → j ≢ from → slice_index q.taken j ≡ slice_index p.taken j
  pub old_next : slice_index p.taken from ≡ old.next
  pub new_next : slice_index q.taken from ≡ new.next
  pub old_misses : slice_index p.take_misses from ≡ old.misses
  pub new_misses : slice_index q.take_misses from ≡ new.misses
  pub new_word : slice_index q.take_words from ≡ new.found

-- then nothing falls, and its number, misses and word alone are other ones
pub takes : (s : Inside) (p : GatePortsView) → ports_view s ≡ p → AreEnds s → (from : ℕ) → from < p.setup.cores
    → (old new : EndView LaneName) → ComesBackTo s.receivers.items from old new
    → Takes p (ports_view record s { receivers = with_item s.receivers from new }) from old new
takes s p is are from known old new back =
    subst (λ (v : GatePortsView). Takes v (ports_view record s { receivers = with_item s.receivers from new }) from old new) is record {
      keeps = record {
        setup = refl;
        core = refl;
        post_lanes = refl;
        take_lanes = same_lanes s.receivers.items from old new back;
        posts = λ j. omega arith;
        takes = rises _ _ from new.next nexts_set (omega (arith, old_next, back.more));
        post_misses = λ j. omega arith;
        take_misses = rises _ _ from new.misses misses_set (omega (arith, old_misses, back.no_fewer));
      };
      others = nexts_set.elsewhere;
      old_next = old_next;
      new_next = nexts_set.here;
      old_misses = old_misses;
      new_misses = misses_set.here;
      new_word = words_set.here;
    }
  where
    within : from < length s.receivers.items
    within =
        let h : from < s.setup.now.cores = subst (λ (v : GatePortsView). from < v.setup.cores) (sym is) known in
        let n = are.receiver_count in omega (arith, h, n)

    old_next : slice_index (map (λ (e : EndView LaneName). e.next) s.receivers.items) from ≡ old.next
    old_next = told (λ e. e.next) s.receivers.items from within old back.read

    old_misses : slice_index (map (λ (e : EndView LaneName). e.misses) s.receivers.items) from ≡ old.misses
    old_misses = told (λ e. e.misses) s.receivers.items from within old back.read

    nexts_set : SetsOne (nexts s.receivers.items) (nexts (set s.receivers.items from new)) from new.next
    nexts_set = sets (λ e. e.next) s.receivers.items from within new

    misses_set : SetsOne (misses s.receivers.items) (misses (set s.receivers.items from new)) from new.misses
    misses_set = sets (λ e. e.misses) s.receivers.items from within new

    words_set : SetsOne (words s.receivers.items) (words (set s.receivers.items from new)) from new.found
    words_set = sets (λ e. e.found) s.receivers.items from within new
