-- Both ends of each lane are of it, while lanes are made one at a time and one row at a time.
use Rattle.std.proofs.Common.{◌≡◌, ◌⊎◌, inl, inr, ℕ, ◌+◌, ◌<◌, List, [], ◌∷◌, ◌++◌, length, slice_index_or, refl, sym, ap, ◌∙◌, subst, arith}
use Rattle.std.proofs.Math.ListN.{set}
use Rattle.std.proofs.lemmas.List.{map_push, get_or_push, get_or_append_left, get_or_default, length-append, length-map}
use Rattle.std.proofs.lemmas.Bool.{cases_order}
use Rattle.atomic_table.specs.Seated.{TableId}
use Rattle.gate_box.specs.EndView.{EndView}
use Rattle.gate_ports.specs.declared.lane_name.LaneName.{LaneName}
use Rattle.gate_ports.specs.GatePortsView.{GatePortsView, EachAt, AreJoined}
use Rattle.gate_ports.specs.GatePorts.{lanes}
use Rattle.gate_ports.specs.Building.{EachBefore, EachFrom, Row, lane_at, GetsLane, JoinsOne, Stays, JoinsRow, AreOfOneLane, HasLanes, HasLanesOf}
use Rattle.gate_ports.proofs.Building.{before_set, each_push}

-- a row that gets an end gets its lane
gets : (v w : Row) (e : EndView LaneName) → w.items ≡ v.items ++ e ∷ [] → GetsLane e.lane v w
gets v w e more = ap lanes more ∙ map_push (λ (x : EndView LaneName). x.lane) v.items e

-- a row has as many lanes as ends
lane_count : (v : Row) → length (lanes v.items) ≡ length v.items
lane_count v = length-map v.items (λ (x : EndView LaneName). x.lane)

-- the lane that a row gets stands behind the others, which stay
gets_last : (lane : TableId) (v w : Row) → GetsLane lane v w → (j : ℕ) (t : TableId) → length v.items ≡ j → lane_at w j t ≡ lane
gets_last lane v w more j t at =
    ap (λ (l : List TableId). slice_index_or l j t) more ∙ get_or_push (lanes v.items) lane t j (lane_count v ∙ at)

gets_behind : (lane : TableId) (v w : Row) → GetsLane lane v w → (j : ℕ) (t : TableId) → j < length v.items → lane_at w j t ≡ lane_at v j t
gets_behind lane v w more j t within =
    ap (λ (l : List TableId). slice_index_or l j t) more
    ∙ get_or_append_left (lanes v.items) (lane ∷ []) t j (omega (arith, within, lane_count v))

-- the ends of a pair go behind the two rows
pub joins_one : (v w r q : Row) (s e : EndView LaneName) → w.items ≡ v.items ++ s ∷ [] → q.items ≡ r.items ++ e ∷ [] → s.lane ≡ e.lane
    → JoinsOne v w r q
joins_one v w r q s e sent received one = record {
  sent = λ t.
      let last : lane_at q (length r.items) t ≡ e.lane = gets_last e.lane r q (gets r q e received) (length r.items) t refl in
      gets v w s sent ∙ ap (λ (x : TableId). lanes v.items ++ x ∷ []) (one ∙ sym last);
  kept = λ j t within. gets_behind e.lane r q (gets r q e received) j t within;
}

-- rows stand as they stand
pub stays_first : (rows : List Row) → EachFrom 0 (Stays rows) rows
stays_first rows = λ j d from within v. get_or_default rows j d v within

-- what is read at an index from which the rows stand as they stood
pub stays_at : (old rows : List Row) (from n : ℕ) (d row : Row) → EachFrom from (Stays old) rows → n ≡ from → from < length rows
    → row ≡ slice_index_or rows from d
    → Stays old n row
stays_at old rows from n d row stays is within read = λ v.
    read ∙ stays from d (omega arith) within v ∙ ap (λ (k : ℕ). slice_index_or old k v) (sym is)

-- one lane more of a row
pub joins_more : (old rows : List Row) (from : ℕ) (v w r q : Row) → length r.items ≡ from → EachBefore from (JoinsRow old r) rows
    → Stays old from v → JoinsOne v w r q
    → EachBefore (from + 1) (JoinsRow old q) (set rows from w)
joins_more old rows from v w r q count before stays one = before_set (JoinsRow old q) rows from w earlier last
  where
    earlier : EachBefore from (JoinsRow old q) rows
    earlier = λ j d below within x t.
        let same : lane_at q j t ≡ lane_at r j t = one.kept j t (omega (arith, below, count)) in
        subst (λ (lane : TableId). GetsLane lane (slice_index_or old j x) (slice_index_or rows j d)) (sym same) (before j d below within x t)

    last : JoinsRow old q from w
    last = λ x t.
        let at : GetsLane (lane_at q from t) v w = subst (λ (n : ℕ). GetsLane (lane_at q n t) v w) count (one.sent t) in
        subst (λ (y : Row). GetsLane (lane_at q from t) y w) (stays x) at

-- one row more
pub of_one_lane_more : (old new rows : List Row) (row : Row) → EachAt (λ j v. length v.items ≡ length rows) old → length new ≡ length old
    → AreOfOneLane old rows → EachAt (JoinsRow old row) new
    → AreOfOneLane new (rows ++ row ∷ [])
of_one_lane_more old new rows row counts same one joins = λ from to v w t u from_in to_in.
    go from to v w t u from_in to_in (omega (arith, from_in, same)) (cases_order to (length rows))
  where
    go : (from to : ℕ) (v w : Row) (t u : TableId) → from < length new → to < length (rows ++ row ∷ []) → from < length old
        → (to ≡ length rows) ⊎ ((to < length rows) ⊎ (length rows < to))
        → lane_at (slice_index_or new from v) to t ≡ lane_at (slice_index_or (rows ++ row ∷ []) to w) from u
    go from to v w t u from_in to_in known (inl e) =
        let count : length (slice_index_or old from v).items ≡ to = counts from v known ∙ sym e in
        gets_last (lane_at row from u) (slice_index_or old from v) (slice_index_or new from v) (joins from v from_in v u) to t count
        ∙ ap (λ (r : Row). lane_at r from u) (sym (get_or_push rows row w to (sym e)))
    go from to v w t u from_in to_in known (inr (inl l)) =
        let inside : to < length (slice_index_or old from v).items = omega (arith, l, counts from v known) in
        gets_behind (lane_at row from u) (slice_index_or old from v) (slice_index_or new from v) (joins from v from_in v u) to t inside
        ∙ one from to v w t u known l
        ∙ ap (λ (r : Row). lane_at r from u) (sym (get_or_append_left rows (row ∷ []) w to l))
    go from to v w t u from_in to_in known (inr (inr l)) = absurd (omega (arith, length-append rows (row ∷ []), to_in, l))

-- the ports of one more core
pub has_lanes_more : (senders receivers : List Row) (all : List GatePortsView) (v w : Row) (p : GatePortsView)
    → Stays senders (length all) v → Stays receivers (length all) w → HasLanes v w p → EachAt (HasLanesOf senders receivers) all
    → EachAt (HasLanesOf senders receivers) (all ++ p ∷ [])
has_lanes_more senders receivers all v w p sends receives has each = each_push (HasLanesOf senders receivers) all p each (λ x y. record {
  post_lanes = has.post_lanes ∙ ap (λ (r : Row). lanes r.items) (sends x);
  take_lanes = has.take_lanes ∙ ap (λ (r : Row). lanes r.items) (receives y);
})

-- ports that have the lanes of such rows fit together
pub are_joined : (senders receivers : List Row) (all : List GatePortsView) → length senders ≡ length all → length receivers ≡ length all
    → AreOfOneLane senders receivers → EachAt (HasLanesOf senders receivers) all → AreJoined all
are_joined [] receivers all count same one each = λ from to p q t u from_in to_in. absurd (omega (arith, count, from_in))
are_joined (x ∷ xs) receivers all count same one each = λ from to p q t u from_in to_in.
    let sent = (each from p from_in x x).post_lanes in
    let received = (each to q to_in x x).take_lanes in
    ap (λ (l : List TableId). slice_index_or l to t) sent
    ∙ one from to x x t u (omega (arith, count, from_in)) (omega (arith, same, to_in))
    ∙ sym (ap (λ (l : List TableId). slice_index_or l from u) received)
