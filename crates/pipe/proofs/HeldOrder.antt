-- How the first visits in order and the heap of later ones give the due visits in canonical order.
use Rattle.std.proofs.Common.{◌≡◌, ◌≢◌, ◌⊎◌, inl, inr, ⊎_elim, ℕ, zero, suc, ◌+◌, ◌<◌, ◌≤◌, Bool, true, false, cond, not, List, [], ◌∷◌, ◌++◌, length, get_or, drop, sum_by, All, AllPairs, Option, Some, None, Bor, IsSome, IfSome, is_some, nat_lt, refl, sym, ap, ◌∙◌, subst, arith, true≢false, add-one, append-nil}
use Rattle.std.specs.Prelude.{◌↔◌}
use Rattle.std.specs.Option.{option_copied}
use Rattle.std.specs.declared.cmp.Ordering.{Ordering}
use Rattle.std.specs.declared.cmp.Ordering.TheVariants.{Less, Equal, Greater}
use Rattle.std.specs.declared.cmp.Reverse.{Reverse}
use Rattle.std.specs.Ordering.{nat_cmp, ordering_then, is_lt}
use Rattle.std.specs.List.Sorted.{IsPermutation, IsSortedByKey}
use Rattle.std.specs.BinaryHeap.{IsHeap, IsUpperBound}
use Rattle.std.specs.Cmp.{IsTotalOrder}
use Rattle.std.proofs.Math.Seq.{drop-cons}
use Rattle.std.proofs.lemmas.Bool.{cases_order, eq-eqb, ne_eqb, ltb-true, ltb-false, false≢true}
use Rattle.std.proofs.lemmas.Cmp.{ranked, nat_cmp_total, on_total, then_total}
use Rattle.std.proofs.lemmas.List.{get_or-drop, get_or_default, length-drop, drop_all}
use Rattle.std.proofs.lemmas.List.MinMax.{ranks_by}
use Rattle.std.proofs.lemmas.List.Sorted.{length_permutation, sorted_far, sum_by_pushed, sum_by_popped, sum_by-IsPermutation, Contains-permutation, IsPermutation-sym, IsPermutation-map}
use Rattle.std.proofs.lemmas.List.Sums.{sum_by-cons, sum_by-append}
use Rattle.mn_base.specs.Among.{Among}
use Rattle.mn_base.proofs.Members.{All-Among, among-from_contains, contains-from_among, Among-index, Among-append, Among-append-left, Among-append-right}
use Rattle.mn_base.specs.declared.due.Due.{Due}
use Rattle.mn_base.specs.Canonical.{Before, is_before}
use Rattle.pipe.proofs.CanonicalOrder.{before-transitive, before-either, not_before-transitive, is_before-true, is_before-false}
use Rattle.pipe.specs.declared.due_visits.DueVisit.{DueVisit}
use Rattle.pipe.specs.VisitEntries.{HeapEntry, due_from_entry, pair_cmp, top_cmp, later_visits, of_packet, comes_first, early_of}
use Rattle.pipe.specs.HeldVisits.{HasNone, TakesVisit}

-- a permutation keeps the members
pub among-permuted : {X : Type 0} (z : X) (xs ys : List X) → IsPermutation xs ys → Among z xs → Among z ys
among-permuted z xs ys moved among = among-from_contains z ys (Contains-permutation xs ys z moved (contains-from_among z xs among))

-- how many visits of a packet are in a list
abbrev pub many_of : ℕ → List DueVisit → ℕ
many_of packet ws = sum_by (of_packet packet) ws

many-none : (packet : ℕ) (ws : List DueVisit) → HasNone ws packet → many_of packet ws ≡ 0
many-none packet [] none = refl
many-none packet (w ∷ ws) none =
    let here : of_packet packet w ≡ 0 = rw (ne_eqb w.due.packet packet (none w (inl refl))) refl in
    let rest = many-none packet ws (λ v among. none v (inr among)) in
    omega (arith, here, rest, sum_by-cons (of_packet packet) w ws)

many-some : (w : DueVisit) (ws : List DueVisit) → Among w ws → 1 ≤ many_of w.due.packet ws
many-some w [] among = absurd among
many-some w (v ∷ ws) (inl same) =
    let here : of_packet w.due.packet v ≡ 1 = rw (eq-eqb v.due.packet w.due.packet (ap (λ (u : DueVisit). u.due.packet) same)) refl in
    omega (arith, here, sum_by-cons (of_packet w.due.packet) v ws)
many-some w (v ∷ ws) (inr later) =
    omega (arith, many-some w ws later, sum_by-cons (of_packet w.due.packet) v ws)

-- members of two lists that have no packet twice together are of different packets
apart-across : (v w : DueVisit) (vs ws : List DueVisit) → ((n : ℕ) → many_of n vs + many_of n ws ≤ 1) → Among v vs → Among w ws
    → v.due.packet ≢ w.due.packet
apart-across v w vs ws once a b same =
    let left = many-some v vs a in
    let right : 1 ≤ many_of v.due.packet ws = subst (λ n. 1 ≤ many_of n ws) (sym same) (many-some w ws b) in
    omega (arith, left, right, once v.due.packet)

-- packets whose numbers rise stand once
rise-once : (ws : List DueVisit) → AllPairs (λ v w. v.due.packet < w.due.packet) ws → (n : ℕ) → many_of n ws ≤ 1
rise-once [] rise n = omega arith
rise-once (w ∷ ws) rise n =
    go (cases_order w.due.packet n) (rise-once ws (λ i j d less within. rise (suc i) (suc j) d (omega arith) (omega arith)) n)
  where
    above : All (λ v. w.due.packet < v.due.packet) ws
    above k d within = rise 0 (suc k) d (omega arith) (omega arith)

    other : (w.due.packet ≡ n → ⊥) → many_of n ws ≤ 1 → many_of n (w ∷ ws) ≤ 1
    other differs rest =
        let here : of_packet n w ≡ 0 = rw (ne_eqb w.due.packet n differs) refl in
        omega (arith, here, rest, sum_by-cons (of_packet n) w ws)

    go : (w.due.packet ≡ n) ⊎ ((w.due.packet < n) ⊎ (n < w.due.packet)) → many_of n ws ≤ 1 → many_of n (w ∷ ws) ≤ 1
    go (inl same) rest =
        let later : (v : DueVisit) → Among v ws → w.due.packet < v.due.packet =
        λ v among. All-Among (λ (u : DueVisit). w.due.packet < u.due.packet) v ws above among in
        let none = many-none n ws (λ v among e. omega (arith, later v among)) in
        let here : of_packet n w ≡ 1 = rw (eq-eqb w.due.packet n same) refl in
        omega (arith, here, none, sum_by-cons (of_packet n) w ws)
    go (inr (inl low)) rest = other (λ e. omega arith) rest
    go (inr (inr high)) rest = other (λ e. omega arith) rest

-- two places of a list that has no packet twice
apart-places : (ws : List DueVisit) (i j : ℕ) (d : DueVisit) → ((n : ℕ) → many_of n ws ≤ 1) → i < j → j < length ws
    → (get_or ws i d).due.packet ≢ (get_or ws j d).due.packet
apart-places [] i j d once less within same = absurd (omega arith)
apart-places (w ∷ ws) i zero d once less within same = absurd (omega arith)
apart-places (w ∷ ws) zero (suc j) d once less within same =
    let there : DueVisit = get_or ws j d in
    let behind = many-some there ws (Among-index ws j d (omega arith)) in
    let here : of_packet there.due.packet w ≡ 1 = rw (eq-eqb w.due.packet there.due.packet same) refl in
    omega (arith, behind, here, once there.due.packet, sum_by-cons (of_packet there.due.packet) w ws)
apart-places (w ∷ ws) (suc i) (suc j) d once less within same =
    apart-places ws i j d (λ n. omega (arith, once n, sum_by-cons (of_packet n) w ws)) (omega arith) (omega arith) same

-- a pair that isn't less than another: the visit isn't before the other
not_before-from_pair : (x y : Due) (q : Ordering) → is_lt (ordering_then (pair_cmp (x.tick, x.packet) (y.tick, y.packet)) q) ≡ false
    → Before x y → ⊥
not_before-from_pair x y q not_less = go (nat_cmp x.tick y.tick) (nat_cmp x.packet y.packet) refl refl not_less
  where
    go : (o p : Ordering) → o ≡ nat_cmp x.tick y.tick → p ≡ nat_cmp x.packet y.packet → is_lt (ordering_then (ordering_then o p) q) ≡ false
        → Before x y → ⊥
    go Less p d e f before = absurd (true≢false f)
    go Equal Less d e f before = absurd (true≢false f)
    go Equal Equal d e f (inl l) = let t : x.tick ≡ y.tick = ranked x.tick y.tick Equal d in absurd (omega arith)
    go Equal Equal d e f (inr s) =
        let n : x.packet ≡ y.packet = ranked x.packet y.packet Equal e in
        let l : x.packet < y.packet = s.1 in
        absurd (omega arith)
    go Equal Greater d e f (inl l) = let t : x.tick ≡ y.tick = ranked x.tick y.tick Equal d in absurd (omega arith)
    go Equal Greater d e f (inr s) =
        let n : y.packet < x.packet = ranked x.packet y.packet Greater e in
        let l : x.packet < y.packet = s.1 in
        absurd (omega arith)
    go Greater p d e f (inl l) = let t : y.tick < x.tick = ranked x.tick y.tick Greater d in absurd (omega arith)
    go Greater p d e f (inr s) =
        let t : y.tick < x.tick = ranked x.tick y.tick Greater d in
        let l : x.tick ≡ y.tick = s.0 in
        absurd (omega arith)

-- no later visit is before that on top of the heap
not_before-top : (top : Reverse HeapEntry) (rs : List (Reverse HeapEntry)) → IsUpperBound top_cmp top rs → (w : DueVisit)
    → Among w (later_visits rs)
    → Before w.due (due_from_entry top.0).due → ⊥
not_before-top top [] bound w among before = absurd among
not_before-top top (r ∷ rs) bound w (inl same) before =
    not_before-from_pair (due_from_entry r.0).due (due_from_entry top.0).due (pair_cmp r.0.1 top.0.1) bound.0
    (subst (λ (v : DueVisit). Before v.due (due_from_entry top.0).due) (sym same) before)
not_before-top top (r ∷ rs) bound w (inr later) before = not_before-top top rs bound.1 w later before

-- what is known of the visits held: the first ones from an index on, the later ones in the heap
pub record AreHeld (firsts : List DueVisit) (next : ℕ) (rs : List (Reverse HeapEntry)) : Type 0 where
  pub rising : AllPairs (λ v w. Before v.due w.due) firsts
  pub once : (n : ℕ) → many_of n (drop next firsts ++ later_visits rs) ≤ 1

once-parts : {firsts : List DueVisit} {next : ℕ} {rs : List (Reverse HeapEntry)} → AreHeld firsts next rs → (n : ℕ)
    → many_of n (drop next firsts) + many_of n (later_visits rs) ≤ 1
once-parts {firsts} {next} {rs} h n = omega (arith, h.once n, sum_by-append (of_packet n) (drop next firsts) (later_visits rs))

-- after a first visit come those after it
rising-behind : (firsts : List DueVisit) (next : ℕ) (d w : DueVisit) → AllPairs (λ v w. Before v.due w.due) firsts
    → Among w (drop (suc next) firsts)
    → Before (get_or firsts next d).due w.due
rising-behind firsts next d w rising among =
    All-Among (λ (u : DueVisit). Before (get_or firsts next d).due u.due) w (drop (suc next) firsts)
    (λ k e within. rw (get_or-drop (suc next) firsts k e) (at-default k e (omega (arith, within, length-drop (suc next) firsts)))) among
  where
    at-default : (k : ℕ) (e : DueVisit) → suc next + k < length firsts
        → Before (get_or firsts next d).due (get_or firsts (suc next + k) e).due
    at-default k e within =
        subst (λ (v : DueVisit). Before v.due (get_or firsts (suc next + k) e).due) (get_or_default firsts next e d (omega arith))
        (rising next (suc next + k) e (omega arith) within)

-- a first visit that is taken
pub record TakesEarly (firsts : List DueVisit) (next : ℕ) (rs : List (Reverse HeapEntry)) (first : DueVisit) : Type 0 where
  pub within : next < length firsts
  pub first_is : first ≡ get_or firsts next first
  pub ahead : (w : DueVisit) → Among w (later_visits rs) → Before w.due first.due → ⊥

rest-is : {firsts : List DueVisit} {next : ℕ} {rs : List (Reverse HeapEntry)} {first : DueVisit} → TakesEarly firsts next rs first
    → drop next firsts ≡ first ∷ drop (next + 1) firsts
rest-is {firsts} {next} {rs} {first} t =
    drop-cons firsts next first t.within
    ∙ ap (λ v. v ∷ drop (suc next) firsts) (sym t.first_is)
    ∙ ap (λ n. first ∷ drop n firsts) (sym (add-one next))

pub early-once : {firsts : List DueVisit} {next : ℕ} {rs : List (Reverse HeapEntry)} {first : DueVisit} → AreHeld firsts next rs
    → TakesEarly firsts next rs first
    → (n : ℕ) → many_of n (drop (next + 1) firsts ++ later_visits rs) ≤ 1
early-once {firsts} {next} {rs} {first} h t n =
    let before = once-parts h n in
    let whole = ap (many_of n) (rest-is t) in
    omega (
      arith,
      before,
      whole,
      sum_by-cons (of_packet n) first (drop (next + 1) firsts),
      sum_by-append (of_packet n) (drop (next + 1) firsts) (later_visits rs),
    )

pub early-takes : {firsts : List DueVisit} {next : ℕ} {rs : List (Reverse HeapEntry)} {first : DueVisit} → AreHeld firsts next rs
    → TakesEarly firsts next rs first
    → TakesVisit (drop next firsts ++ later_visits rs) first (drop (next + 1) firsts ++ later_visits rs)
early-takes {firsts} {next} {rs} {first} h t =
    subst (λ ws. TakesVisit (ws ++ later_visits rs) first (drop (next + 1) firsts ++ later_visits rs)) (sym (rest-is t))
    (record {
      taken = λ w. (λ a. a, λ a. a);
      before = λ w a. ⊎_elim (behind w) (across w) (Among-append w (drop (next + 1) firsts) (later_visits rs) a);
    })
  where
    behind : (w : DueVisit) → Among w (drop (next + 1) firsts) → Before first.due w.due
    behind w a =
        subst (λ (v : DueVisit). Before v.due w.due) (sym t.first_is)
        (rising-behind firsts next first w h.rising (subst (λ n. Among w (drop n firsts)) (add-one next) a))

    across : (w : DueVisit) → Among w (later_visits rs) → Before first.due w.due
    across w a =
        before-either first.due w.due
        (apart-across first w (drop next firsts) (later_visits rs) (once-parts h) (subst (Among first) (sym (rest-is t)) (inl refl)) a)
        (t.ahead w a)

-- the top of the heap that is taken
pub record TakesLate (firsts : List DueVisit) (next : ℕ) (rs : List (Reverse HeapEntry)) (top : Reverse HeapEntry)
    (rest : List (Reverse HeapEntry)) : Type 0 where
  pub moved : IsPermutation rs (top ∷ rest)
  pub bound : IsUpperBound top_cmp top rest
  pub ahead : (w : DueVisit) → Among w (drop next firsts) → Before (due_from_entry top.0).due w.due

later-moved : {firsts : List DueVisit} {next : ℕ} {rs rest : List (Reverse HeapEntry)} {top : Reverse HeapEntry} → TakesLate firsts next rs top rest
    → IsPermutation (later_visits rs) (due_from_entry top.0 ∷ later_visits rest)
later-moved {firsts} {next} {rs} {rest} {top} t = IsPermutation-map (λ (r : Reverse HeapEntry). due_from_entry r.0) rs (top ∷ rest) t.moved

pub late-once : {firsts : List DueVisit} {next : ℕ} {rs rest : List (Reverse HeapEntry)} {top : Reverse HeapEntry} → AreHeld firsts next rs
    → TakesLate firsts next rs top rest
    → (n : ℕ) → many_of n (drop next firsts ++ later_visits rest) ≤ 1
late-once {firsts} {next} {rs} {rest} {top} h t n =
    let before = once-parts h n in
    let popped = sum_by_popped (of_packet n) (due_from_entry top.0) (later_visits rs) (later_visits rest) (later-moved t) in
    omega (arith, before, popped, sum_by-append (of_packet n) (drop next firsts) (later_visits rest))

pub late-takes : {firsts : List DueVisit} {next : ℕ} {rs rest : List (Reverse HeapEntry)} {top : Reverse HeapEntry} → AreHeld firsts next rs
    → TakesLate firsts next rs top rest
    → TakesVisit (drop next firsts ++ later_visits rs) (due_from_entry top.0) (drop next firsts ++ later_visits rest)
late-takes {firsts} {next} {rs} {rest} {top} h t = record {
  taken = λ w. (into w, out w);
  before = λ w a. ⊎_elim (t.ahead w) (across w) (Among-append w (drop next firsts) (later_visits rest) a);
}
  where
    first : DueVisit
    first = due_from_entry top.0

    into : (w : DueVisit) → Among w (drop next firsts ++ later_visits rs) → (first ≡ w) ⊎ Among w (drop next firsts ++ later_visits rest)
    into w a = ⊎_elim
        (λ b. inr (Among-append-left w (drop next firsts) (later_visits rest) b))
        (λ b. ⊎_elim (λ e. inl e) (λ c. inr (Among-append-right w (drop next firsts) (later_visits rest) c))
        (among-permuted w (later_visits rs) (first ∷ later_visits rest) (later-moved t) b))
        (Among-append w (drop next firsts) (later_visits rs) a)

    back : (w : DueVisit) → Among w (first ∷ later_visits rest) → Among w (later_visits rs)
    back w a =
        among-permuted w (first ∷ later_visits rest) (later_visits rs)
        (IsPermutation-sym (later_visits rs) (first ∷ later_visits rest) (later-moved t)) a

    out : (w : DueVisit) → (first ≡ w) ⊎ Among w (drop next firsts ++ later_visits rest) → Among w (drop next firsts ++ later_visits rs)
    out w (inl e) = Among-append-right w (drop next firsts) (later_visits rs) (back w (inl e))
    out w (inr a) = ⊎_elim
        (λ b. Among-append-left w (drop next firsts) (later_visits rs) b)
        (λ b. Among-append-right w (drop next firsts) (later_visits rs) (back w (inr b)))
        (Among-append w (drop next firsts) (later_visits rest) a)

    across : (w : DueVisit) → Among w (later_visits rest) → Before first.due w.due
    across w a =
        before-either first.due w.due
        (λ same.
        let popped = sum_by_popped (of_packet w.due.packet) first (later_visits rs) (later_visits rest) (later-moved t) in
        let here : of_packet w.due.packet first ≡ 1 = rw (eq-eqb first.due.packet w.due.packet same) refl in
        omega (arith, popped, here, many-some w (later_visits rest) a, once-parts h w.due.packet))
        (not_before-top top rest t.bound w a)

-- where the next first visit comes first, no later one is before it
pub early-ahead : (first : DueVisit) (rs : List (Reverse HeapEntry)) (later : Option (Reverse HeapEntry)) → (later ≡ None → rs ≡ [])
    → ((top : Reverse HeapEntry) → later ≡ Some top → IsUpperBound top_cmp top rs) → comes_first first later ≡ true
    → (w : DueVisit) → Among w (later_visits rs) → Before w.due first.due → ⊥
early-ahead first rs None empty bound test w among before = absurd (subst (λ xs. Among w (later_visits xs)) (empty refl) among)
early-ahead first rs (Some top) empty bound test w among before =
    not_before-transitive first.due (due_from_entry top.0).due w.due
    (is_before-false (due_from_entry top.0).due first.due (go (is_before (due_from_entry top.0).due first.due) test))
    (not_before-top top rs (bound top refl) w among) before
  where
    go : (b : Bool) → not b ≡ true → b ≡ false
    go true e = cc
    go false e = refl

-- and else the top is before all first visits
late-first : (firsts : List DueVisit) (next : ℕ) (first : DueVisit) (top : Reverse HeapEntry) → AllPairs (λ v w. Before v.due w.due) firsts
    → next < length firsts
    → first ≡ get_or firsts next first → is_before (due_from_entry top.0).due first.due ≡ true
    → (w : DueVisit) → Among w (drop next firsts) → Before (due_from_entry top.0).due w.due
late-first firsts next first top rising within first_is test w among =
    ⊎_elim (λ same. subst (λ (v : DueVisit). Before (due_from_entry top.0).due v.due) same before_first)
    (λ behind.
    before-transitive (due_from_entry top.0).due first.due w.due before_first
    (subst (λ (v : DueVisit). Before v.due w.due) (sym first_is) (rising-behind firsts next first w rising behind)))
    (subst (Among w) (drop-cons firsts next first within ∙ ap (λ v. v ∷ drop (suc next) firsts) (sym first_is)) among)
  where
    before_first : Before (due_from_entry top.0).due first.due
    before_first = is_before-true (due_from_entry top.0).due first.due test

-- one visit more in the heap, of a packet of which none was held
pub added-once : (firsts : List DueVisit) (next : ℕ) (rs more : List (Reverse HeapEntry)) (x : Reverse HeapEntry)
    → ((n : ℕ) → many_of n (drop next firsts ++ later_visits rs) ≤ 1)
    → HasNone (drop next firsts ++ later_visits rs) (due_from_entry x.0).due.packet → IsPermutation (x ∷ rs) more
    → (n : ℕ) → many_of n (drop next firsts ++ later_visits more) ≤ 1
added-once firsts next rs more x once none moved n = go (cases_order new.due.packet n)
  where
    new : DueVisit
    new = due_from_entry x.0

    pushed : many_of n (later_visits more) ≡ of_packet n new + many_of n (later_visits rs)
    pushed =
        sum_by_pushed (of_packet n) new (later_visits rs) (later_visits more)
        (IsPermutation-map (λ (r : Reverse HeapEntry). due_from_entry r.0) (x ∷ rs) more moved)

    other : (new.due.packet ≡ n → ⊥) → many_of n (drop next firsts ++ later_visits more) ≤ 1
    other differs =
        let here : of_packet n new ≡ 0 = rw (ne_eqb new.due.packet n differs) refl in
        omega (
          arith,
          once n,
          here,
          pushed,
          sum_by-append (of_packet n) (drop next firsts) (later_visits rs),
          sum_by-append (of_packet n) (drop next firsts) (later_visits more),
        )

    go : (new.due.packet ≡ n) ⊎ ((new.due.packet < n) ⊎ (n < new.due.packet)) → many_of n (drop next firsts ++ later_visits more) ≤ 1
    go (inl same) =
        let zero_before =
        many-none n (drop next firsts ++ later_visits rs) (subst (λ m. HasNone (drop next firsts ++ later_visits rs) m) same none) in
        let here : of_packet n new ≡ 1 = rw (eq-eqb new.due.packet n same) refl in
        omega (
          arith,
          zero_before,
          here,
          pushed,
          sum_by-append (of_packet n) (drop next firsts) (later_visits rs),
          sum_by-append (of_packet n) (drop next firsts) (later_visits more),
        )
    go (inr (inl low)) = other (λ e. omega arith)
    go (inr (inr high)) = other (λ e. omega arith)

pub added-among : (front : List DueVisit) (rs more : List (Reverse HeapEntry)) (x : Reverse HeapEntry) → IsPermutation (x ∷ rs) more
    → (w : DueVisit) → Among w (front ++ later_visits more) ↔ ((due_from_entry x.0 ≡ w) ⊎ Among w (front ++ later_visits rs))
added-among front rs more x moved w = (into, out)
  where
    new : DueVisit
    new = due_from_entry x.0

    mapped : IsPermutation (new ∷ later_visits rs) (later_visits more)
    mapped = IsPermutation-map (λ (r : Reverse HeapEntry). due_from_entry r.0) (x ∷ rs) more moved

    into : Among w (front ++ later_visits more) → (new ≡ w) ⊎ Among w (front ++ later_visits rs)
    into a = ⊎_elim
        (λ b. inr (Among-append-left w front (later_visits rs) b))
        (λ b. ⊎_elim (λ e. inl e) (λ c. inr (Among-append-right w front (later_visits rs) c))
        (among-permuted w (later_visits more) (new ∷ later_visits rs) (IsPermutation-sym (new ∷ later_visits rs) (later_visits more) mapped) b))
        (Among-append w front (later_visits more) a)

    out : (new ≡ w) ⊎ Among w (front ++ later_visits rs) → Among w (front ++ later_visits more)
    out (inl e) =
        Among-append-right w front (later_visits more) (among-permuted w (new ∷ later_visits rs) (later_visits more) mapped (inl e))
    out (inr a) = ⊎_elim
        (λ b. Among-append-left w front (later_visits more) b)
        (λ b. Among-append-right w front (later_visits more) (among-permuted w (new ∷ later_visits rs) (later_visits more) mapped (inr b)))
        (Among-append w front (later_visits rs) a)

-- how first visits are sorted
abbrev pub tick_and_packet : DueVisit → ℕ × ℕ
tick_and_packet w = (w.due.tick, w.due.packet)

pub sorted-once : (ws sorted : List DueVisit) → AllPairs (λ v w. v.due.packet < w.due.packet) ws → IsPermutation ws sorted → (n : ℕ)
    → many_of n sorted ≤ 1
sorted-once ws sorted rise moved n = omega (arith, rise-once ws rise n, sum_by-IsPermutation (of_packet n) ws sorted moved)

pub sorted-rising : (sorted : List DueVisit) → ((n : ℕ) → many_of n sorted ≤ 1) → IsSortedByKey tick_and_packet pair_cmp sorted
    → AllPairs (λ v w. Before v.due w.due) sorted
sorted-rising sorted once up i j d less within =
    before-either (get_or sorted i d).due (get_or sorted j d).due
    (apart-places sorted i j d once less within)
    (not_before-from_pair (get_or sorted j d).due (get_or sorted i d).due Equal
    (turned (pair_cmp (tick_and_packet (get_or sorted j d)) (tick_and_packet (get_or sorted i d)))
    (sorted_far (λ v w. is_lt (pair_cmp (tick_and_packet v) (tick_and_packet w))) (ranks_by pair_total tick_and_packet)
    sorted up i j d (omega arith) within)))
  where
    pair_total : IsTotalOrder pair_cmp
    pair_total = then_total (on_total (λ (p : ℕ × ℕ). p.0) nat_cmp_total) (on_total (λ (p : ℕ × ℕ). p.1) nat_cmp_total)

    turned : (o : Ordering) → is_lt o ≡ false → is_lt (ordering_then o Equal) ≡ false
    turned Less e = e
    turned Equal e = refl
    turned Greater e = refl

-- what is known of a value that was copied out of a reference
copied-some : {X : Type 0} (P : Bor X → Type 0) (r : Option (Bor X)) (v : X) → IfSome r P → option_copied r ≡ Some v
    → (b : Bor X) × (b.now ≡ v) × P b
copied-some P None v facts is = cc
copied-some P (Some b) v facts is = (b, cc, facts)

copied-none : {X : Type 0} (r : Option (Bor X)) → IsSome r → option_copied r ≡ None → ⊥
copied-none None some is = absurd (false≢true some)
copied-none (Some b) some is = cc

-- the next first visit, as it was read
pub read-first : (firsts : List DueVisit) (next : ℕ) (r : Option (Bor DueVisit)) (copied : Option DueVisit) (first : DueVisit)
    → copied ≡ option_copied r → copied ≡ Some first
    → is_some r ≡ nat_lt next (length firsts) → IfSome r (λ x. x.now ≡ get_or firsts next x.now)
    → (next < length firsts) × (first ≡ get_or firsts next first)
read-first firsts next r copied first copies is within reads =
    let s = copied-some (λ x. x.now ≡ get_or firsts next x.now) r first reads (sym copies ∙ is) in
    (ltb-true next (length firsts) (sym within ∙ some r (sym copies ∙ is)), subst (λ v. v ≡ get_or firsts next v) s.1 s.2)
  where
    some : (o : Option (Bor DueVisit)) → option_copied o ≡ Some first → is_some o ≡ true
    some None e = cc
    some (Some b) e = refl

pub read-no_first : (firsts : List DueVisit) (next : ℕ) (r : Option (Bor DueVisit)) (copied : Option DueVisit) → copied ≡ option_copied r
    → copied ≡ None
    → is_some r ≡ nat_lt next (length firsts) → drop next firsts ≡ []
read-no_first firsts next r copied copies is within =
    drop_all next firsts (ltb-false next (length firsts) (sym within ∙ none r (sym copies ∙ is)))
  where
    none : (o : Option (Bor DueVisit)) → option_copied o ≡ None → is_some o ≡ false
    none None e = refl
    none (Some b) e = cc

-- the top of the heap, as it was looked at
pub read-top : (rs : List (Reverse HeapEntry)) (r : Option (Bor (Reverse HeapEntry))) (copied : Option (Reverse HeapEntry)) (top : Reverse HeapEntry)
    → copied ≡ option_copied r → IsHeap top_cmp rs
    → IfSome r (λ x. IsHeap top_cmp rs → IsUpperBound top_cmp x.now rs) → copied ≡ Some top → IsUpperBound top_cmp top rs
read-top rs r copied top copies heap greatest is =
    let s = copied-some (λ x. IsHeap top_cmp rs → IsUpperBound top_cmp x.now rs) r top greatest (sym copies ∙ is) in
    subst (λ t. IsUpperBound top_cmp t rs) s.1 (s.2 heap)

pub read-no_top : (rs : List (Reverse HeapEntry)) (r : Option (Bor (Reverse HeapEntry))) (copied : Option (Reverse HeapEntry))
    → copied ≡ option_copied r
    → (0 < length rs → IsSome r) → copied ≡ None → rs ≡ []
read-no_top [] r copied copies some is = refl
read-no_top (x ∷ rs) r copied copies some is = absurd (copied-none r (some (omega arith)) (sym copies ∙ is))

-- the first visit that is taken is the next one
pub early-parts : (copied : Option DueVisit) (later : Option (Reverse HeapEntry)) (first : DueVisit) → Some first ≡ early_of copied later
    → (copied ≡ Some first) × (comes_first first later ≡ true)
early-parts None later first is = cc
early-parts (Some v) later first is = go (comes_first v later) refl is
  where
    go : (b : Bool) → comes_first v later ≡ b → Some first ≡ cond b (Some v) None → (Some v ≡ Some first) × (comes_first first later ≡ true)
    go true t e = let same : v ≡ first = cc in (ap Some same, ap (λ u. comes_first u later) (sym same) ∙ t)
    go false t e = cc

-- the top that is taken is the one that was looked at
pub top-same : (rs rest : List (Reverse HeapEntry)) (r : Option (Bor (Reverse HeapEntry))) (copied : Option (Reverse HeapEntry)) (top : Reverse HeapEntry)
    → copied ≡ option_copied r
    → IfSome r (λ x. x.now ≡ get_or rs 0 x.now) → (0 < length rs → IsSome r) → IsPermutation rs (top ∷ rest) → top ≡ get_or rs 0 top
    → copied ≡ Some top
top-same rs rest r copied top copies looked some moved is = copies ∙ go r looked (some full)
  where
    full : 0 < length rs
    full = let l : length (top ∷ rest) ≡ length rs = length_permutation rs (top ∷ rest) moved in omega arith

    go : (o : Option (Bor (Reverse HeapEntry))) → IfSome o (λ x. x.now ≡ get_or rs 0 x.now) → IsSome o → option_copied o ≡ Some top
    go None at none = absurd (false≢true none)
    go (Some b) at none = ap Some (at ∙ get_or_default rs 0 b.now top full ∙ sym is)

-- no first visit came before the top of the heap: what was read of both
pub record NoneIsEarly (firsts : List DueVisit) (next : ℕ) (top : Reverse HeapEntry) : Type 0 where
  pub read : Option (Bor DueVisit)
  pub copied : Option DueVisit
  pub later : Option (Reverse HeapEntry)
  pub copies : copied ≡ option_copied read
  pub within : is_some read ≡ nat_lt next (length firsts)
  pub reads : IfSome read (λ x. x.now ≡ get_or firsts next x.now)
  pub looked : later ≡ Some top
  pub none : None ≡ early_of copied later

-- and it is before all first visits that are held, if none of them came first
pub late-ahead : {firsts : List DueVisit} {next : ℕ} {top : Reverse HeapEntry} → AllPairs (λ v w. Before v.due w.due) firsts
    → NoneIsEarly firsts next top → (w : DueVisit) → Among w (drop next firsts) → Before (due_from_entry top.0).due w.due
late-ahead {firsts} {next} {top} rising is w among = from is.copied is.copies (is.none ∙ ap (early_of is.copied) is.looked)
  where
    go : (first : DueVisit) (b : Bool) → None ≡ cond (not b) (Some first) None → b ≡ true
    go first true e = refl
    go first false e = cc

    from : (copied : Option DueVisit) → copied ≡ option_copied is.read → None ≡ early_of copied (Some top)
        → Before (due_from_entry top.0).due w.due
    from None copies none = absurd (subst (Among w) (read-no_first firsts next is.read None copies refl is.within) among)
    from (Some first) copies none =
        let read = read-first firsts next is.read (Some first) first copies refl is.within is.reads in
        late-first firsts next first top rising read.0 read.1 (go first (is_before (due_from_entry top.0).due first.due) none) w among

-- with an empty heap all first visits are held, and no other
pub held-firsts : (ws : List DueVisit) (rs : List (Reverse HeapEntry)) → rs ≡ [] → drop 0 ws ++ later_visits rs ≡ ws
held-firsts ws rs none = ap (λ xs. ws ++ later_visits xs) none ∙ append-nil ws

pub among-sorted : (ws sorted held : List DueVisit) → IsPermutation ws sorted → held ≡ sorted → (w : DueVisit) → Among w held ↔ Among w ws
among-sorted ws sorted held moved is w = (
  λ a. among-permuted w sorted ws (IsPermutation-sym ws sorted moved) (subst (Among w) is a),
  λ a. subst (Among w) (sym is) (among-permuted w ws sorted moved a),
)
