-- One visit of a run, as the code makes it: what each call asks, and what stands after it.
use Rattle.std.proofs.Common.{◌≡◌, inl, ⊎_elim, ℕ, zero, suc, ◌+◌, ◌*◌, ◌^◌, ◌-◌, ◌<◌, ◌≤◌, ◌==◌, Bool, true, false, cond, List, [], ◌∷◌, ◌++◌, length, map, Option, Some, None, slice_get, slice_set, slice_index, slice_index_or, length-append, refl, sym, ap, ap₂, ◌∙◌, subst, arith}
use Rattle.std.specs.Prelude.{IsSome}
use Rattle.std.specs.List.{range_with_len}
use Rattle.std.specs.FinMap as fin
use Rattle.std.proofs.lemmas.List.{length_push, length-map}
use Rattle.std.proofs.lemmas.Nat.{mul-le}
use Rattle.std.proofs.lemmas.Option.{slice_get_within}
use Rattle.mn_base.specs.Among.{Among}
use Rattle.mn_base.specs.declared.due.Due.{Due}
use Rattle.mn_base.specs.declared.limits.TheConstants.{PACKETS_MAX, TIME_NS_END}
use Rattle.pipe.specs.declared.step.Step.{Step}
use Rattle.journal.specs.declared.setup.PacketPlan.{PacketPlan}
use Rattle.journal.specs.declared.visit.Visit.{Visit}
use Rattle.journal.specs.declared.fate.Fate.{Fate}
use Rattle.journal.specs.SetupView.{SetupView, packet_of, route_of}
use Rattle.journal.specs.IsSetup.{IsSetup}
use Rattle.journal.specs.Hops.{pipe_of, next_hop, hop_after}
use Rattle.journal.specs.Fates.{fate_of_step}
use Rattle.journal.specs.Journal.{journal_of, pending}
use Rattle.journal.specs.Steps.{visit_of}
use Rattle.parcel.specs.declared.counts.PipeCounts.{PipeCounts}
use Rattle.parcel.specs.Counts.{counts_of, counted}
use Rattle.deadline_heap.specs.Canonical.{HasNoneOf}
use Rattle.settle.specs.Counted.{HasRoom}
use Rattle.mn_base.proofs.Members.{All-Among}
use Rattle.pipe.proofs.Grown.{pending_parts}
use Rattle.journal.specs.IsJournal.{scheme_of}
use Rattle.journal.proofs.Delays.{next_parts}
use Rattle.journal.proofs.Orderly.{IsGrowing, tick-pos}
use Rattle.journal.proofs.HeldFirst.{at-within}
use Rattle.journal.proofs.Packets.{packet-known}
use Rattle.journal.proofs.Times.{due_fits}
use Rattle.parcel.proofs.FewWindows.{few_visits}
use Rattle.core_loop.proofs.Counting.{counts-below}
use Rattle.migrate.specs.ShelvesView.{ShelfView, ShelvesView}
use Rattle.migrate.specs.declared.window.Head.{Head}
use Rattle.migrate.specs.Windows.{visits_of_core}
use Rattle.migrate.specs.Running.{ComesToPipe, IsAfter, ChangesAt, VisitsAt, PutsDue, SettlesPacket, IsHeadOf, RunsOn, RunsPart}
use Rattle.migrate.proofs.After.{counts-after, after-put, after-settle, held-still, visits-after}
use Rattle.migrate.proofs.Fronts.{rest-of}
use Rattle.migrate.proofs.NextVisit.{next-grows, next-way, next-few, next-pending}
use Rattle.migrate.proofs.OneVisit.{head-pending, head-named, head-first, head-comes, mid-alone, IsFollowed, put-followed, settle-followed}
use Rattle.migrate.proofs.ShelfSteps.{changes-set, get-at}

module _ {S : SetupView} (is : IsSetup S) {bytes : List (List ℕ)} {J : List Visit} {owners : List ℕ} {counts : List PipeCounts}
    {shelves : List ShelfView} (a : IsAfter S bytes J owners counts shelves) {head : Head} (f : IsHeadOf shelves head) where
  due-pending : Among head.due (pending S J)
  due-pending = head-pending is a f

  way : (p : PacketPlan) × Among p S.packets × (p.number ≡ head.due.packet) × (head.due.hop < length (route_of S head.due.packet))
  way =
      let w = next-way S is J a.growing head.due due-pending (head-first is a f) in
      (w.plan, w.among, w.number, w.within)

  pub due-known : IsSome (packet_of S head.due.packet)
  due-known =
      subst (λ (n : ℕ). IsSome (packet_of S n)) way.2
      (subst (λ (o : Option PacketPlan). IsSome o) (sym (packet-known S is way.0 way.1)) refl)

  grown : IsGrowing S (J ++ visit_of S J head.due ∷ [])
  grown = next-grows S is J a.growing head.due due-pending (head-first is a f)

  one-more : length J + 1 ≤ length (journal_of S)
  one-more =
      let r = rest-of S is (J ++ visit_of S J head.due ∷ []) grown in
      let l : length (journal_of S) ≡ length (J ++ visit_of S J head.due ∷ []) + length r.0 =
      ap length r.1 ∙ length-append (J ++ visit_of S J head.due ∷ []) r.0 in
      omega (arith, l, length_push J (visit_of S J head.due))

  pub few-made : length J + 1 < 2 ^ 64
  few-made = let f : length (journal_of S) < 2 ^ 28 = few_visits S is in omega (arith, one-more, f)

-- a visit that is to be made: after the visits of J it is the first that is due anywhere, and this is the plan of its packet
pub record ToMake (w : ShelvesView) (bytes : List (List ℕ)) (J : List Visit) (head : Head) (plan : PacketPlan) : Type 0 where
  pub is : IsSetup w.setup
  pub runs : RunsOn bytes J w
  pub first : IsHeadOf w.shelves head
  pub known : packet_of w.setup head.due.packet ≡ Some plan
  pub number : plan.number ≡ head.due.packet

-- the visit as the code makes it: to the pipe of its packet's route, with what its core's shelf is then, its step, and the pipe's counts
pub record IsMade (w : ShelvesView) (head : Head) (plan : PacketPlan) (pipe : ℕ) (shelf : ShelfView) (step : Step)
    (count : PipeCounts) : Type 0 where
  pub pipe_is : pipe ≡ slice_index (route_of w.setup plan.number) head.due.hop
  pub shelf_was : ShelfView
  pub shelf_read : shelf_was ≡ slice_index_or w.shelves head.core shelf_was
  pub visits : VisitsAt w.setup head.due pipe shelf_was shelf
  pub step_is : (J : List Visit) → ComesToPipe w.setup J head.due pipe shelf_was.pipes → step ≡ (visit_of w.setup J head.due).step
  pub count_was : PipeCounts
  pub count_read : count_was ≡ slice_index_or w.counts pipe count_was
  pub count_is : count ≡ counted count_was step

module _ {w : ShelvesView} {bytes : List (List ℕ)} {J : List Visit} {head : Head} {plan : PacketPlan}
    (k : ToMake w bytes J head plan) where
  abbrev S : SetupView
  S = w.setup

  abbrev v : Visit
  v = visit_of w.setup J head.due

  pub due-within : head.due.hop < length (route_of w.setup plan.number)
  due-within = subst (λ (n : ℕ). head.due.hop < length (route_of S n)) (sym k.number) (way k.is k.runs.after k.first).3

  pub plan-among : Among plan w.setup.packets
  plan-among =
      let y = way k.is k.runs.after k.first in
      let known : packet_of S y.0.number ≡ Some y.0 = packet-known S k.is y.0 y.1 in
      let both : Some y.0 ≡ Some plan = sym known ∙ ap (packet_of S) y.2 ∙ k.known in
      let same : y.0 ≡ plan = cc in
      subst (λ (p : PacketPlan). Among p S.packets) same y.1

  pub plan-core : plan.core < length w.shelves
  plan-core =
      let core : plan.core < S.cores = All-Among (λ (p : PacketPlan). p.core < S.cores) plan S.packets k.is.packet_cores plan-among in
      omega (arith, core, k.runs.after.one_a_core)

  pub core-within : head.core < length w.shelves
  core-within = slice_get_within w.shelves head.core k.first.shelf k.first.there

  pipe-named : pipe_of S head.due < length S.pipes
  pipe-named = head-named k.is k.runs.after k.first

  pub made-room : w.made + 1 < 2 ^ 64
  made-room = let m = few-made k.is k.runs.after k.first in omega (arith, m, k.runs.made)

  -- the core's shelf, as it is read
  module _ {s : ShelfView} (read : s ≡ slice_index_or w.shelves head.core s) where
    shelf-at : slice_get w.shelves head.core ≡ Some s
    shelf-at = get-at w.shelves head.core s core-within read

    shelf-is : s ≡ k.first.shelf
    shelf-is = (let both : Some s ≡ Some k.first.shelf = sym shelf-at ∙ k.first.there in cc)

    pub first-here : slice_get s.due 0 ≡ Some head.due
    first-here = ap (λ (t : ShelfView). slice_get t.due 0) shelf-is ∙ k.first.first

    pub few-here : s.visits < 2 ^ 64 - 1
    few-here =
        let l = k.runs.few head.core s shelf-at in
        let m = made-room in
        omega (arith, l, m)

  counts-long : length w.counts ≡ length S.pipes
  counts-long =
      ap length k.runs.after.counted ∙ length-map (range_with_len 0 (length S.pipes)) (counts_of J) ∙ range-long 0 (length S.pipes)
    where
      range-long : (from many : ℕ) → length (range_with_len from many) ≡ many
      range-long from zero = refl
      range-long from (suc many) = ap suc (range-long (from + 1) many)

  -- the pipe, as it is read from the route
  module _ {pipe : ℕ} (pipe_is : pipe ≡ slice_index (route_of w.setup plan.number) head.due.hop) where
    pipe-at : pipe ≡ pipe_of S head.due
    pipe-at = pipe_is ∙ ap (λ (n : ℕ). slice_index (route_of S n) head.due.hop) k.number

    pub comes-here : {s : ShelfView} → s ≡ slice_index_or w.shelves head.core s → ComesToPipe w.setup J head.due pipe s.pipes
    comes-here {s} read =
        subst (λ (q : ℕ). ComesToPipe S J head.due q s.pipes) (sym pipe-at)
        (subst (λ (t : ShelfView). ComesToPipe S J head.due (pipe_of S head.due) t.pipes) (sym (shelf-is read))
        (head-comes k.is k.runs.after k.first))

    pub count-within : pipe < length w.counts
    count-within = omega (arith, pipe-named, pipe-at, counts-long)

    -- the counts of the pipe, as they are read
    module _ {c : PipeCounts} (read : c ≡ slice_index_or w.counts pipe c) where
      count-is : c ≡ counts_of J (pipe_of S head.due)
      count-is =
          read
          ∙ ap₂ (λ (l : List PipeCounts) (q : ℕ). slice_index_or l q c) k.runs.after.counted pipe-at
          ∙ in-range 0 (length S.pipes) (pipe_of S head.due) pipe-named
          ∙ ap (counts_of J) (zero-plus (pipe_of S head.due))
        where
          zero-plus : (q : ℕ) → 0 + q ≡ q
          zero-plus q = omega arith

          in-range : (from many q : ℕ) → q < many
              → slice_index_or (map (counts_of J) (range_with_len from many)) q c ≡ counts_of J (from + q)
          in-range from zero q l = absurd (omega (arith, l))
          in-range from (suc many) zero l = ap (counts_of J) (plus-zero from)
            where
              plus-zero : (n : ℕ) → n ≡ n + 0
              plus-zero n = omega arith
          in-range from (suc many) (suc q) l =
              in-range (from + 1) many q (omega (arith, l)) ∙ ap (counts_of J) (next from q)
            where
              next : (n q : ℕ) → (n + 1) + q ≡ n + suc q
              next n q = omega arith

      pub count-room : HasRoom c
      count-room =
          let first = head-first k.is k.runs.after k.first in
          let few = next-few S k.is J k.runs.after.growing head.due (due-pending k.is k.runs.after k.first) first in
          let b = counts-below S J (pipe_of S head.due) PACKETS_MAX few in
          subst HasRoom (sym count-is) (record { passed = less b.passed; lost = less b.lost; full = less b.full })
        where
          less : {n : ℕ} → n < PACKETS_MAX → n + 1 < 2 ^ 64
          less l = omega (arith, l)

  -- ---- the visit is made

  module _ {pipe : ℕ} {shelf : ShelfView} {step : Step} {count : PipeCounts} (m : IsMade w head plan pipe shelf step count) where
    abbrev mid : List ShelfView
    mid = slice_set w.shelves head.core shelf

    step-is : step ≡ v.step
    step-is = m.step_is J (comes-here m.pipe_is m.shelf_read)

    visited : ChangesAt head.core (VisitsAt S head.due (pipe_of S head.due)) w.shelves mid
    visited =
        subst (λ (p : ℕ). ChangesAt head.core (VisitsAt S head.due p) w.shelves mid) (pipe-at m.pipe_is)
        (changes-set head.core (VisitsAt S head.due pipe) w.shelves head.core m.shelf_was shelf refl core-within m.shelf_read m.visits)

    next-is : next_hop S v ≡ hop_after S plan.number head.due.hop step
    next-is = sym (ap₂ (λ (n : ℕ) (s : Step). hop_after S n head.due.hop s) k.number step-is)

    abbrev more : List PipeCounts
    more = slice_set w.counts pipe count

    more-is : more ≡ map (counts_of (J ++ v ∷ [])) (range_with_len 0 (length S.pipes))
    more-is =
        ap (λ (p : ℕ). slice_set w.counts p count) (pipe-at m.pipe_is)
        ∙ counts-after k.is k.runs.after k.first visited m.count_was count (count-is m.pipe_is m.count_read)
        (m.count_is ∙ ap (counted m.count_was) step-is)

    visits-more : {n t : ℕ} → n ≤ t → (core : ℕ) → n + visits_of_core w.owners core (v ∷ []) ≤ t + 1
    visits-more {n} {t} l core = go (slice_index w.owners v.pipe == core)
      where
        go : (b : Bool) → n + length (cond b (v ∷ []) []) ≤ t + 1
        go true = omega (arith, l)
        go false = omega (arith, l)

    runs-on : (new : List ShelfView) → IsAfter S bytes (J ++ v ∷ []) w.owners more new → length new ≡ length mid
        → ((core : ℕ) (u : ShelfView) → slice_get new core ≡ Some u → IsFollowed k.is k.runs.after k.first visited core u)
        → RunsPart bytes J (head.due.tick + 1) w (record w { counts = more; shelves = new; made = w.made + 1 })
    runs-on new after as_many follows = record {
      part = v ∷ [];
      early = λ u e. ⊎_elim (λ same. subst (λ (x : Visit). x.tick < head.due.tick + 1) same (omega arith)) (λ n. absurd n) e;
      runs = record {
        after = after;
        made = ap (λ (n : ℕ). n + 1) k.runs.made ∙ sym (length_push J v);
        few = λ core u e.
            (let s = at-old core u e in
            let l = visits-more (k.runs.few core s.0 s.1) core in
            omega (arith, l, visits-after k.is k.runs.after k.first visited core u (follows core u e) s.0 s.1));
      };
      visits = λ core s u e g. visits-after k.is k.runs.after k.first visited core u (follows core u g) s e;
    }
      where
        at-old : (core : ℕ) (u : ShelfView) → slice_get new core ≡ Some u → (s : ShelfView) × (slice_get w.shelves core ≡ Some s)
        at-old core u e =
            at-within w.shelves core (let l = slice_get_within new core u e in omega (arith, l, as_many, visited.as_many))

    -- what follows it
    module _ {z : Due} (some : hop_after w.setup plan.number head.due.hop step ≡ Some z) where
      follows-it : next_hop S v ≡ Some z
      follows-it = next-is ∙ some

      pub next-tick : z.tick < 2 ^ 64 - 1
      next-tick =
          let first = head-first k.is k.runs.after k.first in
          let pends = next-pending S k.is J k.runs.after.growing head.due (due-pending k.is k.runs.after k.first) first z in
          let t : z.tick * S.tick_ns < TIME_NS_END =
          due_fits S k.is (J ++ v ∷ []) (grown k.is k.runs.after k.first) z
          (pending_parts (scheme_of S) (J ++ v ∷ []) z (pends.1 (inl follows-it))).0 in
          let pos = tick-pos S k.is in
          let grow : z.tick * 1 ≤ z.tick * S.tick_ns = mul-le z.tick 1 z.tick S.tick_ns (omega arith) pos in
          omega (arith, t, grow)

      pub next-alone : (core : ℕ) (s : ShelfView) → slice_get (slice_set w.shelves head.core shelf) core ≡ Some s
          → HasNoneOf z.packet s.due
      next-alone core s e =
          subst (λ (n : ℕ). HasNoneOf n s.due) (sym (ap (λ (d : Due). d.packet) (next_parts S v z follows-it).is))
          (mid-alone k.is k.runs.after k.first visited core s e)

      pub runs-put : {new : List ShelfView}
          → ChangesAt (slice_index w.owners (pipe_of w.setup z)) (PutsDue z) (slice_set w.shelves head.core shelf) new
          → RunsPart bytes J (head.due.tick + 1) w
          (record w { counts = slice_set w.counts pipe count; shelves = new; made = w.made + 1 })
      runs-put {new} n =
          runs-on new (after-put k.is k.runs.after k.first visited more-is z new follows-it n) n.as_many
          (put-followed k.is k.runs.after k.first visited z new follows-it n)

    -- the end of the packet's way
    module _ (none : hop_after w.setup plan.number head.due.hop step ≡ None) where
      pub held-there : (t : ShelfView) → slice_get (slice_set w.shelves head.core shelf) plan.core ≡ Some t
          → IsSome (fin.get t.store.held plan.number)
      held-there = held-still k.is k.runs.after k.first visited plan plan-among k.number (next-is ∙ none)

      pub runs-settle : {fate : Fate} {new : List ShelfView} → fate ≡ fate_of_step pipe head.due.tick step
          → ChangesAt plan.core (SettlesPacket plan.number fate) (slice_set w.shelves head.core shelf) new
          → RunsPart bytes J (head.due.tick + 1) w
          (record w { counts = slice_set w.counts pipe count; shelves = new; made = w.made + 1 })
      runs-settle {fate} {new} fate_is n =
          runs-on new
          (after-settle k.is k.runs.after k.first visited more-is plan fate new plan-among k.number (next-is ∙ none)
          (fate_is ∙ ap₂ (λ (p : ℕ) (s : Step). fate_of_step p head.due.tick s) (pipe-at m.pipe_is) step-is) n)
          n.as_many
          (settle-followed k.is k.runs.after k.first visited plan.core (SettlesPacket plan.number fate)
          (λ s t c. (c.due, c.pipes, c.visits)) new (next-is ∙ none) n)
