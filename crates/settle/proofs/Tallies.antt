-- The counts of each pipe, packet by packet.
use Rattle.std.proofs.Common.{◌≡◌, inl, inr, ℕ, ◌+◌, ◌-◌, ◌*◌, ◌<◌, ◌≤◌, List, [], ◌∷◌, ◌++◌, length, get_or, map, take, drop, Option, Some, None, slice_get, refl, sym, ap, ◌∙◌, subst, arith, append-nil}
use Rattle.std.specs.List.{range_with_len}
use Rattle.std.proofs.lemmas.List.{get_or-map, length-append, length-take-le, length-map, take-append-drop, take_more, take_all}
use Rattle.std.proofs.lemmas.List.FromFn.{length-map-range_with_len}
use Rattle.std.proofs.lemmas.Grind.{flat_map-append}
use Rattle.std.proofs.lemmas.Option.{slice_get-get_or, slice_get_read}
use Rattle.mn_base.specs.Among.{Among}
use Rattle.mn_base.specs.declared.limits.TheConstants.{PACKETS_MAX, ROUTE_PIPES_MAX}
use Rattle.mn_base.proofs.Members.{All-Among, Among-append-left}
use Rattle.pipe.specs.declared.step.Step.{Step}
use Rattle.journal.specs.declared.setup.PacketPlan.{PacketPlan}
use Rattle.journal.specs.declared.fate.Fate.{Fate}
use Rattle.journal.specs.SetupView.{SetupView, route_of}
use Rattle.journal.specs.IsSetup.{IsSetup}
use Rattle.journal.specs.Journal.{journal_of}
use Rattle.journal.specs.Fates.{fate_of}
use Rattle.journal.proofs.Packets.{packet-known, packet-route}
use Rattle.parcel.specs.declared.counts.PipeCounts.{PipeCounts}
use Rattle.parcel.specs.Counts.{counts_of}
use Rattle.settle.specs.Ways.{drop_step, way_from, way_of, ways_of, counts_by, IsTally}
use Rattle.settle.proofs.ByPacket.{NumbersRise, numbers_rise-tail, numbers_rise-head}
use Rattle.settle.proofs.WayCounts.{counts_by-ways}
use Rattle.settle.proofs.JournalWalks.{journal-walks}

-- a way has at most as many visits as the route has pipes
length-way : (route : List ℕ) (fate : Fate) → length (way_of route fate) ≤ length route
length-way [] fate = omega arith
length-way (pipe ∷ route) fate = go (drop_step fate pipe) (length-way route fate)
  where
    go : (o : Option Step) → length (way_of route fate) ≤ length route
        → length (way_from pipe o (way_of route fate)) ≤ length (pipe ∷ route)
    go (Some step) rest = omega arith
    go None rest = omega arith

length-ways : (S : SetupView) (fate : PacketPlan → Fate) (ps : List PacketPlan)
    → ((p : PacketPlan) → Among p ps → length (route_of S p.number) ≤ ROUTE_PIPES_MAX)
    → length (ways_of S fate ps) ≤ ROUTE_PIPES_MAX * length ps
length-ways S fate [] short = omega arith
length-ways S fate (p ∷ ps) short =
    let rest = length-ways S fate ps (λ q among. short q (inr among)) in
    let here = length-way (route_of S p.number) (fate p) in
    omega (arith, rest, here, short p (inl refl), length-append (way_of (route_of S p.number) (fate p)) (ways_of S fate ps))

-- packets whose numbers rise and are below a bound are few
packets-few : (low high : ℕ) (ps : List PacketPlan) → NumbersRise ps
    → ((p : PacketPlan) → Among p ps → (low ≤ p.number) × (p.number < high)) → length ps ≤ high - low
packets-few low high [] rise within = omega arith
packets-few low high (p ∷ ps) rise within =
    let here = within p (inl refl) in
    let rest = packets-few (p.number + 1) high ps (numbers_rise-tail p ps rise)
    (λ q among. let above : p.number < q.number = numbers_rise-head p ps rise q among in (omega arith, (within q (inr among)).1)) in
    omega (arith, here.0, here.1, rest)

-- the counts are those of the packets below an index
abbrev pub CountsBelow : SetupView → ℕ → List PipeCounts → Type 0
CountsBelow S index all =
    all ≡ map (counts_by (ways_of S (fate_of S) (take index S.packets))) (range_with_len 0 (length S.pipes))

-- the packet at an index is counted: what was read of it, and what was written for each list of ways
pub record CountsOneMore (S : SetupView) (index : ℕ) (more : List PipeCounts) : Type 0 where
  pub all : List PipeCounts
  pub route : List ℕ
  pub fate : Fate
  pub fates : List Fate
  pub counted : CountsBelow S index all
  pub within : index < length fates
  pub fates_are : fates ≡ map (fate_of S) S.packets
  pub fate_is : fate ≡ get_or fates index fate
  pub route_is : (p : PacketPlan) → slice_get S.packets index ≡ Some p → route ≡ route_of S p.number
  pub writes : (ways : List (ℕ × Step)) (pipes : ℕ) → all ≡ map (counts_by ways) (range_with_len 0 pipes)
      → more ≡ map (counts_by (ways ++ way_of route fate)) (range_with_len 0 pipes)

module _ (S : SetupView) (is : IsSetup S) where
  -- one more packet can be counted
  pub tally-below : (index : ℕ) (all : List PipeCounts) (more : ℕ) → CountsBelow S index all → index ≤ length S.packets
      → more ≤ ROUTE_PIPES_MAX → IsTally all more
  tally-below index all more counted within short =
      let front : length (take index S.packets) ≡ index = length-take-le index S.packets within in
      let few = packets-few 0 PACKETS_MAX S.packets is.numbers_rise (λ p among. (
        omega arith,
        All-Among (λ
            (q : PacketPlan). q.number < PACKETS_MAX) p S.packets is.numbers_most among,
      )) in
      let ways = length-ways S (fate_of S) (take index S.packets) (λ p among. route-short p (among-take index S.packets p among)) in
      record {
        ways = ways_of S (fate_of S) (take index S.packets);
        pipes = length S.pipes;
        counts_are = counted;
        few = omega (arith, front, few, ways);
      }
    where
      route-short : (p : PacketPlan) → Among p S.packets → length (route_of S p.number) ≤ ROUTE_PIPES_MAX
      route-short p among =
          let has = packet-route S is p (packet-known S is p among) in
          subst (λ r. length r ≤ ROUTE_PIPES_MAX) has.is has.short

      among-take : (n : ℕ) (ps : List PacketPlan) (p : PacketPlan) → Among p (take n ps) → Among p ps
      among-take n ps p among = subst (Among p) (take-append-drop n ps) (Among-append-left p (take n ps) (drop n ps) among)

  -- and each pipe of its route is counted
  pub below-long : (index : ℕ) (all : List PipeCounts) → CountsBelow S index all → length all ≡ length S.pipes
  below-long index all counted = ap length counted ∙ length-map-range_with_len (counts_by (ways_of S (fate_of S) (take index S.packets))) 0 (length S.pipes)

  -- with it the counts are those of one packet more
  pub below-more : {index : ℕ} {more : List PipeCounts} → CountsOneMore S index more → CountsBelow S (index + 1) more
  below-more {index} {more} one =
      one.writes (ways_of S (fate_of S) (take index S.packets)) (length S.pipes) one.counted
      ∙ ap (λ ways. map (counts_by ways) (range_with_len 0 (length S.pipes))) (sym whole)
    where
      none : PacketPlan
      none = record { number = 0; entry_tick = 0; len = 0; route = 0; core = 0 }

      p : PacketPlan
      p = get_or S.packets index none

      inside : index < length S.packets
      inside = omega (arith, one.within, ap length one.fates_are, length-map S.packets (fate_of S))

      its_route : one.route ≡ route_of S p.number
      its_route = one.route_is p (slice_get-get_or S.packets index none inside)

      its_fate : one.fate ≡ fate_of S p
      its_fate =
          one.fate_is ∙ ap (λ xs. get_or xs index one.fate) one.fates_are
          ∙ get_or-map (fate_of S) S.packets index none one.fate inside

      whole : ways_of S (fate_of S) (take (index + 1) S.packets) ≡ ways_of S (fate_of S) (take index S.packets) ++ way_of one.route one.fate
      whole =
          ap (ways_of S (fate_of S)) (take_more S.packets index none inside)
          ∙ flat_map-append (λ q. way_of (route_of S q.number) (fate_of S q)) (take index S.packets) (p ∷ [])
          ∙ ap (λ ways. ways_of S (fate_of S) (take index S.packets) ++ ways)
          (append-nil (way_of (route_of S p.number) (fate_of S p)) ∙ ap (λ r. way_of r (fate_of S p)) (sym its_route) ∙ ap (way_of one.route) (sym its_fate))

  -- the counts of all packets are those of the journal
  pub below-all : (index : ℕ) (all : List PipeCounts) → CountsBelow S index all → length S.packets ≤ index
      → all ≡ map (counts_of (journal_of S)) (range_with_len 0 (length S.pipes))
  below-all index all counted far =
      counted
      ∙ ap (λ ps. map (counts_by (ways_of S (fate_of S) ps)) (range_with_len 0 (length S.pipes))) (take_all index S.packets far)
      ∙ map-same (counts_by (ways_of S (fate_of S) S.packets)) (counts_of (journal_of S)) (counts_by-ways (journal-walks S is))
      (range_with_len 0 (length S.pipes))
    where
      map-same : (f g : ℕ → PipeCounts) → ((q : ℕ) → f q ≡ g q) → (qs : List ℕ) → map f qs ≡ map g qs
      map-same f g same [] = refl
      map-same f g same (q ∷ qs) = ap (λ c. c ∷ map f qs) (same q) ∙ ap (λ cs. g q ∷ cs) (map-same f g same qs)

-- a packet that is read at an index stands there
pub plan-read : (S : SetupView) (ps : List PacketPlan) (index : ℕ) (x : PacketPlan) → ps ≡ S.packets → index < length S.packets
    → x ≡ get_or ps index x
    → slice_get S.packets index ≡ Some x
plan-read S ps index x same within read =
    slice_get_read S.packets (length S.packets) index x refl within (read ∙ ap (λ qs. get_or qs index x) same)
