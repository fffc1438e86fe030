-- What a core hands out between two windows, and that it stands for the journal then.
use Rattle.std.proofs.Common.{◌≡◌, ◌≢◌, inl, inr, ℕ, ◌+◌, ◌^◌, ◌<◌, ◌≤◌, List, [], length, filter, slice_index_or, Option, Some, All, refl, sym, ap, ◌∙◌, subst, arith}
use Rattle.std.specs.Prelude.{option_map, slice_get}
use Rattle.std.proofs.lemmas.List.Sums.{length-filter, count_by-le-length}
use Rattle.mn_base.specs.Among.{Among}
use Rattle.mn_base.specs.declared.due.Due.{Due}
use Rattle.journal.specs.declared.setup.PacketPlan.{PacketPlan}
use Rattle.journal.specs.Journal.{journal_of}
use Rattle.parcel.specs.declared.note.Note.{Note}
use Rattle.parcel.specs.declared.counts.CoreCounts.{CoreCounts}
use Rattle.parcel.specs.Known.{IsLeastKnown}
use Rattle.parcel.specs.Parcels.{IsNote, IsParcel}
use Rattle.parcel.specs.ParcelView.{ParcelView}
use Rattle.parcel.specs.Told.{Told}
use Rattle.mn_base.proofs.Members.{Among-index, All-Among}
use Rattle.journal.proofs.FewVisits.{few_packets}
use Rattle.parcel.proofs.FewWindows.{few_visits}
use Rattle.parcel.proofs.Origins.{owner-below}
use Rattle.mn_base.specs.declared.limits.TheConstants.{PACKETS_MAX}
use Rattle.core_loop.specs.CoreView.{CoreView, PeerView, no_peer, taken_of}
use Rattle.core_loop.specs.WorldState.{IsHeapAt, counts_below, CoreStands}
use Rattle.core_loop.specs.Work.{EntrantsView, WorkView}
use Rattle.core_loop.specs.Trading.{IsLeastBy}
use Rattle.core_loop.specs.Handing.{TakesNotes, CanTakeAll, earlier_of, is_told_arrival, is_told_settle, IsToldTick, notes_for, arrivals_told, settles_told, IsToHandOut, IsToSettle, parts_view, IsParcelOf, IsHanded, AreHanded}
use Rattle.core_loop.proofs.Counted.{arrivals-step, settles-step}
use Rattle.core_loop.proofs.Tellings.{heap-alike, own-settles, can-own, settled-now, least-now, parcel-now}
use Rattle.core_loop.proofs.Takes.{taken-settles}

-- the least tick of which a core knows, where this is the least that it told
abbrev pub least_of : WorkView → Option ℕ → Option ℕ
least_of w least = earlier_of (option_map (λ due. due.tick) (slice_get w.heap 0)) least

-- so many notes are told others
abbrev pub counts_after : WorkView → CoreCounts
counts_after w = record w.counts {
  arrivals = w.counts.arrivals + length (filter (is_told_arrival w.number) w.told);
  settles = w.counts.settles + length (filter (is_told_settle w.number) w.told);
}

-- the work when all is handed out, where this is due then
abbrev pub work_after : WorkView → List Due → WorkView
work_after w h = record w { told = []; heap = h; counts = counts_after w }

-- what was told is handed out: each list to the core that it is for, and the core's own notes are taken in
pub record HasHandedOut (w : WorkView) (ps : List PeerView) (e f : EntrantsView) (h : List Due) (lists : List (List Note))
    (qs : List PeerView) : Type 0 where
  pub ready : IsToHandOut w ps
  pub taken : TakesNotes (notes_for w.told w.number) w.heap e h f
  pub least : Option ℕ
  pub sent : IsLeastBy (IsToldTick w.number w.told) least
  pub sorted : (other : ℕ) → other < length ps → other ≢ w.number → slice_index_or lists other [] ≡ notes_for w.told other
  pub handed : AreHanded w.number lists (least_of w least) ps qs

module _ {w : WorkView} {ps : List PeerView} (r : IsToHandOut w ps) where
  -- who is told something is a core
  pub receivers-named : All (λ t. t.receiver < length ps) w.told
  receivers-named i d within = below (slice_index_or w.told i d) (Among-index w.told i d within)
    where
      below : (t : Told) → Among t w.told → t.receiver < length ps
      below t a = go ((r.told_are.members t).0 a).1
        where
          cores : length ps ≡ w.setup.cores
          cores = r.one_peer_each

          go : IsNote w.setup w.number t.receiver w.counts.windows t.note → t.receiver < length ps
          go (inl v) =
              let l = owner-below w.setup r.is_setup v.0 v.1.among in
              let e = v.1.owner in
              omega (arith, l, e, cores)
          go (inr p) =
              let l : p.0.core < w.setup.cores =
              All-Among (λ (q : PacketPlan). q.core < w.setup.cores) p.0 w.setup.packets r.is_setup.packet_cores p.1.among in
              let e = p.1.entered in
              omega (arith, l, e, cores)

  -- the counts have room for what is told
  pub arrivals-room : w.counts.arrivals + length (filter (is_told_arrival w.number) w.told) < 2 ^ 64
  arrivals-room =
      let step = arrivals-step w.setup r.is_setup w.number w.counts.windows w.told r.told_are in
      let here : w.counts.arrivals ≡ arrivals_told w.setup w.number w.counts.windows = ap (λ (c : CoreCounts). c.arrivals) r.counts_are in
      let few : length (journal_of w.setup) < 2 ^ 28 = few_visits w.setup r.is_setup in
      let l : (counts_below w.setup w.number w.counts.windows).arrivals ≤ length (journal_of w.setup) = kept-few _ (journal_of w.setup) in
      omega (arith, step, here, few, l)
    where
      kept-few : {X : Type 0} (p : X → _) (xs : List X) → length (filter p xs) ≤ length xs
      kept-few p xs = omega (arith, length-filter p xs, count_by-le-length p xs)

  pub settles-room : w.counts.settles + length (filter (is_told_settle w.number) w.told) < 2 ^ 64
  settles-room =
      let step = settles-step w.setup r.is_setup w.number w.counts.windows w.told r.told_are in
      let here : w.counts.settles ≡ settles_told w.setup w.number w.counts.windows = ap (λ (c : CoreCounts). c.settles) r.counts_are in
      let few : length w.setup.packets ≤ PACKETS_MAX = few_packets w.setup r.is_setup in
      let l : (counts_below w.setup w.number w.counts.windows).settles ≤ length w.setup.packets = kept-few _ w.setup.packets in
      omega (arith, step, here, few, l)
    where
      kept-few : {X : Type 0} (p : X → _) (xs : List X) → length (filter p xs) ≤ length xs
      kept-few p xs = omega (arith, length-filter p xs, count_by-le-length p xs)

  -- the core can take in what it tells itself
  pub own-taken : (bytes : List (List ℕ)) (e : EntrantsView) → IsToSettle bytes w e → CanTakeAll (notes_for w.told w.number) w.heap e
  own-taken bytes e s = can-own r.is_setup r.told_are e s w.heap

  counts-are : counts_after w ≡ counts_below w.setup w.number w.counts.windows
  counts-are =
      ap (λ (c : CoreCounts). record c {
        arrivals = c.arrivals + length (filter (is_told_arrival w.number) w.told);
        settles = c.settles + length (filter (is_told_settle w.number) w.told);
      }) r.counts_are
      ∙ ap (λ (a : ℕ). record (counts_below w.setup w.number w.counts.windows) {
        arrivals = a;
        settles = settles_told w.setup w.number w.counts.windows + length (filter (is_told_settle w.number) w.told);
      }) (sym (arrivals-step w.setup r.is_setup w.number w.counts.windows w.told r.told_are))
      ∙ ap (λ (s : ℕ). record (counts_below w.setup w.number w.counts.windows) { settles = s })
      (sym (settles-step w.setup r.is_setup w.number w.counts.windows w.told r.told_are))

module _ {w : WorkView} {ps : List PeerView} {e f : EntrantsView} {h : List Due} {lists : List (List Note)} {qs : List PeerView}
    (o : HasHandedOut w ps e f h lists qs) where
  abbrev view : CoreView
  view = parts_view (work_after w h) f qs

  same_heap : h ≡ w.heap
  same_heap = taken-settles (notes_for w.told w.number) w.heap h e f o.taken
      (own-settles o.ready.is_setup o.ready.told_are)

  least-known-now : IsLeastKnown w.setup w.number w.counts.windows (least_of w o.least)
  least-known-now = least-now o.ready.is_setup o.ready.told_are o.least o.ready.heap_is o.sent

  one : (other : ℕ) → other < w.setup.cores
      → IsHanded w.number lists (least_of w o.least) other (slice_index_or ps other no_peer) (slice_index_or qs other no_peer)
  one other l = o.handed.each other (let c = o.ready.one_peer_each in omega (arith, l, c))

  posted : (other : ℕ) → other < w.setup.cores → other ≢ w.number → (slice_index_or qs other no_peer).posted ≡ w.counts.windows
  posted other l d = (one other l).posted ∙ o.ready.posted other l d

  takes : (other : ℕ) → other < w.setup.cores → other ≢ w.number → (slice_index_or qs other no_peer).taken ≡ w.counts.windows
  takes other l d = (one other l).taken ∙ o.ready.taken other l d

  owed : (other : ℕ) → other < w.setup.cores → other ≢ w.number
      → (p : ParcelView) × ((slice_index_or qs other no_peer).owed ≡ Some p) × IsParcel w.setup w.number other w.counts.windows p
  owed other l d =
      let p = (one other l).owed d in
      let notes = o.sorted other (let c = o.ready.one_peer_each in omega (arith, l, c)) d in (
        p.0,
        p.1,
        parcel-now o.ready.is_setup o.ready.told_are d least-known-now
            (subst (λ (ns : List Note). IsParcelOf ns (least_of w o.least) p.0) notes p.2),
      )

  pub stands-now : (bytes : List (List ℕ)) → IsToSettle bytes w e → CoreStands bytes (parts_view (work_after w h) f qs)
  stands-now bytes s = record {
    in_step = record {
      within = o.ready.within;
      posted = λ other d. inl (posted other d.0 d.1);
      taken = λ other d. inl (takes other d.0 d.1);
    };
    knows = record {
      heap = subst (IsHeapAt w.setup w.number w.counts.windows (taken_of view)) (sym same_heap)
          (heap-alike o.ready.is_setup takes o.ready.heap_is);
      least = subst (IsLeastKnown w.setup w.number w.counts.windows) (sym ((one w.number o.ready.known).own refl)) least-known-now;
      owed = λ other d at. owed other d.0 d.1;
      told = λ other d at. (let same = takes other d.0 d.1 in
          let more : (slice_index_or qs other no_peer).taken ≡ w.counts.windows + 1 = at in
          absurd (omega (arith, same, more)));
    };
    works = record { pipes = o.ready.pipes_have_run.pipes_are; pipe_counts = o.ready.pipes_have_run.counts_are; counts = counts-are o.ready };
    settles =
        settled-now o.ready.is_setup o.ready.told_are bytes (taken_of view) takes w.heap h e f o.taken s;
  }
