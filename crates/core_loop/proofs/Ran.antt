-- A window that is run, up to what comes of it: it is to be handed out.
use Rattle.std.proofs.Common.{◌≡◌, ◌≢◌, inl, inr, ℕ, ◌+◌, ◌<◌, ◌≤◌, true, List, [], ◌∷◌, ◌++◌, length, map, filter, refl, sym, ap, ◌∙◌, subst, arith}
use Rattle.std.specs.Prelude.{◌↔◌}
use Rattle.mn_base.specs.Among.{Among}
use Rattle.journal.specs.declared.setup.PacketPlan.{PacketPlan}
use Rattle.journal.specs.declared.visit.Visit.{Visit}
use Rattle.journal.specs.SetupView.{SetupView}
use Rattle.journal.specs.Journal.{journal_of}
use Rattle.parcel.specs.declared.counts.CoreCounts.{CoreCounts}
use Rattle.parcel.specs.Windows.{window_count}
use Rattle.parcel.specs.Laws.{Starts}
use Rattle.parcel.specs.Parcels.{IsDecided, IsNote}
use Rattle.parcel.specs.Told.{Told, told_by}
use Rattle.mn_base.proofs.Members.{Among-append-left, Among-from-filter}
use Rattle.parcel.proofs.WindowLaws.{starts-counted}
use Rattle.parcel.proofs.Notes.{last-ends}
use Rattle.parcel.proofs.Origins.{owner-below}
use Rattle.core_loop.specs.CoreView.{CoreView, windows_of, taken_of, IsOtherCore}
use Rattle.core_loop.specs.Stocked.{Enters}
use Rattle.core_loop.specs.WorldState.{visits_below, counts_below, IsDecidedBy, AreSettled, CoreStands}
use Rattle.core_loop.specs.Turns.{HasTradedAll}
use Rattle.core_loop.specs.Work.{WorkView, HasRun, is_run, is_left_to_tell, own_count}
use Rattle.core_loop.specs.Handing.{AreTold, counts_before, WasDecidedBy, IsToHandOut, IsToSettle}
use Rattle.core_loop.proofs.Differ.{AllDiffer, pairs-from, differ-map, differ-filter}
use Rattle.core_loop.proofs.OneEach.{visits-differ, told-differ}
use Rattle.core_loop.proofs.Counted.{arrivals-next, settles-next}
use Rattle.core_loop.proofs.Ends.{Rests, ends, told-notes}
use Rattle.core_loop.proofs.Takes.{settled-as}

-- the front of a list whose members differ
differ-front : {X : Type 0} (xs ys : List X) → AllDiffer (xs ++ ys) → AllDiffer xs
differ-front [] ys d = tt
differ-front (x ∷ xs) ys d = ((λ y a. d.0 y (Among-append-left y xs ys a)), differ-front xs ys d.1)

-- the work with one window more
abbrev pub with_window : WorkView → WorkView
with_window w = record w { counts = record w.counts { windows = w.counts.windows + 1 } }

-- what is told of a window is what the next parcels have, each note once
told-next : (w : WorkView) (h : HasRun w) → AreTold w.setup w.number (w.counts.windows + 1) w.told
told-next w h = record { members = λ t. (there t, back t); once = pairs-from w.told once }
  where
    left : (t : Told) → Among t w.told → is_left_to_tell w.number t ≡ true
    left t a = (Among-from-filter (is_left_to_tell w.number) t _ (subst (Among t) h.runs.have_left.told_is a)).1

    there : (t : Told) → Among t w.told
        → (is_left_to_tell w.number t ≡ true) × IsNote w.setup w.number t.receiver (w.counts.windows + 1) t.note
    there t a = (left t a, (told-notes w h t.receiver t.note (left t a)).0 a)

    back : (t : Told) → (is_left_to_tell w.number t ≡ true) × IsNote w.setup w.number t.receiver (w.counts.windows + 1) t.note → Among t w.told
    back t m = (told-notes w h t.receiver t.note m.0).1 m.1

    runs : List Visit
    runs = filter (is_run w.setup w.number w.counts.windows) h.runs.front

    in-journal : (v : Visit) → Among v runs → Among v (journal_of w.setup)
    in-journal v a =
        subst (Among v) h.runs.split.whole
        (Among-append-left v h.runs.front h.runs.rest (Among-from-filter (is_run w.setup w.number w.counts.windows) v h.runs.front a).0)

    once : AllDiffer w.told
    once =
        subst AllDiffer (sym h.runs.have_left.told_is)
        (differ-filter (is_left_to_tell w.number) (map (told_by w.setup) runs)
        (differ-map (told_by w.setup) runs (λ u v a b e. told-differ w.setup h.runs.split.is_setup u v (in-journal u a) (in-journal v b) e)
        (differ-filter (is_run w.setup w.number w.counts.windows) h.runs.front
        (differ-front h.runs.front h.runs.rest (subst AllDiffer (sym h.runs.split.whole) (visits-differ w.setup h.runs.split.is_setup))))))

-- the core that ran the window, and its work before and after
pub record HasRunFrom (c : CoreView) (w : WorkView) : Type 0 where
  pub run : HasRun w
  pub same_setup : w.setup ≡ c.setup
  pub same_number : w.number ≡ c.number
  pub same_counts : w.counts ≡ record c.counts { visits = w.counts.visits }
  pub known : c.number < c.setup.cores
  pub one_peer_each : length c.peers ≡ c.setup.cores
  pub traded : HasTradedAll c
  pub start : ℕ
  pub starts : Starts c.setup (windows_of c) start

module _ (c : CoreView) (w : WorkView) (h : HasRunFrom c w) (bytes : List (List ℕ)) (s : CoreStands bytes c) where
  windows : w.counts.windows ≡ windows_of c
  windows = ap (λ (x : CoreCounts). x.windows) h.same_counts

  other-of : (other : ℕ) → other < w.setup.cores → other ≢ w.number → IsOtherCore c other
  other-of other l d = (
    subst (λ (k : ℕ). other < k) (ap (λ x. x.cores) h.same_setup) l,
    subst (λ (k : ℕ). other ≢ k) h.same_number d,
  )

  rests : Rests (λ other. w.counts.windows + 1) (with_window w)
  rests = ends w h.run (λ other. w.counts.windows + 1) (λ other d. refl)

  counts-then : (with_window w).counts ≡ counts_before w.setup w.number (w.counts.windows + 1)
  counts-then =
      ap (λ (x : CoreCounts). record x { windows = w.counts.windows + 1 }) h.same_counts
      ∙ ap (λ (x : CoreCounts). record x { visits = w.counts.visits; windows = w.counts.windows + 1 }) before
      ∙ ap (λ (n : ℕ). record (counts_below w.setup w.number w.counts.windows) { visits = n; windows = w.counts.windows + 1 }) rests.visits
      ∙ ap (λ (n : ℕ). record (counts_below w.setup w.number w.counts.windows) {
        visits = own_count w.setup w.number (visits_below w.setup (w.counts.windows + 1));
        arrivals = n;
        windows = w.counts.windows + 1;
      }) (sym (arrivals-next w.setup w.number w.counts.windows))
      ∙ ap (λ (n : ℕ). record (counts_before w.setup w.number (w.counts.windows + 1)) { settles = n })
      (sym (settles-next w.setup w.number w.counts.windows))
    where
      before : c.counts ≡ counts_below w.setup w.number w.counts.windows
      before =
          s.works.counts
          ∙ ap (λ (S : SetupView). counts_below S c.number (windows_of c)) (sym h.same_setup)
          ∙ ap (λ (k : ℕ). counts_below w.setup k (windows_of c)) (sym h.same_number)
          ∙ ap (λ (k : ℕ). counts_below w.setup w.number k) (sym windows)

  -- it is to hand out what comes of the window
  pub ran : IsToHandOut (with_window w) c.peers
  ran = record {
    is_setup = h.run.runs.split.is_setup;
    known = subst (λ (k : ℕ). k < w.setup.cores) (sym h.same_number) (subst (λ (S : SetupView). c.number < S.cores) (sym h.same_setup) h.known);
    within =
        let l : windows_of c < window_count c.setup = starts-counted c.setup (windows_of c) h.start h.starts in
        let e : window_count w.setup ≡ window_count c.setup = ap window_count h.same_setup in
        let n = windows in
        omega (arith, l, e, n);
    one_peer_each = h.one_peer_each ∙ ap (λ (S : SetupView). S.cores) (sym h.same_setup);
    posted = λ other l d. h.traded.posts other (other-of other l d) ∙ ap (λ (n : ℕ). n + 1) (sym windows);
    taken = λ other l d. h.traded.takes other (other-of other l d) ∙ ap (λ (n : ℕ). n + 1) (sym windows);
    heap_is = rests.heap_is;
    pipes_have_run = rests.pipes_have_run;
    counts_are = counts-then;
    told_are = told-next w h.run;
  }

  -- a packet's fate was known before these parcels exactly where it was known in the round before
  known-before : (p : PacketPlan) → Enters w.setup w.number p
      → IsDecidedBy w.setup w.number (windows_of c) (taken_of c) p
      ↔ WasDecidedBy w.setup w.number (w.counts.windows + 1) (λ other. w.counts.windows + 1) p
  known-before p enters = (there, back)
    where
      at : (sender number : ℕ) → sender ≢ w.number → IsDecided w.setup sender w.number number p → taken_of c sender ≡ windows_of c + 1
      at sender number other d =
          h.traded.takes sender
          (other-of sender
          (subst (λ (k : ℕ). k < w.setup.cores) d.owner
          (owner-below w.setup h.run.runs.split.is_setup d.last
          (last-ends w.setup h.run.runs.split.is_setup p d.last d.among d.is_last).among)) other)

      there : IsDecidedBy w.setup w.number (windows_of c) (taken_of c) p
          → WasDecidedBy w.setup w.number (w.counts.windows + 1) (λ other. w.counts.windows + 1) p
      there (inl r) = inl r
      there (inr (inl o)) = let l : o.0 ≤ windows_of c = o.1 in let n = windows in inr (inl (o.0, omega (arith, l, n), o.2))
      there (inr (inr t)) =
          let l : t.1 < taken_of c t.0 = t.3 in
          let e : taken_of c t.0 ≡ windows_of c + 1 = at t.0 t.1 t.2 t.4 in
          let n = windows in
          inr (inr (t.0, t.1, t.2, omega (arith, l, e, n), t.4))

      back : WasDecidedBy w.setup w.number (w.counts.windows + 1) (λ other. w.counts.windows + 1) p
          → IsDecidedBy w.setup w.number (windows_of c) (taken_of c) p
      back (inl r) = inl r
      back (inr (inl o)) = let l : o.0 < w.counts.windows + 1 = o.1 in let n = windows in inr (inl (o.0, omega (arith, l, n), o.2))
      back (inr (inr t)) =
          let l : t.1 < w.counts.windows + 1 = t.3 in
          let e : taken_of c t.0 ≡ windows_of c + 1 = at t.0 t.1 t.2 t.4 in
          let n = windows in
          inr (inr (t.0, t.1, t.2, omega (arith, l, e, n), t.4))

  -- and what the core had settled are the packets whose fates were known before
  pub ran-settled : IsToSettle bytes (with_window w) (record { settled = c.settled; store = c.store })
  ran-settled =
      settled-as w.setup bytes w.number (IsDecidedBy w.setup w.number (windows_of c) (taken_of c))
      (WasDecidedBy w.setup w.number (w.counts.windows + 1) (λ other. w.counts.windows + 1)) c.settled c.store known-before
      (subst (λ (k : ℕ). AreSettled w.setup bytes k (IsDecidedBy w.setup k (windows_of c) (taken_of c)) c.settled c.store) (sym h.same_number)
      (subst (λ (S : SetupView). AreSettled S bytes c.number (IsDecidedBy S c.number (windows_of c) (taken_of c)) c.settled c.store)
      (sym h.same_setup) s.settles))
