-- The work of a core at the beginning and at the end of a window.
use Rattle.std.proofs.Common.{◌≡◌, ℕ, ◌+◌, ◌^◌, ◌<◌, false, List, [], length, refl, sym, ap, ◌∙◌, subst, arith}
use Rattle.journal.specs.SetupView.{SetupView}
use Rattle.journal.specs.IsSetup.{IsSetup}
use Rattle.parcel.specs.declared.counts.CoreCounts.{CoreCounts}
use Rattle.parcel.specs.Lookahead.{lookahead_of}
use Rattle.parcel.specs.Laws.{Starts}
use Rattle.core_loop.specs.declared.one_core.Core.TheInside.{Inside}
use Rattle.core_loop.specs.Inside.{core_view, IsCore}
use Rattle.core_loop.specs.Handing.{IsToHandOut, IsToSettle, parts_view, SameWindows}
use Rattle.core_loop.specs.CoreView.{CoreView, windows_of}
use Rattle.core_loop.specs.WorldState.{CoreStands}
use Rattle.core_loop.specs.Turns.{HasTradedAll}
use Rattle.core_loop.specs.Work.{WorkView, Runs, HasRun, IsEnd, StaysAtWork}
use Rattle.core_loop.proofs.Ends.{Rests, begins}
use Rattle.core_loop.proofs.Ran.{HasRunFrom, with_window, ran, ran-settled}
use Rattle.core_loop.proofs.WindowFits.{end-fits, number-few}
use Rattle.core_loop.proofs.Tellings.{heap-alike}

-- the work of a core between two windows
pub record IsWorkOf (c : CoreView) (w : WorkView) : Type 0 where
  pub is_setup : IsSetup c.setup
  pub same_setup : w.setup ≡ c.setup
  pub same_number : w.number ≡ c.number
  pub same_heap : w.heap ≡ c.heap
  pub same_pipes : w.pipes ≡ record { pipes = c.pipes; counts = c.pipe_counts }
  pub same_counts : w.counts ≡ c.counts
  pub none_told : w.told ≡ []

module _ (c : CoreView) (w : WorkView) (i : IsWorkOf c w) where
  abbrev of_core : WorkView
  of_core = record {
    setup = c.setup;
    number = c.number;
    heap = c.heap;
    pipes = record { pipes = c.pipes; counts = c.pipe_counts };
    counts = c.counts;
    told = [];
  }

  -- with all posts and takes of the round made, its window can be run
  pub begun : (bytes : List (List ℕ)) → CoreStands bytes c → HasTradedAll c → (start : ℕ) → Starts c.setup (windows_of c) start → Runs w
  begun bytes s t start starts = subst Runs (sym same) (begins of_core i.is_setup (λ other. windows_of c + 1) rests start starts (λ other d. refl) refl)
    where
      same : w ≡ of_core
      same k = record {
        setup = i.same_setup k;
        number = i.same_number k;
        heap = i.same_heap k;
        pipes = i.same_pipes k;
        counts = i.same_counts k;
        told = i.none_told k;
      }

      rests : Rests (λ other. windows_of c + 1) of_core
      rests = record {
        heap_is = heap-alike i.is_setup (λ other l d. sym (t.takes other (l, d))) s.knows.heap;
        pipes_have_run = record { pipes_are = s.works.pipes; counts_are = s.works.pipe_counts };
        visits = ap (λ (x : CoreCounts). x.visits) s.works.counts;
      }

  -- and it ends a lookahead later
  pub ends-later : (start len : ℕ) → Starts c.setup (windows_of c) start → len ≡ lookahead_of c.setup → IsEnd w (start + len)
  ends-later start len starts is = (
    start,
    subst (λ (S : SetupView). Starts S w.counts.windows start) (sym i.same_setup)
        (subst (λ (n : ℕ). Starts c.setup n start) (ap (λ (x : CoreCounts). x.windows) (sym i.same_counts)) starts),
    ap (λ (S : SetupView). start + lookahead_of S) i.same_setup ∙ ap (λ (k : ℕ). start + k) (sym is),
  )

  -- what its end leaves is of this core
  pub from-core : (v : WorkView) → HasRun v → StaysAtWork w v → c.number < c.setup.cores → length c.peers ≡ c.setup.cores → HasTradedAll c
      → (start : ℕ) → Starts c.setup (windows_of c) start → HasRunFrom c v
  from-core v run stays known one_peer_each traded start starts = let again : CoreCounts → CoreCounts = λ x. record x { visits = v.counts.visits } in record {
    run = run;
    same_setup = stays.same_setup ∙ i.same_setup;
    same_number = stays.same_number ∙ i.same_number;
    same_counts = stays.same_counts ∙ ap again i.same_counts;
    known = known;
    one_peer_each = one_peer_each;
    traded = traded;
    start = start;
    starts = starts;
  }

-- ---- in the fields of a core

-- a core that can run its window: it has made all posts and takes of the round, and the window starts there
pub record IsAtWindow (c : Inside) (start : ℕ) : Type 0 where
  pub core : IsCore c
  pub works : c.failed ≡ false
  pub traded : HasTradedAll (core_view c)
  pub starts : Starts c.setup.now c.work.counts.windows start

-- the same by what contracts see of the core, now
pub at-window : {c : Inside} {now : CoreView} {start : ℕ} → IsCore c → core_view c ≡ now → now.failed ≡ false → HasTradedAll now
    → Starts now.setup (windows_of now) start → IsAtWindow c start
at-window {c} {now} {start} core is works traded starts = record {
  core = core;
  works = ap (λ (v : CoreView). v.failed) is ∙ works;
  traded = subst HasTradedAll (sym is) traded;
  starts = subst (λ (v : CoreView). Starts v.setup (windows_of v) start) (sym is) starts;
}

-- the core has run its window, and v is its work then
pub record HasRunWindow (c : Inside) (start : ℕ) (v : WorkView) : Type 0 where
  pub before : IsAtWindow c start
  pub run : HasRun v
  pub stays : StaysAtWork c.work v

module _ {c : Inside} {start : ℕ} (a : IsAtWindow c start) where
  work-of : IsWorkOf (core_view c) c.work
  work-of = record {
    is_setup = a.core.is_setup;
    same_setup = a.core.same_setup;
    same_number = a.core.same_number;
    same_heap = refl;
    same_pipes = refl;
    same_counts = refl;
    none_told = a.core.none_told a.works;
  }

  pub can-run : Runs c.work
  can-run = let s = a.core.stands a.works in begun (core_view c) c.work work-of s.0 s.1 a.traded start a.starts

  pub its-end : IsEnd c.work (start + c.lookahead)
  its-end = ends-later (core_view c) c.work work-of start c.lookahead a.starts a.core.lookahead

  pub end-is-few : start + c.lookahead < 2 ^ 64
  end-is-few =
      let l : start + lookahead_of c.setup.now < 2 ^ 64 = end-fits c.setup.now a.core.is_setup c.work.counts.windows start a.starts in
      let e : c.lookahead ≡ lookahead_of c.setup.now = a.core.lookahead in
      omega (arith, l, e)

module _ {c : Inside} {start : ℕ} {v : WorkView} (r : HasRunWindow c start v) where
  pub windows-few : v.counts.windows < 2 ^ 28
  windows-few =
      let l : c.work.counts.windows < 2 ^ 28 =
      number-few c.setup.now r.before.core.is_setup c.work.counts.windows start r.before.starts in
      let e : v.counts.windows ≡ c.work.counts.windows = ap (λ (x : CoreCounts). x.windows) r.stays.same_counts in
      omega (arith, l, e)

  from : HasRunFrom (core_view c) v
  from =
      from-core (core_view c) c.work (work-of r.before) v r.run r.stays r.before.core.known r.before.core.one_peer_each
      r.before.traded start r.before.starts

  -- the window is counted: u is the work then
  module _ {u : WorkView} (next : u ≡ with_window v) where
    -- what comes of the window is to be handed out
    pub to-hand-out : IsToHandOut u c.peers.items
    to-hand-out =
        let s = r.before.core.stands r.before.works in
        subst (λ (w : WorkView). IsToHandOut w c.peers.items) (sym next) (ran (core_view c) v from s.0 s.1)

    pub to-settle : (bytes : List (List ℕ)) → CoreStands bytes (core_view c) → IsToSettle bytes u c.entrants
    to-settle bytes s = subst (λ (w : WorkView). IsToSettle bytes w c.entrants) (sym next) (ran-settled (core_view c) v from bytes s)

    pub some-to-settle : (bytes : List (List ℕ)) × IsToSettle bytes u c.entrants
    some-to-settle = let s = r.before.core.stands r.before.works in (s.0, to-settle s.0 s.1)

    -- what is handed out changes neither setup nor number
    pub setup-still : {w : WorkView} → SameWindows u w → w.setup ≡ c.setup.now
    setup-still same = same.same_setup ∙ ap (λ (x : WorkView). x.setup) next ∙ r.stays.same_setup ∙ r.before.core.same_setup

    pub number-still : {w : WorkView} → SameWindows u w → w.number ≡ c.number
    number-still same = same.same_number ∙ ap (λ (x : WorkView). x.number) next ∙ r.stays.same_number ∙ r.before.core.same_number

-- a core of parts that stand
pub of-parts : (c : Inside) → c.work.setup ≡ c.setup.now → c.work.number ≡ c.number → c.failed ≡ false
    → parts_view c.work c.entrants c.peers.items ≡ core_view c
of-parts c setup number works i = record {
  setup = setup i;
  number = number i;
  peers = c.peers.items;
  heap = c.work.heap;
  pipes = c.work.pipes.pipes;
  pipe_counts = c.work.pipes.counts;
  settled = c.entrants.settled;
  store = c.entrants.store;
  counts = c.work.counts;
  failed = sym works i;
}
