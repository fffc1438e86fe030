-- A window's beginning and its end: what a core has between windows is what it has while one is run, at both ends.
use Rattle.std.proofs.Common.{◌≡◌, ◌≢◌, ◌⊎◌, inl, inr, ℕ, ◌+◌, ◌<◌, ◌≤◌, ◌==◌, true, List, [], map, filter, sym, ◌∙◌, subst, arith, eqb-true, eq-eqb}
use Rattle.std.proofs.lemmas.Bool.{and_from, and_parts}
use Rattle.std.specs.Prelude.{◌↔◌}
use Rattle.mn_base.specs.Among.{Among}
use Rattle.mn_base.specs.declared.due.Due.{Due}
use Rattle.journal.specs.declared.visit.Visit.{Visit}
use Rattle.journal.specs.SetupView.{SetupView}
use Rattle.journal.specs.IsSetup.{IsSetup}
use Rattle.parcel.specs.declared.note.Note.{Note}
use Rattle.parcel.specs.Owners.{owner_of}
use Rattle.parcel.specs.Windows.{window_of}
use Rattle.parcel.specs.Laws.{Starts}
use Rattle.parcel.specs.Parcels.{IsNote}
use Rattle.parcel.specs.Told.{Told, told_by}
use Rattle.mn_base.proofs.Members.{Among-append, Among-append-left, Among-map, Among-from-map, Among-filter, Among-from-filter}
use Rattle.parcel.specs.DueAt.{IsDueAt, IsDueAfter}
use Rattle.parcel.proofs.Running.{IsCut, cut-start, due-cut}
use Rattle.parcel.proofs.Sending.{IsSender, next_parcel}
use Rattle.core_loop.specs.WorldState.{IsHeapAt, visits_below}
use Rattle.core_loop.specs.Work.{WorkView, IsHeapAfter, HaveRun, Runs, HasRun, is_run, is_left_to_tell, own_count}
use Rattle.core_loop.proofs.Below.{have_run-front, have_run-below, own_count-below, told-none}

-- what is due, said either way
module _ {S : SetupView} {core windows window : ℕ} {taken : ℕ → ℕ} {front rest : List Visit} (is : IsSetup S)
    (cut : IsCut S core windows front rest) (all : (other : ℕ) → other ≢ core → taken other ≡ window + 1) where
  due-either : (v : Visit) → IsDueAfter S core window front rest v ↔ IsDueAt S core windows taken v
  due-either v = due-cut S is core windows window taken front rest cut all v

  after-from_at : {heap : List Due} → IsHeapAt S core windows taken heap → IsHeapAfter S core window front rest heap
  after-from_at h = record {
    canonical = h.canonical;
    members = λ x. (
      (λ a. let m = (h.members x).0 a in (m.0, (due-either m.0).1 m.1, m.2)),
      λ m. (h.members x).1 (m.0, (due-either m.0).0 m.1, m.2),
    );
  }

  at-from_after : {heap : List Due} → IsHeapAfter S core window front rest heap → IsHeapAt S core windows taken heap
  at-from_after h = record {
    canonical = h.canonical;
    members = λ x. (
      (λ a. let m = (h.members x).0 a in (m.0, (due-either m.0).0 m.1, m.2)),
      λ m. (h.members x).1 (m.0, (due-either m.0).1 m.1, m.2),
    );
  }

-- between windows: what the work of a core has by how many windows it has run
pub record Rests (taken : ℕ → ℕ) (w : WorkView) : Type 0 where
  pub heap_is : IsHeapAt w.setup w.number w.counts.windows taken w.heap
  pub pipes_have_run : HaveRun w.setup w.number (visits_below w.setup w.counts.windows) w.pipes
  pub visits : w.counts.visits ≡ own_count w.setup w.number (visits_below w.setup w.counts.windows)

-- with all parcels of the round taken, and nothing told yet, the window begins
pub begins : (w : WorkView) → IsSetup w.setup → (taken : ℕ → ℕ) → Rests taken w → (start : ℕ) → Starts w.setup w.counts.windows start
    → ((other : ℕ) → other ≢ w.number → taken other ≡ w.counts.windows + 1) → w.told ≡ [] → Runs w
begins w is taken r start s all none = go (cut-start w.setup is w.counts.windows start s)
  where
    go : (front rest : List Visit) × ((core : ℕ) → IsCut w.setup core w.counts.windows front rest) → Runs w
    go c = record {
      front = c.0;
      rest = c.1;
      split = record {
        is_setup = is;
        whole = cut.split;
        early = λ u a own. (let l : window_of w.setup u.tick < w.counts.windows = cut.early u a own in omega (arith, l));
        late = cut.late;
      };
      heap_is = after-from_at is cut all r.heap_is;
      have_left = record {
        pipes_have_run = have_run-front w.setup w.number w.counts.windows c.0 c.1 cut w.pipes r.pipes_have_run;
        visits = r.visits ∙ own_count-below w.setup w.number w.counts.windows c.0 c.1 cut;
        told_is = none ∙ sym (told-none w.setup w.number w.counts.windows c.0 c.1 cut);
      };
    }
      where
        cut : IsCut w.setup w.number w.counts.windows c.0 c.1
        cut = c.2 w.number

-- at its end the journal is cut after it
end-cut : (w : WorkView) (h : HasRun w) → IsCut w.setup w.number (w.counts.windows + 1) h.runs.front h.runs.rest
end-cut w h = record {
  split = h.runs.split.whole;
  early = λ u a own. (let l : window_of w.setup u.tick ≤ w.counts.windows = h.runs.split.early u a own in omega (arith, l));
  late = λ u a own. (let l : w.counts.windows < window_of w.setup u.tick = h.ended u a own in omega (arith, l));
}

-- and the core rests with one window more
pub ends : (w : WorkView) (h : HasRun w) (taken : ℕ → ℕ) → ((other : ℕ) → other ≢ w.number → taken other ≡ w.counts.windows + 1)
    → Rests taken (record w { counts = record w.counts { windows = w.counts.windows + 1 } })
ends w h taken all = record {
  heap_is =
      at-from_after h.runs.split.is_setup (end-cut w h) all h.runs.heap_is;
  pipes_have_run =
      have_run-below w.setup w.number (w.counts.windows + 1) h.runs.front h.runs.rest (end-cut w h) w.pipes
      h.runs.have_left.pipes_have_run;
  visits =
      h.runs.have_left.visits
      ∙ sym (own_count-below w.setup w.number (w.counts.windows + 1) h.runs.front h.runs.rest (end-cut w h));
}

-- ---- what is told

-- what is told of a window is what the core's visits in it have to tell
pub told-sent : (w : WorkView) (h : HasRun w) (t : Told) → is_left_to_tell w.number t ≡ true
    → Among t w.told ↔ IsSender w.setup w.number t.receiver w.counts.windows t.note
told-sent w h t left = (there, back)
  where
    there : Among t w.told → IsSender w.setup w.number t.receiver w.counts.windows t.note
    there a =
        let kept = (Among-from-filter (is_left_to_tell w.number) t _ (subst (Among t) h.runs.have_left.told_is a)).0 in
        let m = Among-from-map (told_by w.setup) t (filter (is_run w.setup w.number w.counts.windows) h.runs.front) kept in
        let f = Among-from-filter (is_run w.setup w.number w.counts.windows) m.0 h.runs.front m.1 in
        let is = and_parts (owner_of w.setup m.0.pipe == w.number) (window_of w.setup m.0.tick == w.counts.windows) f.1 in
        record {
          visit = m.0;
          among = subst (Among m.0) h.runs.split.whole (Among-append-left m.0 h.runs.front h.runs.rest f.0);
          owner = eqb-true _ _ is.0;
          in_window = eqb-true _ _ is.1;
          sends = m.2;
        }

    back : IsSender w.setup w.number t.receiver w.counts.windows t.note → Among t w.told
    back s = subst (Among t) (sym h.runs.have_left.told_is)
        (Among-filter (is_left_to_tell w.number) t _
        (subst (λ (x : Told). Among x (map (told_by w.setup) (filter (is_run w.setup w.number w.counts.windows) h.runs.front))) s.sends
        (Among-map (told_by w.setup) s.visit _ (Among-filter (is_run w.setup w.number w.counts.windows) s.visit h.runs.front in-front run)))
        left)
      where
        run : is_run w.setup w.number w.counts.windows s.visit ≡ true
        run = and_from _ _ (eq-eqb _ _ s.owner) (eq-eqb _ _ s.in_window)

        in-front : Among s.visit h.runs.front
        in-front = go (Among-append s.visit h.runs.front h.runs.rest (subst (Among s.visit) (sym h.runs.split.whole) s.among))
          where
            go : Among s.visit h.runs.front ⊎ Among s.visit h.runs.rest → Among s.visit h.runs.front
            go (inl f) = f
            go (inr r) =
                let l : w.counts.windows < window_of w.setup s.visit.tick = h.ended s.visit r s.owner in
                let e : window_of w.setup s.visit.tick ≡ w.counts.windows = s.in_window in
                absurd (omega (arith, l, e))

-- the notes that are told to a core are those of the next parcel to it
pub told-notes : (w : WorkView) (h : HasRun w) (receiver : ℕ) (note : Note)
    → is_left_to_tell w.number (record { receiver = receiver; note = note }) ≡ true
    → Among (record { receiver = receiver; note = note }) w.told ↔ IsNote w.setup w.number receiver (w.counts.windows + 1) note
told-notes w h receiver note left =
    let sent = told-sent w h (record { receiver = receiver; note = note }) left in
    let parcel = next_parcel w.setup h.runs.split.is_setup w.number receiver w.counts.windows note in
    ((λ a. parcel.1 (sent.0 a)), λ n. sent.1 (parcel.0 n))
