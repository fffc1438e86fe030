-- One window: from what stands before it to what stands after it.
use Rattle.std.proofs.Common.{◌≡◌, ◌⊎◌, inl, inr, ⊎_elim, ℕ, ◌+◌, ◌<◌, ◌≤◌, nat_lt, nat_le, ◌&&◌, Bool, true, false, List, [], ◌∷◌, ◌++◌, length, filter, slice_index, append_assoc, length-append, cond, refl, sym, ap, ◌∙◌, subst, arith}
use Rattle.std.proofs.lemmas.Bool.{lt-ltb, le-ltb, le-leb, lt-leb, and_from, and_left, and_right, cases_lt}
use Rattle.mn_base.specs.Among.{Among}
use Rattle.mn_base.specs.Canonical.{Before}
use Rattle.mn_base.specs.declared.due.Due.{Due}
use Rattle.journal.specs.declared.visit.Visit.{Visit}
use Rattle.journal.specs.SetupView.{SetupView}
use Rattle.journal.specs.IsSetup.{IsSetup}
use Rattle.journal.specs.Hops.{due_of, pipe_of}
use Rattle.journal.specs.Journal.{journal_of, pending}
use Rattle.parcel.specs.Laws.{IsLeastFrom}
use Rattle.mn_base.proofs.Members.{Among-append-right, Among-append, Among-filter}
use Rattle.pipe.proofs.CanonicalOrder.{before-irreflexive}
use Rattle.pipe.proofs.Origins.{rises-across}
use Rattle.journal.specs.IsJournal.{scheme_of}
use Rattle.journal.proofs.Meets.{journal-grows}
use Rattle.journal.proofs.Orderly.{IsGrowing, visit-pipe}
use Rattle.migrate.specs.ShelvesView.{ShelfView, ShelvesView, IsShelfOf, owner_now}
use Rattle.migrate.specs.declared.window.Head.{Head}
use Rattle.migrate.specs.Windows.{visits_before, visits_within, IsDueFrom, IsDecidedBefore}
use Rattle.migrate.specs.Standing.{AreDue, ShelvesStand, HaveRunAll}
use Rattle.migrate.specs.Running.{IsDecidedIn, ArePending, IsAfter, IsHeadOf, HaveNone, HaveNoneBefore, RunsOn, StaysAtRun, RunsPart}
use Rattle.migrate.proofs.After.{settled-alike}
use Rattle.migrate.proofs.Fronts.{filter-whole, before-among, among-before, front-among, rest-of, rest-late, others-late, front-is, pending-due, decided-same}
use Rattle.migrate.proofs.OneVisit.{pending-there, head-pending}

-- ---- what stands, said by the visits before the end of the last window

module _ (w : ShelvesView) (is : IsSetup w.setup) (g : IsGrowing w.setup (visits_before w.setup w.end)) (bytes : List (List ℕ)) where
  abbrev S : SetupView
  S = w.setup

  abbrev front : List Visit
  front = visits_before w.setup w.end

  pipe-is : (v : Visit) → Among v (journal_of S) → v.pipe ≡ pipe_of S (due_of v)
  pipe-is v a = visit-pipe S (journal_of S) v (journal-grows S is).made a

  pub runs-from : ((core : ℕ) (t : ShelfView) → IsShelfOf w core t → t.visits ≤ w.made) → ShelvesStand bytes w
      → RunsOn bytes (visits_before w.setup w.end) w
  runs-from few s = record {
    after = record {
      growing = g;
      one_a_core = s.one_a_core;
      one_a_pipe = s.pipes.one_a_pipe;
      owned = s.pipes.owners;
      pipes = record { there = s.pipes.there; nowhere_else = s.pipes.nowhere_else };
      due = λ core t e. due core t.due (s.due core t e);
      settled = λ core t e.
          settled-alike S bytes core (IsDecidedBefore S w.end) (IsDecidedIn S front) t.settled t.store
          (λ p n. let d = decided-same S is w.end p in (d.1, d.0)) (s.settled core t e);
      counted = s.counts;
    };
    made = s.made;
    few = few;
  }
    where
      due : (core : ℕ) (l : List Due) → AreDue w core l → ArePending S front w.owners core l
      due core l a = record { canonical = a.canonical; members = λ x. (into x, out x) }
        where
          into : (x : Due) → Among x l → Among x (pending S front) × (slice_index w.owners (pipe_of S x) ≡ core)
          into x m =
              let v = (a.members x).0 m in (
                (pending-due S is w.end g x).1 (v.0, v.1, v.3),
                ap (λ (y : Due). slice_index w.owners (pipe_of S y)) (sym v.3)
                    ∙ ap (slice_index w.owners) (sym (pipe-is v.0 v.1.among)) ∙ v.2,
              )

          out : (x : Due) → Among x (pending S front) × (slice_index w.owners (pipe_of S x) ≡ core) → Among x l
          out x m =
              let v = (pending-due S is w.end g x).0 m.0 in
              (a.members x).1 (
                v.0,
                v.1,
                ap (slice_index w.owners) (pipe-is v.0 v.1.among ∙ ap (pipe_of S) v.2) ∙ m.1,
                v.2,
              )

  pub stands-from : RunsOn bytes (visits_before w.setup w.end) w → ShelvesStand bytes w
  stands-from r = record {
    one_a_core = r.after.one_a_core;
    pipes = record {
      one_a_pipe = r.after.one_a_pipe;
      owners = r.after.owned;
      there = r.after.pipes.there;
      nowhere_else = r.after.pipes.nowhere_else;
    };
    due = λ core t e. due core t.due (r.after.due core t e);
    settled = λ core t e.
        settled-alike S bytes core (IsDecidedIn S front) (IsDecidedBefore S w.end) t.settled t.store
        (λ p n. decided-same S is w.end p) (r.after.settled core t e);
    counts = r.after.counted;
    made = r.made;
  }
    where
      due : (core : ℕ) (l : List Due) → ArePending S front w.owners core l → AreDue w core l
      due core l a = record { canonical = a.canonical; members = λ x. (into x, out x) }
        where
          into : (x : Due) → Among x l → (v : Visit) × IsDueFrom S w.end v × (owner_now w v.pipe ≡ core) × (due_of v ≡ x)
          into x m =
              let p = (a.members x).0 m in
              let v = (pending-due S is w.end g x).0 p.0 in
              (v.0, v.1, ap (slice_index w.owners) (pipe-is v.0 v.1.among ∙ ap (pipe_of S) v.2) ∙ p.1, v.2)

          out : (x : Due) → (v : Visit) × IsDueFrom S w.end v × (owner_now w v.pipe ≡ core) × (due_of v ≡ x) → Among x l
          out x (v, d, o, e) =
              (a.members x).1 (
                (pending-due S is w.end g x).1 (v, d, e),
                ap (λ (y : Due). slice_index w.owners (pipe_of S y)) (sym e) ∙ ap (slice_index w.owners) (sym (pipe-is v d.among)) ∙ o,
              )

-- ---- where the next window starts

module _ (w : ShelvesView) (is : IsSetup w.setup) (g : IsGrowing w.setup (visits_before w.setup w.end)) {bytes : List (List ℕ)}
    (r : RunsOn bytes (visits_before w.setup w.end) w) where
  -- where nothing is due, all is run
  pub none-left : HaveNone w.shelves → HaveRunAll w
  none-left none v a = go (cases_lt v.tick w.end)
    where
      empty : (x : Due) → Among x (pending w.setup (visits_before w.setup w.end)) → v.tick + 1 ≤ x.tick
      empty x m =
          let t = pending-there is r.after x m in
          absurd (none _ t.0 x t.1 t.2)

      go : (v.tick < w.end) ⊎ (w.end ≤ v.tick) → v.tick < w.end
      go (inl l) = l
      go (inr l) =
          let late : v.tick + 1 ≤ v.tick =
          others-late w.setup is (visits_before w.setup w.end) g (v.tick + 1) empty v a
          (λ m. let b = (among-before w.setup is w.end v m).1 in omega (arith, b, l)) in
          absurd (omega (arith, late))

  module _ {head : Head} (f : IsHeadOf w.shelves head) where
    -- nothing is pending before the first due visit
    first-late : (x : Due) → Among x (pending w.setup (visits_before w.setup w.end)) → head.due.tick ≤ x.tick
    first-late x m =
        let t = pending-there is r.after x m in
        go (f.least _ t.0 x t.1 t.2) (cases_lt x.tick head.due.tick)
      where
        go : (Before x head.due → ⊥) → (x.tick < head.due.tick) ⊎ (head.due.tick ≤ x.tick) → head.due.tick ≤ x.tick
        go not (inl l) = absurd (not (inl l))
        go not (inr l) = l

    -- it is one that is due from the end of the last window on
    head-visit : (v : Visit) × IsDueFrom w.setup w.end v × (due_of v ≡ head.due)
    head-visit = (pending-due w.setup is w.end g head.due).0 (head-pending is r.after f)

    -- the least due tick is the least one of a visit from the end of the last window on
    pub start-least : IsLeastFrom w.setup w.end head.due.tick
    start-least =
        let v = head-visit in
        let tick : v.0.tick ≡ head.due.tick = ap (λ (d : Due). d.tick) v.2 in
        let late = v.1.late in
        record {
          late = omega (arith, tick, late);
          visited = (v.0, v.1.among, tick);
          least = λ u a l. others-late w.setup is (visits_before w.setup w.end) g head.due.tick first-late u a
              (λ m. let b = (among-before w.setup is w.end u m).1 in omega (arith, b, l));
        }

    pub not-all : HaveRunAll w → ⊥
    not-all all =
        let v = head-visit in
        let late = v.1.late in
        let early = all v.0 v.1.among in
        omega (arith, late, early)

-- ---- the window is run

-- it starts at the first due visit; a part of the journal is made, all before its end, and nothing else is due before that
pub record IsWindow (w : ShelvesView) (bytes : List (List ℕ)) (head : Head) (end : ℕ) (x : ShelvesView) : Type 0 where
  pub is : IsSetup w.setup
  pub grows : IsGrowing w.setup (visits_before w.setup w.end)
  pub runs : RunsOn bytes (visits_before w.setup w.end) w
  pub first : IsHeadOf w.shelves head
  pub long : head.due.tick < end
  pub stays : StaysAtRun w x
  pub makes : RunsPart bytes (visits_before w.setup w.end) end w x
  pub all : HaveNoneBefore x.shelves end

module _ {w : ShelvesView} {bytes : List (List ℕ)} {head : Head} {end : ℕ} {x : ShelvesView} (k : IsWindow w bytes head end x) where
  abbrev p : RunsPart bytes (visits_before w.setup w.end) end w x
  p = k.makes

  abbrev J : List Visit
  J = visits_before w.setup w.end ++ k.makes.part

  starts : IsLeastFrom w.setup w.end head.due.tick
  starts = start-least w k.is k.grows k.runs k.first

  -- said of the setup as it was
  after : IsAfter w.setup bytes J x.owners x.counts x.shelves
  after = subst (λ (S : SetupView). IsAfter S bytes J x.owners x.counts x.shelves) k.stays.setup p.runs.after

  late : (y : Due) → Among y (pending w.setup J) → end ≤ y.tick
  late y m =
      let t = pending-there k.is after y m in k.all _ t.0 y t.1 t.2

  early : (v : Visit) → Among v J → v.tick < end
  early v m = ⊎_elim
      (λ a. let b = (among-before w.setup k.is w.end v a).1 in let l = starts.late in let n = k.long in omega (arith, b, l, n))
      (λ a. p.early v a) (Among-append v (visits_before w.setup w.end) p.part m)

  -- all visits before the end are made
  front-grown : visits_before w.setup w.end ++ p.part ≡ visits_before w.setup end
  front-grown = front-is w.setup k.is J after.growing end early late

  pub window-grows : IsGrowing w.setup (visits_before w.setup end)
  window-grows = subst (IsGrowing w.setup) front-grown after.growing

  -- the part that was made is the window
  pub part-is : p.part ≡ visits_within w.setup head.due.tick end
  part-is =
      sym (ap (filter inside) (rest.1 ∙ append_assoc (visits_before w.setup w.end) p.part rest.0)
      ∙ skip (visits_before w.setup w.end) (p.part ++ rest.0) before
      ∙ filter-whole inside p.part rest.0 within behind)
    where
      inside : Visit → Bool
      inside v = nat_le head.due.tick v.tick && nat_lt v.tick end

      rest : (rest : List Visit) × (journal_of w.setup ≡ J ++ rest)
      rest = rest-of w.setup k.is J after.growing

      skip : (xs ys : List Visit) → ((v : Visit) → Among v xs → inside v ≡ false) → filter inside (xs ++ ys) ≡ filter inside ys
      skip [] ys none = refl
      skip (v ∷ xs) ys none =
          ap (λ (b : Bool). cond b (v ∷ filter inside (xs ++ ys)) (filter inside (xs ++ ys))) (none v (inl refl))
          ∙ skip xs ys (λ u m. none u (inr m))

      before : (v : Visit) → Among v (visits_before w.setup w.end) → inside v ≡ false
      before v m =
          let b = (among-before w.setup k.is w.end v m).1 in
          let l = starts.late in
          and_left _ _ (lt-leb head.due.tick v.tick (omega (arith, b, l)))

      within : (v : Visit) → Among v p.part → inside v ≡ true
      within v m = and_from _ _ (le-leb head.due.tick v.tick (starts.least v among from)) (lt-ltb v.tick end (p.early v m))
        where
          among : Among v (journal_of w.setup)
          among =
              front-among w.setup k.is J after.growing v (Among-append-right v (visits_before w.setup w.end) p.part m)

          from : w.end ≤ v.tick
          from = go (cases_lt v.tick w.end)
            where
              go : (v.tick < w.end) ⊎ (w.end ≤ v.tick) → w.end ≤ v.tick
              go (inr l) = l
              go (inl l) = absurd (twice (before-among w.setup k.is w.end v among l))
                where
                  twice : Among v (visits_before w.setup w.end) → ⊥
                  twice a =
                      before-irreflexive (due_of v)
                      (rises-across (scheme_of w.setup) (visits_before w.setup w.end) p.part v v after.growing.rises a m)

      behind : (v : Visit) → Among v rest.0 → inside v ≡ false
      behind v m = and_right _ _ (le-ltb v.tick end (rest-late w.setup k.is J after.growing end late rest.0 rest.1 v m))

  -- the window has a visit
  pub part-some : 1 ≤ length p.part
  part-some = go p.part refl
    where
      visit : (v : Visit) × IsDueFrom w.setup w.end v × (due_of v ≡ head.due)
      visit = head-visit w k.is k.grows k.runs k.first

      first : Among visit.0 (visits_within w.setup head.due.tick end)
      first =
          let tick : visit.0.tick ≡ head.due.tick = ap (λ (d : Due). d.tick) visit.2 in
          let n = k.long in
          Among-filter (λ (u : Visit). nat_le head.due.tick u.tick && nat_lt u.tick end) visit.0 (journal_of w.setup) visit.1.among
          (and_from _ _ (le-leb head.due.tick visit.0.tick (omega (arith, tick))) (lt-ltb visit.0.tick end (omega (arith, tick, n))))

      go : (l : List Visit) → p.part ≡ l → 1 ≤ length p.part
      go [] e = absurd (subst (Among visit.0) (sym part-is ∙ e) first)
      go (v ∷ l) e = let n : length p.part ≡ length (v ∷ l) = ap length e in omega (arith, n)

  -- and it stands after it
  pub window-stands : {windows : ℕ} {failed : Bool}
      → ShelvesStand bytes (record x { setup = w.setup; end = end; windows = windows; failed = failed })
  window-stands {windows} {failed} =
      stands-from (record x { setup = w.setup; end = end; windows = windows; failed = failed }) k.is window-grows bytes
      (record {
        after = subst (λ (K : List Visit). IsAfter w.setup bytes K x.owners x.counts x.shelves) front-grown after;
        made = p.runs.made ∙ ap length front-grown;
        few = p.runs.few;
      })

  pub part-count : x.made ≡ w.made + length p.part
  part-count =
      p.runs.made ∙ length-append (visits_before w.setup w.end) p.part ∙ ap (λ (n : ℕ). n + length p.part) (sym k.runs.made)
