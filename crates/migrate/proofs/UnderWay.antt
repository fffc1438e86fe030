-- A run with moves from one window to the next, and at its end.
use Rattle.std.proofs.Common.{◌≡◌, ◌⊎◌, inl, inr, ℕ, zero, suc, ◌+◌, ◌<◌, ◌≤◌, ◌==◌, nat_lt, nat_le, ◌&&◌, Bool, true, false, cond, List, [], ◌∷◌, ◌++◌, length, filter, map, take, Some, slice_get, slice_index, slice_index_or, AllPairs, length-append, refl, sym, ap, ap₂, ◌∙◌, subst, arith}
use Rattle.std.specs.Prelude.{fold, option_map}
use Rattle.std.specs.List.{AllZip, range_with_len}
use Rattle.std.proofs.lemmas.Bool.{lt-ltb, le-ltb, le-leb, lt-leb, leb-true, ltb-true, and_left, and_parts, cases_lt}
use Rattle.std.proofs.lemmas.List.{length-map}
use Rattle.std.proofs.lemmas.Option.{slice_get_within, slice_get-map}
use Rattle.mn_base.specs.Among.{Among}
use Rattle.mn_base.proofs.Members.{Among-from-filter}
use Rattle.journal.specs.declared.visit.Visit.{Visit}
use Rattle.journal.specs.SetupView.{SetupView}
use Rattle.journal.specs.IsSetup.{IsSetup}
use Rattle.journal.specs.Hops.{due_of}
use Rattle.journal.specs.IsJournal.{scheme_of}
use Rattle.journal.specs.Journal.{journal_of}
use Rattle.parcel.specs.declared.counts.CoreCounts.{CoreCounts}
use Rattle.parcel.specs.Laws.{IsLeastFrom}
use Rattle.parcel.specs.Lookahead.{lookahead_of}
use Rattle.parcel.specs.Owners.{owned_by}
use Rattle.pipe.specs.Scheme.{Rises}
use Rattle.pipe.proofs.CanonicalOrder.{before-tick}
use Rattle.journal.proofs.HeldFirst.{at-within}
use Rattle.journal.proofs.Meets.{journal-grows}
use Rattle.core_loop.proofs.Kept.{filter-none}
use Rattle.core_loop.proofs.Differ.{filter-same}
use Rattle.migrate.specs.declared.moves.Move.{Move}
use Rattle.migrate.specs.ShelvesView.{ShelfView, ShelvesView, IsShelfOf}
use Rattle.migrate.specs.Windows.{visits_before, visits_within, visits_of_core}
use Rattle.migrate.specs.Standing.{HaveRunAll, RunsWindow, window_len}
use Rattle.migrate.specs.Finishing.{core_counts_of, AreCoreCounts}
use Rattle.migrate.specs.Moves.{moved_owners, owners_in, len_in, IsStart, HasWindows, IsRunBy, moves_below, Moves, counts_with_moves, AreCountsWithMoves}
use Rattle.migrate.specs.UnderWay.{EndsAt, times, HasCome, HaveMovedAll, SameButPlaces}
use Rattle.migrate.proofs.Finished.{all-before}
use Rattle.migrate.proofs.OneRun.{start-one}

-- ---- lists

zip-append : {A B : Type 0} (R : A → B → Type 0) (xs us : List A) (ys ws : List B) → AllZip R xs ys → AllZip R us ws
    → AllZip R (xs ++ us) (ys ++ ws)
zip-append R [] us [] ws a b = b
zip-append R [] us (y ∷ ys) ws a b = absurd a
zip-append R (x ∷ xs) us [] ws a b = absurd a
zip-append R (x ∷ xs) us (y ∷ ys) ws a b = (a.0, zip-append R xs us ys ws a.1 b)

zip-map : {A B : Type 0} (R : A → B → Type 0) (f : A → B) (xs : List A)
    → ((x : A) → Among x xs → R x (f x)) → AllZip R xs (map f xs)
zip-map R f [] each = tt
zip-map R f (x ∷ xs) each = (each x (inl refl), zip-map R f xs (λ y m. each y (inr m)))

filter-append : {X : Type 0} (p : X → Bool) (xs ys : List X) → filter p (xs ++ ys) ≡ filter p xs ++ filter p ys
filter-append p [] ys = refl
filter-append {X} p (x ∷ xs) ys = go (p x) (filter-append p xs ys)
  where
    go : (b : Bool) → filter p (xs ++ ys) ≡ filter p xs ++ filter p ys
        → cond b (x ∷ filter p (xs ++ ys)) (filter p (xs ++ ys)) ≡ cond b (x ∷ filter p xs) (filter p xs) ++ filter p ys
    go true e = ap (λ (l : List X). x ∷ l) e
    go false e = e

filter-of-map : {A : Type 0} (f : A → ℕ) (core : ℕ) (xs : List A)
    → length (filter (λ c. c == core) (map f xs)) ≡ length (filter (λ x. f x == core) xs)
filter-of-map f core [] = refl
filter-of-map {A} f core (x ∷ xs) = go (f x == core) (filter-of-map f core xs)
  where
    go : (b : Bool) → length (filter (λ c. c == core) (map f xs)) ≡ length (filter (λ x. f x == core) xs)
        → length (cond b (f x ∷ filter (λ c. c == core) (map f xs)) (filter (λ c. c == core) (map f xs)))
        ≡ length (cond b (x ∷ filter (λ x. f x == core) xs) (filter (λ x. f x == core) xs))
    go true e = ap suc e
    go false e = e

-- ---- a window after those that are run

module _ (S : SetupView) (is : IsSetup S) where
  split : (e f : ℕ) → e ≤ f → (J : List Visit) → Rises (scheme_of S) J
      → filter (λ v. nat_lt v.tick f) J ≡ filter (λ v. nat_lt v.tick e) J ++ filter (λ v. nat_le e v.tick && nat_lt v.tick f) J
  split e f l [] r = refl
  split e f l (v ∷ J) r = go (cases_lt v.tick e) (split e f l J r.1)
    where
      go : (v.tick < e) ⊎ (e ≤ v.tick)
          → filter (λ v. nat_lt v.tick f) J ≡ filter (λ v. nat_lt v.tick e) J ++ filter (λ v. nat_le e v.tick && nat_lt v.tick f) J
          → filter (λ v. nat_lt v.tick f) (v ∷ J)
          ≡ filter (λ v. nat_lt v.tick e) (v ∷ J) ++ filter (λ v. nat_le e v.tick && nat_lt v.tick f) (v ∷ J)
      go (inl low) rest =
          ap (λ (b : Bool). cond b (v ∷ filter (λ v. nat_lt v.tick f) J) (filter (λ v. nat_lt v.tick f) J))
          (lt-ltb v.tick f (omega (arith, low, l)))
          ∙ ap (λ (m : List Visit). v ∷ m) rest
          ∙ sym (ap₂ (λ (b c : Bool).
          cond b (v ∷ filter (λ v. nat_lt v.tick e) J) (filter (λ v. nat_lt v.tick e) J)
          ++ cond c (v ∷ filter (λ v. nat_le e v.tick && nat_lt v.tick f) J) (filter (λ v. nat_le e v.tick && nat_lt v.tick f) J))
          (lt-ltb v.tick e low) (and_left _ _ (lt-leb e v.tick low)))
      go (inr high) rest =
          filter-same (λ (u : Visit). nat_lt u.tick f) (λ (u : Visit). nat_le e u.tick && nat_lt u.tick f) (v ∷ J) same
          ∙ ap (λ (m : List Visit). m ++ filter (λ (u : Visit). nat_le e u.tick && nat_lt u.tick f) (v ∷ J))
          (sym (filter-none (λ (u : Visit). nat_lt u.tick e) (v ∷ J) (λ u m. le-ltb u.tick e (late u m))))
        where
          late : (u : Visit) → Among u (v ∷ J) → e ≤ u.tick
          late u (inl eq) = subst (λ (w : Visit). e ≤ w.tick) eq high
          late u (inr m) = let b : v.tick ≤ u.tick = before-tick (due_of v) (due_of u) (r.0 u m) in omega (arith, b, high)

          same : (u : Visit) → Among u (v ∷ J) → nat_lt u.tick f ≡ (nat_le e u.tick && nat_lt u.tick f)
          same u m = sym (ap (λ (b : Bool). b && nat_lt u.tick f) (le-leb e u.tick (late u m)))

  pub before-next : (e start f : ℕ) → IsLeastFrom S e start → start ≤ f
      → visits_before S f ≡ visits_before S e ++ visits_within S start f
  before-next e start f least l =
      split e f (let k = least.late in omega (arith, k, l)) (journal_of S) (journal-grows S is).rises
      ∙ ap (λ (m : List Visit). visits_before S e ++ m)
      (filter-same (λ (v : Visit). nat_le e v.tick && nat_lt v.tick f) (λ (v : Visit). nat_le start v.tick && nat_lt v.tick f)
      (journal_of S)
      (λ v m. ap (λ (b : Bool). b && nat_lt v.tick f) (same v m (cases_lt v.tick e))))
    where
      same : (v : Visit) → Among v (journal_of S) → (v.tick < e) ⊎ (e ≤ v.tick) → nat_le e v.tick ≡ nat_le start v.tick
      same v m (inl low) =
          lt-leb e v.tick low ∙ sym (lt-leb start v.tick (let k = least.late in omega (arith, k, low)))
      same v m (inr high) = le-leb e v.tick high ∙ sym (le-leb start v.tick (least.least v m high))

-- ---- one window more

-- after so many windows the next one is run, and the moves before it are made
pub record RunsNext (S : SetupView) (moves : List Move) (n : ℕ) (v w : ShelvesView) : Type 0 where
  pub come : HasCome S moves n v
  pub owners : v.owners ≡ owners_in S moves n
  pub setup : w.setup ≡ v.setup
  pub works : w.failed ≡ false
  pub as_many : length w.shelves ≡ length v.shelves
  pub runs : RunsWindow v w

module _ (S : SetupView) (is : IsSetup S) (moves : List Move) (n : ℕ) (v w : ShelvesView) (o : RunsNext S moves n v w) where
  abbrev h : HasCome S moves n v
  h = o.come

  abbrev r : RunsWindow v w
  r = o.runs

  owners : v.owners ≡ owners_in S moves n
  owners = o.owners

  least : IsLeastFrom S v.end r.start
  least = subst (λ (T : SetupView). IsLeastFrom T v.end r.start) h.setup r.least

  len : window_len v ≡ len_in S moves n
  len = ap₂ (λ (T : SetupView) (l : List ℕ). lookahead_of (owned_by T l)) h.setup owners

  end : w.end ≡ r.start + len_in S moves n
  end = r.end ∙ ap (λ (k : ℕ). r.start + k) len

  start : IsStart S moves n r.start
  start = go n h.end_is
    where
      go : (k : ℕ) → EndsAt S moves k v.end → IsStart S moves k r.start
      go zero e = subst (λ (b : ℕ). IsLeastFrom S b r.start) e least
      go (suc k) e = (e.0, e.1, subst (λ (b : ℕ). IsLeastFrom S b r.start) (sym e.2) least)

  abbrev part : List Visit
  part = visits_within S r.start w.end

  owner_of_visit : Visit → ℕ
  owner_of_visit u = slice_index v.owners u.pipe

  -- the cores that run its visits
  abbrev part-cores : List ℕ
  part-cores = map (λ (u : Visit). slice_index v.owners u.pipe) part

  grown : visits_before S w.end ≡ visits_before S v.end ++ part
  grown = before-next S is v.end r.start w.end least (let e = end in omega (arith, e))

  in-window : (u : Visit) → Among u part → IsRunBy S moves u (slice_index v.owners u.pipe)
  in-window u m =
      let t = Among-from-filter (λ (x : Visit). nat_le r.start x.tick && nat_lt x.tick w.end) u (journal_of S) m in
      let b = and_parts _ _ t.1 in
      let low : r.start ≤ u.tick = leb-true r.start u.tick b.0 in
      let high : u.tick < w.end = ltb-true u.tick w.end b.1 in
      let e = end in (
        n,
        record { start = r.start; starts = start; low = low; high = omega (arith, high, e) },
        ap (λ (l : List ℕ). slice_index l u.pipe) (sym owners),
      )

  was-at : (core : ℕ) (t : ShelfView) → IsShelfOf w core t → (s : ShelfView) × IsShelfOf v core s
  was-at core t e = at-within v.shelves core (let l = slice_get_within w.shelves core t e in omega (arith, l, o.as_many))

  pub come-next : HasCome S moves (n + 1) w
  come-next = record {
    setup = o.setup ∙ h.setup;
    works = o.works;
    windows_are = r.windows ∙ ap (λ (k : ℕ). k + 1) h.windows_are;
    end_is = end-next;
    starts = starts;
    cores = h.cores ++ part-cores;
    run_by = subst (λ (l : List Visit). AllZip (IsRunBy S moves) l (h.cores ++ part-cores)) (sym grown)
        (zip-append (IsRunBy S moves) (visits_before S v.end) part h.cores part-cores h.run_by
        (zip-map (IsRunBy S moves) (λ (u : Visit). slice_index v.owners u.pipe) part in-window));
    visits = visits;
  }
    where
      next : n + 1 ≡ suc n
      next = omega arith

      end-next : EndsAt S moves (n + 1) w.end
      end-next = subst (λ (k : ℕ). EndsAt S moves k w.end) (sym next) (r.start, start, sym end)

      starts : (window : ℕ) → window < n + 1 → (s : ℕ) × IsStart S moves window s
      starts window l = go (cases_lt window n)
        where
          go : (window < n) ⊎ (n ≤ window) → (s : ℕ) × IsStart S moves window s
          go (inl below) = h.starts window below
          go (inr above) =
              let same : n ≡ window = omega (arith, l, above) in
              (r.start, subst (λ (k : ℕ). IsStart S moves k r.start) same start)

      visits : (core : ℕ) (t : ShelfView) → IsShelfOf w core t
          → t.visits ≡ times core (h.cores ++ part-cores)
      visits core t e =
          let s = was-at core t e in
          r.visits core s.0 t s.1 e
          ∙ ap₂ (λ (a b : ℕ). a + b) (h.visits core s.0 s.1)
          (ap (λ (T : SetupView). visits_of_core v.owners core (visits_within T r.start w.end)) h.setup
          ∙ sym (filter-of-map (λ (u : Visit). slice_index v.owners u.pipe) core part))
          ∙ sym (length-append (filter (λ c. c == core) h.cores) (filter (λ c. c == core) part-cores))
          ∙ sym (ap length (filter-append (λ c. c == core) h.cores part-cores))

-- where pipes move, it stays
pub come-moved : (S : SetupView) (moves : List Move) (n : ℕ) (v w : ShelvesView) → HasCome S moves n v
    → SameButPlaces v w → HasCome S moves n w
come-moved S moves n v w h s = record {
  setup = s.setup ∙ h.setup;
  works = s.works ∙ h.works;
  windows_are = s.windows ∙ h.windows_are;
  end_is = subst (EndsAt S moves n) (sym s.end) h.end_is;
  starts = h.starts;
  cores = h.cores;
  run_by = subst (λ (e : ℕ). AllZip (IsRunBy S moves) (visits_before S e) h.cores) (sym s.end) h.run_by;
  visits = λ core t e.
      (let u = at-within v.shelves core (let l = slice_get_within w.shelves core t e in omega (arith, l, s.as_many)) in
      s.visits core u.0 t u.1 e ∙ h.visits core u.0 u.1);
}

-- ---- at the end

module _ (S : SetupView) (is : IsSetup S) (moves : List Move) (n : ℕ) (w : ShelvesView) (h : HasCome S moves n w)
    (all : HaveRunAll w) where
  all-here : (v : Visit) → Among v (journal_of S) → v.tick < w.end
  all-here v m = all v (subst (λ (T : SetupView). Among v (journal_of T)) (sym h.setup) m)

  has-windows : HasWindows S moves n
  has-windows = record { starts = h.starts; ends = λ start s. go n h.end_is start s }
    where
      late : (bound start : ℕ) → IsLeastFrom S bound start → w.end ≤ bound → ⊥
      late bound start l b =
          let u = l.visited in
          let early = all-here u.0 u.1 in
          let k = l.late in
          omega (arith, early, u.2, b, k)

      go : (k : ℕ) → EndsAt S moves k w.end → (start : ℕ) → IsStart S moves k start → ⊥
      go zero e start s = late 0 start s (omega (arith, e))
      go (suc k) e start s =
          let same : s.0 ≡ e.0 = start-one S moves k s.0 e.0 s.1 e.1 in
          late (s.0 + len_in S moves k) start s.2 (let f = e.2 in omega (arith, f, same))

  -- what the run comes to
  pub has-moved : (cores : List CoreCounts) → AreCoreCounts w cores → length w.shelves ≡ S.cores
      → Moves S moves n (moves_below moves n) (map (λ c. c.visits) cores)
  has-moved cores are as_many = record {
    windows_are = has-windows;
    moved_are = refl;
    cores = h.cores;
    run_by = subst (λ (l : List Visit). AllZip (IsRunBy S moves) l h.cores)
        (ap (λ (T : SetupView). visits_before T w.end) (sym h.setup)
        ∙ all-before w (subst IsSetup (sym h.setup) is) all
        ∙ ap journal_of h.setup) h.run_by;
    visits_are = by-core cores 0 S.cores (are.one_a_core ∙ ap (λ (T : SetupView). T.cores) h.setup) each;
  }
    where
      each : (k : ℕ) (c : CoreCounts) → slice_get cores k ≡ Some c → c.visits ≡ times (0 + k) h.cores
      each k c e =
          let s = at-within w.shelves k
          (let l = slice_get_within cores k c e in omega (arith, l, are.one_a_core, ap (λ (T : SetupView). T.cores) h.setup, as_many)) in
          let both : Some c ≡ Some _ = sym e ∙ are.each k s.0 s.1 in
          let same : c.visits ≡ s.0.visits = some-visits both in
          let zero_k : 0 + k ≡ k = omega arith in
          same ∙ h.visits k s.0 s.1 ∙ ap (λ (m : ℕ). times m h.cores) (sym zero_k)
        where
          some-visits : {c d : CoreCounts} → Some c ≡ Some d → c.visits ≡ d.visits
          some-visits e = cc

      by-core : (cs : List CoreCounts) (from many : ℕ) → length cs ≡ many
          → ((k : ℕ) (c : CoreCounts) → slice_get cs k ≡ Some c → c.visits ≡ times (from + k) h.cores)
          → map (λ c. c.visits) cs ≡ map (λ core. times core h.cores) (range_with_len from many)
      by-core [] from zero l e = refl
      by-core [] from (suc many) l e = absurd (omega (arith, l))
      by-core (c ∷ cs) from zero l e = absurd (omega (arith, l))
      by-core (c ∷ cs) from (suc many) l e =
          ap₂ (λ (x : ℕ) (xs : List ℕ). x ∷ xs)
          (e 0 c refl ∙ ap (λ (m : ℕ). times m h.cores) (omega arith))
          (by-core cs (from + 1) many (omega (arith, l))
          (λ k d f. e (suc k) d f ∙ ap (λ (m : ℕ). times m h.cores) (omega arith)))

  -- what each core did
  pub are-counts : (cores : List CoreCounts) → AreCoreCounts w cores → length w.shelves ≡ S.cores → w.owners ≡ owners_in S moves n
      → AreCountsWithMoves S moves n (map (λ c. c.visits) cores) cores
  are-counts cores are as_many owners = record {
    one_a_core = many;
    visits_each = length-map cores (λ (c : CoreCounts). c.visits) ∙ many;
    each = each;
  }
    where
      many : length cores ≡ S.cores
      many = are.one_a_core ∙ ap (λ (T : SetupView). T.cores) h.setup

      some-visits : {m k : ℕ} → Some m ≡ Some k → m ≡ k
      some-visits e = cc

      each : (core ran : ℕ) → slice_get (map (λ c. c.visits) cores) core ≡ Some ran
          → slice_get cores core ≡ Some (counts_with_moves S moves n core ran)
      each core ran e =
          let s = at-within w.shelves core
          (let l = slice_get_within (map (λ (c : CoreCounts). c.visits) cores) core ran e in
          omega (arith, l, length-map cores (λ (c : CoreCounts). c.visits), many, as_many)) in
          let here : slice_get cores core ≡ Some (core_counts_of w.setup w.owners w.windows core s.0) = are.each core s.0 s.1 in
          let visits : s.0.visits ≡ ran =
          some-visits (sym (slice_get-map (λ (c : CoreCounts). c.visits) cores core ∙ ap (option_map (λ (c : CoreCounts). c.visits)) here) ∙ e) in
          here
          ∙ ap (λ (T : SetupView). Some (core_counts_of T w.owners w.windows core s.0)) h.setup
          ∙ ap (λ (l : List ℕ). Some (core_counts_of S l w.windows core s.0)) owners
          ∙ ap (λ (k : ℕ). Some (core_counts_of S (owners_in S moves n) k core s.0)) h.windows_are
          ∙ ap (λ (v : ℕ). Some (counts_with_moves S moves n core v)) visits

-- ---- the owners in a window

-- moves are made in order, so those whose windows are no later are the first ones
pub owners-made : (S : SetupView) (moves : List Move) (next window : ℕ) (w : ShelvesView)
    → AllPairs (λ m n. m.window ≤ n.window) moves → HaveMovedAll S moves next window w → w.owners ≡ owners_in S moves window
owners-made S moves next window w order h =
    h.moved.owners ∙ ap (fold moved_owners S.owners) (first-ones moves next h.moved.within h.moved.early late)
  where
    late : (index : ℕ) (m : Move) → next ≤ index → index < length moves → window < (slice_index_or moves index m).window
    late index m above below = go (cases_lt next index)
      where
        at-next : window < (slice_index_or moves next m).window
        at-next = h.late m (omega (arith, above, below))

        go : (next < index) ⊎ (index ≤ next) → window < (slice_index_or moves index m).window
        go (inl l) = let o = order next index m l below in let k = at-next in omega (arith, o, k)
        go (inr l) =
            let same : next ≡ index = omega (arith, l, above) in
            subst (λ (k : ℕ). window < (slice_index_or moves k m).window) same at-next

    first-ones : (ms : List Move) (k : ℕ) → k ≤ length ms
        → ((i : ℕ) (m : Move) → i < k → (slice_index_or ms i m).window ≤ window)
        → ((i : ℕ) (m : Move) → k ≤ i → i < length ms → window < (slice_index_or ms i m).window)
        → take k ms ≡ filter (λ m. nat_le m.window window) ms
    first-ones [] zero l early late = refl
    first-ones [] (suc k) l early late = absurd (omega (arith, l))
    first-ones (m ∷ ms) zero l early late =
        sym (ap (λ (b : Bool). cond b (m ∷ filter (λ m. nat_le m.window window) ms) (filter (λ m. nat_le m.window window) ms))
        (lt-leb m.window window (late 0 m (omega arith) (omega arith)))
        ∙ sym (first-ones ms zero (omega arith) (λ i d k. absurd (omega (arith, k)))
        (λ i d a b. late (suc i) d (omega arith) (omega (arith, b)))))
    first-ones (m ∷ ms) (suc k) l early late =
        sym (ap (λ (b : Bool). cond b (m ∷ filter (λ m. nat_le m.window window) ms) (filter (λ m. nat_le m.window window) ms))
        (le-leb m.window window (early 0 m (omega arith)))
        ∙ ap (λ (l : List Move). m ∷ l)
        (sym (first-ones ms k (omega (arith, l)) (λ i d b. early (suc i) d (omega (arith, b)))
        (λ i d a b. late (suc i) d (omega (arith, a)) (omega (arith, b))))))
