-- What a core reaches from turn to turn, and why the pipe that it takes is the one of its turn.
use Rattle.std.proofs.Common.{◌≡◌, ◌≢◌, ◌<◌, ◌≤◌, ◌*◌, ◌/◌, ◌==◌, ⊎_elim, ℕ, Bool, true, false, not, ◌&&◌, ◌||◌, List, [], ◌∷◌, ◌++◌, length, get_or, Option, Some, None, is_some, refl, sym, ap, ap₂, ◌∙◌, subst, arith, true≢false}
use Rattle.std.specs.Prelude.{slice_get}
use Rattle.std.specs.List.{list_any}
use Rattle.std.specs.Option.{option_map_or}
use Rattle.std.proofs.lemmas.Bool.{cases_Bool, cases_lt, or_cases, or_parts, or_left, or_right, or_from, and_parts, and_from, eqb-true, eqb-false, eq-eqb, ne_eqb, not_from_true, not_from_false, not-true, false_from_ne_true, false≢true}
use Rattle.std.proofs.lemmas.List.Folds.{list_any-append}
use Rattle.std.proofs.lemmas.Option.{slice_get_within, get_or_from_slice_get}
use Rattle.mn_base.specs.Among.{Among}
use Rattle.distill.specs.declared.pipes.DistilledPipe.{DistilledPipe}
use Rattle.distill.specs.Distilled.{DistilledView, IsPipeAmong, KeepsPipeLimits}
use Rattle.frontier.specs.NodeSets.{has}
use Rattle.ownership.specs.declared.reach.Reach.{Reach}
use Rattle.ownership.specs.Owners.{IsFree, AreOwners}
use Rattle.ownership.specs.Assignment.{Owned, is_owned, has_end, is_end, is_in_set, starts_at, nearest, least_unowned}
use Rattle.ownership.specs.Turning.{IsRowOf, FindsNone, FindsLeast, IsNextUnowned, AddsNode, IsReach}
use Rattle.ownership.proofs.Finds.{find_least, find_no, is_owned-push, has_owner_is}

-- ---- ends of pipes
pub pipe_ends : (d : DistilledView) → KeepsPipeLimits d → (q : ℕ) (pipe : DistilledPipe) → slice_get d.pipes q ≡ Some pipe
    → IsPipeAmong d.nodes pipe
pipe_ends d keeps q pipe is =
    subst (IsPipeAmong d.nodes) (get_or_from_slice_get d.pipes q pipe pipe is) (keeps.pipes q pipe (slice_get_within d.pipes q pipe is))

has_end-same : (d : DistilledView) → KeepsPipeLimits d → (f g : ℕ → Bool) → ((v : ℕ) → v < d.nodes → f v ≡ g v) → (q : ℕ)
    → has_end d.pipes f q ≡ has_end d.pipes g q
has_end-same d keeps f g same q = go (slice_get d.pipes q) (pipe_ends d keeps q)
  where
    go : (o : Option DistilledPipe) → ((pipe : DistilledPipe) → o ≡ Some pipe → IsPipeAmong d.nodes pipe)
        → option_map_or (λ pipe. f pipe.from || f pipe.to) o false ≡ option_map_or (λ pipe. g pipe.from || g pipe.to) o false
    go None ends = refl
    go (Some pipe) ends = let e = ends pipe refl in rw (same pipe.from e.from, same pipe.to e.to) refl

has_end-more : (pipes : List DistilledPipe) (f g : ℕ → Bool) → ((v : ℕ) → f v ≡ true → g v ≡ true) → (q : ℕ)
    → has_end pipes f q ≡ true → has_end pipes g q ≡ true
has_end-more pipes f g more q = go (slice_get pipes q)
  where
    go : (o : Option DistilledPipe) → option_map_or (λ pipe. f pipe.from || f pipe.to) o false ≡ true
        → option_map_or (λ pipe. g pipe.from || g pipe.to) o false ≡ true
    go None e = e
    go (Some pipe) e =
        ⊎_elim
        (λ from. or_left (g pipe.from) (g pipe.to) (more pipe.from from))
        (λ to. or_right (g pipe.from) (g pipe.to) (more pipe.to to))
        (or_cases (f pipe.from) (f pipe.to) e)

pub within_by_end : (pipes : List DistilledPipe) (f : ℕ → Bool) (q : ℕ) → has_end pipes f q ≡ true → q < length pipes
within_by_end pipes f q e = go (slice_get pipes q) refl e
  where
    go : (o : Option DistilledPipe) → slice_get pipes q ≡ o → option_map_or (λ pipe. f pipe.from || f pipe.to) o false ≡ true
        → q < length pipes
    go None is e = absurd (false≢true e)
    go (Some pipe) is e = slice_get_within pipes q pipe is

-- ---- free pipes are those without an owner
pub free_from : (pipes : ℕ) (owned : List Owned) (owners : List (Option ℕ)) → AreOwners pipes owned owners → (q : ℕ) → q < pipes
    → is_owned owned q ≡ false → IsFree owners q
free_from pipes owned owners are q within none = go (get_or owners q None) (has_owner_is pipes owned owners are q within ∙ none)
  where
    go : (o : Option ℕ) → is_some o ≡ false → o ≡ None
    go None e = refl
    go (Some c) e = absurd (true≢false e)

pub unowned_from : (pipes : ℕ) (owned : List Owned) (owners : List (Option ℕ)) → AreOwners pipes owned owners → (q : ℕ) → q < pipes
    → IsFree owners q → is_owned owned q ≡ false
unowned_from pipes owned owners are q within free = sym (has_owner_is pipes owned owners are q within) ∙ ap is_some free

-- ---- a node more
pub near_more : (pipes : List DistilledPipe) (v : ℕ) (row : List ℕ) (owners : List (Option ℕ)) (old new : Reach)
    → AddsNode v row owners old new → IsRowOf pipes v row
    → ((q : ℕ) → Among q old.near → has_end pipes (has old.nodes) q ≡ true)
    → (q : ℕ) → Among q new.near → has_end pipes (has new.nodes) q ≡ true
near_more pipes v row owners old new adds is_row sound q there =
    ⊎_elim
    (λ before. has_end-more pipes (has old.nodes) (has new.nodes) (λ u e. adds.nodes u ∙ or_left (has old.nodes u) (v == u) e) q (sound q before))
    (λ at_v.
    has_end-more pipes (λ u. u == v) (has new.nodes)
    (λ u e. adds.nodes u ∙ or_right (has old.nodes u) (v == u) (eq-eqb v u (sym (eqb-true u v e))))
    q (is_row.ends q at_v))
    (adds.from q there)

-- a free pipe with an end in the longer set is among those that may be taken
pub all_more : (pipes : List DistilledPipe) (v : ℕ) (row : List ℕ) (owners : List (Option ℕ)) (old new : Reach)
    → AddsNode v row owners old new → IsRowOf pipes v row → (q : ℕ) → IsFree owners q
    → (has_end pipes (has old.nodes) q ≡ true → Among q old.near)
    → has_end pipes (has new.nodes) q ≡ true → Among q new.near
all_more pipes v row owners old new adds is_row q free had ends =
    ⊎_elim
    (λ (yes : has_end pipes (has old.nodes) q ≡ true). adds.kept q (had yes))
    (λ (no : has_end pipes (has old.nodes) q ≡ false). fresh (slice_get pipes q) refl no ends)
    (cases_Bool (has_end pipes (has old.nodes) q))
  where
    -- an end that is new is v
    at_end : (u : ℕ) → has old.nodes u ≡ false → has new.nodes u ≡ true → v ≡ u
    at_end u wasnt now_is =
        ⊎_elim
        (λ (before : has old.nodes u ≡ true). absurd (true≢false (sym before ∙ wasnt)))
        (λ here. eqb-true v u here)
        (or_cases (has old.nodes u) (v == u) (sym (adds.nodes u) ∙ now_is))

    fresh : (o : Option DistilledPipe) → slice_get pipes q ≡ o
        → option_map_or (λ pipe. has old.nodes pipe.from || has old.nodes pipe.to) o false ≡ false
        → option_map_or (λ pipe. has new.nodes pipe.from || has new.nodes pipe.to) o false ≡ true → Among q new.near
    fresh None is wasnt now_is = absurd (false≢true now_is)
    fresh (Some pipe) is wasnt now_is =
        let were = or_parts (has old.nodes pipe.from) (has old.nodes pipe.to) wasnt in
        ⊎_elim
        (λ (from : has new.nodes pipe.from ≡ true).
        let here : v ≡ pipe.from = at_end pipe.from were.0 from in
        adds.added (subst (λ u. has old.nodes u ≡ false) (sym here) were.0) q
        (is_row.all q (rw is (or_left (pipe.from == v) (pipe.to == v) (eq-eqb pipe.from v (sym here))))) free)
        (λ (to : has new.nodes pipe.to ≡ true).
        let here : v ≡ pipe.to = at_end pipe.to were.1 to in
        adds.added (subst (λ u. has old.nodes u ≡ false) (sym here) were.1) q
        (is_row.all q (rw is (or_right (pipe.from == v) (pipe.to == v) (eq-eqb pipe.to v (sym here))))) free)
        (or_cases (has new.nodes pipe.from) (has new.nodes pipe.to) now_is)

-- ---- the pipe of a turn
-- the least free pipe that is reached is the nearest
pub nearest_is : (d : DistilledView) (cores : ℕ) (owned : List Owned) (owners : List (Option ℕ)) (core : ℕ) (reach : Reach) (pipe : ℕ)
    (new : List ℕ) → KeepsPipeLimits d → AreOwners (length d.pipes) owned owners → IsReach d cores owned None core reach
    → FindsLeast owners reach.near pipe new → nearest d cores owned core ≡ Some pipe
nearest_is d cores owned owners core reach pipe new keeps are is found =
    find_least (λ q. not (is_owned owned q) && has_end d.pipes (is_in_set d cores owned core) q) (length d.pipes) pipe within
    (and_from _ _ (not_from_false (is_owned owned pipe) (unowned_from (length d.pipes) owned owners are pipe within found.free))
    (sym (same pipe) ∙ ends))
    (λ k low. false_from_ne_true _ (λ passes. no_less k low (and_parts _ _ passes)))
  where
    same : (q : ℕ) → has_end d.pipes (has reach.nodes) q ≡ has_end d.pipes (is_in_set d cores owned core) q
    same = has_end-same d keeps (has reach.nodes) (is_in_set d cores owned core) is.nodes

    ends : has_end d.pipes (has reach.nodes) pipe ≡ true
    ends = is.near pipe found.there

    within : pipe < length d.pipes
    within = within_by_end d.pipes (has reach.nodes) pipe ends

    no_less : (k : ℕ) → k < pipe
        → (not (is_owned owned k) ≡ true) × (has_end d.pipes (is_in_set d cores owned core) k ≡ true) → ⊥
    no_less k low both =
        let none : is_owned owned k ≡ false = not-true (is_owned owned k) both.0 in
        let there : Among k reach.near = is.all k none (λ e. cc) (same k ∙ both.1) in
        let high : pipe ≤ k = found.least k there (free_from (length d.pipes) owned owners are k (omega (arith, low, within)) none) in
        omega (arith, low, high)

pub none_near : (d : DistilledView) (cores : ℕ) (owned : List Owned) (owners : List (Option ℕ)) (core : ℕ) (reach : Reach) (new : List ℕ)
    → KeepsPipeLimits d → AreOwners (length d.pipes) owned owners → IsReach d cores owned None core reach
    → FindsNone owners reach.near new → nearest d cores owned core ≡ None
none_near d cores owned owners core reach new keeps are is found =
    find_no (λ q. not (is_owned owned q) && has_end d.pipes (is_in_set d cores owned core) q) (length d.pipes)
    (λ k within. false_from_ne_true _ (λ passes. never k within (and_parts _ _ passes)))
  where
    never : (k : ℕ) → k < length d.pipes
        → (not (is_owned owned k) ≡ true) × (has_end d.pipes (is_in_set d cores owned core) k ≡ true) → ⊥
    never k within both =
        let none : is_owned owned k ≡ false = not-true (is_owned owned k) both.0 in
        let there : Among k reach.near =
        is.all k none (λ e. cc) (has_end-same d keeps (has reach.nodes) (is_in_set d cores owned core) is.nodes k ∙ both.1) in
        found.none_free k there (free_from (length d.pipes) owned owners are k within none)

-- every pipe below the next unowned one is owned
pub below_next : (pipes : ℕ) (owned : List Owned) (owners : List (Option ℕ)) (from next : ℕ) → AreOwners pipes owned owners
    → ((q : ℕ) → q < from → is_owned owned q ≡ true) → IsNextUnowned owners from next → (q : ℕ) → q < next → is_owned owned q ≡ true
below_next pipes owned owners from next are below is q low =
    ⊎_elim
    (λ (yes : is_owned owned q ≡ true). yes)
    (λ (no : is_owned owned q ≡ false).
    let within : q < pipes = (let most = is.most in let len = are.len in omega (arith, low)) in
    ⊎_elim
    (λ (before : q < from). below q before)
    (λ (behind : from ≤ q). absurd (is.owned q behind low (free_from pipes owned owners are q within no)))
    (cases_lt q from))
    (cases_Bool (is_owned owned q))

pub least_is : (d : DistilledView) (owned : List Owned) (owners : List (Option ℕ)) (from next : ℕ) → AreOwners (length d.pipes) owned owners
    → ((q : ℕ) → q < from → is_owned owned q ≡ true) → IsNextUnowned owners from next → next < length owners
    → least_unowned d owned ≡ Some next
least_is d owned owners from next are below is within =
    find_least (λ q. not (is_owned owned q)) (length d.pipes) next low
    (not_from_false (is_owned owned next) (unowned_from (length d.pipes) owned owners are next low (is.free within)))
    (λ k under. not_from_true (is_owned owned k) (below_next (length d.pipes) owned owners from next are below is k under))
  where
    low : next < length d.pipes
    low = let len = are.len in omega (arith, within)

pub none_least : (d : DistilledView) (owned : List Owned) (owners : List (Option ℕ)) (from next : ℕ) → AreOwners (length d.pipes) owned owners
    → ((q : ℕ) → q < from → is_owned owned q ≡ true) → IsNextUnowned owners from next → length owners ≤ next
    → least_unowned d owned ≡ None
none_least d owned owners from next are below is past =
    find_no (λ q. not (is_owned owned q)) (length d.pipes)
    (λ k within.
    not_from_true (is_owned owned k)
    (below_next (length d.pipes) owned owners from next are below is k (let len = are.len in omega (arith, within, past))))

-- ---- a core's reach after a pipe was taken out, and after it was given
pub taken_out : (d : DistilledView) (cores : ℕ) (owned : List Owned) (owners : List (Option ℕ)) (core : ℕ) (old new : Reach) (pipe : ℕ)
    → AreOwners (length d.pipes) owned owners → IsReach d cores owned None core old → new.nodes ≡ old.nodes
    → FindsLeast owners old.near pipe new.near → IsReach d cores owned (Some pipe) core new
taken_out d cores owned owners core old new pipe are is nodes found = record {
  size = ap length nodes ∙ is.size;
  nodes = λ v within. ap (λ (marks : List Bool). has marks v) nodes ∙ is.nodes v within;
  near = λ q there. (sym (ends q) ∙ is.near q (found.old_ones q there));
  all = λ q none other e.
      let before : has_end d.pipes (has old.nodes) q ≡ true = ends q ∙ e in
      found.kept q (is.all q none (λ x. cc) before)
      (free_from (length d.pipes) owned owners are q (within_by_end d.pipes (has old.nodes) q before) none)
      (λ same. other (ap (λ (n : ℕ). Some n) (sym same)));
}
  where
    ends : (q : ℕ) → has_end d.pipes (has old.nodes) q ≡ has_end d.pipes (has new.nodes) q
    ends q = ap (λ (marks : List Bool). has_end d.pipes (has marks) q) (sym nodes)

pub none_taken : (d : DistilledView) (cores : ℕ) (owned : List Owned) (owners : List (Option ℕ)) (core : ℕ) (old new : Reach)
    (gone : Option ℕ) → AreOwners (length d.pipes) owned owners → IsReach d cores owned None core old → new.nodes ≡ old.nodes
    → FindsNone owners old.near new.near → IsReach d cores owned gone core new
none_taken d cores owned owners core old new gone are is nodes found = record {
  size = ap length nodes ∙ is.size;
  nodes = λ v within. ap (λ (marks : List Bool). has marks v) nodes ∙ is.nodes v within;
  near = λ q there. absurd (subst (Among q) found.none_left there);
  all = λ q none other e.
      let before : has_end d.pipes (has old.nodes) q ≡ true = ap (λ (marks : List Bool). has_end d.pipes (has marks) q) (sym nodes) ∙ e in
      absurd (found.none_free q (is.all q none (λ x. cc) before)
      (free_from (length d.pipes) owned owners are q (within_by_end d.pipes (has old.nodes) q before) none));
}

-- a core that takes nothing keeps what it reaches
pub any_gone : (d : DistilledView) (cores : ℕ) (owned : List Owned) (core : ℕ) (reach : Reach) (gone : Option ℕ)
    → IsReach d cores owned None core reach → IsReach d cores owned gone core reach
any_gone d cores owned core reach gone is = record {
  size = is.size;
  nodes = is.nodes;
  near = is.near;
  all = λ q none other e. is.all q none (λ x. cc) e;
}

-- what isn't owned with one owner more wasn't before, and is another pipe
pub unowned_before : (owned : List Owned) (o : Owned) (q : ℕ) → is_owned (owned ++ o ∷ []) q ≡ false
    → (is_owned owned q ≡ false) × (Some o.pipe ≢ Some q)
unowned_before owned o q none =
    let parts = or_parts (is_owned owned q) (o.pipe == q) (sym (is_owned-push owned o q) ∙ none) in
    (parts.0, λ same. let e : o.pipe ≡ q = cc in eqb-false o.pipe q parts.1 e)

in_set-push : (d : DistilledView) (cores : ℕ) (owned : List Owned) (o : Owned) (core v : ℕ)
    → is_in_set d cores (owned ++ o ∷ []) core v
    ≡ (is_in_set d cores owned core v || ((o.core == core) && is_end d.pipes v o.pipe))
in_set-push d cores owned o core v =
    ap (λ (b : Bool). starts_at d cores core v || b)
    (list_any-append (λ p. (p.core == core) && is_end d.pipes v p.pipe) owned (o ∷ []))
    ∙ go (starts_at d cores core v) (list_any (λ p. (p.core == core) && is_end d.pipes v p.pipe) owned)
    ((o.core == core) && is_end d.pipes v o.pipe)
  where
    go : (a b c : Bool) → (a || (b || (c || false))) ≡ ((a || b) || c)
    go true b c = refl
    go false true c = refl
    go false false true = refl
    go false false false = refl

-- the core that was given a pipe reaches both its ends
pub given : (d : DistilledView) (cores : ℕ) (owned : List Owned) (owners : List (Option ℕ)) (o : Owned) (pipe : DistilledPipe)
    (from_row to_row : List ℕ) (old mid new : Reach) → slice_get d.pipes o.pipe ≡ Some pipe
    → AreOwners (length d.pipes) (owned ++ o ∷ []) owners → IsReach d cores owned (Some o.pipe) o.core old
    → IsRowOf d.pipes pipe.from from_row → IsRowOf d.pipes pipe.to to_row
    → AddsNode pipe.from from_row owners old mid → AddsNode pipe.to to_row owners mid new
    → IsReach d cores (owned ++ o ∷ []) None o.core new
given d cores owned owners o pipe from_row to_row old mid new at are is from_is to_is first second = record {
  size = second.size ∙ first.size ∙ is.size;
  nodes = λ v within.
      second.nodes v
      ∙ ap (λ (b : Bool). b || pipe.to == v) (first.nodes v)
      ∙ assoc (has old.nodes v) (pipe.from == v) (pipe.to == v)
      ∙ ap₂ (λ (a b : Bool). a || b) (is.nodes v within) (sym (ends v))
      ∙ sym (in_set-push d cores owned o o.core v);
  near = near_more d.pipes pipe.to to_row owners mid new second to_is (near_more d.pipes pipe.from from_row owners old mid first from_is is.near);
  all = λ q none gone e.
      let before = unowned_before owned o q none in
      let free : IsFree owners q =
      free_from (length d.pipes) (owned ++ o ∷ []) owners are q (within_by_end d.pipes (has new.nodes) q e) none in
      all_more d.pipes pipe.to to_row owners mid new second to_is q free
      (all_more d.pipes pipe.from from_row owners old mid first from_is q free (is.all q before.0 before.1)) e;
}
  where
    assoc : (a b c : Bool) → ((a || b) || c) ≡ (a || (b || c))
    assoc true b c = refl
    assoc false b c = refl

    ends : (v : ℕ) → ((o.core == o.core) && is_end d.pipes v o.pipe) ≡ (pipe.from == v || pipe.to == v)
    ends v = rw (eq-eqb o.core o.core refl, at) refl

-- the other cores reach what they did
pub not_given : (d : DistilledView) (cores : ℕ) (owned : List Owned) (o : Owned) (core : ℕ) (reach : Reach) → o.core ≢ core
    → IsReach d cores owned (Some o.pipe) core reach → IsReach d cores (owned ++ o ∷ []) None core reach
not_given d cores owned o core reach other is = record {
  size = is.size;
  nodes = λ v within.
      is.nodes v within
      ∙ sym (in_set-push d cores owned o core v
      ∙ ap (λ (b : Bool). is_in_set d cores owned core v || (b && is_end d.pipes v o.pipe)) (ne_eqb o.core core other)
      ∙ or_false (is_in_set d cores owned core v));
  near = is.near;
  all = λ q none gone e. let before = unowned_before owned o q none in is.all q before.0 before.1 e;
}
  where
    or_false : (b : Bool) → (b || false) ≡ b
    or_false true = refl
    or_false false = refl

-- ---- before the first turn
pub nothing_reached : (d : DistilledView) (cores core : ℕ) (reach : Reach) → slice_get d.edge_nodes (core * length d.edge_nodes / cores) ≡ None
    → length reach.nodes ≡ d.nodes → ((v : ℕ) → has reach.nodes v ≡ false) → reach.near ≡ [] → IsReach d cores [] None core reach
nothing_reached d cores core reach none size empty near = record {
  size = size;
  nodes = λ v within. empty v ∙ sym (rw none refl);
  near = λ q there. absurd (subst (Among q) near there);
  all = λ q unowned gone e. absurd (no_end (slice_get d.pipes q) e);
}
  where
    no_end : (o : Option DistilledPipe) → option_map_or (λ pipe. has reach.nodes pipe.from || has reach.nodes pipe.to) o false ≡ true → ⊥
    no_end None e = false≢true e
    no_end (Some pipe) e = false≢true (sym (or_from _ _ (empty pipe.from) (empty pipe.to)) ∙ e)
