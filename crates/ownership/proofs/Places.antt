-- Bounds that turns need: rows are of pipes that there are, reaches of nodes that there are.
use Rattle.std.proofs.Common.{◌≡◌, ◌<◌, ◌≤◌, ◌+◌, ◌*◌, ◌/◌, ◌==◌, ⊎_elim, ℕ, suc, Bool, true, false, nat_lt, List, [], ◌∷◌, ◌++◌, length, get_or, set, All, Option, Some, None, find, is_some, MatchOption, Result, Ok, Err, OnOk, refl, sym, ap, ◌∙◌, subst, arith, div-lt_iff_lt-mul, mul-le-mul_right, length-append}
use Rattle.std.specs.Prelude.{slice_get}
use Rattle.std.specs.Bool.{then_some}
use Rattle.std.specs.Option.{option_map_or}
use Rattle.std.proofs.lemmas.Bool.{cases_eq, cases_lt, ltb-true, ltb-false, false≢true, true≢false}
use Rattle.std.proofs.lemmas.Option.{slice_get_read}
use Rattle.std.proofs.lemmas.List.{get_or_append_left, get_or-append-add, get_or_past}
use Rattle.std.proofs.lemmas.List.FromFn.{get_or-map-range_with_len, length-map-range_with_len}
use Rattle.mn_base.specs.Among.{Among}
use Rattle.mn_base.proofs.Members.{Among-find, All-Among}
use Rattle.mn_base.specs.declared.refusal.NoMemory.{NoMemory}
use Rattle.distill.specs.declared.pipes.DistilledPipe.{DistilledPipe}
use Rattle.distill.specs.Distilled.{DistilledView, IsPipeAmong, KeepsPipeLimits}
use Rattle.frontier.specs.NodeSets.{has}
use Rattle.ownership.specs.declared.reach.Reach.{Reach}
use Rattle.ownership.specs.declared.turns.Turns.{Turns}
use Rattle.ownership.specs.Owners.{IsFree, AreOwners}
use Rattle.ownership.specs.Assignment.{Owned, owner_in, owners_of, assigned, pipe_of_turn}
use Rattle.ownership.specs.Turning.{IsRowOf, FindsNone, FindsLeast, IsNextUnowned, IsReach, HaveStarted, HoldsTurns}
use Rattle.ownership.proofs.EachOnce.{one_owner}
use Rattle.ownership.proofs.Reaches.{pipe_ends, within_by_end}
use Rattle.ownership.proofs.TurnSteps.{picked_near, near_is_turn, picked_far, far_is_turn, none_is_turn}

pub on_ok : (r : Result (Unit {0}) NoMemory) (P Q : Type 0) → OnOk r P → (P → Q) → OnOk r Q
on_ok (Ok u) P Q fact to = to fact
on_ok (Err e) P Q fact to = tt

-- ---- pipes and nodes
pub pipe_at : (d : DistilledView) (ps : List DistilledPipe) (q : ℕ) (x : DistilledPipe) → ps ≡ d.pipes → q < length d.pipes
    → x ≡ get_or ps q x → slice_get d.pipes q ≡ Some x
pipe_at d ps q x same low is =
    slice_get_read d.pipes (length d.pipes) q x refl low (subst (λ (xs : List DistilledPipe). x ≡ get_or xs q x) same is)

pub ends_at : (d : DistilledView) (ps : List DistilledPipe) (q : ℕ) (x : DistilledPipe) → ps ≡ d.pipes → KeepsPipeLimits d
    → q < length d.pipes → x ≡ get_or ps q x → IsPipeAmong d.nodes x
ends_at d ps q x same keeps low is = pipe_ends d keeps q x (pipe_at d ps q x same low is)

pub row_below : (d e : DistilledView) (v : ℕ) (row : List ℕ) (os : List (Option ℕ)) → e ≡ d → IsRowOf e.pipes v row
    → length os ≡ length d.pipes → (k : ℕ) → Among k row → k < length os
row_below d e v row os same is len k there =
    let low : k < length d.pipes =
    subst (λ (w : DistilledView). k < length w.pipes) same (within_by_end e.pipes (λ u. u == v) k (is.ends k there)) in
    omega (arith, low, len)

pub reach_size : (d : DistilledView) (cores : ℕ) (owned : List Owned) (gone : Option ℕ) (t : Turns) (core : ℕ) (reach : Reach)
    → HoldsTurns d cores owned gone t → core < cores → reach ≡ get_or t.reaches.items core reach → length reach.nodes ≡ d.nodes
reach_size d cores owned gone t core reach holds low read =
    ap (λ (r : Reach). length r.nodes) read ∙ (holds.reaches core reach low).size

-- a core's reach is read from the turns
pub record HasReach (d : DistilledView) (cores : ℕ) (owned : List Owned) (gone : Option ℕ) (t : Turns) (core : ℕ) (reach : Reach) : Type 0 where
  pub holds : HoldsTurns d cores owned gone t
  pub low : core < cores
  pub reach_is : reach ≡ get_or t.reaches.items core reach

pub near_below : (d : DistilledView) (cores : ℕ) (owned : List Owned) (gone : Option ℕ) (t : Turns) (core : ℕ) (reach : Reach)
    (os : List (Option ℕ)) → HasReach d cores owned gone t core reach → os ≡ t.owners.items → (k : ℕ) → Among k reach.near → k < length os
near_below d cores owned gone t core reach os from same k there =
    let is : IsReach d cores owned gone core reach =
    subst (IsReach d cores owned gone core) (sym from.reach_is) (from.holds.reaches core reach from.low) in
    let within : k < length d.pipes = within_by_end d.pipes (has reach.nodes) k (is.near k there) in
    let len : length os ≡ length t.owners.items = ap length same in
    omega (arith, within, len, from.holds.owners.len)

-- ---- a picked pipe
-- what a turn of a core finds: its reach, and what is left of the pipes that it may take once one was taken out, or none
pub record Looks (d : DistilledView) (cores : ℕ) (owned : List Owned) (t : Turns) (core : ℕ) (near : Option ℕ) : Type 0 where
  pub keeps : KeepsPipeLimits d
  pub low : core < cores
  pub holds : HoldsTurns d cores owned None t
  pub reach : Reach
  pub reach_is : reach ≡ get_or t.reaches.items core reach
  pub owners : List (Option ℕ)
  pub owners_are : owners ≡ t.owners.items
  pub left : List ℕ
  pub found : MatchOption near (FindsNone owners reach.near left) (λ pipe. FindsLeast owners reach.near pipe left)

-- where none is near: the next pipe without an owner, of so many
pub record LooksOn (t : Turns) (near : Option ℕ) : Type 0 where
  pub none : is_some near ≡ false
  pub owners : List (Option ℕ)
  pub owners_are : owners ≡ t.owners.items
  pub next : ℕ
  pub next_is : IsNextUnowned owners t.least next

-- the turns after that: the reach is put back with what is left
pub record PutBack (t t' : Turns) (core : ℕ) (reach : Reach) (left : List ℕ) (least : ℕ) : Type 0 where
  pub owners : t'.owners.items ≡ t.owners.items
  pub reaches : t'.reaches.items ≡ set t.reaches.items core (record { nodes = reach.nodes; near = left })
  pub least_is : t'.least ≡ least

pub some_pipe : (d : DistilledView) (cores : ℕ) (owned : List Owned) (t : Turns) (core : ℕ) (near : Option ℕ)
    → Looks d cores owned t core near → is_some near ≡ true → near ≡ pipe_of_turn d cores owned core
some_pipe d cores owned t core None looks some = absurd (false≢true some)
some_pipe d cores owned t core (Some pipe) looks some =
    sym (near_is_turn d cores owned t core pipe looks.reach looks.left looks.keeps looks.low looks.holds looks.reach_is
    (subst (λ (xs : List (Option ℕ)). FindsLeast xs looks.reach.near pipe looks.left) looks.owners_are looks.found))

pub some_holds : (d : DistilledView) (cores : ℕ) (owned : List Owned) (t t' : Turns) (core : ℕ) (near : Option ℕ)
    (looks : Looks d cores owned t core near) → is_some near ≡ true → PutBack t t' core looks.reach looks.left t.least
    → HoldsTurns d cores owned near t'
some_holds d cores owned t t' core None looks some put = absurd (false≢true some)
some_holds d cores owned t t' core (Some pipe) looks some put =
    picked_near d cores owned t t' core pipe looks.reach (record { nodes = looks.reach.nodes; near = looks.left }) looks.keeps looks.low looks.holds
    looks.reach_is refl
    (subst (λ (xs : List (Option ℕ)). FindsLeast xs looks.reach.near pipe looks.left) looks.owners_are looks.found)
    put.owners put.reaches put.least_is

none_found : (near : Option ℕ) (os : List (Option ℕ)) (old new : List ℕ) → is_some near ≡ false
    → MatchOption near (FindsNone os old new) (λ pipe. FindsLeast os old pipe new) → FindsNone os old new
none_found None os old new none found = found
none_found (Some k) os old new none found = absurd (true≢false none)

module _ (d : DistilledView) (cores : ℕ) (owned : List Owned) (t : Turns) (core : ℕ) (near : Option ℕ)
    (looks : Looks d cores owned t core near) (on : LooksOn t near) where
  found_none : FindsNone t.owners.items looks.reach.near looks.left
  found_none =
      subst (λ (xs : List (Option ℕ)). FindsNone xs looks.reach.near looks.left) looks.owners_are
      (none_found near looks.owners looks.reach.near looks.left on.none looks.found)

  next_unowned : IsNextUnowned t.owners.items t.least on.next
  next_unowned = subst (λ (xs : List (Option ℕ)). IsNextUnowned xs t.least on.next) on.owners_are on.next_is

  -- the pipe of the turn is the next without an owner, if there is one
  pub far_pipe_is : (len : ℕ) → len ≡ length t.owners.items → then_some (nat_lt on.next len) on.next ≡ pipe_of_turn d cores owned core
  far_pipe_is len len_is = go (nat_lt on.next len) refl
    where
      go : (b : Bool) → nat_lt on.next len ≡ b → then_some b on.next ≡ pipe_of_turn d cores owned core
      go true e =
          sym (far_is_turn d cores owned t core on.next looks.reach looks.left looks.keeps looks.low looks.holds looks.reach_is found_none
          next_unowned
          (let under : on.next < len = ltb-true on.next len e in omega (arith, under, len_is)))
      go false e =
          sym (none_is_turn d cores owned t core on.next looks.reach looks.left looks.keeps looks.low looks.holds looks.reach_is found_none
          next_unowned
          (let over : len ≤ on.next = ltb-false on.next len e in omega (arith, over, len_is)))

  pub far_holds : (t' : Turns) (gone : Option ℕ) → PutBack t t' core looks.reach looks.left on.next → HoldsTurns d cores owned gone t'
  far_holds t' gone put =
      picked_far d cores owned t t' core on.next gone looks.reach (record { nodes = looks.reach.nodes; near = looks.left }) looks.low looks.holds
      looks.reach_is refl found_none next_unowned put.owners put.reaches put.least_is

-- ---- the start
pub place_fits : (core cores m : ℕ) → core < cores → core * m / cores ≤ m
place_fits core cores m low =
    let some : 0 < cores = omega (arith, low) in
    let most : core * m ≤ cores * m = mul-le-mul_right m (omega (arith, low)) in
    let under : core * m / cores < suc m = (div-lt_iff_lt-mul some).1 (grind (arith, most, some)) in
    omega (arith, under)

pub free_at_start : (pipes : ℕ) (owners : List (Option ℕ)) → AreOwners pipes [] owners → (q : ℕ) → IsFree owners q
free_at_start pipes owners are q =
    ⊎_elim
    (λ (low : q < pipes). are.are q low)
    (λ (high : pipes ≤ q). get_or_past owners q None (let len = are.len in omega (arith, high, len)))
    (cases_lt q pipes)

pub none_started : (d : DistilledView) (cores : ℕ) → HaveStarted d cores 0 []
none_started d cores = record { len = refl; each = λ core other low. absurd (omega arith) }

pub one_started : (d : DistilledView) (cores n : ℕ) (rs : List Reach) (reach : Reach) → HaveStarted d cores n rs
    → IsReach d cores [] None n reach → HaveStarted d cores (n + 1) (rs ++ reach ∷ [])
one_started d cores n rs reach had is = record {
  len = omega (arith, length-append rs (reach ∷ []), had.len);
  each = λ core other low.
      ⊎_elim
      (λ (same : core ≡ n).
      subst (λ k. IsReach d cores [] None k (get_or (rs ++ reach ∷ []) k other)) (sym same)
      (subst (IsReach d cores [] None n)
      (sym (ap (λ k. get_or (rs ++ reach ∷ []) k other) (let at : n ≡ length rs + 0 = omega (arith, had.len) in at)
      ∙ get_or-append-add rs (reach ∷ []) 0 other))
      is))
      (λ (other_core : core ≡ n → ⊥).
      subst (IsReach d cores [] None core)
      (sym (get_or_append_left rs (reach ∷ []) other core (omega (arith, low, other_core, had.len))))
      (had.each core other (omega (arith, low, other_core))))
      (cases_eq core n);
}

pub turns_begin : (d : DistilledView) (cores : ℕ) (t : Turns) → AreOwners (length d.pipes) [] t.owners.items
    → HaveStarted d cores cores t.reaches.items → t.least ≡ 0 → HoldsTurns d cores [] None t
turns_begin d cores t owners started least = record {
  owners = owners;
  len = started.len;
  reaches = started.each;
  below = λ q low. absurd (omega (arith, low, least));
  least = omega (arith, least);
}

-- ---- the end
owner_below : (owned : List Owned) (cores q : ℕ) → 1 ≤ cores → All (λ o. o.core < cores) owned → owner_in owned q < cores
owner_below owned cores q some below = go (find (λ o. o.pipe == q) owned) refl
  where
    go : (o : Option Owned) → find (λ p. p.pipe == q) owned ≡ o → option_map_or (λ p. p.core) o 0 < cores
    go None is = omega (arith, some)
    go (Some o) is = All-Among (λ (p : Owned). p.core < cores) o owned below (Among-find (λ p. p.pipe == q) o owned is).0

pub owners_are_below : (d : DistilledView) (cores : ℕ) → 1 ≤ cores → All (λ core. core < cores) (owners_of d cores)
owners_are_below d cores some = λ k e within.
    let len : length (owners_of d cores) ≡ length d.pipes = length-map-range_with_len (owner_in (assigned d cores)) 0 (length d.pipes) in
    subst (λ n. n < cores)
    (sym (get_or-map-range_with_len (owner_in (assigned d cores)) 0 (length d.pipes) k k e (omega (arith, within, len)) (omega arith)))
    (owner_below (assigned d cores) cores k some (one_owner d cores some).cores_are)
