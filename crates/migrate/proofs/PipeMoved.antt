-- A pipe of shelves that stand is moved: what stands then.
use Rattle.std.proofs.Common.{◌≡◌, ◌≢◌, ℕ, zero, suc, ◌<◌, ◌≤◌, false, List, [], ◌∷◌, length, Option, Some, None, slice_get, slice_set, slice_index, slice_index_or, refl, sym, ap, ◌∙◌, subst, arith}
use Rattle.std.proofs.lemmas.List.{get_or_default}
use Rattle.std.proofs.lemmas.Option.{slice_get_within}
use Rattle.mn_base.specs.Among.{Among}
use Rattle.mn_base.specs.declared.due.Due.{Due}
use Rattle.journal.specs.IsSetup.{IsSetup}
use Rattle.journal.specs.IsPipe.{SetupPipeView}
use Rattle.journal.proofs.HeldFirst.{at-within}
use Rattle.deadline_heap.specs.Canonical.{HasNoneOf}
use Rattle.migrate.specs.ShelvesView.{ShelfView, ShelvesView, IsShelfOf, owner_now, pipe_in}
use Rattle.migrate.specs.Windows.{visits_before}
use Rattle.migrate.specs.Standing.{ShelvesStand}
use Rattle.migrate.specs.Moving.{MovesAt, MovesPipe, IsOnRoute, CarriesPipe}
use Rattle.migrate.specs.Running.{IsAfter}
use Rattle.migrate.proofs.AtRest.{AtRest}
use Rattle.migrate.proofs.Moved.{due-routed, due-alone, due-owner, moved-at, moved-after}
use Rattle.migrate.proofs.OneWindow.{runs-from, stands-from}

-- what is there already
set-same : (xs : List ℕ) (k x : ℕ) → k < length xs → x ≡ slice_index_or xs k x → slice_set xs k x ≡ xs
set-same [] k x l e = refl
set-same (y ∷ ys) zero x l e = ap (λ (z : ℕ). z ∷ ys) e
set-same (y ∷ ys) (suc k) x l e = ap (λ (zs : List ℕ). y ∷ zs) (set-same ys k x (omega (arith, l)) e)

-- a pipe is to move from the core that owns it to this one
pub record IsToMove (v : ShelvesView) (pipe giver taker : ℕ) : Type 0 where
  pub named : pipe < length v.setup.pipes
  pub owner_read : giver ≡ slice_index_or v.owners pipe giver
  pub within : taker < v.setup.cores

module _ {v : ShelvesView} {bytes : List (List ℕ)} (rest : AtRest v bytes) where
  is : IsSetup v.setup
  is = rest.is

  s : ShelvesStand bytes v
  s = rest.stands

  after : IsAfter v.setup bytes (visits_before v.setup v.end) v.owners v.counts v.shelves
  after = (runs-from v is rest.grows bytes rest.few s).after

  pub move-routed : (core : ℕ) (t : ShelfView) (x : Due) → slice_get v.shelves core ≡ Some t → Among x t.due → IsOnRoute v.setup x
  move-routed = due-routed is after

  pub move-alone : (core other : ℕ) (t u : ShelfView) (x : Due) → core ≢ other → slice_get v.shelves core ≡ Some t
      → slice_get v.shelves other ≡ Some u → Among x t.due → HasNoneOf x.packet u.due
  move-alone = due-alone is after

  module _ {pipe giver taker : ℕ} (m : IsToMove v pipe giver taker) where
    has-owner : pipe < length v.owners
    has-owner = let n = m.named in omega (arith, n, s.pipes.one_a_pipe)

    giver-within : giver < length v.shelves
    giver-within =
        let l : slice_index_or v.owners pipe giver < v.setup.cores = s.pipes.owners pipe giver has-owner in
        omega (arith, l, m.owner_read, s.one_a_core)

    owned : slice_index v.owners pipe ≡ giver
    owned = sym (m.owner_read ∙ get_or_default v.owners pipe giver 0 has-owner)

    -- to where it is
    pub move-same : giver ≡ taker → MovesPipe v pipe taker v
    move-same here = record {
      owners = sym (ap (slice_set v.owners pipe) (sym here) ∙ set-same v.owners pipe giver has-owner m.owner_read);
      shelves = shelves;
      cores = refl;
      counts = refl;
      end = refl;
      windows = refl;
      made = refl;
    }
      where
        shelves : (core : ℕ) (from t u : ShelfView) → IsShelfOf v (owner_now v pipe) from → IsShelfOf v core t → IsShelfOf v core u
            → MovesAt v.setup pipe taker core from t u
        shelves core from t u e f h = record {
          state = λ to. ap (λ (k : ShelfView). pipe_in k.pipes pipe) (giver-is to);
          gone = λ not. none (pipe_in u.pipes pipe) refl not;
          other_pipes = λ other not. ap (λ (k : ShelfView). pipe_in k.pipes other) same;
          due = λ x at. (
            (λ m.
                (let to : core ≡ taker =
                sym (due-owner is after core u x h m) ∙ ap (slice_index v.owners) at ∙ owned ∙ here in
                (to, subst (λ (k : ShelfView). Among x k.due) (giver-is to) m))),
            λ m. subst (λ (k : ShelfView). Among x k.due) (sym (giver-is m.0)) m.1,
          );
          other_due = λ x not. (
            (λ m. subst (λ (k : ShelfView). Among x k.due) same m),
            λ m. subst (λ (k : ShelfView). Among x k.due) (sym same) m,
          );
          settled = ap (λ (k : ShelfView). k.settled) same;
          store = ap (λ (k : ShelfView). k.store) same;
          visits = ap (λ (k : ShelfView). k.visits) same;
        }
          where
            same : u ≡ t
            same = (let both : Some u ≡ Some t = sym h ∙ f in cc)

            giver-is : core ≡ taker → u ≡ from
            giver-is to =
                (let both : Some u ≡ Some from =
                sym h ∙ ap (slice_get v.shelves) (to ∙ sym here ∙ sym owned) ∙ e in
                cc)

            none : (o : Option SetupPipeView) → pipe_in u.pipes pipe ≡ o → core ≢ taker → pipe_in u.pipes pipe ≡ None
            none None k not = k
            none (Some m) k not =
                absurd (not (sym (s.pipes.nowhere_else core pipe u m h k).1 ∙ owned ∙ here))

    -- to another core
    module _ (apart : giver ≢ taker) {new : List ShelfView} (c : CarriesPipe v.setup pipe giver taker v.shelves new) where
      at : (core : ℕ) (from t u : ShelfView) → slice_get v.shelves giver ≡ Some from → slice_get v.shelves core ≡ Some t
          → slice_get new core ≡ Some u → MovesAt v.setup pipe taker core from t u
      at core from t u e f h = (moved-at is after m.named owned m.within apart c core from t u e f h).0

      pub move-moves : MovesPipe v pipe taker (record v { owners = slice_set v.owners pipe taker; shelves = new; failed = false })
      move-moves = record {
        owners = refl;
        shelves = λ core from t u e f h. at core from t u (ap (slice_get v.shelves) (sym owned) ∙ e) f h;
        cores = c.as_many;
        counts = refl;
        end = refl;
        windows = refl;
        made = refl;
      }

      pub move-visits : (core : ℕ) (u : ShelfView) → slice_get new core ≡ Some u → u.visits ≤ v.made
      move-visits core u h =
          let t = at-within v.shelves core (let l = slice_get_within new core u h in omega (arith, l, c.as_many)) in
          let from = at-within v.shelves giver giver-within in
          let moved = at core from.0 t.0 u from.1 t.1 h in
          let l = rest.few core t.0 t.1 in
          omega (arith, moved.visits, l)

      pub move-stands : ShelvesStand bytes (record v { owners = slice_set v.owners pipe taker; shelves = new; failed = false })
      move-stands =
          stands-from (record v { owners = slice_set v.owners pipe taker; shelves = new; failed = false }) is rest.grows bytes
          (record {
            after = moved-after is after m.named owned m.within apart c;
            made = s.made;
            few = move-visits;
          })
