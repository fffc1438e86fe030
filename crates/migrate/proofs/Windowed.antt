-- A window of shelves that stand: what stands once it is run.
use Rattle.std.proofs.Common.{◌≡◌, ℕ, ◌+◌, ◌*◌, ◌^◌, ◌<◌, ◌≤◌, true, false, List, length, Some, slice_get, sym, ap, ◌∙◌, subst, arith}
use Rattle.std.proofs.lemmas.Nat.{mul-le}
use Rattle.mn_base.specs.declared.limits.TheConstants.{TIME_NS_END, LOOKAHEAD_MAX}
use Rattle.journal.specs.declared.visit.Visit.{Visit}
use Rattle.journal.specs.SetupView.{SetupView}
use Rattle.journal.specs.IsSetup.{IsSetup}
use Rattle.journal.specs.Journal.{journal_of}
use Rattle.journal.proofs.Orderly.{IsGrowing, tick-pos}
use Rattle.migrate.specs.ShelvesView.{ShelfView, ShelvesView}
use Rattle.migrate.specs.declared.window.Head.{Head}
use Rattle.migrate.specs.Windows.{visits_before, visits_of_core}
use Rattle.migrate.specs.Standing.{ShelvesStand, HaveRunAll, RunsWindow, window_len}
use Rattle.migrate.specs.Running.{IsHeadOf, HaveNone, HaveNoneBefore, RunsOn, StaysAtRun, HasRunBefore}
use Rattle.migrate.proofs.AtRest.{AtRest}
use Rattle.migrate.proofs.OneVisit.{head-comes}
use Rattle.migrate.proofs.OneWindow.{runs-from, none-left, start-least, not-all, IsWindow, window-grows, part-is, part-some, window-stands, part-count}
use Rattle.migrate.proofs.Made.{few-made}
use Rattle.migrate.proofs.RunsLater.{made-few}

-- a window of this length from the first due visit on is run
pub record IsRun (v : ShelvesView) (head : Head) (len : ℕ) (x : ShelvesView) : Type 0 where
  pub first : IsHeadOf v.shelves head
  pub positive : 1 ≤ len
  pub stays : StaysAtRun (record v { failed = true }) x
  pub run : HasRunBefore (head.due.tick + len) (record v { failed = true }) x
  pub all : HaveNoneBefore x.shelves (head.due.tick + len)

module _ {v : ShelvesView} {bytes : List (List ℕ)} (k : AtRest v bytes) where
  runs : RunsOn bytes (visits_before v.setup v.end) v
  runs = runs-from v k.is k.grows bytes k.few k.stands

  -- while a window is run
  pub busy-runs : RunsOn bytes (visits_before v.setup v.end) (record v { failed = true })
  busy-runs = record { after = runs.after; made = runs.made; few = runs.few }

  pub windows-few : v.windows ≤ length (journal_of v.setup)
  windows-few =
      let l = made-few v k.is bytes (visits_before v.setup v.end) runs in
      let w = k.windows in
      omega (arith, l, w)

  pub nothing-left : HaveNone v.shelves → HaveRunAll v
  nothing-left none = none-left v k.is k.grows runs none

  module _ {head : Head} (f : IsHeadOf v.shelves head) where
    pub some-left : HaveRunAll v → true ≡ false
    some-left all = absurd (not-all v k.is k.grows runs f all)

    pub windows-fit : v.windows + 1 < 2 ^ 64
    windows-fit =
        let l = few-made k.is runs.after f in
        let w = k.windows in
        omega (arith, l, w, runs.made)

    pub end-fits : (len : ℕ) → len ≤ LOOKAHEAD_MAX → head.due.tick + len < 2 ^ 64
    end-fits len most =
        let time : head.due.tick * v.setup.tick_ns < TIME_NS_END = (head-comes k.is runs.after f).time in
        let pos = tick-pos v.setup k.is in
        let grow : head.due.tick * 1 ≤ head.due.tick * v.setup.tick_ns =
        mul-le head.due.tick 1 head.due.tick v.setup.tick_ns (omega arith) pos in
        omega (arith, time, grow, most)

  module _ {head : Head} {len : ℕ} {x : ShelvesView} (r : IsRun v head len x) where
    window : IsWindow (record v { failed = true }) bytes head (head.due.tick + len) x
    window = record {
      is = k.is;
      grows = k.grows;
      runs = busy-runs;
      first = r.first;
      long = (let p = r.positive in omega (arith, p));
      stays = r.stays;
      makes = r.run bytes (visits_before v.setup v.end) busy-runs;
      all = r.all;
    }

    abbrev done : ShelvesView
    done = record x { end = head.due.tick + len; windows = x.windows + 1; failed = false }

    pub done-stands : ShelvesStand bytes (record x { end = head.due.tick + len; windows = x.windows + 1; failed = false })
    done-stands =
        subst (λ (S : SetupView). ShelvesStand bytes (record done { setup = S })) (sym r.stays.setup)
        (window-stands window {windows = x.windows + 1} {failed = false})

    pub done-grows : IsGrowing x.setup (visits_before x.setup (head.due.tick + len))
    done-grows =
        subst (λ (S : SetupView). IsGrowing S (visits_before S (head.due.tick + len))) (sym r.stays.setup) (window-grows window)

    pub done-windows : x.windows + 1 ≤ x.made
    done-windows =
        let one = part-some window in
        let count : x.made ≡ v.made + length window.makes.part = part-count window in
        let same : x.windows ≡ v.windows = r.stays.windows in
        let w = k.windows in
        omega (arith, one, count, same, w)

    pub done-visits : (core : ℕ) (t : ShelfView) → slice_get x.shelves core ≡ Some t → t.visits ≤ x.made
    done-visits core t e = window.makes.runs.few core t e

    pub done-few : x.windows + 1 ≤ length (journal_of x.setup)
    done-few =
        let l = done-windows in
        let m = made-few x (subst IsSetup (sym r.stays.setup) k.is) bytes _ window.makes.runs in
        omega (arith, l, m)

    pub done-runs : len ≡ window_len v → RunsWindow v (record x { end = head.due.tick + len; windows = x.windows + 1; failed = false })
    done-runs same = record {
      start = head.due.tick;
      least = start-least (record v { failed = true }) k.is k.grows busy-runs r.first;
      end = ap (λ (n : ℕ). head.due.tick + n) same;
      windows = ap (λ (n : ℕ). n + 1) r.stays.windows;
      owners = r.stays.owners;
      visits = λ core t u e h.
          window.makes.visits core t u e h
          ∙ ap (λ (J : List Visit). t.visits + visits_of_core v.owners core J) (part-is window);
    }
