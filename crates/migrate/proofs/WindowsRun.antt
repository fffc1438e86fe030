-- Pipes move, and then a window is run, or no visit is left.
use Rattle.std.proofs.Common.{◌≡◌, ℕ, ◌+◌, ◌^◌, ◌<◌, ◌≤◌, false, List, length, AllPairs, sym, ap, ◌∙◌, subst, arith}
use Rattle.journal.specs.SetupView.{SetupView}
use Rattle.journal.specs.IsSetup.{IsSetup}
use Rattle.journal.specs.Journal.{journal_of}
use Rattle.parcel.proofs.FewWindows.{few_visits}
use Rattle.migrate.specs.declared.moves.Move.{Move}
use Rattle.migrate.specs.ShelvesView.{ShelvesView}
use Rattle.migrate.specs.Standing.{StillStand, RunsWindow}
use Rattle.migrate.specs.UnderWay.{DoStand, HasCome, HaveMovedAll, SameButPlaces}
use Rattle.migrate.proofs.UnderWay.{come-next, come-moved, owners-made}

-- the moves before a window are made
pub record AreMade (S : SetupView) (moves : List Move) (next n : ℕ) (u v : ShelvesView) : Type 0 where
  pub order : AllPairs (λ m n. m.window ≤ n.window) moves
  pub come : HasCome S moves n u
  pub moved : HaveMovedAll S moves next n v
  pub same : SameButPlaces u v
  pub stand : DoStand v

pub stand-then : (v w : ShelvesView) → DoStand v → StillStand v w → DoStand w
stand-then v w stand still = (stand.0, still stand.0 stand.1)

pub made-come : (S : SetupView) (moves : List Move) (next n : ℕ) (u v : ShelvesView) → AreMade S moves next n u v
    → HasCome S moves n v
made-come S moves next n u v a = come-moved S moves n u v a.come a.same

-- and the window is run
pub record Runs (v w : ShelvesView) : Type 0 where
  pub setup : w.setup ≡ v.setup
  pub works : w.failed ≡ false
  pub still : StillStand v w
  pub runs : RunsWindow v w

pub run-come : (S : SetupView) (moves : List Move) (next n : ℕ) (u v w : ShelvesView) → IsSetup S → AreMade S moves next n u v
    → Runs v w → HasCome S moves (n + 1) w
run-come S moves next n u v w is a r = come-next S is moves n v w (record {
  come = made-come S moves next n u v a;
  owners = owners-made S moves next n v a.order a.moved;
  setup = r.setup;
  works = r.works;
  as_many =
      (stand-then v w a.stand r.still).1.one_a_core
      ∙ ap (λ (T : SetupView). T.cores) r.setup
      ∙ sym a.stand.1.one_a_core;
  runs = r.runs;
})

-- windows are few
pub few-then : (S : SetupView) (moves : List Move) (n : ℕ) (w : ShelvesView) → HasCome S moves n w
    → w.windows ≤ length (journal_of w.setup) → n ≤ length (journal_of S)
few-then S moves n w h few =
    subst (λ (T : SetupView). n ≤ length (journal_of T)) h.setup (let e = h.windows_are in omega (arith, few, e))

pub few-fit : (S : SetupView) (n : ℕ) → IsSetup S → n ≤ length (journal_of S) → n < 2 ^ 28
few-fit S n is few = let l = few_visits S is in omega (arith, few, l)
