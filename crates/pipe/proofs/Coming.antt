-- What is in force once a pipe comes to a later tick.
use Rattle.std.proofs.Common.{◌≡◌, ℕ, ◌≤◌, List, length, drop, sym, subst, ◌∙◌, arith}
use Rattle.mn_base.specs.declared.params.PipeParams.{PipeParams}
use Rattle.pipe.specs.declared.in_force.InForce.{InForce}
use Rattle.pipe.specs.declared.visits.Pipe.TheInside.{Inside}
use Rattle.pipe.specs.Params.{last_params}
use Rattle.pipe.specs.PipeView.{PipeView, params_at}
use Rattle.pipe.specs.Inside.{view_of, IsSound}

-- what holds of what `in_force_at` gives for a list of changes
pub record IsInForce (changes : List (ℕ × PipeParams)) (before now : InForce) (tick : ℕ) : Type 0 where
  pub within : now.reached ≤ length changes
  pub params : last_params tick before.params (drop before.reached changes) ≡ now.params
  pub ahead : (later : ℕ) → tick ≤ later
      → last_params later now.params (drop now.reached changes) ≡ last_params later before.params (drop before.reached changes)

-- the same by the pipe's own first parameters and changes
pub record Comes (p : Inside) (tick : ℕ) (now : InForce) : Type 0 where
  pub params : now.params ≡ params_at (view_of p) tick
  pub within : now.reached ≤ length p.changes.items
  pub ahead : (later : ℕ) → tick ≤ later
      → last_params later now.params (drop now.reached p.changes.items) ≡ last_params later p.first p.changes.items

pub comes : {p : Inside} {m : PipeView} {tick : ℕ} {now : InForce} → IsSound p → view_of p ≡ m → m.last_tick ≤ tick
    → (changes : List (ℕ × PipeParams)) → changes ≡ p.changes.items → IsInForce changes p.in_force now tick → Comes p tick now
comes {p} {m} {tick} {now} sound is order changes same found =
    let late : p.last_tick ≤ tick = subst (λ (v : PipeView). v.last_tick ≤ tick) (sym is) order in
    let here = subst (λ cs. IsInForce cs p.in_force now tick) same found in
    record {
      params = sym here.params ∙ sound.ahead tick late;
      within = here.within;
      ahead = λ later after. here.ahead later after ∙ sound.ahead later (omega arith);
    }
