-- A visit to a pipe of a table.
use Rattle.std.proofs.Common.{◌≡◌, ◌≢◌, ℕ, ◌<◌, ◌≤◌, ◌==◌, Bool, cond, List, [], ◌∷◌, ◌++◌, Some, sym, ap, ◌∙◌, subst, arith}
use Rattle.std.proofs.lemmas.Bool.{ne_eqb}
use Rattle.mn_base.specs.declared.due.Due.{Due}
use Rattle.mn_base.specs.declared.limits.TheConstants.{PACKETS_MAX}
use Rattle.pipe.specs.declared.step.Step.{Step}
use Rattle.journal.specs.declared.visit.Visit.{Visit}
use Rattle.journal.specs.SetupView.{SetupView}
use Rattle.journal.specs.Steps.{visit_of}
use Rattle.journal.specs.IsPipe.{SetupPipeView, IsOfSetup, IsPipe}
use Rattle.journal.proofs.VisitsTo.{pipe-order, Decided, decided-visit, decided-pipe}
use Rattle.migrate.specs.ShelvesView.{pipe_in}
use Rattle.migrate.specs.Running.{HoldsPipe, ComesToPipe}

module _ {S : SetupView} {J : List Visit} {x : Due} {pipe : ℕ} {old : List (ℕ × SetupPipeView)}
    (comes : ComesToPipe S J x pipe old) {own : SetupPipeView} (found : pipe_in old pipe ≡ Some own) where
  own-is : IsPipe S J pipe own
  own-is =
      let both : Some comes.has.0 ≡ Some own = sym comes.has.1 ∙ found in
      let same : comes.has.0 ≡ own = cc in
      subst (IsPipe S J pipe) same comes.has.2

  pub own-of-setup : IsOfSetup S own
  own-of-setup = own-is.of_setup

  pub own-order : own.memory.last_tick ≤ x.tick
  own-order = pipe-order own-is x.tick comes.order

  pub own-few : own.memory.visits < PACKETS_MAX
  own-few = let v = own-is.stands.visits in let f = comes.few in omega (arith, f, v)

  module _ {new : SetupPipeView} {step : Step} (d : Decided S x pipe own new step) where
    pub own-step : step ≡ (visit_of S J x).step
    own-step = ap (λ (v : Visit). v.step) (decided-visit d J own-is)

    pub own-after : (after : List (ℕ × SetupPipeView)) → pipe_in after pipe ≡ Some new
        → HoldsPipe S (J ++ visit_of S J x ∷ []) pipe after
    own-after after e =
        (new, e, subst (λ (v : Visit). IsPipe S (J ++ v ∷ []) pipe new) (decided-visit d J own-is) (decided-pipe d J own-is))

-- another pipe is found as before
pub other-found : (old after : List (ℕ × SetupPipeView)) (pipe : ℕ) (new : SetupPipeView)
    → ((q : ℕ) → pipe_in after q ≡ cond (pipe == q) (Some new) (pipe_in old q)) → (q : ℕ) → q ≢ pipe → pipe_in after q ≡ pipe_in old q
other-found old after pipe new updates q not =
    updates q ∙ ap (λ (b : Bool). cond b (Some new) (pipe_in old q)) (ne_eqb pipe q (λ e. not (sym e)))
