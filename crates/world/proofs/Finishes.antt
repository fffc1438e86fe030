-- The cores of a world are finished, one after the other, and count in the tally.
use Rattle.std.proofs.Common.{◌≡◌, ⊎_elim, inl, inr, ℕ, ◌+◌, ◌*◌, List, [], ◌∷◌, ◌++◌, length, Some, refl, sym, ap, ◌∙◌, subst}
use Rattle.std.specs.Prelude.{slice_get}
use Rattle.std.proofs.lemmas.List.{length-append}
use Rattle.journal.specs.SetupView.{SetupView}
use Rattle.journal.specs.IsSetup.{IsSetup}
use Rattle.journal.specs.Journal.{journal_of}
use Rattle.parcel.specs.CoreResultView.{CoreResultView}
use Rattle.parcel.specs.Windows.{window_count}
use Rattle.parcel.specs.Results.{IsResult, AreResults}
use Rattle.core_loop.specs.CoreView.{CoreView}
use Rattle.core_loop.specs.WorldState.{CoreStands}
use Rattle.core_loop.specs.TallyView.{TallyView, added}
use Rattle.core_loop.specs.Turns.{own_visit_count}
use Rattle.core_loop.proofs.Pushed.{get-push}
use Rattle.core_loop.proofs.Tallying.{IsCounted, counted-more, counted-ends}
use Rattle.world.specs.WorldView.{WorldView, IsWorld, IsCoreOf}
use Rattle.world.specs.Worlds.{WorldStands}

pub record IsFinishing (w : WorldView) (before : TallyView) (many : ℕ) (results : List CoreResultView) (now : TallyView) : Type 0 where
  pub count : length results ≡ many
  pub each : (bytes : List (List ℕ)) → WorldStands bytes w → (core : ℕ) (r : CoreResultView) → slice_get results core ≡ Some r
      → IsResult w.setup bytes core r
  pub tally : IsCounted w.setup before many now

pub finishing-starts : (w : WorldView) (before : TallyView) → IsFinishing w before 0 [] before
finishing-starts w before = record { count = refl; each = λ bytes s core r e. cc; tally = inl (refl, refl) }

-- one core more has finished
pub finishing-more : {w : WorldView} {before : TallyView} {many : ℕ} {results : List CoreResultView} {now next : TallyView} (c : CoreView)
    (r : CoreResultView) → IsFinishing w before many results now → IsWorld w → IsCoreOf w many c
    → ((bytes : List (List ℕ)) → CoreStands bytes c → IsResult c.setup bytes c.number r)
    → next ≡ added now 1 (window_count c.setup) (own_visit_count c.setup c.number)
    → IsFinishing w before (many + 1) (results ++ r ∷ []) next
finishing-more {w} {before} {many} {results} {now} {next} c r f is here result counted = record {
  count = length-append results (r ∷ []) ∙ ap (λ (n : ℕ). n + 1) f.count;
  each = λ bytes s core q e. ⊎_elim (λ o. f.each bytes s core q o) (λ p. new bytes s core q p.0 p.1) (get-push results r q core e);
  tally = inr (counted-more w.setup before many now next f.tally
      (counted
      ∙ ap (λ (S : SetupView). added now 1 (window_count S) (own_visit_count S c.number)) (is.setups many c here)
      ∙ ap (λ (k : ℕ). added now 1 (window_count w.setup) (own_visit_count w.setup k)) (is.numbers many c here)));
}
  where
    new : (bytes : List (List ℕ)) → WorldStands bytes w → (core : ℕ) (q : CoreResultView) → core ≡ length results → r ≡ q
        → IsResult w.setup bytes core q
    new bytes s core q at same =
        subst (λ (k : ℕ). IsResult w.setup bytes k q) (sym (at ∙ f.count))
        (subst (IsResult w.setup bytes many) same
        (subst (λ (k : ℕ). IsResult w.setup bytes k r) (is.numbers many c here)
        (subst (λ (S : SetupView). IsResult S bytes c.number r) (is.setups many c here) (result bytes (s many c here)))))

pub finishing-ends : (w : WorldView) → IsSetup w.setup → (before : TallyView) (many : ℕ) (results : List CoreResultView) (now : TallyView)
    → IsFinishing w before many results now → many ≡ w.setup.cores
    → now ≡ added before w.setup.cores (w.setup.cores * window_count w.setup) (length (journal_of w.setup))
finishing-ends w is before many results now f all = counted-ends w.setup is before many now f.tally all

pub finishing-results : (w : WorldView) (before : TallyView) (many : ℕ) (results : List CoreResultView) (now : TallyView)
    → IsFinishing w before many results now → many ≡ w.setup.cores
    → (bytes : List (List ℕ)) → WorldStands bytes w → AreResults w.setup bytes results
finishing-results w before many results now f all bytes s = record { one_a_core = f.count ∙ all; each = f.each bytes s }
