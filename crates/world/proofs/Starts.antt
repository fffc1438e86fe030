-- The cores of a world are started, one after the other.
use Rattle.std.proofs.Common.{◌≡◌, ◌⊎◌, inl, inr, ⊎_elim, ℕ, ◌+◌, ◌<◌, List, [], ◌∷◌, ◌++◌, length, Some, refl, sym, ap, ◌∙◌, subst, arith}
use Rattle.std.specs.Prelude.{slice_get}
use Rattle.std.proofs.lemmas.List.{length-append}
use Rattle.journal.specs.SetupView.{SetupView}
use Rattle.payload_store.specs.StoreView.{StoreView}
use Rattle.core_loop.specs.CoreView.{CoreView}
use Rattle.world.specs.Starting.{HasStarted, CoresStarted}
use Rattle.core_loop.proofs.Pushed.{get-push}

pub started-none : (S : SetupView) (stores : List StoreView) → CoresStarted S stores 0 []
started-none S stores = record { count = refl; each = λ core c e. cc }

-- one core more
pub started-more : (S : SetupView) (stores : List StoreView) (many : ℕ) (cores : List CoreView) (c : CoreView) → CoresStarted S stores many cores
    → HasStarted S stores many c → CoresStarted S stores (many + 1) (cores ++ c ∷ [])
started-more S stores many cores c have has = record {
  count = length-append cores (c ∷ []) ∙ ap (λ (n : ℕ). n + 1) have.count;
  each = λ core d e. ⊎_elim (λ o. have.each core d o)
      (λ p. subst (λ (k : ℕ). HasStarted S stores k d) (sym (p.0 ∙ have.count)) (subst (HasStarted S stores many) p.1 has))
      (get-push cores c d core e);
}
