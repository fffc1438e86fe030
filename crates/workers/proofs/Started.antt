-- The cores of a setup are started, one after the other.
use Rattle.std.proofs.Common.{◌≡◌, ⊎_elim, ℕ, ◌+◌, List, [], ◌∷◌, ◌++◌, refl, sym, ap, ◌∙◌, subst}
use Rattle.std.proofs.lemmas.List.{length-append}
use Rattle.journal.specs.SetupView.{SetupView}
use Rattle.payload_store.specs.StoreView.{StoreView}
use Rattle.gate_ports.specs.GatePortsView.{GatePortsView, IsFresh}
use Rattle.core_loop.specs.CoreView.{CoreView, posted_of, taken_of}
use Rattle.workers.specs.declared.station.Station.{Station}
use Rattle.workers.specs.Standing.{StandsAt}
use Rattle.workers.specs.Starting.{IsAtStart, AreAtStart}
use Rattle.core_loop.proofs.Pushed.{get-push}

-- before the first
pub none-started : (S : SetupView) (stores : List StoreView) → AreAtStart S stores 0 []
none-started S stores = record { count = refl; each = λ core station e. cc }

-- and one more
pub one-started : (S : SetupView) (stores : List StoreView) (many : ℕ) (all : List Station) (station : Station) → AreAtStart S stores many all
    → IsAtStart S stores many station.core → AreAtStart S stores (many + 1) (all ++ station ∷ [])
one-started S stores many all station have is = record {
  count = length-append all (station ∷ []) ∙ ap (λ (n : ℕ). n + 1) have.count;
  each = λ core s e.
      ⊎_elim (λ o. have.each core s o)
      (λ p. subst (λ (k : ℕ). IsAtStart S stores k s.core) (sym (p.0 ∙ have.count)) (subst (λ (t : Station). IsAtStart S stores many t.core) p.1 is))
      (get-push all station s core e);
}

-- a core that has posted and taken nothing stands beside fresh ports
pub fresh-stands : (S : SetupView) (number : ℕ) (c : CoreView) (p : GatePortsView) → c.setup ≡ S → c.number ≡ number
    → ((other : ℕ) → posted_of c other ≡ 0) → ((other : ℕ) → taken_of c other ≡ 0) → IsFresh S number p → StandsAt c p
fresh-stands S number c p setup number_is posted taken fresh = record {
  same_setup = fresh.setup ∙ sym setup;
  same_core = fresh.core ∙ sym number_is;
  posts = λ other o. fresh.posted other ∙ sym (posted other);
  takes = λ other o. fresh.taken other ∙ sym (taken other);
}
