-- What a core has run between windows, said by the windows below a number or by a front of the journal.
use Rattle.std.proofs.Common.{◌≡◌, ℕ, ◌<◌, ◌==◌, nat_lt, Bool, true, false, ◌&&◌, List, [], ◌++◌, length, map, filter, append-nil, refl, sym, ap, ◌∙◌, arith, eqb-true}
use Rattle.std.proofs.lemmas.Bool.{lt-ltb, le-ltb, and_parts, and_right, ne_eqb}
use Rattle.std.proofs.lemmas.List.Elements.{filter-append}
use Rattle.mn_base.specs.Among.{Among}
use Rattle.pipe.specs.declared.step.Step.{Step}
use Rattle.journal.specs.declared.visit.Visit.{Visit}
use Rattle.journal.specs.SetupView.{SetupView}
use Rattle.journal.specs.Steps.{past_visit, visits_to}
use Rattle.parcel.specs.Owners.{owner_of}
use Rattle.parcel.specs.Windows.{window_of}
use Rattle.parcel.specs.Counts.{visit_count}
use Rattle.parcel.specs.Told.{told_by}
use Rattle.parcel.proofs.Running.{IsCut}
use Rattle.core_loop.specs.WorldState.{visits_below}
use Rattle.core_loop.specs.Work.{OwnPipesView, HaveRun, is_run, is_left_to_tell, told_in, own_count}
use Rattle.core_loop.proofs.Kept.{filter-none, filter-through, filter-drops}
use Rattle.core_loop.proofs.OwnRuns.{have_run-same}

module _ (S : SetupView) (core windows : ℕ) (front rest : List Visit) (cut : IsCut S core windows front rest) where
  -- of the core's own visits, those of the front are those of the windows below
  pub below-cut : (p : Visit → Bool) → ((v : Visit) → p v ≡ true → owner_of S v.pipe ≡ core)
      → filter p (visits_below S windows) ≡ filter p front
  below-cut p own =
      ap (λ (J : List Visit). filter p (filter (λ v. nat_lt (window_of S v.tick) windows) J)) (sym cut.split)
      ∙ ap (filter p) (filter-append (λ v. nat_lt (window_of S v.tick) windows) front rest)
      ∙ filter-append p (filter (λ v. nat_lt (window_of S v.tick) windows) front) (filter (λ v. nat_lt (window_of S v.tick) windows) rest)
      ∙ ap (λ (l : List Visit). l ++ filter p (filter (λ v. nat_lt (window_of S v.tick) windows) rest))
      (filter-through p (λ v. nat_lt (window_of S v.tick) windows) front (λ v a e. lt-ltb _ _ (cut.early v a (own v e))))
      ∙ ap (λ (l : List Visit). filter p front ++ l)
      (filter-drops p (λ v. nat_lt (window_of S v.tick) windows) rest (λ v a e. le-ltb _ _ (cut.late v a (own v e))))
      ∙ append-nil (filter p front)

  to-own : (pipe : ℕ) → owner_of S pipe ≡ core → (v : Visit) → (v.pipe == pipe) ≡ true → owner_of S v.pipe ≡ core
  to-own pipe own v e = ap (owner_of S) (eqb-true v.pipe pipe e) ∙ own

  pub visits_to-below : (pipe : ℕ) → owner_of S pipe ≡ core → visits_to S pipe (visits_below S windows) ≡ visits_to S pipe front
  visits_to-below pipe own = ap (map (past_visit S)) (below-cut (λ (v : Visit). v.pipe == pipe) (to-own pipe own))

  visit_count-below : (has : Step → Bool) (pipe : ℕ) → owner_of S pipe ≡ core
      → visit_count has pipe (visits_below S windows) ≡ visit_count has pipe front
  visit_count-below has pipe own =
      ap length (below-cut (λ (v : Visit). (v.pipe == pipe) && has v.step) (λ v e. to-own pipe own v (and_parts _ _ e).0))

  -- so the pipes have run the one or the other
  pub have_run-front : (own : OwnPipesView) → HaveRun S core (visits_below S windows) own → HaveRun S core front own
  have_run-front own h = have_run-same S core (visits_below S windows) front visits_to-below visit_count-below own h

  pub have_run-below : (own : OwnPipesView) → HaveRun S core front own → HaveRun S core (visits_below S windows) own
  have_run-below own h =
      have_run-same S core front (visits_below S windows) (λ pipe o. sym (visits_to-below pipe o)) (λ has pipe o. sym (visit_count-below has pipe o))
      own h

  pub own_count-below : own_count S core (visits_below S windows) ≡ own_count S core front
  own_count-below = ap length (below-cut (λ (v : Visit). owner_of S v.pipe == core) (λ v e. eqb-true _ _ e))

  -- nothing is told yet of the next window
  pub told-none : told_in S core windows front ≡ []
  told-none = ap (λ (l : List Visit). filter (is_left_to_tell core) (map (told_by S) l)) (filter-none (is_run S core windows) front none)
    where
      none : (v : Visit) → Among v front → is_run S core windows v ≡ false
      none v a = go (owner_of S v.pipe == core) refl
        where
          go : (b : Bool) → (owner_of S v.pipe == core) ≡ b → is_run S core windows v ≡ false
          go false e = ap (λ (b : Bool). b && (window_of S v.tick == windows)) e
          go true e =
              let l : window_of S v.tick < windows = cut.early v a (eqb-true _ _ e) in
              and_right (owner_of S v.pipe == core) (window_of S v.tick == windows)
              (ne_eqb (window_of S v.tick) windows (λ same. omega (arith, same, l)))
