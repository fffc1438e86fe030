-- Visits that are made one after the other: those made are the front of the journal that has as many.
use Rattle.std.proofs.Common.{◌≡◌, ℕ, List, [], ◌∷◌, ◌++◌, take, sym, ap, ◌∙◌, subst}
use Rattle.std.proofs.lemmas.List.{take_at, append_assoc}
use Rattle.pipe.specs.declared.due_visits.DueVisit.{DueVisit}
use Rattle.pipe.specs.HeldVisits.{TakesVisit}
use Rattle.journal.specs.declared.visit.Visit.{Visit}
use Rattle.journal.specs.SetupView.{SetupView}
use Rattle.journal.specs.Steps.{visit_of}
use Rattle.journal.specs.Journal.{journal_of}
use Rattle.journal.specs.IsPipe.{SetupPipeView}
use Rattle.journal.specs.Held.{IsMaking, IsToMake}
use Rattle.journal.specs.VisitsView.{GoesOnWith}
use Rattle.journal.proofs.Meets.{grows_to_journal}

module _ {S : SetupView} {J : List Visit} {pipes : List SetupPipeView} {held : List DueVisit} {made : ℕ} where
  pub front-taken : IsMaking S J pipes held made → take made (journal_of S) ≡ J
  front-taken m =
      let front = grows_to_journal S m.setup J m.growing in
      ap (take made) front.1 ∙ take_at J front.0 made (sym m.count)

  pub taken-making : IsMaking S J pipes held made → IsMaking S (take made (journal_of S)) pipes held made
  taken-making m = subst (λ (K : List Visit). IsMaking S K pipes held made) (sym (front-taken m)) m

-- one visit more
module _ {S : SetupView} {v : Visit} {pipes after : List SetupPipeView} {held rest new : List DueVisit} {made count : ℕ} {next : DueVisit} where
  pub making-more : {J : List Visit} → IsMaking S J pipes held made → TakesVisit held next rest
      → ((K : List Visit) → IsToMake S K next pipes rest made → v ≡ visit_of S K next.due)
      → ((K : List Visit) → IsToMake S K next pipes rest made → IsMaking S (K ++ visit_of S K next.due ∷ []) after new count)
      → IsMaking S (J ++ v ∷ []) after new count
  making-more {J} m takes is making =
      let t : IsToMake S J next pipes rest made = record { held = held; making = m; takes = takes } in
      subst (λ (u : Visit). IsMaking S (J ++ u ∷ []) after new count) (sym (is J t)) (making J t)

-- so the journal goes on with it
pub goes_on : {S : SetupView} (J : List Visit) (v : Visit) {pipes : List SetupPipeView} {held : List DueVisit} {made : ℕ}
    → IsMaking S (J ++ v ∷ []) pipes held made → GoesOnWith S J v
goes_on {S} J v m =
    let front = grows_to_journal S m.setup (J ++ v ∷ []) m.growing in
    (front.0, front.1 ∙ append_assoc J (v ∷ []) front.0)
