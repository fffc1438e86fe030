-- Pipes move between two windows: their owners are others, and nothing else that a run has come to changes.
use Rattle.std.proofs.Common.{◌≡◌, ◌⊎◌, inl, inr, ℕ, ◌+◌, ◌<◌, ◌≤◌, List, [], ◌∷◌, length, take, slice_index_or, sym, ap, ◌∙◌, subst, arith}
use Rattle.std.specs.Prelude.{fold}
use Rattle.std.proofs.lemmas.Bool.{cases_lt}
use Rattle.std.proofs.lemmas.List.{get_or_default, take_more}
use Rattle.std.proofs.lemmas.List.Sums.{fold-append}
use Rattle.std.proofs.lemmas.Option.{slice_get_within}
use Rattle.journal.specs.SetupView.{SetupView}
use Rattle.journal.proofs.HeldFirst.{at-within}
use Rattle.migrate.specs.declared.moves.Move.{Move}
use Rattle.migrate.specs.ShelvesView.{ShelfView, ShelvesView, IsShelfOf, owner_now}
use Rattle.migrate.specs.Moving.{MovesPipe}
use Rattle.migrate.specs.Moves.{moved_owners}
use Rattle.migrate.specs.UnderWay.{DoStand, HaveMoved, SameButPlaces}

-- one pipe moves
pub moved-same : {u v w : ShelvesView} {pipe core : ℕ} → pipe < length u.setup.pipes → SameButPlaces u v → DoStand v
    → w.setup ≡ v.setup → w.failed ≡ v.failed → MovesPipe v pipe core w → SameButPlaces v w
moved-same {u} {v} {w} {pipe} {core} named same stand setup works m = record {
  setup = setup;
  works = works;
  end = m.end;
  windows = m.windows;
  as_many = m.cores;
  visits = λ core s t e f. (m.shelves core giver.0 s t giver.1 e f).visits;
}
  where
    within : pipe < length v.setup.pipes
    within = subst (λ (S : SetupView). pipe < length S.pipes) (sym same.setup) named

    owner : owner_now v pipe < v.setup.cores
    owner = stand.1.pipes.owners pipe 0 (let l = within in omega (arith, l, stand.1.pipes.one_a_pipe))

    giver : (g : ShelfView) × IsShelfOf v (owner_now v pipe) g
    giver = at-within v.shelves (owner_now v pipe) (let l = owner in omega (arith, l, stand.1.one_a_core))

-- and then others
pub same-then : (u v w : ShelvesView) → SameButPlaces u v → SameButPlaces v w → SameButPlaces u w
same-then u v w a b = record {
  setup = b.setup ∙ a.setup;
  works = b.works ∙ a.works;
  end = b.end ∙ a.end;
  windows = b.windows ∙ a.windows;
  as_many = b.as_many ∙ a.as_many;
  visits = visits;
}
  where
    visits : (core : ℕ) (s t : ShelfView) → IsShelfOf u core s → IsShelfOf w core t → t.visits ≡ s.visits
    visits core s t e f =
        let m = at-within v.shelves core (let l = slice_get_within u.shelves core s e in omega (arith, l, a.as_many)) in
        b.visits core m.0 t m.1 f ∙ a.visits core s m.0 e m.1

-- one move more is made
pub moved-more : {S : SetupView} {moves : List Move} {next window : ℕ} (d : Move) {v w : ShelvesView} → HaveMoved S moves next window v
    → next < length moves → (slice_index_or moves next d).window ≤ window
    → w.owners ≡ moved_owners v.owners (slice_index_or moves next d) → HaveMoved S moves (next + 1) window w
moved-more {S} {moves} {next} {window} d {v} {w} h inside here owners = record {
  within = omega (arith, inside);
  owners =
      owners
      ∙ ap (λ (l : List ℕ). moved_owners l (slice_index_or moves next d)) h.owners
      ∙ sym (fold-append moved_owners S.owners (take next moves) (slice_index_or moves next d ∷ []))
      ∙ ap (fold moved_owners S.owners) (sym (take_more moves next d inside));
  early = early;
}
  where
    early : (index : ℕ) (m : Move) → index < next + 1 → (slice_index_or moves index m).window ≤ window
    early index m l = go (cases_lt index next)
      where
        go : (index < next) ⊎ (next ≤ index) → (slice_index_or moves index m).window ≤ window
        go (inl below) = h.early index m below
        go (inr above) =
            let same : next ≡ index = omega (arith, l, above) in
            subst (λ (k : ℕ). (slice_index_or moves k m).window ≤ window) same
            (subst (λ (e : Move). e.window ≤ window) (get_or_default moves next d m inside) here)

-- a later window has them, too
pub moved-later : (S : SetupView) (moves : List Move) (next window : ℕ) (v w : ShelvesView) → HaveMoved S moves next window v
    → w.owners ≡ v.owners → HaveMoved S moves next (window + 1) w
moved-later S moves next window v w h owners = record {
  within = h.within;
  owners = owners ∙ h.owners;
  early = λ index m l. (let e = h.early index m l in omega (arith, e));
}
