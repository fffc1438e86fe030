-- By arrival, what comes of a visit is decided by the ticks and lengths of the visits to its pipe.
use Rattle.std.proofs.Common.{◌≡◌, ℕ, Bool, nat_le, List, [], ◌∷◌, ◌++◌, length, map, refl, sym, ap, ap₂, ◌∙◌}
use Rattle.mn_base.specs.declared.params.PipeParams.{PipeParams}
use Rattle.mn_base.specs.declared.due.Due.{Due}
use Rattle.pipe.specs.declared.step.Step.{Step}
use Rattle.pipe.specs.Finishes.{PastVisit}
use Rattle.pipe.specs.Steps.{step_at}
use Rattle.loss_words.specs.Word.{loss_word}
use Rattle.journal.specs.declared.setup.LossBy.{LossBy}
use Rattle.journal.specs.declared.setup.LossBy.TheVariants.{Arrival}
use Rattle.journal.specs.declared.setup.PipeChange.{PipeChange}
use Rattle.journal.specs.SetupView.{SetupView, len_of, params_of}
use Rattle.journal.specs.Steps.{place_by, word_place, is_lost, step_of}
use Rattle.journal.specs.Laws.{SamePipes, visits_in_turn, tick_and_len, ArrivalBlind}

module _ (S R : SetupView) (same : SamePipes S R) (by_arrival : S.loss ≡ Arrival) where
  -- the parameters of a pipe at each tick are the same
  same_params : (pipe : ℕ) → params_of S pipe ≡ params_of R pipe
  same_params pipe =
      let at : List PipeParams → List PipeChange → ℕ → PipeParams =
      λ pipes changes. params_of (record S { pipes = pipes; changes = changes }) pipe in
      ap₂ at same.pipes same.changes

  -- the place of a loss word is the number of earlier visits
  by_count : (T : SetupView) → T.loss ≡ Arrival → (x : Due) (h : List PastVisit) → word_place T x h ≡ length h
  by_count T arrival x h = ap (λ (l : LossBy). place_by l x.packet (length h)) arrival

  same_loss : (pipe : ℕ) (x y : Due) (h : List PastVisit) → x.tick ≡ y.tick → is_lost S pipe x h ≡ is_lost R pipe y h
  same_loss pipe x y h tick =
      let lost : (ℕ → PipeParams) → ℕ → ℕ → ℕ → Bool = λ at seed t place. nat_le (at t).keep (loss_word seed pipe place) in
      ap (λ (place : ℕ). lost (params_of S pipe) S.seed x.tick place) (by_count S by_arrival x h)
      ∙ ap (λ (at : ℕ → PipeParams). lost at S.seed x.tick (length h)) (same_params pipe)
      ∙ ap₂ (λ (seed t : ℕ). lost (params_of R pipe) seed t (length h)) same.seed tick
      ∙ ap (λ (place : ℕ). lost (params_of R pipe) R.seed y.tick place) (sym (by_count R (sym same.loss ∙ by_arrival) y h))

  same_step : (pipe : ℕ) (x y : Due) (h : List PastVisit) → x.tick ≡ y.tick → len_of S x.packet ≡ len_of R y.packet
      → step_of S pipe x h ≡ step_of R pipe y h
  unfolding step_of
  same_step pipe x y h tick len =
      ap₂ (λ (at : ℕ → PipeParams) (T : ℕ). step_at at T h x.tick (len_of S x.packet) (is_lost S pipe x h)) (same_params pipe) same.tick_ns
      ∙ ap₂ (λ (t l : ℕ). step_at (params_of R pipe) R.tick_ns h t l (is_lost S pipe x h)) tick len
      ∙ ap (λ (lost : Bool). step_at (params_of R pipe) R.tick_ns h y.tick (len_of R y.packet) lost) (same_loss pipe x y h tick)

  same_turn : (pipe : ℕ) (xs ys : List Due) (h : List PastVisit) → map (tick_and_len S) xs ≡ map (tick_and_len R) ys
      → visits_in_turn S pipe h xs ≡ visits_in_turn R pipe h ys
  same_turn pipe [] [] h e = refl
  same_turn pipe [] (y ∷ ys) h e = cc
  same_turn pipe (x ∷ xs) [] h e = cc
  same_turn pipe (x ∷ xs) (y ∷ ys) h e =
      let rest : map (tick_and_len S) xs ≡ map (tick_and_len R) ys = cc in
      let head : tick_and_len S x ≡ tick_and_len R y = cc in
      let tick : x.tick ≡ y.tick = ap (λ (p : ℕ × ℕ). p.0) head in
      let len : len_of S x.packet ≡ len_of R y.packet = ap (λ (p : ℕ × ℕ). p.1) head in
      let visit : ℕ → ℕ → Step → PastVisit = λ t l s. record { tick = t; len = l; step = s } in
      let one : visit x.tick (len_of S x.packet) (step_of S pipe x h) ≡ visit y.tick (len_of R y.packet) (step_of R pipe y h) =
      ap₂ (λ (t l : ℕ). visit t l (step_of S pipe x h)) tick len
      ∙ ap (visit y.tick (len_of R y.packet)) (same_step pipe x y h tick len) in
      ap (λ (v : PastVisit). visits_in_turn S pipe (h ++ v ∷ []) xs) one
      ∙ same_turn pipe xs ys (h ++ visit y.tick (len_of R y.packet) (step_of R pipe y h) ∷ []) rest

pub arrival_blind : ArrivalBlind
arrival_blind S R same by_arrival pipe xs ys e = same_turn S R same by_arrival pipe xs ys [] e
