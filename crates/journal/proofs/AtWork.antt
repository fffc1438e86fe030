-- What a pipe of a setup says and remembers, by the setup's definitions.
use Rattle.std.proofs.Common.{◌≡◌, inl, inr, ℕ, ◌<◌, Bool, false, nat_le, ◌==◌, List, [], ◌∷◌, ◌++◌, length, map, filter, get_or, slice_get, unwrap_or, Option, Some, AllPairs, sym, ap, ap₂, ◌∙◌, subst, arith, eqb-true}
use Rattle.std.proofs.lemmas.Bool.{lt-leb}
use Rattle.std.proofs.lemmas.List.{get_or-map, length-map}
use Rattle.std.proofs.lemmas.List.Kept.{AllPairs-filter}
use Rattle.mn_base.specs.declared.limits.TheConstants.{KEEP_MAX}
use Rattle.mn_base.specs.declared.params.PipeParams.{PipeParams}
use Rattle.loss_words.specs.Word.{loss_word}
use Rattle.loss_words.specs.PipeWordsView.{PipeWordsView}
use Rattle.loss_words.proofs.WordLemmas.{loss_word-bound}
use Rattle.mn_base.specs.declared.due.Due.{Due}
use Rattle.pipe.specs.declared.step.Step.{Step}
use Rattle.pipe.specs.Finishes.{PastVisit}
use Rattle.pipe.specs.Params.{last_params}
use Rattle.pipe.specs.Steps.{step_at, visited}
use Rattle.pipe.specs.PipeView.{PipeView, idle_view, StandsFor, params_at}
use Rattle.journal.specs.declared.setup.PipeChange.{PipeChange}
use Rattle.journal.specs.SetupView.{SetupView, no_params, len_of, first_params, params_of, changes_of}
use Rattle.journal.specs.IsSetup.{IsSetup, IsChangeBefore}
use Rattle.journal.specs.Steps.{word_place, is_lost, step_of}
use Rattle.journal.specs.IsPipe.{SetupPipeView, IsOfSetup, IsPipe}
use Rattle.mn_base.proofs.Members.{Among-index, Among-from-filter}

-- the parameters that it gives for each tick are those of the setup
pub same_params : {S : SetupView} {m : SetupPipeView} → IsOfSetup S m → params_at m.memory ≡ params_of S m.number
same_params o =
    let at : PipeParams → List (ℕ × PipeParams) → ℕ → PipeParams = λ first changes tick. last_params tick first changes in
    ap₂ at o.first o.changes

-- where the keep is the greatest, no word is as great
pub never_lost : {S : SetupView} {m : SetupPipeView} → IsOfSetup S m → (x : Due) (keep : ℕ) → keep ≡ (params_at m.memory x.tick).keep
    → keep ≡ KEEP_MAX → (h : List PastVisit) → false ≡ is_lost S m.number x h
never_lost {S} {m} o x keep read most h =
    let word : ℕ = loss_word S.seed m.number (word_place S x h) in
    let below : word < KEEP_MAX = loss_word-bound S.seed m.number (word_place S x h) in
    let greatest : (params_of S m.number x.tick).keep ≡ KEEP_MAX =
    ap (λ (at : ℕ → PipeParams). (at x.tick).keep) (sym (same_params o)) ∙ sym read ∙ most in
    sym (ap (λ k. nat_le k word) greatest ∙ lt-leb KEEP_MAX word below)

-- the pipe makes a visit: what `visit` said of its memory and of the words' answer
pub record Decides (S : SetupView) (m : SetupPipeView) (x : Due) (step : Step) (new : PipeView) : Type 0 where
  pub of_setup : IsOfSetup S m
  pub len : ℕ
  pub len_is : len ≡ len_of S x.packet
  pub lost : Bool
  pub lost_is : (h : List PastVisit) → StandsFor m.memory h → lost ≡ is_lost S m.number x h
  pub memory : PipeView
  pub same : memory ≡ m.memory
  pub step_is : (h : List PastVisit) → StandsFor memory h → step ≡ step_at (params_at memory) memory.tick_ns h x.tick len lost
  pub stands_is : (h : List PastVisit) → StandsFor memory h
      → StandsFor new (visited (params_at memory) memory.tick_ns h x.tick len lost)

module _ {S : SetupView} {m : SetupPipeView} {x : Due} {step : Step} {new : PipeView} (d : Decides S m x step new) where
  -- the same step by the setup's definitions
  same_step : (h : List PastVisit) → StandsFor m.memory h
      → step_at (params_at d.memory) d.memory.tick_ns h x.tick d.len d.lost ≡ step_of S m.number x h
  unfolding step_of
  same_step h s =
      let at_pipe : PipeView → Step = λ k. step_at (params_at k) k.tick_ns h x.tick d.len d.lost in
      ap at_pipe d.same
      ∙ ap₂ (λ (at : ℕ → PipeParams) (T : ℕ). step_at at T h x.tick d.len d.lost) (same_params d.of_setup) d.of_setup.tick_ns
      ∙ ap₂ (λ (l : ℕ) (b : Bool). step_at (params_of S m.number) S.tick_ns h x.tick l b) d.len_is (d.lost_is h s)

  stood : (h : List PastVisit) → StandsFor m.memory h → StandsFor d.memory h
  stood h s = subst (λ k. StandsFor k h) (sym d.same) s

  pub decided-step : (h : List PastVisit) → StandsFor m.memory h → step ≡ step_of S m.number x h
  decided-step h s = d.step_is h (stood h s) ∙ same_step h s

  pub decided-stands : (h : List PastVisit) → StandsFor m.memory h
      → StandsFor new (h ++ record { tick = x.tick; len = len_of S x.packet; step = step_of S m.number x h } ∷ [])
  decided-stands h s =
      let one : ℕ → Step → PastVisit = λ l s. record { tick = x.tick; len = l; step = s } in
      subst (StandsFor new) (ap₂ (λ (l : ℕ) (t : Step). h ++ one l t ∷ []) d.len_is (same_step h s)) (d.stands_is h (stood h s))

-- a pipe that keeps its parameters and tick length stays the setup's
pub stays_of_setup : {S : SetupView} {m : SetupPipeView} → IsOfSetup S m → (memory new : PipeView) → memory ≡ m.memory
    → new.first ≡ memory.first → new.changes ≡ memory.changes → new.tick_ns ≡ memory.tick_ns
    → IsOfSetup S (record m { memory = new })
stays_of_setup o memory new same first changes tick_ns = record {
  seed = o.seed;
  first = first ∙ ap (λ (k : PipeView). k.first) same ∙ o.first;
  changes = changes ∙ ap (λ (k : PipeView). k.changes) same ∙ o.changes;
  tick_ns = tick_ns ∙ ap (λ (k : PipeView). k.tick_ns) same ∙ o.tick_ns;
}

-- ---- the changes of one pipe rise by their ticks

pub changes-rise : (S : SetupView) → IsSetup S → (pipe : ℕ) → AllPairs (λ c d. c.0 < d.0) (changes_of S pipe)
changes-rise S is pipe i j d less within =
    let own : List PipeChange = filter (λ c. c.pipe == pipe) S.changes in
    let none : PipeChange = record { tick = 0; pipe = 0; params = no_params } in
    let timed : PipeChange → ℕ × PipeParams = λ c. (c.tick, c.params) in
    let inside : j < length own = omega (arith, length-map own timed) in
    let first : get_or (map timed own) i d ≡ timed (get_or own i none) = get_or-map timed own i none d (omega arith) in
    let second : get_or (map timed own) j d ≡ timed (get_or own j none) = get_or-map timed own j none d inside in
    let of_pipe : (k : ℕ) → k < length own → (get_or own k none).pipe ≡ pipe =
    λ k here. eqb-true _ _ (Among-from-filter (λ c. c.pipe == pipe) (get_or own k none) S.changes (Among-index own k none here)).1 in
    let order : IsChangeBefore (get_or own i none) (get_or own j none) =
    AllPairs-filter IsChangeBefore (λ c. c.pipe == pipe) S.changes is.changes_rise i j none less inside in
    let later : (get_or own i none).tick < (get_or own j none).tick =
    earlier (get_or own i none) (get_or own j none) (of_pipe i (omega arith) ∙ sym (of_pipe j inside)) order in
    let low : (get_or (map timed own) i d).0 ≡ (get_or own i none).tick = ap (λ (e : ℕ × PipeParams). e.0) first in
    let high : (get_or (map timed own) j d).0 ≡ (get_or own j none).tick = ap (λ (e : ℕ × PipeParams). e.0) second in
    omega (arith, low, high, later)
  where
    earlier : (a b : PipeChange) → a.pipe ≡ b.pipe → IsChangeBefore a b → a.tick < b.tick
    earlier a b same (inl l) = l
    earlier a b same (inr t) = let l : a.pipe < b.pipe = t.1 in absurd (omega (arith, same, l))

-- ---- a pipe without visits

-- what the parts of a pipe without visits were made of
pub record IsIdle (S : SetupView) (number : ℕ) (memory : PipeView) (words : PipeWordsView) : Type 0 where
  pub first : PipeParams
  pub changes : List (ℕ × PipeParams)
  pub tick_ns : ℕ
  pub seed : ℕ
  pub idle : memory ≡ idle_view first changes tick_ns
  pub stands : StandsFor memory []
  pub words_are : words ≡ record { seed = seed; pipe = number }
  pub first_is : slice_get S.pipes number ≡ Some first
  pub changes_are : changes ≡ changes_of S number
  pub tick_is : tick_ns ≡ S.tick_ns
  pub seed_is : seed ≡ S.seed

pub idle-is : {S : SetupView} {number : ℕ} {memory : PipeView} {words : PipeWordsView} → IsIdle S number memory words
    → IsPipe S [] number (record { number = words.pipe; seed = words.seed; memory = memory })
idle-is {S} {number} {memory} {words} made =
    let named : words.pipe ≡ number = ap (λ (w : PipeWordsView). w.pipe) made.words_are in
    record {
      number = named;
      of_setup = record {
        seed = ap (λ (w : PipeWordsView). w.seed) made.words_are ∙ made.seed_is;
        first =
            ap (λ (k : PipeView). k.first) made.idle
            ∙ sym (ap (λ (o : Option PipeParams). unwrap_or o no_params) made.first_is)
            ∙ ap (first_params S) (sym named);
        changes = ap (λ (k : PipeView). k.changes) made.idle ∙ made.changes_are ∙ ap (changes_of S) (sym named);
        tick_ns = ap (λ (k : PipeView). k.tick_ns) made.idle ∙ made.tick_is;
      };
      stands = made.stands;
    }
