-- What words ask for where there are no threads.
use Rattle.std.proofs.Common.{◌≡◌, ℕ, Bool, true, false, cond, List, [], ◌∷◌, Ok, Err, refl, sym, ◌∙◌}
use Rattle.std.proofs.lemmas.Bool.{true≢false}
use Rattle.mn_words.specs.declared.opt.WordsFault.TheVariants.{Command}
use Rattle.mn_words.specs.declared.order.Order.{Order}
use Rattle.mn_words.specs.declared.order.Order.TheVariants.{Chain, Distill, Assign, Rehearse, Emulate, Workload, Journal, Check, Red, Migrate}
use Rattle.mn_words.specs.Order.{RunView}
use Rattle.mn_words.specs.Words.{ordered}
use Rattle.mn_words.proofs.Asking.{emulates_by_name}
use Rattle.modelnet.specs.Answers.{WantsNoThreads, asks_to_emulate, plainly_ordered}

-- `emulate` is no command there
pub emulate_is_none : (words : List (List ℕ)) → asks_to_emulate words ≡ true → plainly_ordered words ≡ Err Command
emulate_is_none words asks = from (asks_to_emulate words) asks
  where
    from : (b : Bool) → b ≡ true → cond b (Err Command) (ordered words) ≡ Err Command
    from true is = refl
    from false is = absurd cc

-- all other words ask for what they ask for elsewhere
pub others_stay : (words : List (List ℕ)) → asks_to_emulate words ≡ false → plainly_ordered words ≡ ordered words
others_stay words other = from (asks_to_emulate words) other
  where
    from : (b : Bool) → b ≡ false → cond b (Err Command) (ordered words) ≡ ordered words
    from true is = absurd cc
    from false is = refl

asks_by_name : (words : List (List ℕ)) (order : RunView) → ordered words ≡ Ok (Emulate order) → asks_to_emulate words ≡ true
unfolding ordered
asks_by_name [] order is = absurd cc
asks_by_name (first ∷ words) order is = emulates_by_name first words order is

-- and for no emulation
pub wants_no_threads : (words : List (List ℕ)) (order : Order) → asks_to_emulate words ≡ false → ordered words ≡ Ok order → WantsNoThreads order
wants_no_threads words (Chain order) other is = tt
wants_no_threads words (Distill order) other is = tt
wants_no_threads words (Assign order) other is = tt
wants_no_threads words (Rehearse order) other is = tt
wants_no_threads words (Emulate order) other is = absurd (true≢false (sym (asks_by_name words order is) ∙ other))
wants_no_threads words (Workload order) other is = tt
wants_no_threads words (Journal order) other is = tt
wants_no_threads words (Check order) other is = tt
wants_no_threads words (Red order) other is = tt
wants_no_threads words (Migrate order) other is = tt
