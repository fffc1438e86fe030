-- Which words ask for which command.
use Rattle.std.proofs.Common.{◌≡◌, ℕ, Bool, true, false, cond, List, ◌∷◌, Option, Some, None, Result, Ok, Err, refl, ap, ◌∙◌}
use Rattle.std.specs.Prelude.{bytes_eq, codes, ok_or}
use Rattle.mn_words.specs.declared.command.Command.{Command}
use Rattle.mn_words.specs.declared.command.Command.TheVariants as command
use Rattle.mn_words.specs.declared.order.Order.{Order}
use Rattle.mn_words.specs.declared.order.Order.TheVariants.{Chain, Distill, Assign, Rehearse, Emulate, Workload, Journal, Check, Red, Migrate}
use Rattle.mn_words.specs.declared.opt.WordsFault.{WordsFault}
use Rattle.mn_words.specs.declared.opt.WordsFault.TheVariants as fault
use Rattle.mn_words.specs.Items.{Item, items_of}
use Rattle.mn_words.specs.Form.{has_form}
use Rattle.mn_words.specs.Order.{RunView}
use Rattle.mn_words.specs.TheCommands.{◌>>=◌, command_of, form_of, chain_of, distill_of, assign_of, run_of, workload_of, journal_of, check_of, red_of, migrate_of, order_of}
use Rattle.mn_words.specs.Words.{ordered}

-- orders that are made one way aren't those that are made another
is_no_such_order : {A : Type 0} (make : A → Order) (found : Result A WordsFault) (order : Order) → ((a : A) → make a ≡ order → ⊥)
    → (found >>= λ a. Ok (make a)) ≡ Ok order → ⊥
is_no_such_order make (Ok a) order differ is = differ a cc
is_no_such_order make (Err e) order differ is = cc

-- of all commands one alone makes an order to emulate
is_emulate : (named : Command) (items : List Item) (order : RunView) → order_of named items ≡ Ok (Emulate order) → named ≡ command.Emulate
unfolding order_of
is_emulate command.Chain items order is = absurd (is_no_such_order Chain (chain_of items) (Emulate order) (λ a same. cc) is)
is_emulate command.Distill items order is = absurd (is_no_such_order Distill (distill_of items) (Emulate order) (λ a same. cc) is)
is_emulate command.Assign items order is = absurd (is_no_such_order Assign (assign_of items) (Emulate order) (λ a same. cc) is)
is_emulate command.Rehearse items order is = absurd (is_no_such_order Rehearse (run_of items) (Emulate order) (λ a same. cc) is)
is_emulate command.Emulate items order is = refl
is_emulate command.Workload items order is = absurd (is_no_such_order Workload (workload_of items) (Emulate order) (λ a same. cc) is)
is_emulate command.Journal items order is = absurd (is_no_such_order Journal (journal_of items) (Emulate order) (λ a same. cc) is)
is_emulate command.Check items order is = absurd (is_no_such_order Check (check_of items) (Emulate order) (λ a same. cc) is)
is_emulate command.Red items order is = absurd (is_no_such_order Red (red_of items) (Emulate order) (λ a same. cc) is)
is_emulate command.Migrate items order is = absurd (is_no_such_order Migrate (migrate_of items) (Emulate order) (λ a same. cc) is)

-- and one word alone is its name
is_named_emulate : (word : List ℕ) → command_of word ≡ Some command.Emulate → bytes_eq word (codes "emulate") ≡ true
unfolding command_of
is_named_emulate word is = from (bytes_eq word (codes "chain")) (bytes_eq word (codes "distill")) (bytes_eq word (codes "assign"))
    (bytes_eq word (codes "rehearse")) (bytes_eq word (codes "emulate")) (bytes_eq word (codes "workload"))
    (bytes_eq word (codes "journal")) (bytes_eq word (codes "check")) (bytes_eq word (codes "red"))
    (bytes_eq word (codes "migrate")) is
  where
    from : (a b c d e f g h i j : Bool) → cond a (Some command.Chain) (cond b (Some command.Distill) (cond c (Some command.Assign)
        (cond d (Some command.Rehearse) (cond e (Some command.Emulate) (cond f (Some command.Workload)
        (cond g (Some command.Journal) (cond h (Some command.Check) (cond i (Some command.Red)
        (cond j (Some command.Migrate) None))))))))) ≡ Some command.Emulate
        → e ≡ true
    from true b c d e f g h i j is = absurd cc
    from false true c d e f g h i j is = absurd cc
    from false false true d e f g h i j is = absurd cc
    from false false false true e f g h i j is = absurd cc
    from false false false false true f g h i j is = refl
    from false false false false false true g h i j is = absurd cc
    from false false false false false false true h i j is = absurd cc
    from false false false false false false false true i j is = absurd cc
    from false false false false false false false false true j is = absurd cc
    from false false false false false false false false false true is = absurd cc
    from false false false false false false false false false false is = absurd cc

-- so words that ask for an emulation begin with `emulate`
pub emulates_by_name : (first : List ℕ) (words : List (List ℕ)) (order : RunView) → ordered (first ∷ words) ≡ Ok (Emulate order)
    → bytes_eq first (codes "emulate") ≡ true
unfolding ordered
emulates_by_name first words order is = from (command_of first) refl is
  where
    of_form : (b : Bool) (found : Result Order WordsFault) → cond b found (Err fault.Form) ≡ Ok (Emulate order) → found ≡ Ok (Emulate order)
    of_form true found is = is
    of_form false found is = absurd cc

    from : (named : Option Command) → command_of first ≡ named
        → (ok_or named fault.Command >>= λ named. cond (has_form (form_of named) words) (order_of named (items_of words)) (Err fault.Form))
        ≡ Ok (Emulate order)
        → bytes_eq first (codes "emulate") ≡ true
    from None name is = absurd cc
    from (Some named) name is = is_named_emulate first (name ∙ ap Some (is_emulate named (items_of words) order
        (of_form (has_form (form_of named) words) (order_of named (items_of words)) is)))
