-- What a command line asks for, or its first fault. A word is the list of its bytes.
use denote.Ref.{Bor}
use Rattle.std.specs.Prelude.{ℕ, map, List, [], ◌∷◌, Result, Err, ok_or, if◌then◌else◌}
use Rattle.mn_words.specs.declared.order.Order.{Order}
use Rattle.mn_words.specs.declared.order.Order.TheVariants.{Chain, Distill, Assign, Rehearse, Emulate, Workload, Journal, Check, Red, Migrate}
use Rattle.mn_words.specs.declared.opt.WordsFault.{WordsFault}
use Rattle.mn_words.specs.declared.opt.WordsFault.TheVariants.{Command, Form}
use Rattle.mn_words.specs.Form.{has_form}
use Rattle.mn_words.specs.Items.{items_of}
use Rattle.mn_words.specs.Order.{IsChainOrder, IsDistillOrder, IsAssignOrder, IsRunOrder, IsEmulateOrder, IsWorkloadOrder, IsJournalOrder, IsCheckOrder, IsRedOrder, IsMigrateOrder}
use Rattle.mn_words.specs.TheCommands.{◌>>=◌, command_of, form_of, order_of}

-- what a command line asks for, or its first fault: the first word names the command, the words after it are of its form, and the
-- values are in their ranges
unfoldable pub ordered : List (List ℕ) → Result Order WordsFault
ordered [] = Err Command
ordered (first ∷ words) = do
  command ← ok_or (command_of first) Command
  if has_form (form_of command) words then order_of command (items_of words) else Err Form

-- the numbers of an order are in their ranges
abbrev pub IsInRange : Order → Type 0
IsInRange (Chain order) = IsChainOrder order
IsInRange (Distill order) = IsDistillOrder order
IsInRange (Assign order) = IsAssignOrder order
IsInRange (Rehearse order) = IsRunOrder order
IsInRange (Emulate order) = IsEmulateOrder order
IsInRange (Workload order) = IsWorkloadOrder order
IsInRange (Journal order) = IsJournalOrder order
IsInRange (Check order) = IsCheckOrder order
IsInRange (Red order) = IsRedOrder order
IsInRange (Migrate order) = IsMigrateOrder order

-- the bytes of the words
abbrev pub texts : List (Bor (List ℕ)) → List (List ℕ)
texts words = map (λ word. word.now) words
