-- What stands after each answer of a command line, and which answer it has to be. What the words ask for is an order, or the fault of
-- the words.
use Rattle.std.specs.Prelude.{◌≡◌, ℕ, Bool, false, List, [], ◌∷◌, Result, Ok, Err, bytes_eq, codes, if◌then◌else◌}
use Rattle.mn_edge.specs.declared.role.Role.{Role}
use Rattle.core_loop.specs.TallyView.{TallyView}
use Rattle.mn_words.specs.declared.opt.WordsFault.{WordsFault}
use Rattle.mn_words.specs.declared.opt.WordsFault.TheVariants.{Command}
use Rattle.mn_words.specs.declared.order.Order.{Order}
use Rattle.mn_words.specs.declared.order.Order.TheVariants.{Emulate}
use Rattle.mn_words.specs.Words.{ordered}
use Rattle.modelnet.specs.declared.read_limits.ReadLimits.{ReadLimits}
use Rattle.modelnet.specs.declared.status.Status.{Status}
use Rattle.modelnet.specs.declared.status.Status.TheVariants.{NoMemory, BadWords}
use Rattle.modelnet.specs.Commands.{Host, ReadsNot, Answered, TallyAfter}
use Rattle.modelnet.specs.Exact.{IsOrNoMemory, MustAnswer, IsSoundCommand}
use Rattle.modelnet.specs.TheCommands.{row_of}

-- what words ask for
abbrev pub Asked : Type 0
Asked = Result Order WordsFault

-- the first word asks for `emulate`
abbrev pub asks_to_emulate : List (List ℕ) → Bool
asks_to_emulate [] = false
asks_to_emulate (first ∷ words) = bytes_eq first (codes "emulate")

-- what words ask for where there are no threads: `emulate` is no command there, whatever words follow
abbrev pub plainly_ordered : List (List ℕ) → Asked
plainly_ordered words = if asks_to_emulate words then Err Command else ordered words

-- an order that wants no threads
abbrev pub WantsNoThreads : Order → Type 0
WantsNoThreads (Emulate order) = ⊥
WantsNoThreads order = Unit {0}

-- the words are an order, and this is the answer of its command
pub record IsOrdered (limits : ReadLimits) (asked : Asked) (old new : Host) (answer : Status) : Type 0 where
  pub order : Order
  pub ordered_is : asked ≡ Ok order
  pub answered : Answered (row_of limits order) old new answer

-- A command line, by its answer. After bad words every role is as at entry; after out of memory every role that the words don't
-- ask to be read.
abbrev pub Answers : ReadLimits → Asked → Host → Host → Status → Type 0
Answers limits asked old new (BadWords fault) = (asked ≡ Err fault) × ((role : Role) → new role ≡ old role)
Answers limits asked old new NoMemory =
    (role : Role) → ((order : Order) → asked ≡ Ok order → ReadsNot (row_of limits order).inputs role) → new role ≡ old role
Answers limits asked old new answer = IsOrdered limits asked old new answer

-- Which answer it has to be: the fault of the words, or what the command that they order must answer.
pub record IsExact (limits : ReadLimits) (asked : Asked) (old new : Host) (answer : Status) : Type 0 where
  pub bad_words : (fault : WordsFault) → asked ≡ Err fault → IsOrNoMemory (BadWords fault) answer
  pub ordered_words : (order : Order) → asked ≡ Ok order
      → MustAnswer (row_of limits order) old new [] (row_of limits order).inputs answer

-- the tally after a command line: bad words leave it as it was
abbrev pub Tallies : ReadLimits → Asked → Host → Host → TallyView → TallyView → Status → Type 0
Tallies limits (Err fault) old new before after answer = after ≡ before
Tallies limits (Ok order) old new before after answer = TallyAfter (row_of limits order) old new before after answer

-- each command is sound: a refusal is one, excludes an output, and there is one output at most
abbrev pub EachCommandIsSound : Type 0
EachCommandIsSound = (limits : ReadLimits) (order : Order) → IsSoundCommand (row_of limits order)

-- the same words and the same bytes of the inputs have the same bytes of the outputs
abbrev pub WordsAndBytesHaveOneOutcome : Type 0
WordsAndBytesHaveOneOutcome = (limits : ReadLimits) (words : List (List ℕ)) (order other : Order) (read outs others : List (List ℕ))
    → ordered words ≡ Ok order → ordered words ≡ Ok other
    → (row_of limits order).writes read outs → (row_of limits other).writes read others → outs ≡ others
