-- The commands are sound, and so a command line is answered exactly.
use Rattle.std.proofs.Common.{◌≡◌, ℕ, List, Ok, Err, refl, sym, ◌∙◌, ap, subst, inl, inr}
use Rattle.mn_words.specs.declared.order.Order.{Order}
use Rattle.mn_words.specs.declared.order.Order.TheVariants.{Chain, Distill, Assign, Rehearse, Emulate, Workload, Journal, Check, Red, Migrate}
use Rattle.mn_words.specs.declared.opt.WordsFault.{WordsFault}
use Rattle.mn_words.specs.Words.{ordered}
use Rattle.core_loop.specs.TallyView.{TallyView}
use Rattle.modelnet.specs.declared.read_limits.ReadLimits.{ReadLimits}
use Rattle.modelnet.specs.declared.status.Status.{Status}
use Rattle.modelnet.specs.declared.status.Status.TheVariants.{NoMemory, BadWords}
use Rattle.modelnet.specs.Commands.{Host, ReadsNot, Answered}
use Rattle.modelnet.specs.Exact.{IsSoundCommand, IsOrNoMemory}
use Rattle.modelnet.specs.TheCommands.{row_of}
use Rattle.modelnet.specs.Answers.{Asked, IsOrdered, Answers, IsExact, Tallies, WordsAndBytesHaveOneOutcome}
use Rattle.modelnet.proofs.Exact.{must_answer}
use Rattle.modelnet.proofs.AssignSound.{assign_is_sound}
use Rattle.modelnet.proofs.DistillSound.{distill_is_sound}
use Rattle.modelnet.proofs.CheckSound.{check_is_sound}
use Rattle.modelnet.proofs.JournalSound.{journal_is_sound}
use Rattle.modelnet.proofs.MigrateSound.{migrate_is_sound}
use Rattle.modelnet.proofs.RedSound.{red_is_sound}
use Rattle.modelnet.proofs.ReplaySound.{chain_is_sound}
use Rattle.modelnet.proofs.RunSound.{run_is_sound}
use Rattle.modelnet.proofs.WorkloadSound.{workload_is_sound}

pub is_sound : (limits : ReadLimits) (order : Order) → IsSoundCommand (row_of limits order)
is_sound limits (Chain order) = chain_is_sound limits order
is_sound limits (Distill order) = distill_is_sound limits order
is_sound limits (Assign order) = assign_is_sound limits order
is_sound limits (Rehearse order) = run_is_sound limits order
is_sound limits (Emulate order) = run_is_sound limits order
is_sound limits (Workload order) = workload_is_sound order
is_sound limits (Journal order) = journal_is_sound limits order
is_sound limits (Check order) = check_is_sound limits order
is_sound limits (Red order) = red_is_sound limits order
is_sound limits (Migrate order) = migrate_is_sound limits order

-- words ask for one order
one_order : (asked : Asked) (one other : Order) → asked ≡ Ok one → asked ≡ Ok other → one ≡ other
one_order asked one other is also =
    let both : Ok one ≡ Ok other = sym is ∙ also in cc

-- where an order is asked for, the answer is that of its command
same_order : (limits : ReadLimits) (asked : Asked) (old new : Host) (answer : Status) (order : Order) → asked ≡ Ok order
    → IsOrdered limits asked old new answer → Answered (row_of limits order) old new answer
same_order limits asked old new answer order is a =
    subst (λ o. Answered (row_of limits o) old new answer) (one_order asked a.order order a.ordered_is is) a.answered

answered : (limits : ReadLimits) (asked : Asked) (old new : Host) (answer : Status) (order : Order) → asked ≡ Ok order
    → Answers limits asked old new answer → Answered (row_of limits order) old new answer
answered limits asked old new NoMemory order is a = λ role unread.
    a role (λ other also. subst (λ o. ReadsNot (row_of limits o).inputs role) (one_order asked order other is also) unread)
answered limits asked old new (BadWords fault) order is a =
    let clash : Ok order ≡ Err fault = sym is ∙ a.0 in absurd cc
answered limits asked old new answer order is a = same_order limits asked old new answer order is a

-- and the answer of that command is an answer of the command line
pub is_answered : (limits : ReadLimits) (asked : Asked) (old new : Host) (answer : Status) (order : Order) → asked ≡ Ok order
    → Answered (row_of limits order) old new answer → Answers limits asked old new answer
is_answered limits asked old new NoMemory order is a = λ role unread. a role (unread order is)
is_answered limits asked old new (BadWords fault) order is a = absurd a
is_answered limits asked old new answer order is a = record { order = order; ordered_is = is; answered = a }

no_order : (asked : Asked) (order : Order) (fault : WordsFault) → asked ≡ Ok order → asked ≡ Err fault → ⊥
no_order asked order fault is not =
    let clash : Ok order ≡ Err fault = sym is ∙ not in cc

-- words with a fault are answered by it
finds_bad_words : (limits : ReadLimits) (asked : Asked) (old new : Host) (answer : Status) → Answers limits asked old new answer
    → (fault : WordsFault) → asked ≡ Err fault → IsOrNoMemory (BadWords fault) answer
finds_bad_words limits asked old new NoMemory a fault is = inr refl
finds_bad_words limits asked old new (BadWords given) a fault is =
    let same = sym a.0 ∙ is in let one : given ≡ fault = cc in inl (ap (λ f. BadWords f) one)
finds_bad_words limits asked old new answer a fault is = absurd (no_order asked a.order fault a.ordered_is is)

-- so the answer of a command line is the one that it has to be
pub is_exact : (limits : ReadLimits) (asked : Asked) (old new : Host) (answer : Status) → Answers limits asked old new answer
    → IsExact limits asked old new answer
is_exact limits asked old new answer a = record {
  bad_words = finds_bad_words limits asked old new answer a;
  ordered_words = λ order is. must_answer (row_of limits order) (is_sound limits order) old new answer
      (answered limits asked old new answer order is a);
}

-- the tally stays where memory is refused before an order is known
pub keeps_tally : (limits : ReadLimits) (asked : Asked) (old new : Host) (tally : TallyView) → Tallies limits asked old new tally tally NoMemory
keeps_tally limits (Ok order) old new tally = inl refl
keeps_tally limits (Err fault) old new tally = refl

-- the same words and bytes have one outcome
pub one_outcome : WordsAndBytesHaveOneOutcome
one_outcome limits words order other read outs others is also says says_other =
    (is_sound limits order).one_output read outs others says
    (subst (λ o. (row_of limits o).writes read others) (one_order (ordered words) other order also is) says_other)
