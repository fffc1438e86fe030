-- What is in the tally after a command.
use Rattle.std.proofs.Common.{◌≡◌, ◌≢◌, ◌⊎◌, ℕ, List, [], ◌∷◌, refl, sym, subst, inl, inr}
use Rattle.mn_edge.specs.declared.role.Role.{Role}
use Rattle.mn_edge.specs.declared.role.Role.TheVariants.{Out, Report, Screen}
use Rattle.core_loop.specs.TallyView.{TallyView}
use Rattle.mn_words.specs.Order.{RunView}
use Rattle.plan.specs.PlannedView.{PlannedView}
use Rattle.modelnet.specs.declared.read_limits.ReadLimits.{ReadLimits}
use Rattle.modelnet.specs.declared.status.Status.{Status}
use Rattle.modelnet.specs.declared.status.Status.TheVariants.{Done, NoMemory, BadWords, BadTopology, BadTrace, BadPlan, ReadFault, WriteFault, TooLarge, BadJournal, BadMove, BadCapture}
use Rattle.modelnet.specs.Roles.{Output, output}
use Rattle.modelnet.specs.Commands.{Host, Command, bytes_read, Answered, HasCounted, TallyAfter}
use Rattle.modelnet.specs.Running.{CountsRun}
use Rattle.modelnet.specs.PlanSteps.{HasPlan}
use Rattle.modelnet.specs.TheCommands.{run_planning, run_command, run_adds}
use Rattle.modelnet.proofs.Halves.{AreApart, stay_read}
use Rattle.modelnet.proofs.PlanReads.{plan_inputs}
use Rattle.modelnet.proofs.RunEnds.{out_is_unread, report_is_unread, screen_is_unread}

-- what was counted may stand in the tally after any answer
pub counted_after : (c : Command) (old new : Host) (before after : TallyView) (answer : Status) → HasCounted c old new before after
    → TallyAfter c old new before after answer
counted_after c old new before after Done has = has
counted_after c old new before after NoMemory has = inr has
counted_after c old new before after (BadWords fault) has = inr has
counted_after c old new before after (BadTopology fault) has = inr has
counted_after c old new before after (BadTrace fault) has = inr has
counted_after c old new before after (BadPlan fault) has = inr has
counted_after c old new before after (ReadFault role) has = inr has
counted_after c old new before after (WriteFault role) has = inr has
counted_after c old new before after (TooLarge role) has = inr has
counted_after c old new before after (BadJournal fault) has = inr has
counted_after c old new before after (BadMove number) has = inr has
counted_after c old new before after (BadCapture fault) has = inr has

-- a command that adds nothing leaves the tally as it was
pub adds_none : (c : Command) (old new : Host) (tally : TallyView) (answer : Status)
    → ((bytes : List (List ℕ)) (t : TallyView) → c.adds bytes t t) → Answered c old new answer
    → TallyAfter c old new tally tally answer
adds_none c old new tally Done nothing a = record {
  reads = a.reads;
  inputs = a.inputs;
  read = a.stands.read;
  adds = nothing (bytes_read a.reads) tally;
}
adds_none c old new tally NoMemory nothing a = inl refl
adds_none c old new tally (BadWords fault) nothing a = inl refl
adds_none c old new tally (BadTopology fault) nothing a = inl refl
adds_none c old new tally (BadTrace fault) nothing a = inl refl
adds_none c old new tally (BadPlan fault) nothing a = inl refl
adds_none c old new tally (ReadFault role) nothing a = inl refl
adds_none c old new tally (WriteFault role) nothing a = inl refl
adds_none c old new tally (TooLarge role) nothing a = inl refl
adds_none c old new tally (BadJournal fault) nothing a = inl refl
adds_none c old new tally (BadMove number) nothing a = inl refl
adds_none c old new tally (BadCapture fault) nothing a = inl refl

-- the outputs of a run, whatever their names
abbrev run_outputs : List Output
run_outputs = output Out [] ∷ output Report [] ∷ output Screen [] ∷ []

-- a run was counted, and its inputs stand as they were read
pub run_is_counted : (limits : ReadLimits) (order : RunView) (old mid new : Host) (planned : PlannedView) (before after : TallyView)
    → HasPlan limits (run_planning order) old mid planned → CountsRun planned.setup before after
    → ((role : Role) → role ≢ Out → role ≢ Report → role ≢ Screen → new role ≡ mid role)
    → HasCounted (run_command limits order) old new before after
run_is_counted limits order old mid new planned before after has counts others = record {
  reads = has.reads;
  inputs = plan_inputs limits (run_planning order) old mid planned has;
  read = stay_read has.reads run_outputs old mid new (subst (λ is. AreApart is run_outputs)
      (plan_inputs limits (run_planning order) old mid planned has)
      (out_is_unread limits (run_planning order), (report_is_unread limits (run_planning order), (screen_is_unread limits (run_planning order), tt))))
      (λ role unwritten. others role unwritten.0 unwritten.1.0 unwritten.1.1.0) has.so_far.stands.read;
  adds = subst (λ bytes. run_adds order bytes before after) (sym has.bytes_are)
      (record { planned = planned; plans = has.plans; counts = counts });
}

-- memory was refused after the plan, before or after the cores were counted
pub run_may_be_counted : (limits : ReadLimits) (order : RunView) (old new : Host) (planned : PlannedView) (before after : TallyView)
    → HasPlan limits (run_planning order) old new planned → (after ≡ before) ⊎ CountsRun planned.setup before after
    → TallyAfter (run_command limits order) old new before after NoMemory
run_may_be_counted limits order old new planned before after has (inl same) = inl same
run_may_be_counted limits order old new planned before after has (inr counts) =
    inr (run_is_counted limits order old new new planned before after has counts (λ role out report screen. refl))

-- where a command ends early, the tally may be as it was
pub stays_after : (c : Command) (old new : Host) (tally : TallyView) (answer : Status) → answer ≢ Done
    → TallyAfter c old new tally tally answer
stays_after c old new tally Done early = absurd (early refl)
stays_after c old new tally NoMemory early = inl refl
stays_after c old new tally (BadWords fault) early = inl refl
stays_after c old new tally (BadTopology fault) early = inl refl
stays_after c old new tally (BadTrace fault) early = inl refl
stays_after c old new tally (BadPlan fault) early = inl refl
stays_after c old new tally (ReadFault role) early = inl refl
stays_after c old new tally (WriteFault role) early = inl refl
stays_after c old new tally (TooLarge role) early = inl refl
stays_after c old new tally (BadJournal fault) early = inl refl
stays_after c old new tally (BadMove number) early = inl refl
stays_after c old new tally (BadCapture fault) early = inl refl
