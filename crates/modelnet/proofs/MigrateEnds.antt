-- `migrate` ends as its reading ends, with the first move that names no pipe of its plan, or as it writes its run.
use Rattle.std.proofs.Common.{◌≡◌, ◌<◌, ◌⊎◌, ℕ, List, [], ◌∷◌, length, Option, Some, None, IsSomeAnd, refl, sym, subst, inl, inr, arith}
use Rattle.plan.specs.PlannedView.{PlannedView}
use Rattle.mn_words.specs.Order.{MigrateView}
use Rattle.modelnet.specs.declared.read_limits.ReadLimits.{ReadLimits}
use Rattle.modelnet.specs.declared.status.Status.{Status}
use Rattle.modelnet.specs.declared.status.Status.TheVariants.{NoMemory, BadMove}
use Rattle.modelnet.specs.Commands.{Host, outputs_of, Answered}
use Rattle.modelnet.specs.Exact.{NoMemoryOrRefuses}
use Rattle.modelnet.specs.Moving.{migrate_planning, migrate_refuses, migrate_writes, IsMovedRun, RefusesMoves}
use Rattle.modelnet.specs.Planning.{directory_inputs, planning_inputs, planning_refuses, planning_command}
use Rattle.modelnet.specs.PlanSteps.{HasPlan}
use Rattle.modelnet.specs.Progress.{HasStopped}
use Rattle.modelnet.specs.TheCommands.{migrate_command}
use Rattle.modelnet.specs.Writing.{writing_command, run_writings}
use Rattle.modelnet.proofs.Halves.{IsFrontOf, AreApart, stops_in_front, front_is_read, ends_as_it_writes}
use Rattle.modelnet.proofs.MigrateSound.{migrate_is_sound}
use Rattle.modelnet.proofs.OneAfterAnother.{refused}
use Rattle.modelnet.proofs.PlanReads.{directory_length, whole_front, plan_inputs}
use Rattle.modelnet.proofs.RunEnds.{outputs_apart}

module _ (limits : ReadLimits) (order : MigrateView) where
  plan_refused : (bytes : List (List ℕ)) (status : Status) → planning_refuses (migrate_planning order) bytes status
      → migrate_refuses order bytes status
  plan_refused (topology ∷ trace ∷ []) (BadMove number) is = absurd is
  plan_refused (topology ∷ trace ∷ more ∷ rest) (BadMove number) is = absurd is
  plan_refused bytes status is = is

  no_move_yet : (bytes : List (List ℕ)) (status : Status) → length bytes < length (planning_inputs limits (migrate_planning order))
      → migrate_refuses order bytes status → planning_refuses (migrate_planning order) bytes status
  no_move_yet (topology ∷ trace ∷ rest) (BadMove number) short is =
      let whole = directory_length limits order.directory rest is.plans.directory is.plans.given in absurd (omega (arith, short, whole))
  no_move_yet bytes status short is = is

  abbrev migrate_begins : IsFrontOf (planning_command limits (migrate_planning order)) (migrate_command limits order)
  migrate_begins = whole_front limits (migrate_planning order) (migrate_command limits order) refl plan_refused no_move_yet

  -- the inputs can't be read or planned
  pub migrate_stops : (old new : Host) (status : Status) → HasStopped (planning_command limits (migrate_planning order)) old new status
      → Answered (migrate_command limits order) old new status
  migrate_stops old new status stopped =
      let here = stops_in_front (planning_command limits (migrate_planning order)) (migrate_command limits order) migrate_begins old new
      status stopped in
      here.answered

  -- memory was refused, or a move names no pipe of the plan
  move_refuses : (planned : PlannedView) (old new : Host) (status : Status) (has : HasPlan limits (migrate_planning order) old new planned)
      → (status ≡ NoMemory) ⊎ RefusesMoves order.moves (length planned.setup.pipes) status
      → NoMemoryOrRefuses (migrate_refuses order) (has.topology ∷ has.trace ∷ has.rest) status
  move_refuses planned old new status has (inl empty) = inl empty
  move_refuses planned old new status has (inr refused) = inr (by_move status refused)
    where
      by_move : (answer : Status) → RefusesMoves order.moves (length planned.setup.pipes) answer
          → migrate_refuses order (has.topology ∷ has.trace ∷ has.rest) answer
      by_move (BadMove number) is = record { planned = planned; plans = has.plans; first = is }
      by_move answer is = absurd is

  pub moves_refused : (planned : PlannedView) (old new : Host) (status : Status) → HasPlan limits (migrate_planning order) old new planned
      → (status ≡ NoMemory) ⊎ RefusesMoves order.moves (length planned.setup.pipes) status
      → Answered (migrate_command limits order) old new status
  moves_refused planned old new status has is =
      let sound = migrate_is_sound limits order in
      refused (migrate_command limits order) has.reads [] status old new sound.refusals
      (front_is_read (planning_command limits (migrate_planning order)) (migrate_command limits order) migrate_begins has.reads old new has.so_far)
      (subst (λ bytes. NoMemoryOrRefuses (migrate_refuses order) bytes status) (sym has.bytes_are)
      (move_refuses planned old new status has is))

  -- the texts of the run were written whole, or can't be
  pub migrate_ends : (planned : PlannedView) (out report screen : List ℕ) (old mid new : Host) (status : Status)
      → HasPlan limits (migrate_planning order) old mid planned → IsMovedRun order planned out report screen
      → Answered (writing_command (run_writings order.out order.report out report (Some screen))) mid new status
      → Answered (migrate_command limits order) old new status
  migrate_ends planned out report screen old mid new status has run written =
      let inputs = plan_inputs limits (migrate_planning order) old mid planned has in
      ends_as_it_writes (migrate_command limits order) has.reads (run_writings order.out order.report out report (Some screen)) old mid new
      (record {
        inputs = inputs;
        outputs = refl;
        apart = subst (λ is. AreApart is (outputs_of (run_writings order.out order.report out report (Some screen)))) inputs
            (outputs_apart limits (migrate_planning order) order.out order.report out report (Some screen));
        says = subst (λ read. migrate_writes order read (out ∷ report ∷ screen ∷ [])) (sym has.bytes_are)
            (record { planned = planned; plans = has.plans; run = run });
        stands = has.so_far.stands;
      }) status written

  pub moved_ends : (planned : PlannedView) (out report : List ℕ) (screen : Option (List ℕ)) (old mid new : Host) (status : Status)
      → HasPlan limits (migrate_planning order) old mid planned → IsSomeAnd screen (λ text. IsMovedRun order planned out report text)
      → Answered (writing_command (run_writings order.out order.report out report screen)) mid new status
      → Answered (migrate_command limits order) old new status
  moved_ends planned out report (Some screen) old mid new status has run written =
      migrate_ends planned out report screen old mid new status has run written
  moved_ends planned out report None old mid new status has run written = absurd run

  -- a plan has as many cores as are asked for
  pub plan_cores : (planned : PlannedView) (old new : Host) → HasPlan limits (migrate_planning order) old new planned
      → planned.setup.cores ≡ order.cores
  plan_cores planned old new has = let plan = has.plans.plans.plan in plan.plans.setup.cores
