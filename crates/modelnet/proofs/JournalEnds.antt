-- `journal` ends as its reading ends, or as it writes the journal of its plan.
use Rattle.std.proofs.Common.{◌≡◌, ℕ, List, [], ◌∷◌, Result, refl, sym, subst}
use Rattle.mn_edge.specs.declared.role.Role.TheVariants.{Out}
use Rattle.journal.specs.Journal.{journal_of}
use Rattle.journal_check.specs.Texts.{journal_out}
use Rattle.plan.specs.PlannedView.{PlannedView}
use Rattle.mn_words.specs.Order.{JournalView}
use Rattle.modelnet.specs.declared.read_limits.ReadLimits.{ReadLimits}
use Rattle.modelnet.specs.declared.status.Status.{Status}
use Rattle.modelnet.specs.Commands.{Host, Answered, status_of}
use Rattle.modelnet.specs.Journals.{journal_planning, journal_writes}
use Rattle.modelnet.specs.Planning.{planning_command}
use Rattle.modelnet.specs.PlanSteps.{HasPlan}
use Rattle.modelnet.specs.Progress.{HasStopped}
use Rattle.modelnet.specs.Roles.{output, WritesOutput}
use Rattle.modelnet.specs.TheCommands.{journal_command}
use Rattle.modelnet.proofs.Halves.{IsFrontOf, AreApart, stops_in_front, ends_as_it_writes}
use Rattle.modelnet.proofs.OneAfterAnother.{Others}
use Rattle.modelnet.proofs.PlanReads.{whole_front, plan_inputs}
use Rattle.modelnet.proofs.RunEnds.{out_is_unread}
use Rattle.modelnet.proofs.Writes.{one_text_ends}

module _ (limits : ReadLimits) (order : JournalView) where
  -- the inputs can't be read or planned
  pub journal_stops : (old new : Host) (status : Status) → HasStopped (planning_command limits (journal_planning order)) old new status
      → Answered (journal_command limits order) old new status
  journal_stops old new status stopped =
      let c = journal_command limits order in
      let here = stops_in_front (planning_command limits (journal_planning order)) c
      (whole_front limits (journal_planning order) c refl (λ bytes status refused. refused) (λ bytes status short refused. refused))
      old new status stopped in
      here.answered

  -- the journal of the plan was written whole, or can't be
  pub journal_ends : {planned : PlannedView} {text bytes name : List ℕ} {old mid : Host} (new : Host) (result : Result (Unit {0}) Status)
      → HasPlan limits (journal_planning order) old mid planned → text ≡ journal_out (journal_of planned.setup) → bytes ≡ text
      → name ≡ order.out → WritesOutput (output Out name) bytes (mid Out) (new Out) result → Others Out mid new
      → Answered (journal_command limits order) old new (status_of result)
  journal_ends {planned} {text} {bytes} {name} {old} {mid} new result has is same named own others =
      let at = output Out order.out in
      let inputs = plan_inputs limits (journal_planning order) old mid planned has in
      ends_as_it_writes (journal_command limits order) has.reads ((at, text) ∷ []) old mid new (record {
        inputs = inputs;
        outputs = refl;
        apart = subst (λ is. AreApart is (at ∷ [])) inputs (out_is_unread limits (journal_planning order), tt);
        says = subst (λ read. journal_writes order read (text ∷ [])) (sym has.bytes_are)
            (record { planned = planned; plans = has.plans; text_is = is });
        stands = has.so_far.stands;
      }) (status_of result)
      (one_text_ends at text bytes mid new result same
      (subst (λ n. WritesOutput (output Out n) bytes (mid Out) (new Out) result) named own) others)
