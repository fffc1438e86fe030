-- What stands after each step of `workload`, which reads nothing, and what it adds to the tally.
use Rattle.std.proofs.Common.{◌≡◌, ◌⊎◌, inl, inr, ℕ, List, [], ◌∷◌, Result, Ok, Err, codes, refl, subst}
use Rattle.mn_edge.specs.declared.role.Role.TheVariants.{Screen}
use Rattle.core_loop.specs.TallyView.{TallyView}
use Rattle.report.specs.declared.summary.Generated.{Generated}
use Rattle.plan.specs.PlannedView.{PlannedView}
use Rattle.mn_words.specs.declared.order.WorkloadOrder.{WorkloadOrder}
use Rattle.modelnet.specs.declared.status.Status.{Status}
use Rattle.modelnet.specs.declared.status.Status.TheVariants.{NoMemory}
use Rattle.modelnet.specs.Roles.{Output, output, WritesOutput}
use Rattle.modelnet.specs.Commands.{Host, Answered, HasCounted, TallyAfter, status_of}
use Rattle.modelnet.specs.Generating.{generated_by, PlansWorkload, IsSummaryOf}
use Rattle.modelnet.specs.Progress.{HasWritten}
use Rattle.modelnet.specs.Running.{CountsRun}
use Rattle.modelnet.specs.TheCommands.{workload_command}
use Rattle.modelnet.proofs.OneAfterAnother.{Others, has_written, stops_writing, is_done}
use Rattle.modelnet.proofs.Tallied.{counted_after}

module _ (order : WorkloadOrder) where
  abbrev the_screen : Output
  the_screen = output Screen (codes "-")

  -- the texts have a plan, and this is the summary of its outcome
  pub record HasSummary (planned : PlannedView) (text : List ℕ) : Type 0 where
    pub plans : PlansWorkload order planned
    pub input : Generated
    pub input_is : input ≡ generated_by order
    pub summary : IsSummaryOf input planned text

  -- it is to be written
  summary_is_next : (planned : PlannedView) (text : List ℕ) (host : Host) → HasSummary planned text
      → HasWritten (workload_command order) [] [] (the_screen ∷ []) (text ∷ []) host host
  summary_is_next planned text host has = record {
    inputs = refl;
    outputs = refl;
    says = record { planned = planned; plans = has.plans; summary = subst (λ i. IsSummaryOf i planned text) has.input_is has.summary };
    stands = record { read = tt; written = tt; others = λ role r w. refl };
  }

  -- it was written whole, or not
  pub summary_written : (planned : PlannedView) (text bytes : List ℕ) (old new : Host) (result : Result (Unit {0}) Status)
      → HasSummary planned text → bytes ≡ text → WritesOutput the_screen bytes (old Screen) (new Screen) result → Others Screen old new
      → Answered (workload_command order) old new (status_of result)
  summary_written planned text bytes old new (Ok done) has same own others =
      is_done (workload_command order) [] ((the_screen, text) ∷ []) old new
      (has_written (workload_command order) [] [] the_screen [] text [] old old new (summary_is_next planned text old has) tt tt
      (subst (λ b. WritesOutput the_screen b (old Screen) (new Screen) (Ok done)) same own) others)
  summary_written planned text bytes old new (Err status) has same own others =
      stops_writing (workload_command order) [] [] the_screen [] text [] status old old new (summary_is_next planned text old has) tt tt
      (subst (λ b. WritesOutput the_screen b (old Screen) (new Screen) (Err status)) same own) others

  -- the run was counted
  workload_counted : (planned : PlannedView) (old new : Host) (before after : TallyView) → PlansWorkload order planned
      → CountsRun planned.setup before after → HasCounted (workload_command order) old new before after
  workload_counted planned old new before after plans counts = record {
    reads = [];
    inputs = refl;
    read = tt;
    adds = record { planned = planned; plans = plans; counts = counts };
  }

  -- memory was refused before or after that
  pub may_be_counted : (planned : PlannedView) (old new : Host) (before after : TallyView) → PlansWorkload order planned
      → (after ≡ before) ⊎ CountsRun planned.setup before after → TallyAfter (workload_command order) old new before after NoMemory
  may_be_counted planned old new before after plans (inl same) = inl same
  may_be_counted planned old new before after plans (inr counts) = inr (workload_counted planned old new before after plans counts)

  -- and it stays counted when the summary is written, or can't be
  pub stays_counted : (planned : PlannedView) (old new : Host) (before after : TallyView) (result : Result (Unit {0}) Status)
      → PlansWorkload order planned → CountsRun planned.setup before after
      → TallyAfter (workload_command order) old new before after (status_of result)
  stays_counted planned old new before after result plans counts =
      counted_after (workload_command order) old new before after (status_of result)
      (workload_counted planned old new before after plans counts)
