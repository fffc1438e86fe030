-- An input has a plan or one first fault.
use Rattle.std.proofs.Common.{◌≡◌, ◌<◌, ◌≤◌, ℕ, List, length, Option, Some, None, Result, Ok, Err, IfOk, IfErr, ap, subst, arith}
use Rattle.mn_base.specs.declared.limits.TheConstants.{PIPES_MAX}
use Rattle.mn_base.specs.declared.refusal.Refusal.{Refusal}
use Rattle.mn_base.specs.declared.refusal.Refusal.TheVariants as refusal
use Rattle.mn_base.specs.declared.refusal.Refusal.TheVariants.{Fault}
use Rattle.mn_base.specs.Refused.{IfFault, Refuses}
use Rattle.topo.specs.TopologyView.{TopologyView}
use Rattle.pcap_io.specs.Capture.{Capture}
use Rattle.distill.specs.Distilled.{DistilledView, IsDistilled}
use Rattle.distill.specs.PipeCount.{HasPipeCount}
use Rattle.changes.specs.declared.faults.ChangesFault.{ChangesFault}
use Rattle.changes.specs.SplitView.{SplitView}
use Rattle.changes.specs.declared.split.Change.{Change}
use Rattle.ownership.specs.declared.faults.AssignFault.{AssignFault}
use Rattle.ownership.specs.Directory.{DirectoryView}
use Rattle.ownership.specs.Faults.{DirectoryFirst}
use Rattle.plan.specs.declared.faults.PlanFault.{PlanFault}
use Rattle.plan.specs.declared.faults.PlanFault.TheVariants.{TooManyPipes, Changes, Assign}
use Rattle.plan.specs.declared.options.Options.{Options}
use Rattle.plan.specs.Faults.{TextFirst, DirectingFirst, HasTextFault, PlanFirst}
use Rattle.plan.specs.Setups.{AreDirected, IsDirectedBy, IsPlan}
use Rattle.plan.specs.PlannedView.{PlannedView}
use Rattle.distill.proofs.OneDistilled.{one_distilled}
use Rattle.distill.proofs.PipeCounts.{one_pipe_count, pipes_are_counted}
use Rattle.changes.proofs.Readings as said
use Rattle.ownership.proofs.Readings as directories

-- ---- one directory text
text_never_both : (d : DistilledView) (cores : ℕ) (text : List ℕ) (directory : DirectoryView) (changes : List Change) (fault : PlanFault)
    → AreDirected d cores text directory changes → TextFirst d cores text fault → ⊥
text_never_both d cores text directory changes (TooManyPipes count) directed first = first
text_never_both d cores text directory changes (Changes fault) directed first =
    said.never_both text cores (length d.pipes) (record { directory = directed.first_version; changes = changes }) fault directed.split first
text_never_both d cores text directory changes (Assign fault) directed first =
    let same : first.first_version ≡ directed.first_version =
    ap (λ (s : SplitView). s.directory)
    (said.one_reading text cores (length d.pipes) (record { directory = first.first_version; changes = first.changes })
    (record { directory = directed.first_version; changes = changes }) first.split directed.split) in
    directories.never_both directed.first_version d cores directory fault directed.directs
    (subst (λ (text : List ℕ). DirectoryFirst text d cores fault) same first.first)

text_one_fault : (d : DistilledView) (cores : ℕ) (text : List ℕ) (fault other : PlanFault) → TextFirst d cores text fault
    → TextFirst d cores text other → fault ≡ other
text_one_fault d cores text (TooManyPipes count) other first second = absurd first
text_one_fault d cores text (Changes fault) (TooManyPipes count) first second = absurd second
text_one_fault d cores text (Changes fault) (Changes other) first second =
    ap (λ (f : ChangesFault). Changes f) (said.one_fault text cores (length d.pipes) fault other first second)
text_one_fault d cores text (Changes fault) (Assign other) first second =
    absurd (said.never_both text cores (length d.pipes) (record { directory = second.first_version; changes = second.changes }) fault second.split first)
text_one_fault d cores text (Assign fault) (TooManyPipes count) first second = absurd second
text_one_fault d cores text (Assign fault) (Changes other) first second =
    absurd (said.never_both text cores (length d.pipes) (record { directory = first.first_version; changes = first.changes }) other first.split second)
text_one_fault d cores text (Assign fault) (Assign other) first second =
    let same : first.first_version ≡ second.first_version =
    ap (λ (s : SplitView). s.directory)
    (said.one_reading text cores (length d.pipes) (record { directory = first.first_version; changes = first.changes })
    (record { directory = second.first_version; changes = second.changes }) first.split second.split) in
    ap (λ (f : AssignFault). Assign f)
    (directories.one_fault second.first_version d cores fault other (subst (λ (text : List ℕ). DirectoryFirst text d cores fault) same first.first)
    second.first)

-- ---- one directory text, if there is one
directing_never_both : (d : DistilledView) (cores : ℕ) (text : Option (List ℕ)) (directory : DirectoryView) (changes : List Change)
    (fault : PlanFault) → IsDirectedBy d cores text directory changes → DirectingFirst d cores text fault → ⊥
directing_never_both d cores None directory changes fault directed first = first
directing_never_both d cores (Some text) directory changes fault directed first = text_never_both d cores text directory changes fault directed first

directing_one_fault : (d : DistilledView) (cores : ℕ) (text : Option (List ℕ)) (fault other : PlanFault) → DirectingFirst d cores text fault
    → DirectingFirst d cores text other → fault ≡ other
directing_one_fault d cores None fault other first second = absurd first
directing_one_fault d cores (Some text) fault other first second = text_one_fault d cores text fault other first second

-- ---- the whole input
module _ (t : TopologyView) (options : Options) (text : Option (List ℕ)) where
  -- there aren't both too many pipes and a distilled topology within the limit
  not_too_many : (d : DistilledView) (count : ℕ) → IsDistilled t options.mode options.tick_ns d → length d.pipes ≤ PIPES_MAX
      → HasPipeCount t options.mode count → PIPES_MAX < count → ⊥
  not_too_many d count distills few counted many =
      let same : length d.pipes ≡ count = pipes_are_counted t options.mode options.tick_ns count d distills counted in
      omega (arith, same, few, many)

  plan_not_text : (trace : Capture) (planned : PlannedView) (fault : PlanFault) → IsPlan t trace options text planned → HasTextFault t options text fault → ⊥
  plan_not_text trace planned fault is has =
      directing_never_both is.distilled options.cores text is.directory is.changes fault is.directed
      (subst (λ (d : DistilledView). DirectingFirst d options.cores text fault)
      (one_distilled t options.mode options.tick_ns has.distilled is.distilled has.distills is.distills) has.first)

  pub never_both : (trace : Capture) (planned : PlannedView) (fault : PlanFault) → IsPlan t trace options text planned
      → PlanFirst t options text fault → ⊥
  never_both trace planned (TooManyPipes count) is first = not_too_many is.distilled count is.distills is.few first.0 first.1
  never_both trace planned (Changes fault) is first = plan_not_text trace planned (Changes fault) is first
  never_both trace planned (Assign fault) is first = plan_not_text trace planned (Assign fault) is first

  both_text : (fault other : PlanFault) → HasTextFault t options text fault → HasTextFault t options text other → fault ≡ other
  both_text fault other first second =
      directing_one_fault second.distilled options.cores text fault other
      (subst (λ (d : DistilledView). DirectingFirst d options.cores text fault)
      (one_distilled t options.mode options.tick_ns first.distilled second.distilled first.distills second.distills) first.first)
      second.first

  too_many_or_text : (count : ℕ) (fault : PlanFault) → PlanFirst t options text (TooManyPipes count) → HasTextFault t options text fault → ⊥
  too_many_or_text count fault first second = not_too_many second.distilled count second.distills second.few first.0 first.1

  pub one_fault : (fault other : PlanFault) → PlanFirst t options text fault → PlanFirst t options text other → fault ≡ other
  one_fault (TooManyPipes count) (TooManyPipes more) first second =
      ap (λ (n : ℕ). TooManyPipes n) (one_pipe_count t options.mode count more first.0 second.0)
  one_fault (TooManyPipes count) (Changes other) first second = absurd (too_many_or_text count (Changes other) first second)
  one_fault (TooManyPipes count) (Assign other) first second = absurd (too_many_or_text count (Assign other) first second)
  one_fault (Changes fault) (TooManyPipes count) first second = absurd (too_many_or_text count (Changes fault) second first)
  one_fault (Changes fault) (Changes other) first second = both_text (Changes fault) (Changes other) first second
  one_fault (Changes fault) (Assign other) first second = both_text (Changes fault) (Assign other) first second
  one_fault (Assign fault) (TooManyPipes count) first second = absurd (too_many_or_text count (Assign fault) second first)
  one_fault (Assign fault) (Changes other) first second = both_text (Assign fault) (Changes other) first second
  one_fault (Assign fault) (Assign other) first second = both_text (Assign fault) (Assign other) first second

  -- an input with a first fault may be answered by it alone
  pub refuses : (trace : Capture) (result : Result PlannedView (Refusal PlanFault)) (fault : PlanFault)
      → IfOk result (IsPlan t trace options text) → IfErr result (λ e. IfFault e (PlanFirst t options text)) → PlanFirst t options text fault
      → Refuses fault result
  refuses trace (Ok planned) fault found faults first = never_both trace planned fault found first
  refuses trace (Err refusal.NoMemory) fault found faults first = tt
  refuses trace (Err (Fault f)) fault found faults first = one_fault f fault faults first
