-- A run makes one output trace and one report of its plan, and a chain one of each of a trace.
use Rattle.std.proofs.Common.{◌≡◌, ℕ, List, [], ◌∷◌, map, refl, sym, ap, subst, ◌∙◌}
use Rattle.std.specs.List.{AllZip}
use Rattle.mn_base.specs.declared.params.PipeParams.{PipeParams}
use Rattle.distill.proofs.OneDistilled.{one_params}
use Rattle.pcap_io.specs.Capture.{Capture}
use Rattle.pcap_io.specs.Writing.{pcap_text}
use Rattle.pcapng_in.specs.CaptureFile.{SaysTrace}
use Rattle.pcapng_in.proofs.ByFormat.{one_capture_reading}
use Rattle.journal.specs.declared.setup.PacketPlan.{PacketPlan}
use Rattle.journal.specs.declared.setup.PipeChange.{PipeChange}
use Rattle.journal.specs.declared.setup.LossBy.{LossBy}
use Rattle.journal.specs.SetupView.{SetupView}
use Rattle.journal.specs.Journal.{journal_of}
use Rattle.settle.specs.IsOutcome.{IsOutcome}
use Rattle.report.specs.Laws.{DifferInCores}
use Rattle.report.specs.Report.{report_text}
use Rattle.report.proofs.NoCores.{outputs_read_no_core}
use Rattle.plan.specs.PlannedView.{PlannedView}
use Rattle.mn_words.specs.declared.order.PipeSpec.{PipeSpec}
use Rattle.mn_words.specs.Order.{ChainView}
use Rattle.modelnet.specs.Chain.{IsPipeOf, IsChainSetup}
use Rattle.modelnet.specs.Run.{IsChainRun, SaysRun}
use Rattle.modelnet.specs.Running.{IsRunOf}

-- two plans differ in cores alone
pub record DifferingPlans (p q : PlannedView) : Type 0 where
  pub setups : DifferInCores p.setup q.setup
  pub bytes : p.bytes ≡ q.bytes
  pub unbounds : p.unbounds ≡ q.unbounds

-- the outputs of such plans are the same
pub same_outputs : (p q : PlannedView) (out report out' report' : List ℕ) → DifferingPlans p q → IsRunOf p out report
    → IsRunOf q out' report' → (out ≡ out') × (report ≡ report')
same_outputs p q out report out' report' differ run also =
    let outcome = subst (λ bs. IsOutcome p.setup (journal_of p.setup) bs run.outcome) differ.bytes run.outcome_is in
    let same = outputs_read_no_core p.setup q.setup q.bytes run.outcome also.outcome differ.setups outcome also.outcome_is in (
      run.out_is ∙ ap (λ t. pcap_text t) same.trace ∙ sym also.out_is,
      run.report_is ∙ ap (λ us. report_text run.outcome us) differ.unbounds ∙ same.report q.unbounds ∙ sym also.report_is,
    )

-- so runs of one plan write the same
pub one_run_of : (planned : PlannedView) (out report out' report' : List ℕ) → IsRunOf planned out report
    → IsRunOf planned out' report' → (out ≡ out') × (report ≡ report')
one_run_of planned out report out' report' run also =
    same_outputs planned planned out report out' report'
    (record { setups = record { runs = refl; base_ns = refl; link_type = refl }; bytes = refl; unbounds = refl }) run also

one_list : (tick_ns : ℕ) (pipes : List PipeSpec) (ps qs : List PipeParams) → AllZip (IsPipeOf tick_ns) pipes ps
    → AllZip (IsPipeOf tick_ns) pipes qs → ps ≡ qs
one_list tick_ns [] [] [] is also = refl
one_list tick_ns [] [] (q ∷ qs) is also = absurd also
one_list tick_ns [] (p ∷ ps) qs is also = absurd is
one_list tick_ns (pipe ∷ pipes) [] qs is also = absurd is
one_list tick_ns (pipe ∷ pipes) (p ∷ ps) [] is also = absurd also
one_list tick_ns (pipe ∷ pipes) (p ∷ ps) (q ∷ qs) is also =
    ap (λ r. r ∷ ps) (one_params _ _ _ _ _ p q is.0 also.0) ∙ ap (λ rs. q ∷ rs) (one_list tick_ns pipes ps qs is.1 also.1)

-- the setup of these parts
unfoldable setup_of_parts : ℕ → ℕ → ℕ → ℕ → ℕ → List PipeParams → List ℕ → List (List ℕ) → List PacketPlan
    → List PipeChange → LossBy → SetupView
setup_of_parts tick_ns seed base_ns link_type cores pipes owners routes packets changes loss = record {
  tick_ns = tick_ns;
  seed = seed;
  base_ns = base_ns;
  link_type = link_type;
  cores = cores;
  pipes = pipes;
  owners = owners;
  routes = routes;
  packets = packets;
  changes = changes;
  loss = loss;
}

abbrev rebuilt : SetupView → SetupView
rebuilt S = setup_of_parts S.tick_ns S.seed S.base_ns S.link_type S.cores S.pipes S.owners S.routes S.packets S.changes S.loss

same_parts : (order : ChainView) (trace : Capture) (S R : SetupView) → IsChainSetup order trace S → IsChainSetup order trace R
    → rebuilt S ≡ rebuilt R
same_parts order trace S R is also =
    let pipes : S.pipes ≡ R.pipes = one_list order.tick_ns order.pipes S.pipes R.pipes is.pipes also.pipes in cc

-- an order and a trace have one setup
pub one_setup : (order : ChainView) (trace : Capture) (S R : SetupView) → IsChainSetup order trace S → IsChainSetup order trace R → S ≡ R
unfolding setup_of_parts
one_setup order trace S R is also = same_parts order trace S R is also

-- the plan of a chain on a trace: every packet is bound
abbrev chain_plan : SetupView → Capture → PlannedView
chain_plan S trace = record { setup = S; bytes = map (λ p. p.bytes) trace.packets; unbounds = [] }

-- the run of a chain is that of its plan
run_of_chain : (order : ChainView) (trace : Capture) (out report : List ℕ) (is : IsChainRun order trace out report)
    → IsRunOf (chain_plan is.setup trace) out report
run_of_chain order trace out report is = record {
  outcome = is.outcome;
  outcome_is = is.outcome_is;
  out_is = is.out_is;
  report_is = is.report_is;
}

-- runs of one order on one trace write the same
one_chain_run : (order : ChainView) (trace : Capture) (out report out' report' : List ℕ) → IsChainRun order trace out report
    → IsChainRun order trace out' report' → (out ≡ out') × (report ≡ report')
one_chain_run order trace out report out' report' run also =
    let setup = one_setup order trace run.setup also.setup run.setup_is also.setup_is in
    one_run_of (chain_plan also.setup trace) out report out' report'
    (subst (λ S. IsRunOf (chain_plan S trace) out report) setup (run_of_chain order trace out report run))
    (run_of_chain order trace out' report' also)

pub one_run : (order : ChainView) (trace out report out' report' : List ℕ) → SaysRun order trace out report
    → SaysRun order trace out' report' → (out ≡ out') × (report ≡ report')
one_run order trace out report out' report' says also =
    let same = one_capture_reading trace says.trace also.trace says.says also.says in
    one_chain_run order also.trace out report out' report' (subst (λ t. IsChainRun order t out report) same says.run) also.run

-- files that say one trace have the same runs
pub same_run : (order : ChainView) (text other : List ℕ) (trace : Capture) (out report : List ℕ) → SaysTrace text trace
    → SaysTrace other trace → SaysRun order text out report → SaysRun order other out report
same_run order text other trace out report says says_other run =
    let same = one_capture_reading text run.trace trace run.says says in record {
      trace = trace;
      says = says_other;
      run = subst (λ t. IsChainRun order t out report) same run.run;
    }
