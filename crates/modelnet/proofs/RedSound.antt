-- `red` is sound: a trace has one first fault, or one run through pipes that drop early.
use Rattle.std.proofs.Common.{◌≡◌, ℕ, List, [], ◌∷◌, map, refl, sym, ap, subst, ◌∙◌}
use Rattle.std.specs.List.{AllZip}
use Rattle.std.specs.List.Sorted.{IsPermutation}
use Rattle.mn_base.specs.declared.params.PipeParams.{PipeParams}
use Rattle.distill.proofs.OneDistilled.{one_params}
use Rattle.pcap_io.specs.Capture.{Capture}
use Rattle.pcap_io.specs.Writing.{pcap_text}
use Rattle.pcapng_in.proofs.ByFormat.{one_capture_reading}
use Rattle.journal.specs.SetupView.{SetupView}
use Rattle.settle.specs.declared.outcome.Leaving.{Leaving}
use Rattle.report.specs.Traces.{trace_of}
use Rattle.red_queue.specs.declared.params.RedParams.{RedParams}
use Rattle.red_queue.specs.declared.setup.RedPacket.{RedPacket}
use Rattle.red_queue.specs.declared.visit.RedVisit.{RedVisit}
use Rattle.red_queue.specs.SetupView.{RedSetupView}
use Rattle.red_queue.specs.Journal.{red_journal_of}
use Rattle.red_queue.specs.Fates.{fates_by}
use Rattle.red_queue.specs.Report.{red_report_text}
use Rattle.mn_words.specs.declared.order.RedSpec.{RedSpec}
use Rattle.mn_words.specs.Order.{RedView}
use Rattle.modelnet.specs.declared.read_limits.ReadLimits.{ReadLimits}
use Rattle.modelnet.specs.Exact.{IsSoundCommand}
use Rattle.modelnet.specs.RedRun.{base_order, IsRedPipeOf, IsRedSetupOf, red_leavings, IsRedRun, SaysRed}
use Rattle.modelnet.specs.TheCommands.{red_command}
use Rattle.modelnet.proofs.OneRun.{one_setup}
use Rattle.modelnet.proofs.RedLeavings.{one_leaving}
use Rattle.modelnet.proofs.ReplaySound.{IsReplay, replay_is_sound}

-- the parameters of these
unfoldable red_params_of : PipeParams → ℕ → ℕ → ℕ → ℕ → RedParams
red_params_of base shift min max early = record { base = base; shift = shift; min = min; max = max; early = early }

abbrev remade : RedParams → RedParams
remade p = red_params_of p.base p.shift p.min p.max p.early

same_fields : (tick_ns : ℕ) (pipe : RedSpec) (p q : RedParams) → IsRedPipeOf tick_ns pipe p → IsRedPipeOf tick_ns pipe q
    → remade p ≡ remade q
same_fields tick_ns pipe p q is also =
    let base : p.base ≡ q.base = one_params _ _ _ _ _ p.base q.base is.base also.base in
    let shift : p.shift ≡ q.shift = is.shift ∙ sym also.shift in
    let min : p.min ≡ q.min = is.min ∙ sym also.min in
    let max : p.max ≡ q.max = is.max ∙ sym also.max in
    let early : p.early ≡ q.early = is.early ∙ sym also.early in cc

one_red_params : (tick_ns : ℕ) (pipe : RedSpec) (p q : RedParams) → IsRedPipeOf tick_ns pipe p → IsRedPipeOf tick_ns pipe q → p ≡ q
unfolding red_params_of
one_red_params tick_ns pipe p q is also = same_fields tick_ns pipe p q is also

one_red_list : (tick_ns : ℕ) (pipes : List RedSpec) (ps qs : List RedParams) → AllZip (IsRedPipeOf tick_ns) pipes ps
    → AllZip (IsRedPipeOf tick_ns) pipes qs → ps ≡ qs
one_red_list tick_ns [] [] [] is also = refl
one_red_list tick_ns [] [] (q ∷ qs) is also = absurd also
one_red_list tick_ns [] (p ∷ ps) qs is also = absurd is
one_red_list tick_ns (pipe ∷ pipes) [] qs is also = absurd is
one_red_list tick_ns (pipe ∷ pipes) (p ∷ ps) [] is also = absurd also
one_red_list tick_ns (pipe ∷ pipes) (p ∷ ps) (q ∷ qs) is also =
    ap (λ (r : RedParams). r ∷ ps) (one_red_params tick_ns pipe p q is.0 also.0)
    ∙ ap (λ (rs : List RedParams). q ∷ rs) (one_red_list tick_ns pipes ps qs is.1 also.1)

-- the setup of these parts
unfoldable red_setup_of : ℕ → ℕ → List RedParams → List RedPacket → RedSetupView
red_setup_of tick_ns seed pipes packets = record { tick_ns = tick_ns; seed = seed; pipes = pipes; packets = packets }

abbrev rebuilt : RedSetupView → RedSetupView
rebuilt R = red_setup_of R.tick_ns R.seed R.pipes R.packets

same_parts : (order : RedView) (S : SetupView) (R Q : RedSetupView) → IsRedSetupOf order S R → IsRedSetupOf order S Q
    → rebuilt R ≡ rebuilt Q
same_parts order S R Q is also =
    let tick_ns : R.tick_ns ≡ Q.tick_ns = is.tick_ns ∙ sym also.tick_ns in
    let seed : R.seed ≡ Q.seed = is.seed ∙ sym also.seed in
    let pipes : R.pipes ≡ Q.pipes = one_red_list order.tick_ns order.pipes R.pipes Q.pipes is.pipes also.pipes in
    let packets : R.packets ≡ Q.packets = is.packets ∙ sym also.packets in cc

one_red_setup : (order : RedView) (S : SetupView) (R Q : RedSetupView) → IsRedSetupOf order S R → IsRedSetupOf order S Q → R ≡ Q
unfolding red_setup_of
one_red_setup order S R Q is also = same_parts order S R Q is also

-- runs of one order on one trace write the same
one_red_run : (order : RedView) (trace : Capture) (out report out' report' : List ℕ) → IsRedRun order trace out report
    → IsRedRun order trace out' report' → (out ≡ out') × (report ≡ report')
one_red_run order trace out report out' report' run also = (
  run.out_is ∙ ap (λ (S : SetupView). pcap_text (trace_of S run.leaving)) setup
      ∙ ap (λ (left : List Leaving). pcap_text (trace_of also.setup left)) leaving ∙ sym also.out_is,
  run.report_is ∙ ap (λ (R : RedSetupView). red_report_text R run.visits) red
      ∙ ap (λ (J : List RedVisit). red_report_text also.red J) visits ∙ sym also.report_is,
)
  where
    setup : run.setup ≡ also.setup
    setup = one_setup (base_order order) trace run.setup also.setup run.setup_is also.setup_is

    red : run.red ≡ also.red
    red = one_red_setup order also.setup run.red also.red (subst (λ S. IsRedSetupOf order S run.red) setup run.red_is) also.red_is

    visits : run.visits ≡ also.visits
    visits = run.visits_are ∙ ap (λ (R : RedSetupView). red_journal_of R) red ∙ sym also.visits_are

    bytes : List (List ℕ)
    bytes = map (λ p. p.bytes) trace.packets

    listed : red_leavings run.setup.packets (fates_by run.red run.visits) bytes
        ≡ red_leavings also.setup.packets (fates_by also.red also.visits) bytes
    listed =
        ap (λ (S : SetupView). red_leavings S.packets (fates_by run.red run.visits) bytes) setup
        ∙ ap (λ (R : RedSetupView). red_leavings also.setup.packets (fates_by R run.visits) bytes) red
        ∙ ap (λ (J : List RedVisit). red_leavings also.setup.packets (fates_by also.red J) bytes) visits

    leaving : run.leaving ≡ also.leaving
    leaving = one_leaving (red_leavings also.setup.packets (fates_by also.red also.visits) bytes) run.leaving also.leaving
        (subst (λ xs. IsPermutation xs run.leaving) listed run.leaving_is) also.leaving_is run.in_order also.in_order

one_run : (order : RedView) (text out report out' report' : List ℕ) → SaysRed order text out report
    → SaysRed order text out' report' → (out ≡ out') × (report ≡ report')
one_run order text out report out' report' says also =
    let same = one_capture_reading text says.trace also.trace says.says also.says in
    one_red_run order also.trace out report out' report' (subst (λ t. IsRedRun order t out report) same says.run) also.run

red_is_replay : (order : RedView) → IsReplay (SaysRed order)
red_is_replay order = record {
  says_trace = λ text out report says. (says.trace, says.says);
  one_run = one_run order;
}

pub red_is_sound : (limits : ReadLimits) (order : RedView) → IsSoundCommand (red_command limits order)
red_is_sound limits order = replay_is_sound (SaysRed order) (red_is_replay order) limits order.trace order.out order.report
