-- Two plans of one run on other cores differ in cores alone, so that their outputs are the same.
use Rattle.std.proofs.Common.{◌≡◌, ℕ, zero, false, List, [], ◌∷◌, length, map, filter_map, Option, Some, None, Result, Ok, Err, refl, sym, ap, ◌∙◌, subst, arith}
use Rattle.std.specs.List.{AllZip}
use Rattle.std.proofs.lemmas.Bool.{MatchBool-at_false}
use Rattle.mn_base.specs.declared.causes.Unbound.{Unbound}
use Rattle.topo.specs.TopologyView.{TopologyView}
use Rattle.gml_reader.proofs.OneAnswer as topologies
use Rattle.pcap_io.specs.Capture.{Capture, trace_base}
use Rattle.pcap_io.specs.declared.packet.Packet.{Packet}
use Rattle.pcapng_in.proofs.ByFormat.{one_capture_reading}
use Rattle.changes.specs.Faults.{is_second}
use Rattle.changes.specs.declared.split.Change.{Change}
use Rattle.changes.specs.SplitView.{SplitView}
use Rattle.changes.specs.Splits.{IsSecond, IsOther}
use Rattle.distill.specs.Distilled.{DistilledView, IsDistilled}
use Rattle.distill.proofs.OneDistilled.{one_distilled}
use Rattle.ownership.specs.Directory.{DirectoryView}
use Rattle.journal.specs.declared.setup.PacketPlan.{PacketPlan}
use Rattle.journal.specs.declared.setup.PipeChange.{PipeChange}
use Rattle.journal.specs.SetupView.{SetupView}
use Rattle.journal.specs.Laws.{coreless, bare}
use Rattle.plan.specs.Binding.{Binding}
use Rattle.plan.specs.PlannedView.{PlannedView}
use Rattle.plan.specs.Plans.{routes_of, uses_of, numbered, plan_if_bound, plan_of_bound, bound_packets, bound_bytes, unbound_packets}
use Rattle.plan.specs.Setups.{IsChangeTo, IsDirectedBy, IsPlanOver, IsPlan}
use Rattle.plan.proofs.OnePlan.{bindings_once}
use Rattle.mn_words.specs.Order.{RunView}
use Rattle.modelnet.specs.Running.{options_of}
use Rattle.modelnet.specs.Planning.{IsDirectoryRead}
use Rattle.modelnet.specs.TheCommands.{RunPlans}
use Rattle.modelnet.proofs.OneRun.{DifferingPlans, same_outputs}
use Rattle.modelnet.specs.OtherCores.{AskForOneRun, CoresChangeNoOutput, SayNoChange, OwnersChangeNoOutput}

-- bound packets without their entry cores don't read the list of these
coreless_bound : (base tick_ns : ℕ) (entries others : List ℕ) (uses : List Binding) (ns : List (ℕ × (Packet × Result Binding Unbound)))
    → map coreless (filter_map (plan_if_bound base tick_ns entries uses) ns) ≡ map coreless (filter_map (plan_if_bound base tick_ns others uses) ns)
coreless_bound base tick_ns entries others uses [] = refl
coreless_bound base tick_ns entries others uses ((number, (packet, Ok b)) ∷ ns) =
    ap (λ (ps : List PacketPlan). coreless (plan_of_bound base tick_ns entries uses number packet b) ∷ ps)
    (coreless_bound base tick_ns entries others uses ns)
coreless_bound base tick_ns entries others uses ((number, (packet, Err cause)) ∷ ns) = coreless_bound base tick_ns entries others uses ns

-- what two setups share that differ in cores alone
record ShareAllButCores (S R : SetupView) : Type 0 where
  tick_ns : S.tick_ns ≡ R.tick_ns
  seed : S.seed ≡ R.seed
  pipes : S.pipes ≡ R.pipes
  routes : S.routes ≡ R.routes
  packets : map coreless S.packets ≡ map coreless R.packets
  changes : S.changes ≡ R.changes
  loss : S.loss ≡ R.loss

same_bare : (S R : SetupView) → ShareAllButCores S R → bare S ≡ bare R
same_bare S R share = cc

module _ (one other : RunView) (ask : AskForOneRun one other) (t : TopologyView) (trace : Capture) where
  -- over one distilled topology
  plans_over_one : (d : DistilledView) (directory elsewhere : DirectoryView) (cs es : List Change) (p q : PlannedView)
      → IsPlanOver t d directory cs trace (options_of one) p → IsPlanOver t d elsewhere es trace (options_of other) q
      → p.setup.changes ≡ q.setup.changes → DifferingPlans p q
  plans_over_one d directory elsewhere cs es p q is also changes =
      let s = is.setup in
      let r = also.setup in
      let bindings : is.bindings ≡ also.bindings = bindings_once t d trace is.bindings also.bindings is.bound also.bound in
      let packets : map coreless p.setup.packets ≡ map coreless q.setup.packets =
      ap (λ ps. map coreless ps) s.packets_are
      ∙ ap (λ bs. map coreless (bound_packets (trace_base trace) one.tick_ns directory.entries trace.packets bs)) bindings
      ∙ ap (λ n. map coreless (bound_packets (trace_base trace) n directory.entries trace.packets also.bindings)) ask.tick_ns
      ∙ coreless_bound (trace_base trace) other.tick_ns directory.entries elsewhere.entries (uses_of also.bindings)
      (numbered trace.packets also.bindings)
      ∙ sym (ap (λ ps. map coreless ps) r.packets_are) in
      record {
        setups = record {
          runs = same_bare p.setup q.setup (record {
            tick_ns = s.tick_ns ∙ ask.tick_ns ∙ sym r.tick_ns;
            seed = s.seed ∙ ask.seed ∙ sym r.seed;
            pipes = s.pipes ∙ sym r.pipes;
            routes = s.routes_are ∙ ap (λ bs. routes_of bs) bindings ∙ sym r.routes_are;
            packets = packets;
            changes = changes;
            loss = s.loss ∙ ask.loss ∙ sym r.loss;
          });
          base_ns = s.base_ns ∙ sym r.base_ns;
          link_type = s.link_type ∙ sym r.link_type;
        };
        bytes = is.bytes ∙ ap (λ bs. bound_bytes trace.packets bs) bindings ∙ sym also.bytes;
        unbounds = is.unbounds ∙ ap (λ bs. unbound_packets bs) bindings ∙ sym also.unbounds;
      }

  -- the topology is distilled by the mode and the tick length
  plans_of_one : (text elsewhere : Option (List ℕ)) (p q : PlannedView) → IsPlan t trace (options_of one) text p
      → IsPlan t trace (options_of other) elsewhere q → p.setup.changes ≡ q.setup.changes → DifferingPlans p q
  plans_of_one text elsewhere p q is also changes =
      let by_mode = subst (λ m. IsDistilled t m one.tick_ns is.distilled) ask.mode is.distills in
      let distills = subst (λ n. IsDistilled t other.mode n is.distilled) ask.tick_ns by_mode in
      let distilled = one_distilled t other.mode other.tick_ns is.distilled also.distilled distills also.distills in
      plans_over_one also.distilled is.directory also.directory is.changes also.changes p q
      (subst (λ d. IsPlanOver t d is.directory is.changes trace (options_of one) p) distilled is.plans) also.plans changes

-- and so their outputs are the same
pub cores_change_no_output : CoresChangeNoOutput
cores_change_no_output one other topology trace rest more planned others out report out' report' ask plans also changes run run' =
    let p = plans.plans in
    let q = also.plans in
    let target = topologies.one_reading topology p.target q.target p.reads q.reads in
    let capture = one_capture_reading trace p.capture q.capture p.says q.says in
    let by_topology = subst (λ t. IsPlan t p.capture (options_of one) plans.directory planned) target p.plan in
    let plan = subst (λ c. IsPlan q.target c (options_of one) plans.directory planned) capture by_topology in
    same_outputs planned others out report out' report'
    (plans_of_one one other ask q.target q.capture plans.directory also.directory planned others plan q.plan changes) run run'

-- ---- directories without changes
-- a text that isn't of the second version says no change
directed_unchanged : (d : DistilledView) (cores : ℕ) (named : Option (List ℕ)) (read : List (List ℕ)) (text : Option (List ℕ))
    (directory : DirectoryView) (cs : List Change) → IsDirectoryRead named read text → SayNoChange read
    → IsDirectedBy d cores text directory cs → cs ≡ []
directed_unchanged d cores None [] None directory cs given none directed = directed.1
directed_unchanged d cores (Some name) (text ∷ []) (Some read) directory cs given none directed =
    let first = subst (λ x. is_second x ≡ false) (sym given) (none zero text (omega arith)) in
    let split = directed.split in
    let said : SplitView = record { directory = directed.first_version; changes = cs } in
    let is = MatchBool-at_false (IsSecond read cores (length d.pipes) said) (IsOther read said) first split in is.changes
directed_unchanged d cores None (text ∷ read) text' directory cs given none directed = absurd given
directed_unchanged d cores None [] (Some text) directory cs given none directed = absurd given
directed_unchanged d cores (Some name) [] text directory cs given none directed = absurd given
directed_unchanged d cores (Some name) (text ∷ more ∷ read) given' directory cs given none directed = absurd given
directed_unchanged d cores (Some name) (text ∷ []) None directory cs given none directed = absurd given

no_changes : (tick_ns : ℕ) (cs : List Change) (changes : List PipeChange) → cs ≡ [] → AllZip (IsChangeTo tick_ns) cs changes → changes ≡ []
no_changes tick_ns [] [] none are = refl
no_changes tick_ns [] (c ∷ changes) none are = absurd are
no_changes tick_ns (c ∷ cs) changes none are = absurd cc

-- so no pipe of the plan changes
plan_unchanged : (order : RunView) (topology trace : List ℕ) (rest : List (List ℕ)) (planned : PlannedView)
    → RunPlans order topology trace rest planned → SayNoChange rest → planned.setup.changes ≡ []
plan_unchanged order topology trace rest planned plans none =
    let plan = plans.plans.plan in
    no_changes order.tick_ns plan.changes planned.setup.changes
    (directed_unchanged plan.distilled order.cores order.directory rest plans.directory plan.directory plan.changes plans.given none plan.directed)
    plan.plans.setup.changes_are

pub owners_change_no_output : OwnersChangeNoOutput
owners_change_no_output one other topology trace rest more out report out' report' screens screens' ask none nor says also =
    let p = says.planned in
    let q = also.planned in
    cores_change_no_output one other topology trace rest more p q out report out' report' ask says.plans also.plans
    (plan_unchanged one topology trace rest p says.plans none ∙ sym (plan_unchanged other topology trace more q also.plans nor)) says.run
    also.run
