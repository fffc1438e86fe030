-- The setup, the bytes and the causes of a trace whose packets are answered are those of its bindings.
use Rattle.std.proofs.Common.{◌≡◌, ℕ, List, [], ◌∷◌, map, Result, refl, sym, ap, ◌∙◌, subst}
use Rattle.std.specs.List.{zip, enumerate_from, filter_map}
use Rattle.std.specs.Result.{result_ok}
use Rattle.std.proofs.lemmas.Slice.Zip.{AllZip-long}
use Rattle.mn_base.specs.declared.causes.Unbound.{Unbound}
use Rattle.topo.specs.TopologyView.{TopologyView}
use Rattle.pcap_io.specs.Capture.{Capture, trace_base}
use Rattle.distill.specs.Distilled.{DistilledView}
use Rattle.changes.specs.declared.split.Change.{Change}
use Rattle.ownership.specs.Directory.{DirectoryView}
use Rattle.journal.specs.declared.setup.PacketPlan.{PacketPlan}
use Rattle.journal.specs.SetupView.{SetupView}
use Rattle.plan.specs.declared.options.Options.{Options}
use Rattle.plan.specs.Binding.{Binding}
use Rattle.plan.specs.Grounds.{Grounds, grounds_of}
use Rattle.plan.specs.Plans.{plan_if_bound}
use Rattle.plan.specs.Answers.{AreAnswered, IsBindingBy, bytes_if_answered, cause_of_answer}
use Rattle.plan.specs.Setups.{IsSetupWith, IsSetupOf, IsPlanOver}
use Rattle.plan.specs.PlannedView.{PlannedView}
use Rattle.plan.proofs.AllAnswers.{bound_by, bytes_by, causes_by}

module _ (t : TopologyView) (d : DistilledView) (directory : DirectoryView) (said : List Change) (trace : Capture) (options : Options)
    {uses : List Binding} {answers : List (Result PacketPlan Unbound)}
    (are : AreAnswered (grounds_of t d directory trace options.tick_ns) trace.packets uses answers) where
  abbrev by : Grounds
  by = grounds_of t d directory trace options.tick_ns

  pub setup_is_of : {routes : List (List ℕ)} {packets : List PacketPlan} {S : SetupView}
      → IsSetupWith options d directory said trace routes packets S → routes ≡ map (λ b. b.route) uses → packets ≡ filter_map result_ok answers
      → IsSetupOf options d directory said trace are.bindings S
  setup_is_of {S = S} is routes_is packets_is = record {
    tick_ns = is.tick_ns;
    seed = is.seed;
    base_ns = is.base_ns;
    link_type = is.link_type;
    cores = is.cores;
    pipes = is.pipes;
    owners = is.owners;
    changes_are = is.changes_are;
    routes_are = is.routes_are ∙ routes_is ∙ ap (map (λ (b : Binding). b.route)) are.uses_are;
    packets_are =
        is.packets_are
        ∙ packets_is
        ∙ ap (filter_map result_ok) are.answers_are
        ∙ bound_by by uses 0 trace.packets are.bindings
        ∙ ap
        (λ (us : List Binding).
        filter_map (plan_if_bound (trace_base trace) options.tick_ns directory.entries us) (enumerate_from 0 (zip trace.packets are.bindings)))
        are.uses_are;
    loss = is.loss;
  }

  pub plan_is_over : (planned : PlannedView)
      → IsSetupWith options d directory said trace (map (λ b. b.route) uses) (filter_map result_ok answers) planned.setup
      → planned.bytes ≡ filter_map (λ p. bytes_if_answered p.0 p.1) (zip trace.packets answers)
      → planned.unbounds ≡ filter_map cause_of_answer (enumerate_from 0 answers) → IsPlanOver t d directory said trace options planned
  plan_is_over planned setup bytes unbounds = record {
    bindings = are.bindings;
    bound = are.bound;
    setup = setup_is_of setup refl refl;
    bytes =
        bytes
        ∙ ap (λ (xs : List (Result PacketPlan Unbound)). filter_map (λ p. bytes_if_answered p.0 p.1) (zip trace.packets xs)) are.answers_are
        ∙ bytes_by by uses 0 trace.packets are.bindings;
    unbounds =
        unbounds
        ∙ ap (λ (xs : List (Result PacketPlan Unbound)). filter_map cause_of_answer (enumerate_from 0 xs)) are.answers_are
        ∙ causes_by by uses 0 trace.packets are.bindings (sym (AllZip-long (IsBindingBy by) trace.packets are.bindings are.bound));
  }

pub map_twice : {X Y Z : Type 0} (f : X → Y) (g : Y → Z) (xs : List X) → map g (map f xs) ≡ map (λ x. g (f x)) xs
map_twice f g [] = refl
map_twice {X} {Y} {Z} f g (x ∷ xs) = ap (λ (rest : List Z). g (f x) ∷ rest) (map_twice f g xs)

-- other names for the same routes, packets and setup
pub with_same : {options : Options} {d : DistilledView} {directory : DirectoryView} {said : List Change} {trace : Capture}
    {routes routes' : List (List ℕ)} {packets packets' : List PacketPlan} {S S' : SetupView}
    → IsSetupWith options d directory said trace routes packets S → routes ≡ routes' → packets ≡ packets' → S' ≡ S
    → IsSetupWith options d directory said trace routes' packets' S'
with_same {options} {d} {directory} {said} {trace} {routes} {routes'} {packets} {packets'} {S} {S'} is same_routes same_packets same =
    subst (IsSetupWith options d directory said trace routes' packets') (sym same)
    (subst (λ (ps : List PacketPlan). IsSetupWith options d directory said trace routes' ps S) same_packets
    (subst (λ (rs : List (List ℕ)). IsSetupWith options d directory said trace rs packets S) same_routes is))
