-- An input has one plan: what each of its parts is said to be decides that part.
use Rattle.std.proofs.Common.{◌≡◌, ℕ, inl, inr, List, [], ◌∷◌, length, Option, Some, None, Result, Ok, Err, refl, sym, ap, ◌∙◌, subst, arith}
use Rattle.std.specs.List.{AllZip}
use Rattle.mn_base.specs.declared.params.PipeParams.{PipeParams}
use Rattle.mn_base.specs.declared.causes.Unbound.{Unbound}
use Rattle.mn_base.specs.declared.causes.Unbound.TheVariants.{Short, NotIpv4, NoSource, NoDestination, NoRoute, TooFar}
use Rattle.topo.specs.TopologyView.{TopologyView}
use Rattle.routes.specs.declared.graph.Arc.{Arc}
use Rattle.routes.proofs.OneLeastWalk.{one_least_walk}
use Rattle.pcap_io.specs.Capture.{Capture, trace_base}
use Rattle.distill.specs.Distilled.{DistilledView}
use Rattle.distill.specs.Latency.{arcs_of_pipes}
use Rattle.distill.proofs.OneDistilled.{one_params, one_distilled}
use Rattle.changes.specs.SplitView.{SplitView}
use Rattle.changes.specs.declared.split.Change.{Change}
use Rattle.changes.proofs.Readings as said
use Rattle.ownership.specs.Directory.{DirectoryView}
use Rattle.ownership.specs.Reading.{Directs}
use Rattle.ownership.proofs.Readings as directories
use Rattle.journal.specs.declared.setup.PipeChange.{PipeChange}
use Rattle.journal.specs.declared.setup.PacketPlan.{PacketPlan}
use Rattle.journal.specs.declared.setup.LossBy.{LossBy}
use Rattle.journal.specs.SetupView.{SetupView}
use Rattle.plan.specs.declared.options.Options.{Options}
use Rattle.plan.specs.Binding.{Binding, ends_of, IsRouted, IsBindingOf, IsBinding}
use Rattle.plan.specs.Plans.{routes_of, bound_packets, bound_bytes, unbound_packets}
use Rattle.plan.specs.Setups.{IsChangeTo, AreDirected, IsDirectedBy, IsSetupWith, IsSetupOf, AreBindings, IsPlanOver}
use Rattle.plan.specs.PlannedView.{PlannedView}
use Rattle.plan.specs.Laws.{OnePlan}

-- what is related to each item of a list in one way is one list
pub related_once : {A B : Type 0} (R : A → B → Type 0) → ((x : A) (y z : B) → R x y → R x z → y ≡ z)
    → (xs : List A) (ys zs : List B) → AllZip R xs ys → AllZip R xs zs → ys ≡ zs
related_once R once [] [] [] is also = refl
related_once R once [] [] (z ∷ zs) is also = absurd also
related_once R once [] (y ∷ ys) zs is also = absurd is
related_once R once (x ∷ xs) [] zs is also = absurd is
related_once R once (x ∷ xs) (y ∷ ys) [] is also = absurd also
related_once {A} {B} R once (x ∷ xs) (y ∷ ys) (z ∷ zs) is also =
    ap (λ (r : B). r ∷ ys) (once x y z is.0 also.0) ∙ ap (λ (rs : List B). z ∷ rs) (related_once R once xs ys zs is.1 also.1)

-- ---- changes
unfoldable change_of_parts : ℕ → ℕ → PipeParams → PipeChange
change_of_parts tick pipe params = record { tick = tick; pipe = pipe; params = params }

same_change_parts : (c e : PipeChange) → c.tick ≡ e.tick → c.pipe ≡ e.pipe → c.params ≡ e.params
    → change_of_parts c.tick c.pipe c.params ≡ change_of_parts e.tick e.pipe e.params
same_change_parts c e tick pipe params = cc

-- the numbers of a change decide it
pub one_change : (tick_ns : ℕ) (numbers : Change) (c e : PipeChange) → IsChangeTo tick_ns numbers c → IsChangeTo tick_ns numbers e → c ≡ e
unfolding change_of_parts
one_change tick_ns numbers c e is also =
    same_change_parts c e (is.tick ∙ sym also.tick) (is.pipe ∙ sym also.pipe)
    (one_params _ _ _ _ _ c.params e.params is.params also.params)

-- ---- what a packet is bound to
-- the nodes are those of the binding, as one of the two is
same_ends : (a b s d : ℕ) (ends : Result (ℕ × ℕ) Unbound) → ends ≡ Ok (a, b) → ends ≡ Ok (s, d) → (a ≡ s) × (b ≡ d)
same_ends a b s d ends is also =
    let same = sym is ∙ also in
    let pairs : (a, b) ≡ (s, d) = cc in
    (ap (λ (e : ℕ × ℕ). e.0) pairs, ap (λ (e : ℕ × ℕ). e.1) pairs)

-- there is one least walk, and it is short or too long
routed_once : (arcs : List Arc) (s d : ℕ) (r q : Result (List ℕ) Unbound) → IsRouted arcs s d r → IsRouted arcs s d q → r ≡ q
routed_once arcs s d (Ok route) (Ok other) is also = ap (λ (w : List ℕ). Ok w) (one_least_walk arcs s d route other is.0 also.0)
routed_once arcs s d (Ok route) (Err NoRoute) is also = absurd (also route is.0.walk)
routed_once arcs s d (Ok route) (Err TooFar) is also =
    let same = one_least_walk arcs s d route also.0 is.0 also.1 in
    let short = is.1 in
    let long = also.2 in
    absurd (omega (arith, ap length same, short, long))
routed_once arcs s d (Ok route) (Err Short) is also = absurd also
routed_once arcs s d (Ok route) (Err NotIpv4) is also = absurd also
routed_once arcs s d (Ok route) (Err NoSource) is also = absurd also
routed_once arcs s d (Ok route) (Err NoDestination) is also = absurd also
routed_once arcs s d (Err Short) q is also = absurd is
routed_once arcs s d (Err NotIpv4) q is also = absurd is
routed_once arcs s d (Err NoSource) q is also = absurd is
routed_once arcs s d (Err NoDestination) q is also = absurd is
routed_once arcs s d (Err NoRoute) (Ok other) is also = absurd (is other also.0.walk)
routed_once arcs s d (Err NoRoute) (Err NoRoute) is also = refl
routed_once arcs s d (Err NoRoute) (Err TooFar) is also = absurd (is also.0 also.1.walk)
routed_once arcs s d (Err NoRoute) (Err Short) is also = absurd also
routed_once arcs s d (Err NoRoute) (Err NotIpv4) is also = absurd also
routed_once arcs s d (Err NoRoute) (Err NoSource) is also = absurd also
routed_once arcs s d (Err NoRoute) (Err NoDestination) is also = absurd also
routed_once arcs s d (Err TooFar) (Ok other) is also =
    let same = one_least_walk arcs s d other is.0 also.0 is.1 in
    let short = also.1 in
    let long = is.2 in
    absurd (omega (arith, ap length same, short, long))
routed_once arcs s d (Err TooFar) (Err NoRoute) is also = absurd (also is.0 is.1.walk)
routed_once arcs s d (Err TooFar) (Err TooFar) is also = refl
routed_once arcs s d (Err TooFar) (Err Short) is also = absurd also
routed_once arcs s d (Err TooFar) (Err NotIpv4) is also = absurd also
routed_once arcs s d (Err TooFar) (Err NoSource) is also = absurd also
routed_once arcs s d (Err TooFar) (Err NoDestination) is also = absurd also

-- the same where the nodes are known to be equal
routed_between : (arcs : List Arc) (ends : Result (ℕ × ℕ) Unbound) (a b s d : ℕ) (r q : Result (List ℕ) Unbound) → ends ≡ Ok (a, b)
    → ends ≡ Ok (s, d) → IsRouted arcs a b r → IsRouted arcs s d q → r ≡ q
routed_between arcs ends a b s d r q is also first second =
    let same = same_ends a b s d ends is also in
    routed_once arcs s d r q
    (subst (λ (n : ℕ). IsRouted arcs s n r) same.1 (subst (λ (n : ℕ). IsRouted arcs n b r) same.0 first)) second

unfoldable binding_of_parts : ℕ → ℕ → List ℕ → Binding
binding_of_parts source destination route = record { source = source; destination = destination; route = route }

same_binding_parts : (b c : Binding) → b.source ≡ c.source → b.destination ≡ c.destination → b.route ≡ c.route
    → binding_of_parts b.source b.destination b.route ≡ binding_of_parts c.source c.destination c.route
same_binding_parts b c source destination route = cc

same_binding : (b c : Binding) → b.source ≡ c.source → b.destination ≡ c.destination → b.route ≡ c.route → b ≡ c
unfolding binding_of_parts
same_binding b c source destination route = same_binding_parts b c source destination route

-- a packet is bound to one route, or unbound for one cause
one_binding : (arcs : List Arc) (ends : Result (ℕ × ℕ) Unbound) (x y : Result Binding Unbound) → IsBindingOf arcs ends x → IsBindingOf arcs ends y
    → x ≡ y
one_binding arcs ends (Ok b) (Ok c) is also =
    let nodes = same_ends b.source b.destination c.source c.destination ends is.0 also.0 in
    let routes = routed_between arcs ends b.source b.destination c.source c.destination (Ok b.route) (Ok c.route) is.0 also.0 is.1 also.1 in
    let route : b.route ≡ c.route = cc in
    ap (λ (z : Binding). Ok z) (same_binding b c nodes.0 nodes.1 route)
one_binding arcs ends (Ok b) (Err cause) is (inl unbound) = let both = sym is.0 ∙ unbound in cc
one_binding arcs ends (Ok b) (Err cause) is (inr none) =
    let both =
    routed_between arcs ends b.source b.destination none.source none.destination (Ok b.route) (Err cause) is.0 none.ends_are is.1 none.routed in
    cc
one_binding arcs ends (Err cause) (Ok c) (inl unbound) also = let both = sym also.0 ∙ unbound in cc
one_binding arcs ends (Err cause) (Ok c) (inr none) also =
    let both =
    routed_between arcs ends none.source none.destination c.source c.destination (Err cause) (Ok c.route) none.ends_are also.0 none.routed also.1 in
    cc
one_binding arcs ends (Err cause) (Err other) (inl unbound) (inl again) =
    let both = sym unbound ∙ again in
    let same : cause ≡ other = cc in
    ap (λ (z : Unbound). Err z) same
one_binding arcs ends (Err cause) (Err other) (inl unbound) (inr none) = let both = sym unbound ∙ none.ends_are in cc
one_binding arcs ends (Err cause) (Err other) (inr none) (inl unbound) = let both = sym unbound ∙ none.ends_are in cc
one_binding arcs ends (Err cause) (Err other) (inr none) (inr more) =
    let both =
    routed_between arcs ends none.source none.destination more.source more.destination (Err cause) (Err other) none.ends_are more.ends_are
    none.routed more.routed in
    let same : cause ≡ other = cc in
    ap (λ (z : Unbound). Err z) same

-- ---- a directory and changes
text_directs_once : (d : DistilledView) (cores : ℕ) (text : List ℕ) (v w : DirectoryView) (cs es : List Change) → AreDirected d cores text v cs
    → AreDirected d cores text w es → (v ≡ w) × (cs ≡ es)
text_directs_once d cores text v w cs es is also =
    let same =
    said.one_reading text cores (length d.pipes) (record { directory = is.first_version; changes = cs })
    (record { directory = also.first_version; changes = es }) is.split also.split in
    let first_version : is.first_version ≡ also.first_version = ap (λ (s : SplitView). s.directory) same in (
      directories.one_reading also.first_version d cores v w (subst (λ (t : List ℕ). Directs t d cores v) first_version is.directs) also.directs,
      ap (λ (s : SplitView). s.changes) same,
    )

directed_once : (d : DistilledView) (cores : ℕ) (text : Option (List ℕ)) (v w : DirectoryView) (cs es : List Change)
    → IsDirectedBy d cores text v cs → IsDirectedBy d cores text w es → (v ≡ w) × (cs ≡ es)
directed_once d cores None v w cs es is also = (is.0 ∙ sym also.0, is.1 ∙ sym also.1)
directed_once d cores (Some text) v w cs es is also = text_directs_once d cores text v w cs es is also

-- ---- a setup
unfoldable setup_of_parts : ℕ → ℕ → ℕ → ℕ → ℕ → List PipeParams → List ℕ → List (List ℕ) → List PacketPlan
    → List PipeChange → LossBy → SetupView
setup_of_parts tick_ns seed base_ns link_type cores pipes owners routes packets changes loss = record {
  tick_ns = tick_ns;
  seed = seed;
  base_ns = base_ns;
  link_type = link_type;
  cores = cores;
  pipes = pipes;
  owners = owners;
  routes = routes;
  packets = packets;
  changes = changes;
  loss = loss;
}

abbrev rebuilt : SetupView → SetupView
rebuilt S = setup_of_parts S.tick_ns S.seed S.base_ns S.link_type S.cores S.pipes S.owners S.routes S.packets S.changes S.loss

module _ (options : Options) (d : DistilledView) (directory : DirectoryView) (numbers : List Change) (trace : Capture) where
  same_setup_parts : (routes : List (List ℕ)) (packets : List PacketPlan) (S R : SetupView)
      → IsSetupWith options d directory numbers trace routes packets S → IsSetupWith options d directory numbers trace routes packets R
      → rebuilt S ≡ rebuilt R
  same_setup_parts routes packets S R is also =
      let changes : S.changes ≡ R.changes =
      related_once (IsChangeTo options.tick_ns) (one_change options.tick_ns) numbers S.changes R.changes is.changes_are also.changes_are in
      cc

  -- the parts of a setup decide it
  one_setup : (routes : List (List ℕ)) (packets : List PacketPlan) (S R : SetupView)
      → IsSetupWith options d directory numbers trace routes packets S → IsSetupWith options d directory numbers trace routes packets R
      → S ≡ R
  unfolding setup_of_parts
  one_setup routes packets S R is also = same_setup_parts routes packets S R is also

-- ---- a plan
unfoldable planned_of_parts : SetupView → List (List ℕ) → List (ℕ × Unbound) → PlannedView
planned_of_parts setup bytes unbounds = record { setup = setup; bytes = bytes; unbounds = unbounds }

same_planned_parts : (p q : PlannedView) → p.setup ≡ q.setup → p.bytes ≡ q.bytes → p.unbounds ≡ q.unbounds
    → planned_of_parts p.setup p.bytes p.unbounds ≡ planned_of_parts q.setup q.bytes q.unbounds
same_planned_parts p q setup bytes unbounds = cc

same_planned : (p q : PlannedView) → p.setup ≡ q.setup → p.bytes ≡ q.bytes → p.unbounds ≡ q.unbounds → p ≡ q
unfolding planned_of_parts
same_planned p q setup bytes unbounds = same_planned_parts p q setup bytes unbounds

-- a trace is bound to one list of bindings
pub bindings_once : (t : TopologyView) (d : DistilledView) (trace : Capture) (bs cs : List (Result Binding Unbound)) → AreBindings t d trace bs
    → AreBindings t d trace cs → bs ≡ cs
bindings_once t d trace bs cs is also =
    related_once (λ packet binding. IsBinding t.nodes (arcs_of_pipes d.pipes) trace.link_type packet.bytes binding)
    (λ packet. one_binding (arcs_of_pipes d.pipes) (ends_of t.nodes trace.link_type packet.bytes)) trace.packets bs cs is also

-- over one distilled topology, with one directory and one list of changes
planned_over_once : (t : TopologyView) (d : DistilledView) (directory : DirectoryView) (numbers : List Change) (trace : Capture)
    (options : Options) (p q : PlannedView) → IsPlanOver t d directory numbers trace options p → IsPlanOver t d directory numbers trace options q
    → p ≡ q
planned_over_once t d directory numbers trace options p q is also =
    let bindings = bindings_once t d trace is.bindings also.bindings is.bound also.bound in
    let setup = subst (λ (bs : List (Result Binding Unbound)). IsSetupOf options d directory numbers trace bs p.setup) bindings is.setup in
    same_planned p q
    (one_setup options d directory numbers trace (routes_of also.bindings)
    (bound_packets (trace_base trace) options.tick_ns directory.entries trace.packets also.bindings) p.setup q.setup setup also.setup)
    (is.bytes ∙ ap (bound_bytes trace.packets) bindings ∙ sym also.bytes) (is.unbounds ∙ ap unbound_packets bindings ∙ sym also.unbounds)

pub one_plan : OnePlan
one_plan t trace options text p q is also =
    let distilled = one_distilled t options.mode options.tick_ns is.distilled also.distilled is.distills also.distills in
    let directed =
    directed_once also.distilled options.cores text is.directory also.directory is.changes also.changes
    (subst (λ (d : DistilledView). IsDirectedBy d options.cores text is.directory is.changes) distilled is.directed) also.directed in
    let over : IsPlanOver t also.distilled also.directory also.changes trace options p =
    subst (λ (cs : List Change). IsPlanOver t also.distilled also.directory cs trace options p) directed.1
    (subst (λ (v : DirectoryView). IsPlanOver t also.distilled v is.changes trace options p) directed.0
    (subst (λ (d : DistilledView). IsPlanOver t d is.directory is.changes trace options p) distilled is.plans)) in
    planned_over_once t also.distilled also.directory also.changes trace options p q over also.plans
