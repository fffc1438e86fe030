-- The setup of an input.
use Rattle.std.specs.Prelude.{◌≡◌, ℕ, ◌≤◌, List, [], length, map, Option, Some, None, Result, option_map}
use Rattle.std.specs.Borrow.{Bor}
use Rattle.std.specs.List.{AllZip}
use Rattle.mn_base.specs.declared.limits.TheConstants.{PIPES_MAX}
use Rattle.mn_base.specs.Units.{keep}
use Rattle.mn_base.specs.Params.{IsParamsOf}
use Rattle.mn_base.specs.declared.causes.Unbound.{Unbound}
use Rattle.topo.specs.TopologyView.{TopologyView}
use Rattle.pcap_io.specs.Capture.{Capture, trace_base}
use Rattle.distill.specs.Distilled.{DistilledView, IsDistilled}
use Rattle.changes.specs.declared.split.Change.{Change}
use Rattle.changes.specs.Splits.{SplitsTo}
use Rattle.ownership.specs.Directory.{DirectoryView}
use Rattle.ownership.specs.Assignment.{assignment}
use Rattle.ownership.specs.Reading.{Directs}
use Rattle.journal.specs.declared.setup.PipeChange.{PipeChange}
use Rattle.journal.specs.declared.setup.PacketPlan.{PacketPlan}
use Rattle.journal.specs.SetupView.{SetupView}
use Rattle.plan.specs.declared.options.Options.{Options}
use Rattle.distill.specs.Latency.{arcs_of_pipes}
use Rattle.plan.specs.Binding.{Binding, IsBinding}
use Rattle.plan.specs.Plans.{routes_of, bound_packets, bound_bytes, unbound_packets}
use Rattle.plan.specs.PlannedView.{PlannedView}

-- a change of a pipe with the parameters of its numbers: latency in ticks is rounded up, loss is a keep
pub record IsChangeTo (tick_ns : ℕ) (said : Change) (change : PipeChange) : Type 0 where
  pub tick : change.tick ≡ said.tick
  pub pipe : change.pipe ≡ said.pipe
  pub params : IsParamsOf tick_ns said.bps said.latency_us said.queue (keep said.ppm) change.params

-- owners, entry cores and changes by a directory text
pub record AreDirected (d : DistilledView) (cores : ℕ) (text : List ℕ) (directory : DirectoryView) (changes : List Change) : Type 0 where
  pub first_version : List ℕ
  pub split : SplitsTo text cores (length d.pipes) (record { directory = first_version; changes = changes })
  pub directs : Directs first_version d cores directory

-- owners, entry cores and changes: those of a directory text, if there is one, or of the assignment, without changes
abbrev pub IsDirectedBy : DistilledView → ℕ → Option (List ℕ) → DirectoryView → List Change → Type 0
IsDirectedBy d cores None directory changes = (directory ≡ assignment d cores) × (changes ≡ [])
IsDirectedBy d cores (Some text) directory changes = AreDirected d cores text directory changes

-- S is the setup of a distilled topology, a directory and changes, a trace, and these routes and packets
pub record IsSetupWith (options : Options) (d : DistilledView) (directory : DirectoryView) (changes : List Change) (trace : Capture)
    (routes : List (List ℕ)) (packets : List PacketPlan) (S : SetupView) : Type 0 where
  pub tick_ns : S.tick_ns ≡ options.tick_ns
  pub seed : S.seed ≡ options.seed
  pub base_ns : S.base_ns ≡ trace_base trace
  pub link_type : S.link_type ≡ trace.link_type
  pub cores : S.cores ≡ options.cores
  pub pipes : S.pipes ≡ map (λ pipe. pipe.params) d.pipes
  pub owners : S.owners ≡ directory.owners
  pub changes_are : AllZip (IsChangeTo options.tick_ns) changes S.changes
  pub routes_are : S.routes ≡ routes
  pub packets_are : S.packets ≡ packets
  pub loss : S.loss ≡ options.loss

-- the same with the routes and the packets of a trace whose packets are bound so
abbrev pub IsSetupOf : Options → DistilledView → DirectoryView → List Change → Capture → List (Result Binding Unbound) → SetupView → Type 0
IsSetupOf options d directory changes trace bindings S =
    IsSetupWith options d directory changes trace (routes_of bindings)
    (bound_packets (trace_base trace) options.tick_ns directory.entries trace.packets bindings) S

-- what a trace is bound to over a distilled topology of these nodes
abbrev pub AreBindings : TopologyView → DistilledView → Capture → List (Result Binding Unbound) → Type 0
AreBindings t d trace bindings =
    AllZip (λ packet binding. IsBinding t.nodes (arcs_of_pipes d.pipes) trace.link_type packet.bytes binding) trace.packets bindings

-- the plan of a trace over a distilled topology with a directory and changes
pub record IsPlanOver (t : TopologyView) (d : DistilledView) (directory : DirectoryView) (changes : List Change) (trace : Capture)
    (options : Options) (planned : PlannedView) : Type 0 where
  pub bindings : List (Result Binding Unbound)
  pub bound : AreBindings t d trace bindings
  pub setup : IsSetupOf options d directory changes trace bindings planned.setup
  pub bytes : planned.bytes ≡ bound_bytes trace.packets bindings
  pub unbounds : planned.unbounds ≡ unbound_packets bindings

-- the plan of a topology, a trace, options and a directory text, if there is one
pub record IsPlan (t : TopologyView) (trace : Capture) (options : Options) (text : Option (List ℕ)) (planned : PlannedView) : Type 0 where
  pub distilled : DistilledView
  pub distills : IsDistilled t options.mode options.tick_ns distilled
  pub few : length distilled.pipes ≤ PIPES_MAX
  pub directory : DirectoryView
  pub changes : List Change
  pub directed : IsDirectedBy distilled options.cores text directory changes
  pub plans : IsPlanOver t distilled directory changes trace options planned

-- a directory text as its bytes
abbrev pub given_text : Option (Bor (List ℕ)) → Option (List ℕ)
given_text text = option_map (λ t. t.now) text
