use Rattle.std.proofs.Common.{sym, ◌∙◌}
use Rattle.plan.specs.declared.uses.Use.{Use}
use Rattle.plan.specs.Binding.{Binding}
use Rattle.plan.specs.Router.{binding_of}
use Rattle.plan.proofs.Latencies.{distilled_usual}
use Rattle.plan.proofs.PlanSetup.{plan_is_setup}
use Rattle.plan.proofs.WholePlan.{setup_is_of, map_twice, with_same}
use Rattle.plan.proofs.parts.setup_of.Goals as goal

pub new-requires : goal.new-requires
new-requires c =
    let of = setup_is_of c.args.topology.now c.args.distilled.now c.args.directed.now.directory c.args.directed.now.changes.items c.args.trace.now
    c.args.options.now c.requires.answered c.in_ok-parts.ensures.parts
    (rw c.in_ok-routes.ensures (map_twice (λ (u : Use). u.route) (λ route. route.items) c.args.uses.items
    ∙ sym (map_twice binding_of (λ (b : Binding). b.route) c.args.uses.items)))
    c.in_ok-packets.ensures in
    let s = plan_is_setup c.args.topology.now c.args.distilled.now c.args.directed.now.directory c.args.directed.now.changes.items c.args.trace.now
    c.args.options.now c.requires.answered.bindings c.in_ok-parts.parts
    (record {
      options_are = c.requires.options;
      trace_is = c.in_ok-parts.ensures.trace;
      times = c.requires.times;
      base = c.in_ok-parts.ensures.base;
      limits = c.in_ok-parts.ensures.limits;
      nodes = c.requires.distilled.nodes;
      usual = distilled_usual c.args.topology.now c.args.options.now.mode c.args.options.now.tick_ns c.args.distilled.now c.requires.distilled;
      fit = c.requires.fit;
    })
    c.requires.answered.bound of in
    record {
      tick = s.tick;
      link_type = s.link_type;
      cores_least = s.cores_least;
      cores_most = s.cores_most;
      pipes_most = s.pipes_most;
      one_owner = s.one_owner;
      owners = s.owners;
      routes_most = s.routes_most;
      routes_named = s.routes_named;
      routes_distinct = s.routes_distinct;
      numbers_rise = s.numbers_rise;
      numbers_most = s.numbers_most;
      lens_most = s.lens_most;
      packet_routes = s.packet_routes;
      packet_cores = s.packet_cores;
      changes_rise = s.changes_rise;
      changes_named = s.changes_named;
      entries_fit = s.entries_fit;
      times_fit = s.times_fit;
      delays_fit = s.delays_fit;
    }

pub returns : goal.returns
returns c =
    with_same c.in_ok-parts.ensures.parts
    (rw c.in_ok-routes.ensures (map_twice (λ (u : Use). u.route) (λ route. route.items) c.args.uses.items
    ∙ sym (map_twice binding_of (λ (b : Binding). b.route) c.args.uses.items)))
    c.in_ok-packets.ensures c.new.ensures
