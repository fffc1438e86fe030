use Rattle.modelnet.proofs.ChainSetup.{is_setup}
use Rattle.modelnet.proofs.chain_setup.chain_setup.Goals as goal

pub new-requires : goal.new-requires
new-requires c =
    let s = is_setup c.args.order.now c.args.trace.now c.in_ok-parts.parts c.requires.order
    c.requires.trace c.requires.times c.in_ok-parts.ensures in
    record {
      tick = s.tick;
      link_type = s.link_type;
      cores_least = s.cores_least;
      cores_most = s.cores_most;
      pipes_most = s.pipes_most;
      one_owner = s.one_owner;
      owners = s.owners;
      routes_most = s.routes_most;
      routes_named = s.routes_named;
      routes_distinct = s.routes_distinct;
      numbers_rise = s.numbers_rise;
      numbers_most = s.numbers_most;
      lens_most = s.lens_most;
      packet_routes = s.packet_routes;
      packet_cores = s.packet_cores;
      changes_rise = s.changes_rise;
      changes_named = s.changes_named;
      entries_fit = s.entries_fit;
      times_fit = s.times_fit;
      delays_fit = s.delays_fit;
    }
