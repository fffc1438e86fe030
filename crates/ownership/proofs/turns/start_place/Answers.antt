use Rattle.std.proofs.Common.{arith}
use Rattle.ownership.proofs.Places.{place_fits}
use Rattle.ownership.proofs.turns.start_place.Goals as goal

pub overflow_cast-result : goal.overflow_cast-result
overflow_cast-result c =
    let most = place_fits c.args.core c.args.cores c.args.edge_nodes c.requires in
    omega (arith, most)
