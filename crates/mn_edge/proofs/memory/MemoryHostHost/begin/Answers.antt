use Rattle.std.proofs.Common.{arith, set}
use Rattle.std.proofs.lemmas.Grind.{common_steps}
use Rattle.mn_edge.specs.MemoryHostView.{MemoryHostView, stream_of}
use Rattle.mn_edge.proofs.Streams.{Begins-after}
use Rattle.mn_edge.proofs.memory.MemoryHostHost.begin.Goals as goal

pub returns-clause-own : goal.returns-clause-own
returns-clause-own c =
    let host = c.self.inside in
    let after : MemoryHostView = record {
      fails = host.fails.items;
      piece = host.piece;
      streams = set host.streams c.index.result c.begin.new.self;
    } in
    Begins-after c.args.name.now (stream_of c.args.self.now c.args.role) (stream_of after c.args.role) c.begin.result
    (grind (arith, common_steps)) (grind (arith, common_steps))
