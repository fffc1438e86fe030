use Rattle.std.proofs.Common.{arith, set}
use Rattle.std.proofs.lemmas.Grind.{common_steps}
use Rattle.mn_edge.specs.MemoryHostView.{MemoryHostView, stream_of}
use Rattle.mn_edge.proofs.Streams.{Adds-after}
use Rattle.mn_edge.proofs.memory.MemoryHostHost.write.Goals as goal

pub returns-clause-own : goal.returns-clause-own
returns-clause-own c =
    let host = c.self.inside in
    let after : MemoryHostView = record {
      fails = host.fails.items;
      piece = host.piece;
      streams = set host.streams c.index.result c.write.new.self;
    } in
    Adds-after c.args.piece.now (stream_of c.args.self.now c.args.role) (stream_of after c.args.role) c.write.result
    (grind (arith, common_steps)) (grind (arith, common_steps))
