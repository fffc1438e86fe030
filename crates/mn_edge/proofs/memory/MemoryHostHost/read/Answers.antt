use Rattle.std.proofs.Common.{◌≡◌, arith, get_or, set}
use Rattle.std.proofs.lemmas.Grind.{common_steps}
use Rattle.mn_edge.specs.MemoryHostView.{MemoryHostView, stream_of}
use Rattle.mn_edge.proofs.Streams.{Takes-after}
use Rattle.mn_edge.proofs.memory.MemoryHostHost.read.Goals as goal

pub returns-clause-own : goal.returns-clause-own
returns-clause-own c =
    let host = c.self.inside in
    let after : MemoryHostView = record {
      fails = host.fails.items;
      piece = host.piece;
      streams = set host.streams c.index.result c.read.new.self;
    } in
    let was : get_or host.streams c.index.result c.index-self-index.result ≡ stream_of c.args.self.now c.args.role = grind
    (arith, common_steps) in
    Takes-after c.read.new.buffer (stream_of c.args.self.now c.args.role) (stream_of after c.args.role) c.read.result
    (grind (arith, common_steps)) (grind (arith, common_steps)) (rw was at c.read.ensures.bytes)
