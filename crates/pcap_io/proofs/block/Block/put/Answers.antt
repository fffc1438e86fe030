use Rattle.std.proofs.Common.{◌≡◌, [], ◌∙◌, arith}
use Rattle.mn_edge.specs.Part.{Adds}
use Rattle.pcap_io.proofs.Blocks.{AddsBuffered-whole}
use Rattle.pcap_io.proofs.block.Block.put.Goals as goal
use Rattle.pcap_io.proofs.block.Block.put.Goals.{then-piece-len+in_ok-flush, else-piece-len}

-- what is longer than a block doesn't fit after its bytes, so these were handed over
pub returns-then-piece-gt-BLOCK_BYTES-clause-own : goal.returns-then-piece-gt-BLOCK_BYTES-clause-own
returns-then-piece-gt-BLOCK_BYTES-clause-own g c =
    elim c.if-piece-len.branch [
      | then-piece-len+in_ok-flush w ↦
          let part = g.H.Host.part in
          let role = c.args.role in
          let added : Adds c.args.self.now (part c.args.host.now role) (part c.if-piece-len.host role) = rw w.host-is w.in_ok-flush.ensures.own in
          let empty : c.if-piece-len.self ≡ [] = w.self-is ∙ w.in_ok-flush.ensures.empty in
          rw empty (AddsBuffered-whole _ _ _ c.args.self.now c.args.piece.now c.write_all.result added c.write_all.ensures.own)
      | else-piece-len w ↦ absurd (omega arith)
    ]
