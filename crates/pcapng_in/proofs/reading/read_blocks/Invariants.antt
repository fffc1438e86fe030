use Rattle.std.proofs.Common.{◌≡◌, ◌+◌, length}
use Rattle.pcapng_in.specs.Answers.{seen}
use Rattle.pcapng_in.specs.Reading.{ReadsTo}
use Rattle.pcapng_in.proofs.reading.read_blocks.Given as goal

-- the blocks up to here were read, and the next one stands where they end
abbrev pub invariant-steps : goal.invariant-steps
invariant-steps l = record {
  reads : ReadsTo l.text (seen l.state) l.rest;
  place : l.state.place + length l.rest ≡ length l.text;
}

abbrev pub decreases-steps : goal.decreases-steps
decreases-steps l = length l.rest
