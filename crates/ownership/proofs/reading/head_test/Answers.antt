use Rattle.std.proofs.Common.{rules}
use Rattle.mn_base.specs.Fields.{field_of}
use Rattle.ownership.proofs.Numbers.{head_read}
use Rattle.ownership.proofs.reading.head_test.Goals as goal

pub returns : goal.returns
unfolding field_of
returns c = record {
  value =
      head_read c.args.cores c.args.pipes c.args.line.now c.in_ok-head_cores.rest.now c.in_ok-head_pipes.rest.now
      c.in_ok-head_cores.head_cores c.in_ok-head_pipes.head_pipes c.are_head.result (search rules) (search rules) c.are_head.ensures;
}
