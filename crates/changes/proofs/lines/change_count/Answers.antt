use Rattle.std.proofs.Common.{rules}
use Rattle.mn_base.specs.Fields.{field_of}
use Rattle.changes.proofs.Numbers.{head_is_read}
use Rattle.changes.proofs.lines.change_count.Goals as goal

pub returns-clause-value : goal.returns-clause-value
unfolding field_of
returns-clause-value c =
    head_is_read c.args.cores c.args.pipes c.args.line.now c.then_some.result
    (record {
      said_cores = c.in_ok-head_cores.head_cores;
      said_pipes = c.in_ok-head_pipes.head_pipes;
      count = c.in_ok-count.count;
      behind_cores = c.in_ok-head_cores.rest.now;
      behind_pipes = c.in_ok-head_pipes.rest.now;
      behind_count = c.in_ok-count.rest.now;
      cores_read = search rules;
      pipes_read = search rules;
      count_read = search rules;
      ends = search rules;
      is_head = c.is_head.result;
      test = c.is_head.ensures;
      chosen = c.then_some.ensures;
    })
