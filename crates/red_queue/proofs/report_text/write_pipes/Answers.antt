use Rattle.std.proofs.Common.{ap, ◌∙◌}
use Rattle.std.specs.Prelude.{string_bytes}
use Rattle.red_queue.specs.Report.{counts_text, pipe_text}
use Rattle.red_queue.proofs.Reports.{texts-next}
use Rattle.red_queue.proofs.report_text.write_pipes.Goals as goal

pub loop-pipe-preserved : goal.loop-pipe-preserved
loop-pipe-preserved c =
    texts-next (pipe_text c.args.visits.now) c.loop-pipe.pipe (string_bytes c.args.text.now) (string_bytes c.loop-pipe.text)
    (string_bytes c.write_pipe.new.text) _ c.loop-pipe.invariant c.in_ok-write_pipe.ensures
    (ap (counts_text c.loop-pipe.pipe) (c.index.ensures ∙ c.in_ok-all_counts.ensures.each c.loop-pipe.pipe _ c.loop-pipe-test.true))
