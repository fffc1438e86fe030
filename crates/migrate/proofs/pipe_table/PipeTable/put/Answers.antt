use Rattle.std.proofs.Common.{◌==◌, cond, ℕ, List, Some, ap, ◌∙◌}
use Rattle.journal.specs.IsPipe.{SetupPipeView}
use Rattle.migrate.specs.ShelvesView.{pipe_in}
use Rattle.migrate.proofs.pipe_table.PipeTable.put.Goals as goal

pub returns : goal.returns
returns c = λ other.
    c.in_ok-insert.ensures.updates.0 other
    ∙ ap (λ (es : List (ℕ × SetupPipeView)). cond (c.args.number == other) (Some c.args.pipe) (pipe_in es other)) c.self.view_is
