use Rattle.std.proofs.Common.{◌==◌, cond, ℕ, List, None, ap, ◌∙◌}
use Rattle.journal.specs.IsPipe.{SetupPipeView}
use Rattle.migrate.specs.ShelvesView.{pipe_in}
use Rattle.migrate.proofs.pipe_table.PipeTable.take.Goals as goal

pub returns-clause-others : goal.returns-clause-others
returns-clause-others c = λ other.
    c.remove.ensures.updates.0 other
    ∙ ap (λ (es : List (ℕ × SetupPipeView)). cond (c.args.number == other) None (pipe_in es other)) c.self.view_is
