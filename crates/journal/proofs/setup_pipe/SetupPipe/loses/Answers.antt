use Rattle.std.proofs.Common.{ap, ◌∙◌}
use Rattle.pipe.specs.PipeView.{params_at}
use Rattle.journal.specs.IsPipe.{SetupPipeView}
use Rattle.journal.proofs.AtWork.{never_lost}
use Rattle.journal.proofs.setup_pipe.SetupPipe.loses.Goals as goal

pub returns-then-keep-eq-KEEP_MAX-clause-lost : goal.returns-then-keep-eq-KEEP_MAX-clause-lost
returns-then-keep-eq-KEEP_MAX-clause-lost c = λ h s.
    never_lost c.requires.of_setup c.args.due c.keep_at-keep.result
    (c.keep_at-keep.ensures ∙ ap (λ (m : SetupPipeView). (params_at m.memory c.args.due.tick).keep) c.self.view_is)
    c.if-keep-eq-KEEP_MAX.true h
