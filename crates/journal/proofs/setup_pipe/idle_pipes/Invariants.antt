use Rattle.std.proofs.Common.{◌≡◌, ℕ, ◌<◌, ◌≤◌, [], List, length, map, slice_index_or, vec_len}
use Rattle.mn_base.specs.declared.params.PipeParams.{PipeParams}
use Rattle.journal.specs.SetupView.{changes_of}
use Rattle.journal.specs.IsPipe.{SetupPipeView, IsPipe}
use Rattle.journal.proofs.setup_pipe.idle_pipes.Given as goal

abbrev pub invariant-loop-number : goal.invariant-loop-number
invariant-loop-number l = record {
  count : vec_len l.pipes ≡ l.number;
  each : (pipe : ℕ) (d : SetupPipeView) → pipe < length l.pipes.items → IsPipe l.fn.setup [] pipe (slice_index_or l.pipes.items pipe d);
  lists : vec_len l.lists ≡ length l.fn.setup.pipes;
  ahead : (pipe : ℕ) (d : List (ℕ × PipeParams)) → l.number ≤ pipe → pipe < length l.fn.setup.pipes
      → slice_index_or (map (λ list. list.items) l.lists.items) pipe d ≡ changes_of l.fn.setup pipe;
}
