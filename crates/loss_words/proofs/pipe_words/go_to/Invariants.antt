use Rattle.std.proofs.Common.{◌≡◌}
use Rattle.loss_words.proofs.pipe_words.go_to.Given as goal

abbrev pub invariant-loop : goal.invariant-loop
invariant-loop l = l.generator ≡ record l.initial.generator { word_pos = l.counter }
