use Rattle.std.proofs.Common.{◌≡◌, take}
use Rattle.std.specs.List.{filter_map, enumerate_from}
use Rattle.plan.specs.Answers.{cause_of_answer}
use Rattle.plan.proofs.answering.unbound.Given as goal

-- the causes so far
abbrev pub invariant-loop-number : goal.invariant-loop-number
invariant-loop-number l = l.unbounds.items ≡ filter_map cause_of_answer (enumerate_from 0 (take l.number l.answers))
