use Rattle.std.proofs.Common.{◌≡◌, length, take}
use Rattle.plan.specs.Router.{bindings_of, HoldsAnswers}
use Rattle.plan.specs.Answers.{AreAnswered}
use Rattle.plan.proofs.answering.answer_all.Given as goal

-- the packets so far are answered
abbrev pub invariant-loop-number : goal.invariant-loop-number
invariant-loop-number l = record {
  graph : l.router.searches ≡ l.by.graph;
  holds : HoldsAnswers l.router;
  count : length l.answers.items ≡ l.number;
  answered : AreAnswered l.by (take l.number l.packets) (bindings_of l.router.uses.items) l.answers.items;
}
