-- `distill` is sound: a topology has one text of pipes.
use Rattle.std.proofs.Common.{◌≡◌, ℕ, List, sym, ◌∙◌, ap}
use Rattle.mn_words.specs.Order.{DistillView}
use Rattle.report.specs.Pipes.{pipes_text}
use Rattle.modelnet.specs.declared.read_limits.ReadLimits.{ReadLimits}
use Rattle.modelnet.specs.Distilling.{SaysPipes}
use Rattle.modelnet.specs.Exact.{IsSoundCommand}
use Rattle.modelnet.specs.TheCommands.{distill_command}
use Rattle.modelnet.proofs.TopologySound.{IsToldOnce, refusals, one_refusal, one_topology, one_distilling, refused_or_told, told_once}

one_screen : (order : DistillView) (text screen other : List ℕ) → SaysPipes order text screen → SaysPipes order text other → screen ≡ other
one_screen order text screen other says also =
    let mode = order.mode in
    let tick = order.tick_ns in
    let same = one_topology mode tick text says.topology also.topology says.distilled also.distilled says.distils also.distils in
    let one = one_distilling mode tick text says.topology also.topology says.distilled also.distilled says.distils also.distils in
    says.screen_is ∙ ap (λ t. pipes_text t says.distilled mode tick) same ∙ ap (λ d. pipes_text also.topology d mode tick) one
    ∙ sym also.screen_is

pipes_are_told : (order : DistillView) → IsToldOnce order.mode order.tick_ns (SaysPipes order)
pipes_are_told order = record {
  distils = λ text screen says. (says.topology, says.distilled, says.distils);
  one_screen = one_screen order;
}

pub distill_is_sound : (limits : ReadLimits) (order : DistillView) → IsSoundCommand (distill_command limits order)
distill_is_sound limits order = record {
  refusals = refusals order.mode;
  one_refusal = one_refusal order.mode;
  never_both = refused_or_told order.mode order.tick_ns (SaysPipes order) (pipes_are_told order);
  one_output = told_once order.mode order.tick_ns (SaysPipes order) (pipes_are_told order);
}
