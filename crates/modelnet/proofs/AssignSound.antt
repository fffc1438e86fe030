-- `assign` is sound: the pipes of a topology have one assignment.
use Rattle.std.proofs.Common.{◌≡◌, ℕ, List, sym, ◌∙◌, ap}
use Rattle.mn_base.specs.declared.limits.TheConstants.{TICK_NS_DEFAULT}
use Rattle.mn_words.specs.Order.{AssignView}
use Rattle.ownership.specs.Assignment.{assignment}
use Rattle.ownership.specs.Texts.{directory_text}
use Rattle.modelnet.specs.declared.read_limits.ReadLimits.{ReadLimits}
use Rattle.modelnet.specs.Distilling.{SaysOwners}
use Rattle.modelnet.specs.Exact.{IsSoundCommand}
use Rattle.modelnet.specs.TheCommands.{assign_command}
use Rattle.modelnet.proofs.TopologySound.{IsToldOnce, refusals, one_refusal, one_distilling, refused_or_told, told_once}

one_screen : (order : AssignView) (text screen other : List ℕ) → SaysOwners order text screen → SaysOwners order text other → screen ≡ other
one_screen order text screen other says also =
    let one = one_distilling order.mode TICK_NS_DEFAULT text says.topology also.topology says.distilled also.distilled says.distils also.distils in
    says.screen_is ∙ ap (λ d. directory_text (assignment d order.cores)) one ∙ sym also.screen_is

owners_are_told : (order : AssignView) → IsToldOnce order.mode TICK_NS_DEFAULT (SaysOwners order)
owners_are_told order = record {
  distils = λ text screen says. (says.topology, says.distilled, says.distils);
  one_screen = one_screen order;
}

pub assign_is_sound : (limits : ReadLimits) (order : AssignView) → IsSoundCommand (assign_command limits order)
assign_is_sound limits order = record {
  refusals = refusals order.mode;
  one_refusal = one_refusal order.mode;
  never_both = refused_or_told order.mode TICK_NS_DEFAULT (SaysOwners order) (owners_are_told order);
  one_output = told_once order.mode TICK_NS_DEFAULT (SaysOwners order) (owners_are_told order);
}
