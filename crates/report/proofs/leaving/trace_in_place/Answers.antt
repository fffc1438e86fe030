use Rattle.std.proofs.Common.{◌∙◌, ap, rules}
use Rattle.std.proofs.lemmas.Fn.{filter_same}
use Rattle.journal.specs.SetupView.{SetupView}
use Rattle.report.proofs.PacketsLeft.{fates_fit}
use Rattle.report.proofs.InPlace.{has_time, IsInPlace, IsTrace-in_place, IsLeavingTrace-in_place}
use Rattle.report.proofs.leaving.trace_in_place.Goals as goal

pub set_times-requires-clause-fit : goal.set_times-requires-clause-fit
set_times-requires-clause-fit c = fates_fit c.args.setup.now c.args.fates.now c.outputs_fit.ensures c.requires.fates

in_place : (c : goal.After-parts) → IsInPlace c.args.setup.now c.args.packets.items c.retain.new.self.items
in_place c = record {
  setup = c.parts-parts.ensures.kept;
  fit = c.outputs_fit.ensures;
  fates = c.args.fates.now;
  fates_are = c.requires.fates;
  originals = c.requires.originals;
  captured = c.requires.captured;
  in_order = c.requires.in_order;
  now = c.set_times.new.packets.items;
  now_are = c.set_times.ensures;
  kept_are = filter_same _ has_time _ (λ x b f' k. search rules) _ _ c.retain.ensures.filtered;
}

pub new-requires : goal.new-requires
new-requires c = IsTrace-in_place c.args.setup.now c.args.packets.items c.retain.new.self.items (in_place c)
    (ap (λ (S : SetupView). S.link_type) (c.parts.view_is ∙ c.parts-parts.ensures.same))

pub returns : goal.returns
returns c = IsLeavingTrace-in_place c.args.setup.now c.args.packets.items c.retain.new.self.items (in_place c.before) c.new.ensures
    (ap (λ (S : SetupView). S.link_type) (c.parts.view_is ∙ c.parts-parts.ensures.same))
