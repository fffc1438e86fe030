use Rattle.std.proofs.Common.{◌≡◌, length, map, rules, ap, ◌∙◌, sym}
use Rattle.std.proofs.lemmas.List.{map-id}
use Rattle.std.proofs.lemmas.Iterator.Consumers.{YieldsList-end}
use Rattle.std.proofs.lemmas.Iterator.Adapters.{YieldsList-from_vec}
use Rattle.journal.specs.SetupView.{SetupView}
use Rattle.report.specs.Traces.{packet_left}
use Rattle.report.proofs.Limits.{IsTrace-left}
use Rattle.report.proofs.traces.out_trace.Goals as goal

-- at the loop's end each packet that left was seen, so the trace is that of all of them
pub new-requires : goal.new-requires
new-requires c =
    let count : c.into_iter-left-iterator.result.rest.len ≡ length c.args.leaving.items = search rules in
    let road = YieldsList-from_vec c.args.leaving.items c.into_iter-left-iterator.ensures.into_iter_gives.0 count in
    let ended = YieldsList-end road c.loop-left.yielded c.loop-left.left-iterator c.loop-left.yielded_by c.next.result
    c.next.new.self c.in-None.is c.next.ensures.steps in
    IsTrace-left c.args.setup.now c.args.leaving.items
    (ap (λ (S : SetupView). S.link_type) (c.parts.view_is ∙ c.parts-parts.ensures.same))
    (c.loop-left.invariant ∙ ap (map (packet_left c.args.setup.now)) (sym (map-id c.loop-left.yielded) ∙ ended.0))
    c.parts-parts.ensures.kept c.requires.of_setup c.requires.different c.requires.lengths c.requires.times
