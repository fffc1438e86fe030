use Rattle.std.proofs.Common.{◌≡◌, List, map, Result, ap, ap₂, ◌∙◌, subst}
use Rattle.std.specs.List.{zip, enumerate_from, filter_map}
use Rattle.std.specs.Result.{result_ok}
use Rattle.mn_base.specs.declared.causes.Unbound.{Unbound}
use Rattle.pcap_io.specs.declared.packet.Packet.{Packet}
use Rattle.journal.specs.declared.setup.PacketPlan.{PacketPlan}
use Rattle.plan.specs.Router.{bindings_of}
use Rattle.plan.specs.Answers.{bytes_if_answered, cause_of_answer}
use Rattle.plan.specs.Setups.{IsSetupWith}
use Rattle.plan.proofs.WholePlan.{plan_is_over}
use Rattle.plan.proofs.parts.plan_over.Goals as goal

pub returns : goal.returns
returns c =
    let first : c.deref.result.now ≡ c.in_ok-uses.field-0.packets.items = cc (c.deref.ensures.value, c.in_ok-uses.packets-is) in
    let second : c.deref-2.result.now ≡ c.in_ok-uses.field-0.packets.items = cc (c.deref-2.ensures.value, c.in_ok-uses.packets-is) in
    let third : c.deref-3.result.now ≡ c.in_ok-uses.field-0.packets.items = cc (c.deref-3.ensures.value, c.in_ok-uses.packets-is) in
    plan_is_over c.args.topology.now c.args.distilled.now c.args.directed.now.directory c.args.directed.now.changes.items c.args.trace
    c.args.options.now c.in_ok-uses.ensures.answered
    (record { setup = c.in_ok-setup.setup; bytes = c.in_ok-bytes.bytes.items; unbounds = c.in_ok-unbounds.unbounds.items })
    (subst
    (λ (xs : List (Result PacketPlan Unbound)). IsSetupWith c.args.options.now c.args.distilled.now c.args.directed.now.directory
    c.args.directed.now.changes.items c.args.trace (map (λ b. b.route) (bindings_of c.in_ok-uses.field-0.uses.items)) (filter_map result_ok xs)
    c.in_ok-setup.setup)
    first c.in_ok-setup.ensures)
    (c.in_ok-bytes.ensures
    ∙ ap₂ (λ (ps : List Packet) (xs : List (Result PacketPlan Unbound)). filter_map (λ p. bytes_if_answered p.0 p.1) (zip ps xs))
    c.into_packets.ensures.value third)
    (c.in_ok-unbounds.ensures ∙ ap (λ (xs : List (Result PacketPlan Unbound)). filter_map cause_of_answer (enumerate_from 0 xs)) second)
