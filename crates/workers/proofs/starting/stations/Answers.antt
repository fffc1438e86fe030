use Rattle.std.proofs.Common.{ℕ, ◌+◌, length, Some, sym, ap, ◌∙◌, subst}
use Rattle.std.specs.Prelude.{slice_get}
use Rattle.std.proofs.lemmas.List.{length_push}
use Rattle.std.proofs.lemmas.Option.{slice_get-get_or}
use Rattle.std.proofs.lemmas.Iterator.{YieldsList-from_zip}
use Rattle.std.proofs.lemmas.Iterator.Adapters.{YieldsList-from_vec}
use Rattle.std.proofs.lemmas.Iterator.Consumers.{YieldsList-turn, YieldsList-at}
use Rattle.gate_ports.specs.GatePortsView.{GatePortsView, IsFresh}
use Rattle.core_loop.specs.Stocked.{HoldsEntrants}
use Rattle.workers.specs.Starting.{AreAtStart}
use Rattle.workers.proofs.Started.{one-started, fresh-stands}
use Rattle.workers.proofs.Paired.{paired}
use Rattle.workers.proofs.starting.stations.Goals as goal

pub start-requires-clause-store : goal.start-requires-clause-store
start-requires-clause-store c =
    let n = length c.loop-store.yielded in
    let road =
    YieldsList-at c.into_iter-store-iterator.ensures.into_iter_gives
    (YieldsList-from_zip
    (YieldsList-at c.zip-store-items.ensures.first
    (YieldsList-from_vec c.args.stores.items c.into_iter.ensures.rest (c.into_iter.ensures.len ∙ c.args.stores.ok.0)))
    (YieldsList-from_vec c.in_ok-lanes.field-0.items c.zip-store-items.ensures.second.0
    (c.zip-store-items.ensures.second.1 ∙ c.in_ok-lanes.field-0.ok.0))) in
    let turn =
    YieldsList-turn road c.loop-store.yielded _ c.loop-store.yielded_by _ c.next.new.self (c.in-Some.store, c.in-Some.ports) c.in-Some.is
    c.next.ensures.steps in
    let both = paired c.args.stores.items c.in_ok-lanes.field-0.items n c.in-Some.store c.in-Some.ports turn.0 turn.1 in
    subst (λ (k : ℕ). HoldsEntrants c.args.setup.now k c.in-Some.store) c.loop-store.invariant.met
    (c.requires.stores.holds n c.in-Some.store (slice_get-get_or c.args.stores.items n c.in-Some.store both.0 ∙ ap Some (sym both.2)))

pub invariant_of-push : goal.invariant_of-push
invariant_of-push c =
    let n = length c.loop-store.yielded in
    let road =
    YieldsList-at c.into_iter-store-iterator.ensures.into_iter_gives
    (YieldsList-from_zip
    (YieldsList-at c.zip-store-items.ensures.first
    (YieldsList-from_vec c.args.stores.items c.into_iter.ensures.rest (c.into_iter.ensures.len ∙ c.args.stores.ok.0)))
    (YieldsList-from_vec c.in_ok-lanes.field-0.items c.zip-store-items.ensures.second.0
    (c.zip-store-items.ensures.second.1 ∙ c.in_ok-lanes.field-0.ok.0))) in
    let turn =
    YieldsList-turn road c.loop-store.yielded _ c.loop-store.yielded_by _ c.next.new.self (c.in-Some.store, c.in-Some.ports) c.in-Some.is
    c.next.ensures.steps in
    let both = paired c.args.stores.items c.in_ok-lanes.field-0.items n c.in-Some.store c.in-Some.ports turn.0 turn.1 in
    record {
      stand = fresh-stands c.args.setup.now n c.in_ok-core.core c.in-Some.ports c.in_ok-core.ensures.setup
          (c.in_ok-core.ensures.number ∙ sym c.loop-store.invariant.met) c.in_ok-core.ensures.posted c.in_ok-core.ensures.taken
          (subst (λ (p : GatePortsView). IsFresh c.args.setup.now n p) (sym both.3)
          (c.in_ok-lanes.ensures.fresh n c.in-Some.ports both.1));
    }

pub loop-store-preserved : goal.loop-store-preserved
loop-store-preserved c =
    let n = length c.loop-store.yielded in
    let road =
    YieldsList-at c.into_iter-store-iterator.ensures.into_iter_gives
    (YieldsList-from_zip
    (YieldsList-at c.zip-store-items.ensures.first
    (YieldsList-from_vec c.args.stores.items c.into_iter.ensures.rest (c.into_iter.ensures.len ∙ c.args.stores.ok.0)))
    (YieldsList-from_vec c.in_ok-lanes.field-0.items c.zip-store-items.ensures.second.0
    (c.zip-store-items.ensures.second.1 ∙ c.in_ok-lanes.field-0.ok.0))) in
    let turn =
    YieldsList-turn road c.loop-store.yielded _ c.loop-store.yielded_by _ c.next.new.self (c.in-Some.store, c.in-Some.ports) c.in-Some.is
    c.next.ensures.steps in
    let both = paired c.args.stores.items c.in_ok-lanes.field-0.items n c.in-Some.store c.in-Some.ports turn.0 turn.1 in
    let met = c.loop-store.invariant.met in
    record {
      have = subst (AreAtStart c.args.setup.now c.args.stores.items (c.loop-store.number + 1)) (sym c.in_ok-push.ensures.items)
          (one-started c.args.setup.now c.args.stores.items c.loop-store.number c.loop-store.all.items _ c.loop-store.invariant.have record {
            setup = c.in_ok-core.ensures.setup;
            number = c.in_ok-core.ensures.number;
            stands = λ bytes are.
                c.in_ok-core.ensures.stands bytes
                (are c.loop-store.number c.in-Some.store
                (ap (λ (k : ℕ). slice_get c.args.stores.items k) (sym met)
                ∙ slice_get-get_or c.args.stores.items n c.in-Some.store both.0 ∙ ap Some (sym both.2)));
          });
      met = length_push c.loop-store.yielded (c.in-Some.store, c.in-Some.ports) ∙ ap (λ (k : ℕ). k + 1) met;
    }
