use Rattle.std.proofs.Common.{◌≡◌, ◌<◌, ℕ, length, get_or, rules, refl, ap, ◌∙◌, arith}
use Rattle.std.proofs.lemmas.List.{length_push}
use Rattle.std.proofs.lemmas.Iterator.Adapters.{YieldsList-from_vec}
use Rattle.std.proofs.lemmas.Iterator.Consumers.{YieldsList-turn, YieldsList-end}
use Rattle.journal.specs.SetupView.{SetupView}
use Rattle.core_loop.proofs.Stocking.{AreStocked, IsNext, all-none, are-stores, are-bytes-in, fresh-at, all-more}
use Rattle.core_loop.proofs.stores.stock.Goals as goal
use Rattle.core_loop.proofs.stores.stock.Goals.{In-Some, In-None, After-index_mut-store}

pub loop-payload-init : goal.loop-payload-init
loop-payload-init c = record {
  all = all-none c.args.setup.now c.args.bytes.items c.in_ok-stores.stores.items _ c.in_ok-stores.ensures
      (ap (λ (S : SetupView). S.cores) (c.parts.view_is ∙ c.parts-parts.ensures.same));
  met = refl;
}

-- the payload in hand is that of a packet
turn : (c : In-Some)
    → (c.loop-payload.index < length c.args.setup.now.packets)
    × (c.in-Some.payload ≡ get_or c.args.bytes.items c.loop-payload.index c.in-Some.payload)
turn c =
    let t = YieldsList-turn (YieldsList-from_vec c.args.bytes.items (search rules) (search rules)) c.loop-payload.yielded _
    c.loop-payload.yielded_by _ c.next.new.self c.in-Some.payload c.in-Some.is c.next.ensures.steps in (
      omega (arith, t.0, c.loop-payload.invariant.met, c.requires),
      t.1 ∙ ap (λ (k : ℕ). get_or c.args.bytes.items k c.in-Some.payload) c.loop-payload.invariant.met,
    )

-- and it goes into the store of that packet's core
next : (c : After-index_mut-store) → c.loop-payload.index < length c.args.setup.now.packets
    → IsNext c.args.setup.now c.args.bytes.items c.loop-payload.index c.loop-payload.stores.items c.index-plan.result.now
    c.index_mut-store.result.now
next c within = record {
  stocked = record { is_setup = c.parts-parts.ensures.kept; long = c.requires; all = c.loop-payload.invariant.all };
  within = within;
  at =
      c.index-plan.ensures
      ∙ ap (λ (S : SetupView). get_or S.packets c.loop-payload.index c.index-plan.result.now) (c.parts.view_is ∙ c.parts-parts.ensures.same);
  read = c.index_mut-store.ensures.value;
}

pub put-requires-clause-not_held : goal.put-requires-clause-not_held
put-requires-clause-not_held c =
    let at = goal.at.put-requires-clause-not_held c in fresh-at (next at.After-index_mut-store (turn at.In-Some).0)

pub loop-payload-preserved : goal.loop-payload-preserved
loop-payload-preserved c =
    let at = goal.at.loop-payload-preserved c in
    let here = turn at.In-Some in
    record {
      all = all-more (next at.After-index_mut-store here.0) c.put.new.self here.1 c.in-Ok.ensures.held c.put.ensures.released;
      met = omega (arith, length_push c.loop-payload.yielded c.in-Some.payload, c.loop-payload.invariant.met);
    }

-- all payloads are put in
stocked : (c : In-None)
    → AreStocked c.args.setup.now c.args.bytes.items c.loop-payload.index c.loop-payload.stores.items
    × (c.loop-payload.index ≡ length c.args.setup.now.packets)
stocked c =
    let ended = YieldsList-end (YieldsList-from_vec c.args.bytes.items (search rules) (search rules)) c.loop-payload.yielded _
    c.loop-payload.yielded_by _ c.next.new.self c.in-None.is c.next.ensures.steps in (
      record { is_setup = c.parts-parts.ensures.kept; long = c.requires; all = c.loop-payload.invariant.all },
      omega (arith, ended.1, c.loop-payload.invariant.met, c.requires),
    )

pub returns-clause-stores : goal.returns-clause-stores
returns-clause-stores c = let s = stocked (goal.at.returns-clause-stores c).In-None in are-stores s.0 s.1

pub returns-clause-bytes : goal.returns-clause-bytes
returns-clause-bytes c = let s = stocked (goal.at.returns-clause-bytes c).In-None in are-bytes-in s.0 s.1
