use Rattle.std.proofs.Common.{◌≡◌, ◌<◌, ℕ, ◌+◌, List, [], ◌∷◌, ◌++◌, length, get_or, Some, rules, refl, sym, ap, ◌∙◌, subst, arith}
use Rattle.std.specs.Prelude.{slice_get}
use Rattle.std.proofs.lemmas.List.{length_push}
use Rattle.std.proofs.lemmas.Option.{slice_get-get_or}
use Rattle.std.proofs.lemmas.Iterator.Adapters.{YieldsList-from_vec}
use Rattle.std.proofs.lemmas.Iterator.Consumers.{YieldsList-turn, YieldsList-end}
use Rattle.payload_store.specs.StoreView.{StoreView}
use Rattle.core_loop.specs.CoreView.{CoreView}
use Rattle.core_loop.specs.Stocked.{AreBytesOf}
use Rattle.world.specs.Starting.{HasStarted, CoresStarted}
use Rattle.world.proofs.Starts.{started-none, started-more}
use Rattle.world.proofs.whole.started.Goals as goal

pub start-requires-clause-store : goal.start-requires-clause-store
start-requires-clause-store c =
    let turn =
    YieldsList-turn (YieldsList-from_vec c.args.stores.items (search rules) (search rules)) c.loop-store.yielded _ c.loop-store.yielded_by
    _ c.next.new.self c.in-Some.store c.in-Some.is c.next.ensures.steps in
    let within : c.loop-store.number < length c.args.stores.items = omega (arith, turn.0, c.loop-store.invariant.met) in
    let at = turn.1 ∙ ap (λ (k : ℕ). get_or c.args.stores.items k c.in-Some.store) c.loop-store.invariant.met in
    c.requires.stores.holds c.loop-store.number c.in-Some.store
    (slice_get-get_or c.args.stores.items c.loop-store.number c.in-Some.store within ∙ ap Some (sym at))

pub loop-store-preserved : goal.loop-store-preserved
loop-store-preserved c =
    let S = c.args.setup.now in
    let stores = c.args.stores.items in
    let number = c.loop-store.number in
    let store = c.in-Some.store in
    let turn =
    YieldsList-turn (YieldsList-from_vec c.args.stores.items (search rules) (search rules)) c.loop-store.yielded _ c.loop-store.yielded_by
    _ c.next.new.self c.in-Some.store c.in-Some.is c.next.ensures.steps in
    let within : number < length stores = omega (arith, turn.0, c.loop-store.invariant.met) in
    let at = turn.1 ∙ ap (λ (k : ℕ). get_or stores k store) c.loop-store.invariant.met in
    let got : slice_get stores number ≡ Some store = slice_get-get_or stores number store within ∙ ap Some (sym at) in
    let has : HasStarted S stores number c.in_ok-start.field-0 = record {
      setup = c.in_ok-start.ensures.setup;
      number = c.in_ok-start.ensures.number;
      stands = λ other bytes is are. (let both : Some other ≡ Some store = sym is ∙ got in
          let same : other ≡ store = cc in
          c.in_ok-start.ensures.stands bytes (subst (λ (s : StoreView). AreBytesOf S number s bytes) same are));
      windows = c.in_ok-start.ensures.windows;
      posted = c.in_ok-start.ensures.posted;
      taken = c.in_ok-start.ensures.taken;
      works = c.in_ok-start.ensures.works;
      in_step = c.in_ok-start.ensures.in_step;
    } in
    record {
      have = subst (CoresStarted S stores (number + 1)) (sym c.in_ok-push.ensures.items)
          (started-more S stores number c.loop-store.cores.items c.in_ok-start.field-0 c.loop-store.invariant.have has);
      met = length_push c.loop-store.yielded store ∙ ap (λ (n : ℕ). n + 1) c.loop-store.invariant.met;
    }
