use Rattle.std.proofs.Common.{◌++◌, ◌∷◌, [], List, map, rules, sym, ap, ap₂, ◌∙◌}
use Rattle.std.proofs.lemmas.List.{map-append, map-id}
use Rattle.std.proofs.lemmas.Iterator.Adapters.{YieldsList-from_vec}
use Rattle.std.proofs.lemmas.Iterator.Consumers.{YieldsList-end}
use Rattle.migrate.specs.ShelvesView.{ShelfView}
use Rattle.migrate.specs.Running.{idle_shelf}
use Rattle.migrate.proofs.starting.idle_shelves.Goals as goal

pub loop-store-init : goal.loop-store-init
loop-store-init c = c.in_ok-shelves.ensures.items

pub loop-store-preserved : goal.loop-store-preserved
loop-store-preserved c =
    c.in_ok-push.ensures.items
    ∙ ap₂ (λ (l : List ShelfView) (s : ShelfView). l ++ s ∷ []) c.loop-store.invariant c.in_ok-idle.ensures
    ∙ sym (map-append idle_shelf c.loop-store.yielded (c.in-Some.store ∷ []))

pub returns : goal.returns
returns c =
    let ended =
    YieldsList-end (YieldsList-from_vec c.args.stores.items (search rules) (search rules)) c.loop-store.yielded _ c.loop-store.yielded_by
    _ c.next.new.self c.in-None.is c.next.ensures.steps in
    c.loop-store.invariant ∙ ap (map idle_shelf) (sym (map-id c.loop-store.yielded) ∙ ended.0)
