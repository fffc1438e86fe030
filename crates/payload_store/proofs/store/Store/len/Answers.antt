use Rattle.std.proofs.Common.{sym, ap, ◌∙◌, subst}
use Rattle.std.specs.FinMap as map
use Rattle.payload_store.specs.StoreView.{StoreView, ReleasesOnce}
use Rattle.payload_store.proofs.Held.{len-held}
use Rattle.payload_store.proofs.store.Store.len.Goals as goal

pub returns-clause-held : goal.returns-clause-held
returns-clause-held c =
    c.len.ensures.len
    ∙ sym (len-held c.self.inside.payloads.entries c.len.ensures.unique)
    ∙ ap (λ (s : StoreView). map.len s.held) c.self.view_is

pub returns-clause-once : goal.returns-clause-once
returns-clause-once c = subst ReleasesOnce c.self.view_is c.self.invariant.once
