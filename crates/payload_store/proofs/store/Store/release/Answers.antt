use Rattle.std.proofs.Common.{sym, ap, ◌∙◌, subst, Option, Some, List, ℕ}
use Rattle.std.proofs.lemmas.Bool.{false≢true}
use Rattle.std.specs.Prelude.{IsSome}
use Rattle.std.specs.FinMap as map
use Rattle.payload_store.specs.PayloadView.{PayloadView}
use Rattle.payload_store.specs.StoreView.{StoreView}
use Rattle.payload_store.proofs.Held.{get-held, held-remove, IsStore-release}
use Rattle.payload_store.proofs.store.Store.release.Goals as goal

pub invariant_of-self : goal.invariant_of-self
invariant_of-self c =
    IsStore-release c.self.invariant (record {
      now_is = c.push_reserved.ensures.items;
      longer = c.push_reserved.ensures.len;
      room_is = c.push_reserved.ensures.capacity;
      was_held = subst (λ (s : StoreView). IsSome (map.get s.held c.args.packet)) (sym c.self.view_is) c.requires;
      updates = c.in-Some.ensures.updates.0;
      shorter = c.in-Some.ensures.len;
    })

pub unreachable-requires : goal.unreachable-requires
unreachable-requires c =
    false≢true (subst (λ (o : Option (List ℕ)). IsSome o)
    (ap (λ (s : StoreView). map.get s.held c.args.packet) (sym c.self.view_is) ∙ get-held c.self.inside.payloads.entries c.args.packet ∙
    sym c.in-None.ensures.value)
    c.requires)

pub returns-clause-bytes : goal.returns-clause-bytes
returns-clause-bytes c =
    ap (λ (s : StoreView). map.get s.held c.args.packet) (sym c.self.view_is)
    ∙ get-held c.self.inside.payloads.entries c.args.packet
    ∙ sym c.in-Some.ensures.value
    ∙ ap (λ (p : PayloadView). Some p.bytes) (sym c.new.ensures)

pub returns-clause-held : goal.returns-clause-held
returns-clause-held c =
    held-remove c.self.inside.payloads.entries c.remove.new.self.entries c.args.packet c.in-Some.ensures.updates.0
    ∙ ap (λ (s : StoreView). map.remove s.held c.args.packet) c.self.view_is
