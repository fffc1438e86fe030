use Rattle.std.proofs.Common.{sym, ap, ◌∙◌, subst, ◌≤◌, ◌+◌, vec_len, ℕ, OnOk}
use Rattle.std.specs.Prelude.{vec_capacity}
use Rattle.std.specs.FinMap as map
use Rattle.mn_base.specs.Among.{Among}
use Rattle.payload_store.specs.StoreView.{StoreView}
use Rattle.payload_store.proofs.Held.{held-insert, IsStore-put, at_ok}
use Rattle.payload_store.proofs.store.Store.put.Goals as goal

pub invariant_of-self-in-Ok : goal.invariant_of-self-in-Ok
invariant_of-self-in-Ok c =
    IsStore-put c.self.invariant (record {
      released_is = c.reserve.ensures.items;
      as_long = c.reserve.ensures.len;
      fits = at_ok c.reserve.result _ c.if-is_err.ensures.value
          (subst (λ (n : ℕ). OnOk c.reserve.result (vec_len c.reserve.new.self + (n + 1) ≤ vec_capacity c.reserve.new.self))
          c.len.ensures.len c.reserve.ensures.ok);
      not_held = ap (λ (s : StoreView). map.get s.held c.args.packet) c.self.view_is ∙ c.requires.not_held;
      fresh = subst (λ (s : StoreView). Among c.args.packet s.released → ⊥) (sym c.self.view_is) c.requires.not_released;
      updates = c.in-Ok.ensures.updates.0;
      found = c.in-Ok.field-0;
      found_is = c.in-Ok.ensures.old;
      longer = c.in-Ok.ensures.len;
    })

pub returns-in-Ok-clause-held : goal.returns-in-Ok-clause-held
returns-in-Ok-clause-held c =
    held-insert c.self.inside.payloads.entries c.insert.new.self.entries c.args.packet c.args.bytes c.in-Ok.ensures.updates.0
    ∙ ap (λ (s : StoreView). map.insert s.held c.args.packet c.args.bytes) c.self.view_is
