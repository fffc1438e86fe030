use Rattle.std.proofs.Common.{sym, ap, ◌∙◌, subst, refl, Option, List, ℕ}
use Rattle.std.specs.Prelude.{IsSome}
use Rattle.std.specs.Ordering.{nat_cmp}
use Rattle.std.specs.Cmp.{nat_cmp_total}
use Rattle.std.specs.FinMap as map
use Rattle.payload_store.specs.StoreView.{StoreView}
use Rattle.payload_store.proofs.Held.{Held}
use Rattle.payload_store.proofs.tests.each_packet_has_its_own_bytes.Goals as goal

pub put-requires-clause-not_held : goal.put-requires-clause-not_held
put-requires-clause-not_held g c = ap (λ (s : StoreView). map.get s.held 3) c.new-store.ensures ∙ map.get-empty nat_cmp 3

pub put-requires-2-clause-not_held : goal.put-requires-2-clause-not_held
put-requires-2-clause-not_held g c =
    ap (λ (h : Held). map.get h 70000) c.in-Ok.ensures.held
    ∙ map.get-insert nat_cmp_total c.new-store.result.held 3 c.in_ok-copy.field-0 70000
    ∙ ap (λ (s : StoreView). map.get s.held 70000) c.new-store.ensures
    ∙ map.get-empty nat_cmp 70000

pub release-requires : goal.release-requires
release-requires g c =
    subst (λ (o : Option (List ℕ)). IsSome o)
    (sym (ap (λ (h : Held). map.get h 3) c.in-Ok-put.ensures.held
    ∙ map.get-insert nat_cmp_total c.put.new.self.held 70000 c.in_ok-copy-2.field-0 3
    ∙ ap (λ (h : Held). map.get h 3) c.in-Ok.ensures.held
    ∙ map.get-insert nat_cmp_total c.new-store.result.held 3 c.in_ok-copy.field-0 3))
    refl

pub release-last-requires : goal.release-last-requires
release-last-requires g c =
    subst (λ (o : Option (List ℕ)). IsSome o)
    (sym (ap (λ (h : Held). map.get h 70000) c.release.ensures.held
    ∙ map.get-remove nat_cmp_total c.put-2.new.self.held 3 70000
    ∙ ap (λ (h : Held). map.get h 70000) c.in-Ok-put.ensures.held
    ∙ map.get-insert nat_cmp_total c.put.new.self.held 70000 c.in_ok-copy-2.field-0 70000))
    refl
