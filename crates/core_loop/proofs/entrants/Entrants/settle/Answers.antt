use Rattle.std.proofs.Common.{◌≡◌, IsSome, sym, ap, subst, arith}
use Rattle.std.specs.FinMap as fin
use Rattle.core_loop.specs.Work.{EntrantsView}
use Rattle.core_loop.proofs.Room.{one-less}
use Rattle.core_loop.proofs.entrants.Entrants.settle.Goals as goal

pub push_reserved-requires : goal.push_reserved-requires
push_reserved-requires c =
    let some = subst (λ (e : EntrantsView). IsSome (fin.get e.store.held c.args.packet)) (sym c.self.view_is) c.requires in
    omega (arith, one-less c.self.inside.store.held c.args.packet some, c.self.invariant)

pub invariant_of-self : goal.invariant_of-self
invariant_of-self c =
    let some = subst (λ (e : EntrantsView). IsSome (fin.get e.store.held c.args.packet)) (sym c.self.view_is) c.requires in
    let held : fin.len c.release-payload.new.self.held ≡ fin.len (fin.remove c.self.inside.store.held c.args.packet) =
    ap fin.len c.release-payload.ensures.held in
    omega (
      arith,
      one-less c.self.inside.store.held c.args.packet some,
      held,
      c.self.invariant,
      c.push_reserved.ensures.len,
      c.push_reserved.ensures.capacity,
    )
