use Rattle.std.proofs.Common.{rules, sym, subst}
use Rattle.gate_box.specs.EndView.{EndView}
use Rattle.gate_box.proofs.Steps.{claims, posts_next}
use Rattle.gate_box.proofs.ends.Sender.try_post.Goals as goal

pub compare_exchange-found-requires : goal.compare_exchange-found-requires
compare_exchange-found-requires g c = (
  search rules,
  search rules,
  claims g.L.Lane.is_item c.deref.result.now.shared.key _ c.self.inside.seat.id c.self.invariant,
)

pub store-requires : goal.store-requires
store-requires g c = (
  search rules,
  search rules,
  posts_next g.L.Lane.is_item c.deref.result.now.shared.key _ _ c.self.invariant
      (c.compare_exchange-found.ensures.2.0 c.if-found-free.false)
      c.exchange.ensures.3
      (subst (λ (v : EndView _). g.L.Lane.is_item v.name v.next c.args.item) (sym c.self.view_is) c.requires.item),
)
