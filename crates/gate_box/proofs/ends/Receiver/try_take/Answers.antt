use Rattle.std.proofs.Common.{rules}
use Rattle.gate_box.proofs.Steps.{takes_item, holds_box, clears_next}
use Rattle.gate_box.proofs.ends.Receiver.try_take.Goals as goal

pub compare_exchange-found-requires : goal.compare_exchange-found-requires
compare_exchange-found-requires g c = (
  search rules,
  search rules,
  takes_item g.L.Lane.is_item c.deref.result.now.shared.key _ c.self.inside.seat.id c.self.invariant,
)

pub exchange-requires : goal.exchange-requires
exchange-requires g c =
    let got = c.compare_exchange-found.ensures.2.0 c.if-found-round.false in (
      search rules,
      holds_box g.L.Lane.is_item c.deref.result.now.shared.key c.self.inside.seat.me c.compare_exchange-found.new.seat.me
          got.0 got.1,
    )

pub store-requires : goal.store-requires
store-requires g c =
    let got = c.compare_exchange-found.ensures.2.0 c.if-found-round.false in (
      search rules,
      search rules,
      clears_next g.L.Lane.is_item c.deref.result.now.shared.key _ _ c.self.invariant got.1 c.exchange.ensures.3,
    )
