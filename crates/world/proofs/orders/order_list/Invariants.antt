use Rattle.std.proofs.Common.{◌≡◌, ◌<◌, All}
use Rattle.mn_base.specs.Draws.{state_at}
use Rattle.world.specs.Orders.{drawn_order}
use Rattle.world.proofs.orders.order_list.Given as goal

abbrev pub invariant-loop-turn : goal.invariant-loop-turn
invariant-loop-turn l = record {
  order_is : l.order.items ≡ drawn_order l.fn.number l._turn l.fn.cores;
  below : All (λ core. core < l.fn.cores) l.order.items;
  state_is : l.draws ≡ state_at l.fn.number l._turn;
}
