use Rattle.std.proofs.Common.{sym, subst}
use Rattle.mn_words.specs.Order.{IsChainOrder}
use Rattle.modelnet.proofs.RedSetup.{base_is_order}
use Rattle.modelnet.proofs.red_setup.base_setup.Goals as goal

pub chain_setup-requires-clause-order : goal.chain_setup-requires-clause-order
chain_setup-requires-clause-order c = subst IsChainOrder (sym c.in_ok-base.ensures) (base_is_order c.args.order.now c.requires.order)
