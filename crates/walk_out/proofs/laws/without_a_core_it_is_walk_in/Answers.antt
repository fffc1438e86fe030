use Rattle.mn_base.specs.declared.limits.TheConstants.{FRONTIERS_MAX}
use Rattle.walk_out.proofs.WithoutCore.{without_core}
use Rattle.walk_out.proofs.laws.without_a_core_it_is_walk_in.Goals as goal

pub returns : goal.returns
returns c t w o within empty = without_core t w FRONTIERS_MAX o within empty
