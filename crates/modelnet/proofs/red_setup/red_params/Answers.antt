use Rattle.std.proofs.Common.{refl}
use Rattle.modelnet.proofs.red_setup.red_params.Goals as goal

pub returns : goal.returns
returns c = record { base = c.base_params.ensures; shift = refl; min = refl; max = refl; early = refl }
