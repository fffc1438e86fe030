use Rattle.std.proofs.Common.{◌∷◌, [], ◌++◌, ◌∙◌, ap, sym}
use Rattle.modelnet.proofs.Chains.{numbers-more}
use Rattle.modelnet.proofs.chain_setup.chain_route.Goals as goal

pub loop-pipe-preserved : goal.loop-pipe-preserved
loop-pipe-preserved c =
    c.in_ok-push.ensures.items ∙ ap (λ route. route ++ c.loop-pipe.pipe ∷ []) c.loop-pipe.invariant ∙ sym (numbers-more c.loop-pipe.pipe)
