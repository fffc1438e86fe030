use Rattle.std.proofs.Common.{List, [], ◌∷◌, ◌++◌, ap, ◌∙◌}
use Rattle.std.proofs.lemmas.List.{replicate_more}
use Rattle.core_loop.specs.CoreView.{PeerView, no_peer}
use Rattle.core_loop.proofs.one_core.idle_peers.Goals as goal

pub loop-core-preserved : goal.loop-core-preserved
loop-core-preserved c =
    c.in_ok-push.ensures.items
    ∙ ap (λ (ps : List PeerView). ps ++ no_peer ∷ []) c.loop-core.invariant
    ∙ replicate_more c.loop-core._core no_peer
