-- The pipes of a distilled topology are arcs among its nodes.
use Rattle.std.proofs.Common.{◌≡◌, ℕ, zero, suc, List, [], ◌∷◌, All, sym, ◌∙◌, ap, subst, arith}
use Rattle.routes.specs.declared.graph.Arc.{Arc}
use Rattle.routes.specs.GraphView.{IsArcAmong}
use Rattle.distill.specs.declared.pipes.DistilledPipe.{DistilledPipe}
use Rattle.distill.specs.Distilled.{DistilledView, IsPipeAmong, KeepsPipeLimits}
use Rattle.distill.specs.Latency.{arc_of_pipe, arcs_of_pipes}

arc_among : (nodes : ℕ) (pipe : DistilledPipe) → IsPipeAmong nodes pipe → IsArcAmong nodes (arc_of_pipe pipe)
arc_among nodes pipe is = record { from = is.from; to = is.to; weight = pipe.params.latency }

pipes_among : (nodes : ℕ) (pipes : List DistilledPipe) → All (IsPipeAmong nodes) pipes → All (IsArcAmong nodes) (arcs_of_pipes pipes)
pipes_among nodes [] all k d within = absurd (omega arith)
pipes_among nodes (p ∷ pipes) all zero d within = arc_among nodes p (all zero p (omega arith))
pipes_among nodes (p ∷ pipes) all (suc k) d within =
    pipes_among nodes pipes (λ i e inside. all (suc i) e (omega (arith, inside))) k d (omega (arith, within))

pub arcs_among : (d : DistilledView) (nodes : ℕ) (arcs : List Arc) (pipes : List DistilledPipe) → KeepsPipeLimits d → pipes ≡ d.pipes
    → nodes ≡ d.nodes → arcs ≡ arcs_of_pipes pipes → All (IsArcAmong nodes) arcs
arcs_among d nodes arcs pipes keeps same nodes_are is =
    subst (All (IsArcAmong nodes)) (sym (is ∙ ap arcs_of_pipes same))
    (subst (λ n. All (IsArcAmong n) (arcs_of_pipes d.pipes)) (sym nodes_are) (pipes_among d.nodes d.pipes keeps.pipes))
