-- The latency in ticks of a distilled pipe is that of its microseconds.
use Rattle.std.proofs.Common.{◌≡◌, ℕ, List, [], ◌∷◌, length, get_or, take, drop, All, sym, ap, ◌∙◌, subst}
use Rattle.std.specs.List.{AllZip}
use Rattle.std.proofs.lemmas.List.{take-append-drop}
use Rattle.std.proofs.lemmas.List.Elements.{All-cons, All-nil, All-append}
use Rattle.mn_base.specs.Among.{Among}
use Rattle.mn_base.proofs.Members.{Among-index}
use Rattle.mn_base.specs.Params.{IsParamsOf}
use Rattle.mn_base.specs.Units.{latency_in_ticks}
use Rattle.mn_base.specs.declared.params.PipeParams.{PipeParams}
use Rattle.topo.specs.declared.parts.Link.{Link}
use Rattle.topo.specs.TopologyView.{TopologyView}
use Rattle.distill.specs.declared.modes.Mode.{Mode}
use Rattle.distill.specs.declared.pipes.DistilledPipe.{DistilledPipe}
use Rattle.distill.specs.Mesh.{StandsForLeast, links_at}
use Rattle.distill.specs.Modes.{parts_of}
use Rattle.distill.specs.Distilled.{DistilledView, IsKept, IsDistilled}

abbrev pub IsUsual : ℕ → DistilledPipe → Type 0
IsUsual tick_ns pipe = let params = pipe.params in params.latency_ticks ≡ latency_in_ticks params.latency_us tick_ns

params_usual : (tick_ns bps us queue keep : ℕ) (p : PipeParams) → IsParamsOf tick_ns bps us queue keep p
    → p.latency_ticks ≡ latency_in_ticks p.latency_us tick_ns
params_usual tick_ns bps us queue keep p is = is.latency_ticks ∙ ap (λ n. latency_in_ticks n tick_ns) (sym is.latency_us)

kept_usual : (tick_ns : ℕ) (links : List Link) (pipes : List DistilledPipe) → AllZip (IsKept tick_ns) links pipes → All (IsUsual tick_ns) pipes
kept_usual tick_ns [] [] kept = All-nil (IsUsual tick_ns)
kept_usual tick_ns [] (p ∷ pipes) kept = absurd kept
kept_usual tick_ns (l ∷ links) [] kept = absurd kept
kept_usual tick_ns (l ∷ links) (p ∷ pipes) kept =
    All-cons (IsUsual tick_ns) p pipes (params_usual tick_ns _ _ _ _ p.params kept.0.params) (kept_usual tick_ns links pipes kept.1)

mesh_usual : (tick_ns : ℕ) (middle : List Link) (mesh : List DistilledPipe) → ((pipe : DistilledPipe) → Among pipe mesh → StandsForLeast tick_ns middle pipe)
    → All (IsUsual tick_ns) mesh
mesh_usual tick_ns middle mesh least k d within =
    let stands = (least (get_or mesh k d) (Among-index mesh k d within)).stands in
    params_usual tick_ns _ _ _ _ (let p : DistilledPipe = get_or mesh k d in p.params) stands.params

parts_usual : (tick_ns n : ℕ) (links middle : List Link) (pipes : List DistilledPipe) → AllZip (IsKept tick_ns) links (take n pipes)
    → ((pipe : DistilledPipe) → Among pipe (drop n pipes) → StandsForLeast tick_ns middle pipe) → All (IsUsual tick_ns) pipes
parts_usual tick_ns n links middle pipes kept least =
    subst (All (IsUsual tick_ns)) (take-append-drop n pipes)
    (All-append (IsUsual tick_ns) (take n pipes) (drop n pipes) (kept_usual tick_ns links (take n pipes) kept)
    (mesh_usual tick_ns middle (drop n pipes) least))

pub distilled_usual : (t : TopologyView) (mode : Mode) (tick_ns : ℕ) (d : DistilledView) → IsDistilled t mode tick_ns d → All (IsUsual tick_ns) d.pipes
distilled_usual t mode tick_ns d is =
    let parts = parts_of t mode in
    parts_usual tick_ns (length parts.kept) (links_at t.links parts.kept) (links_at t.links parts.middle) d.pipes is.pipes.kept is.pipes.mesh.least
