use Rattle.std.proofs.Common.{ℕ, List, sym, ap, ◌∙◌, subst}
use Rattle.journal.specs.IsSetup.{IsSetup}
use Rattle.parcel.specs.declared.counts.CoreCounts.{CoreCounts}
use Rattle.parcel.specs.declared.counts.PipeCounts.{PipeCounts}
use Rattle.parcel.specs.declared.core_result.Settled.{Settled}
use Rattle.parcel.specs.Windows.{window_count}
use Rattle.parcel.specs.Results.{IsResult}
use Rattle.core_loop.specs.CoreView.{CoreView}
use Rattle.core_loop.specs.WorldState.{CoreStands}
use Rattle.core_loop.specs.TallyView.{added}
use Rattle.core_loop.proofs.Finished.{finished, finished-visits}
use Rattle.core_loop.proofs.one_core.Core.finish.Goals as goal

pub returns-clause-result : goal.returns-clause-result
returns-clause-result c = λ bytes s.
    let V = c.args.self in
    let is = subst IsSetup (ap (λ (v : CoreView). v.setup) c.self.view_is) c.self.invariant.is_setup in
    let settled = c.into_settled.ensures ∙ ap (λ (v : CoreView). v.settled) c.self.view_is in
    let pipes = c.into_counts.ensures ∙ ap (λ (v : CoreView). v.pipe_counts) c.self.view_is in
    let counts = c.counts-counts.ensures ∙ ap (λ (v : CoreView). v.counts) c.self.view_is in
    subst (λ (x : List Settled). IsResult V.setup bytes V.number
    (record { settled = x; pipe_counts = c.into_counts.result.items; counts = c.counts-counts.result })) (sym settled)
    (subst (λ (y : List PipeCounts). IsResult V.setup bytes V.number
    (record { settled = V.settled; pipe_counts = y; counts = c.counts-counts.result })) (sym pipes)
    (subst (λ (z : CoreCounts). IsResult V.setup bytes V.number (record { settled = V.settled; pipe_counts = V.pipe_counts; counts = z }))
    (sym counts) (finished V is c.requires.done bytes s)))

pub returns-clause-tally : goal.returns-clause-tally
returns-clause-tally c =
    let V = c.args.self in
    let is = subst IsSetup (ap (λ (v : CoreView). v.setup) c.self.view_is) c.self.invariant.is_setup in
    let counts = c.counts-counts.ensures ∙ ap (λ (v : CoreView). v.counts) c.self.view_is in
    let s = c.self.invariant.stands (ap (λ (v : CoreView). v.failed) c.self.view_is ∙ c.requires.works) in
    let stands = subst (CoreStands s.0) c.self.view_is s.1 in
    c.add_core.ensures
    ∙ ap (λ (n : ℕ). added c.args.tally.now 1 n c.counts-counts.result.visits) (ap (λ (x : CoreCounts). x.windows) counts ∙ c.requires.done.windows)
    ∙ ap (added c.args.tally.now 1 (window_count V.setup)) (ap (λ (x : CoreCounts). x.visits) counts ∙ finished-visits V is c.requires.done s.0 stands)
