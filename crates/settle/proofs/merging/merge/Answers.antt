use Rattle.std.proofs.Common.{map, ap, sym, ◌∙◌, subst, rules}
use Rattle.std.specs.List.{flat_map}
use Rattle.std.specs.List.Sorted.{IsPermutation}
use Rattle.std.proofs.lemmas.Fn.{always_returns_same}
use Rattle.parcel.specs.CoreResultView.{CoreResultView}
use Rattle.parcel.specs.declared.counts.PipeCounts.{PipeCounts}
use Rattle.settle.specs.Settlements.{AreAllSettled}
use Rattle.settle.proofs.Merged.{cores-are, counts-are, merged-settled}
use Rattle.settle.proofs.merging.merge.Goals as goal

pub outcome_of-requires-clause-settled : goal.outcome_of-requires-clause-settled
outcome_of-requires-clause-settled c = (
  c.requires.results.0,
  subst (AreAllSettled c.args.setup.now c.requires.results.0) (sym c.in_ok-settled.ensures)
      (merged-settled c.args.setup.now c.requires.results.0 c.args.results.items c.parts.ensures.kept c.requires.results.1),
)

pub outcome_of-requires-clause-pipe_counts : goal.outcome_of-requires-clause-pipe_counts
outcome_of-requires-clause-pipe_counts c =
    let counted = c.in_ok-pipe_counts.ensures ∙ ap (flat_map (λ (r : CoreResultView). r.pipe_counts)) c.deref-2.ensures.value in
    counts-are c.args.setup.now c.requires.results.0 c.args.results.items c.parts.ensures.kept c.requires.results.1
    c.sort_by_key.new.self.items
    (subst (λ xs. IsPermutation xs c.sort_by_key.new.self.items) counted c.sort_by_key.ensures.permutation)
    (c.in_ok-sort_by_key.ensures.sorted (λ (counts : PipeCounts). counts.pipe) (always_returns_same _ _ _ (λ a r f k. search rules)))

pub returns-clause-outcome : goal.returns-clause-outcome
returns-clause-outcome c bytes are =
    c.in_ok-outcome.ensures.outcome bytes
    (subst (AreAllSettled c.args.setup.now bytes) (sym c.in_ok-settled.ensures)
    (merged-settled c.args.setup.now bytes c.args.results.items c.parts.ensures.kept are))

pub returns-clause-counts : goal.returns-clause-counts
returns-clause-counts c =
    c.in_ok-outcome.ensures.cores ∙ c.in_ok-cores.ensures ∙ ap (map (λ (r : CoreResultView). r.counts)) c.deref.ensures.value
    ∙ cores-are c.args.setup.now c.requires.results.0 c.args.results.items c.parts.ensures.kept c.requires.results.1
