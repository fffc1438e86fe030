use Rattle.std.proofs.Common.{filter_map, ap, ◌∙◌, subst, rules}
use Rattle.std.specs.List.Sorted.{IsPermutation}
use Rattle.std.proofs.lemmas.Fn.{always_returns_same}
use Rattle.settle.specs.declared.outcome.DropLine.{DropLine}
use Rattle.settle.specs.Settlements.{drop_settled}
use Rattle.settle.proofs.InOrder.{tick_and_packet}
use Rattle.settle.proofs.Settlements.{settled-is_outcome}
use Rattle.settle.proofs.merging.outcome_of.Goals as goal

pub returns-clause-outcome : goal.returns-clause-outcome
returns-clause-outcome c bytes are =
    let dropped = c.in_ok-dropped.ensures ∙ ap (filter_map drop_settled) c.deref.ensures.value in
    settled-is_outcome c.args.setup.now bytes c.args.settled.items c.parts-parts.ensures.kept are
    (subst (λ xs. IsPermutation xs c.sort_by_key-2.new.self.items) c.in_ok-leaving.ensures c.sort_by_key-2.ensures.permutation)
    (c.in_ok-sort_by_key-2.ensures.sorted tick_and_packet (always_returns_same _ _ _ (λ a r f k. search rules)))
    (subst (λ xs. IsPermutation xs c.sort_by_key.new.self.items) dropped c.sort_by_key.ensures.permutation)
    (c.in_ok-sort_by_key.ensures.sorted (λ (line : DropLine). line.packet) (always_returns_same _ _ _ (λ a r f k. search rules)))
    c.requires.pipe_counts
