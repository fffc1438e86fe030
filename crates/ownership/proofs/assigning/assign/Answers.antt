use Rattle.std.proofs.Common.{◌≡◌, List, ℕ, Option, IfOk, map, length, subst, ap, ◌∙◌, arith}
use Rattle.std.specs.Prelude.{unwrap_or}
use Rattle.ownership.specs.Assignment.{owned_after, owners_of}
use Rattle.ownership.specs.Entries.{entries_of}
use Rattle.ownership.proofs.Places.{owners_are_below}
use Rattle.ownership.proofs.Giving.{owners_at_end}
use Rattle.ownership.proofs.assigning.assign.Goals as goal

pub loop-turn-init : goal.loop-turn-init
unfolding owned_after
loop-turn-init c = c.in_ok-turns.ensures

pub of_owners-requires-clause-owners : goal.of_owners-requires-clause-owners
of_owners-requires-clause-owners c =
    let end : c.loop-turn.turn ≡ length c.args.distilled.now.pipes = (let all = ap length c.pipes-turn-end.ensures.lent in omega (arith, all)) in
    let settled : c.in_ok-owners.owners.items ≡ owners_of c.args.distilled.now c.args.cores =
    c.in_ok-owners.ensures
    ∙ ap (map (λ (owner : Option ℕ). unwrap_or owner 0)) c.deref.ensures.value
    ∙ owners_at_end c.args.distilled.now c.args.cores c.loop-turn.turn c.loop-turn.turns end c.loop-turn.invariant in
    rw settled (owners_are_below c.args.distilled.now c.args.cores c.requires.some_core)

pub returns : goal.returns
returns c =
    let end : c.loop-turn.turn ≡ length c.args.distilled.now.pipes = (let all = ap length c.pipes-turn-end.ensures.lent in omega (arith, all)) in
    let settled : c.in_ok-owners.owners.items ≡ owners_of c.args.distilled.now c.args.cores =
    c.in_ok-owners.ensures
    ∙ ap (map (λ (owner : Option ℕ). unwrap_or owner 0)) c.deref.ensures.value
    ∙ owners_at_end c.args.distilled.now c.args.cores c.loop-turn.turn c.loop-turn.turns end c.loop-turn.invariant in
    record {
      assigned =
          subst
          (λ (os : List ℕ). IfOk c.of_owners.result
          (λ directory. directory ≡ record { cores = c.args.cores; owners = os; entries = entries_of c.args.distilled.now os }))
          settled c.of_owners.ensures;
    }
