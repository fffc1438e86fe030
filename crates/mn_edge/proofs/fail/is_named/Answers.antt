use Rattle.std.proofs.Common.{rules, ℕ, ◌≡◌, refl, sym, ap, ◌∙◌}
use Rattle.std.proofs.lemmas.List.{get_or_default}
use denote.Enum.Bare.{same_true}
use Rattle.mn_edge.specs.contracts.fail.Op.{the_type as op_type}
use Rattle.mn_edge.specs.contracts.role.Role.{the_type as role_type}
use Rattle.mn_edge.specs.declared.fail.Fail.{Fail}
use Rattle.mn_edge.specs.declared.fail.Op.{Op}
use Rattle.mn_edge.specs.declared.role.Role.{Role}
use Rattle.mn_edge.specs.Fail.{IsNamed}
use Rattle.mn_edge.proofs.fail.is_named.Goals as goal

-- a fail is its three fields
Fail-of_fields : (fail : Fail) (role : Role) (op : Op) (k : ℕ) → fail.role ≡ role → fail.op ≡ op → fail.k ≡ k
    → fail ≡ record { role = role; op = op; k = k }
Fail-of_fields fail role op k same_role same_op same_k =
    ap (λ (r : Role). record fail { role = r }) same_role
    ∙ ap (λ (o : Op). record fail { role = role; op = o }) same_op
    ∙ ap (λ (n : ℕ). record fail { role = role; op = op; k = n }) same_k

-- the fail at hand has the call's role, kind and number
pub returns-then-from-k : goal.returns-then-from-k
unfolding IsNamed
returns-then-from-k c =
    let i = c.loop-fail.fail-index in
    let fails = c.args.fails.now in
    let found = Fail-of_fields _ c.args.role c.args.op c.args.k
    (same_true role_type (search rules) _ _ (sym c.if-eq.ensures))
    (same_true op_type (search rules) _ _ (sym c.if-eq-2.ensures))
    (sym c.from.ensures ∙ c.if-from-k.true) in
    (λ _. (i, search rules, get_or_default fails i _ _ (search rules) ∙ found), λ _. refl)

pub returns : goal.returns
unfolding IsNamed
returns c = (λ impossible. cc, λ named. absurd (c.loop-fail.invariant named.0 _ (search rules) named.2))
