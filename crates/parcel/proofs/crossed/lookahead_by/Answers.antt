use Rattle.std.proofs.Common.{◌≤◌, sym, ap, ◌∙◌, subst}
use Rattle.mn_base.specs.declared.limits.TheConstants.{LOOKAHEAD_MAX}
use Rattle.journal.specs.SetupView.{SetupView}
use Rattle.journal.specs.IsSetup.{IsSetup}
use Rattle.parcel.specs.Owners.{owned_by}
use Rattle.parcel.specs.Lookahead.{lookahead_of}
use Rattle.parcel.proofs.Lookaheads.{least_is_lookahead, lookahead-most}
use Rattle.parcel.proofs.LeastLatency.{owned-setup, is_least}
use Rattle.parcel.proofs.crossed.lookahead_by.Goals as goal

pub crossed_of-crossed-requires : goal.crossed_of-crossed-requires
crossed_of-crossed-requires c =
    let setup = c.parts-parts.ensures in
    subst (λ (S : SetupView). IsSetup (owned_by S c.args.owners.now)) (sym setup.same)
    (owned-setup c.args.setup.now c.args.owners.now setup.kept c.requires.one_a_pipe c.requires.cores)

pub returns : goal.returns
returns c =
    let setup = c.parts-parts.ensures in
    let S = owned_by c.args.setup.now c.args.owners.now in
    let is = subst (λ (S : SetupView). IsSetup (owned_by S c.args.owners.now)) (sym setup.same)
    (owned-setup c.args.setup.now c.args.owners.now setup.kept c.requires.one_a_pipe c.requires.cores) in
    let same = is_least (owned_by c.parts-parts.result.now c.args.owners.now) is c.crossed_of-crossed.result c.crossed_of-crossed.ensures _ _
    c.least_of_first-least.ensures c.least_of_changes.ensures
    ∙ ap (λ (S : SetupView). lookahead_of (owned_by S c.args.owners.now)) setup.same in
    record {
      lookahead = same;
      positive = subst (λ n. 1 ≤ n) (sym same) (least_is_lookahead S).positive;
      most = subst (λ n. n ≤ LOOKAHEAD_MAX) (sym same) (lookahead-most S);
    }
