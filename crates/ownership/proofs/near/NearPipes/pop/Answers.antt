use Rattle.std.proofs.Common.{List, ℕ, subst, MatchOption}
use Rattle.ownership.specs.Turning.{AreEmpty, PopsLeast}
use Rattle.ownership.proofs.NearSteps.{pops_least}
use Rattle.ownership.proofs.near.NearPipes.pop.Goals as goal

pub returns : goal.returns
returns c =
    subst
    (λ (old : List ℕ). MatchOption c.pop_first.result (AreEmpty old c.pop_first.new.self.keys)
    (λ first. PopsLeast old first c.pop_first.new.self.keys))
    c.self.view_is
    (pops_least c.self.inside.pipes.keys c.pop_first.new.self.keys c.pop_first.result c.pop_first.ensures.variant c.pop_first.ensures.len
    c.pop_first.ensures.removal c.pop_first.ensures.all_above)
