use Rattle.std.proofs.Common.{List, ℕ, subst, ◌↔◌, ◌⊎◌, ◌≡◌}
use Rattle.mn_base.specs.Among.{Among}
use Rattle.ownership.proofs.NearSteps.{among_pushed}
use Rattle.ownership.proofs.near.NearPipes.insert.Goals as goal

pub returns : goal.returns
returns c =
    subst
    (λ (old : List ℕ). (k : ℕ) → Among k c.insert.new.self.keys ↔ ((c.args.pipe ≡ k) ⊎ Among k old))
    c.self.view_is
    (among_pushed c.self.inside.pipes.keys c.insert.new.self.keys c.args.pipe c.in_ok-insert.ensures.updates.0)
