use Rattle.std.proofs.Common.{◌⊎◌, ◌↔◌, ℕ, take}
use Rattle.mn_base.specs.Among.{Among}
use Rattle.parcel.specs.Lookahead.{crossed_pipes}
use Rattle.parcel.specs.PipeSets.{Has}
use Rattle.parcel.proofs.crossed.add_crossed.Given as goal

abbrev pub invariant-loop-hop : goal.invariant-loop-hop
invariant-loop-hop l =
    (q : ℕ) → Has l.crossed q ↔ (Has l.initial.crossed q ⊎ Among q (crossed_pipes l.owners (take l.hop l.route)))
