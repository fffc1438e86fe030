-- One pipe for a walk of links.
use Rattle.std.specs.Prelude.{◌≡◌, ℕ, nat_lt, List, [], ◌∷◌, length, fold, sum_by, if◌then◌else◌}
use Rattle.mn_base.specs.declared.limits.TheConstants.{KEEP_MAX}
use Rattle.mn_base.specs.Units.{keep, keep_of_both}
use Rattle.mn_base.specs.Params.{IsParamsOf}
use Rattle.topo.specs.declared.parts.Link.{Link}
use Rattle.walk_out.specs.Parts.{no_link}
use Rattle.distill.specs.declared.pipes.DistilledPipe.{DistilledPipe}

-- of two links the one of less bandwidth, or the first where they have the same
abbrev pub narrower : Link → Link → Link
narrower l m = if nat_lt m.bps l.bps then m else l

-- the first link of least bandwidth
abbrev pub narrowest : List Link → Link
narrowest [] = no_link
narrowest (l ∷ ls) = fold narrower l ls

abbrev pub bandwidth_along : List Link → ℕ
bandwidth_along links = let l = narrowest links in l.bps

abbrev pub queue_along : List Link → ℕ
queue_along links = let l = narrowest links in l.queue

-- the latency of the links in a row, in microseconds
abbrev pub us_along : List Link → ℕ
us_along links = sum_by (λ l. l.latency_us) links

-- their keeps, combined from the first to the last: k for all that came before, which loses nothing at first
abbrev pub keep_along : List Link → ℕ
keep_along links = fold (λ k l. keep_of_both k (keep l.ppm)) KEEP_MAX links

-- the pipe from a to b that stands for the links of a walk: the least bandwidth, the queue limit of the first link that has it, the
-- sum of the latencies, rounded up to ticks after the sum, and the keeps combined
pub record StandsFor (tick_ns a b : ℕ) (walk : List Link) (pipe : DistilledPipe) : Type 0 where
  pub from : pipe.from ≡ a
  pub to : pipe.to ≡ b
  pub params : IsParamsOf tick_ns (bandwidth_along walk) (us_along walk) (queue_along walk) (keep_along walk) pipe.params
  pub links : pipe.links ≡ length walk
