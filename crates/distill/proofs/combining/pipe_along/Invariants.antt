use Rattle.std.proofs.Common.{◌≡◌, ◌*◌, ◌≤◌, fold, take, slice_index_or}
use Rattle.mn_base.specs.declared.limits.TheConstants.{LINK_LATENCY_US_MAX}
use Rattle.mn_base.specs.Ranges.{AreInRange}
use Rattle.walk_out.specs.Parts.{no_link}
use Rattle.distill.specs.Combination.{narrower, us_along}
use Rattle.distill.proofs.combining.pipe_along.Given as goal

abbrev pub invariant-loop-link : goal.invariant-loop-link
invariant-loop-link l = record {
  narrow : l.narrow ≡ fold narrower (slice_index_or l.links 0 no_link) (take l.link-index l.links);
  values : AreInRange l.narrow.bps l.narrow.latency_us l.narrow.queue l.narrow.ppm;
  us : l.us ≡ us_along (take l.link-index l.links);
  us_most : l.us ≤ l.link-index * LINK_LATENCY_US_MAX;
}
