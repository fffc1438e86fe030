-- A test of a range passes if and only if the value is in the range.
use Rattle.std.proofs.Common.{◌≡◌, ◌≤◌, ℕ, true, ◌&&◌, nat_le, refl, arith}
use Rattle.std.proofs.lemmas.Bool.{le-leb}
use Rattle.std.proofs.lemmas.Bool.Decides.{nat_tests}
use Rattle.mn_base.specs.Ranges.{is_bandwidth, IsBandwidth, is_latency, IsLatency, is_queue_limit, IsQueueLimit, is_loss, IsLoss}

-- two bounds, each by its test
between : (least n most : ℕ) → (nat_le least n && nat_le n most) ≡ true → (least ≤ n) × (n ≤ most)
between least n most passes = grind (arith, nat_tests)

passes_between : (least n most : ℕ) → (least ≤ n) × (n ≤ most) → (nat_le least n && nat_le n most) ≡ true
passes_between least n most within = rw (le-leb least n within.0, le-leb n most within.1) refl

at_most : (n most : ℕ) → nat_le n most ≡ true → n ≤ most
at_most n most passes = grind (arith, nat_tests)

pub bandwidth_within : (bps : ℕ) → is_bandwidth bps ≡ true → IsBandwidth bps
bandwidth_within bps = between _ bps _

pub bandwidth_passes : (bps : ℕ) → IsBandwidth bps → is_bandwidth bps ≡ true
bandwidth_passes bps = passes_between _ bps _

pub latency_within : (us : ℕ) → is_latency us ≡ true → IsLatency us
latency_within us = at_most us _

pub latency_passes : (us : ℕ) → IsLatency us → is_latency us ≡ true
latency_passes us = le-leb us _

pub queue_limit_within : (packets : ℕ) → is_queue_limit packets ≡ true → IsQueueLimit packets
queue_limit_within packets = between _ packets _

pub queue_limit_passes : (packets : ℕ) → IsQueueLimit packets → is_queue_limit packets ≡ true
queue_limit_passes packets = passes_between _ packets _

pub loss_within : (ppm : ℕ) → is_loss ppm ≡ true → IsLoss ppm
loss_within ppm = at_most ppm _

pub loss_passes : (ppm : ℕ) → IsLoss ppm → is_loss ppm ≡ true
loss_passes ppm = le-leb ppm _
