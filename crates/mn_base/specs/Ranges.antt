-- The ranges of a link's values, each as a test and as a fact, and what holds of the values of one link.
use Rattle.std.specs.Prelude.{ℕ, ◌≡◌, ◌≤◌, ◌⊎◌, Bool, ◌&&◌, nat_le}
use Rattle.mn_base.specs.declared.limits.TheConstants.{BPS_MIN, BPS_MAX, LINK_LATENCY_US_MAX, QUEUE_MIN, QUEUE_MAX, LOSS_PPM_MAX, TICK_NS_MIN, TICK_NS_MAX, LINK_TYPE_ETHERNET, LINK_TYPE_RAW, LINK_TYPE_IPV4}

-- a bandwidth, in bit/s
abbrev pub is_bandwidth : ℕ → Bool
is_bandwidth bps = nat_le BPS_MIN bps && nat_le bps BPS_MAX

abbrev pub IsBandwidth : ℕ → Type 0
IsBandwidth bps = (BPS_MIN ≤ bps) × (bps ≤ BPS_MAX)

-- the latency of a link, in microseconds
abbrev pub is_latency : ℕ → Bool
is_latency us = nat_le us LINK_LATENCY_US_MAX

abbrev pub IsLatency : ℕ → Type 0
IsLatency us = us ≤ LINK_LATENCY_US_MAX

-- a queue limit, in packets
abbrev pub is_queue_limit : ℕ → Bool
is_queue_limit packets = nat_le QUEUE_MIN packets && nat_le packets QUEUE_MAX

abbrev pub IsQueueLimit : ℕ → Type 0
IsQueueLimit packets = (QUEUE_MIN ≤ packets) × (packets ≤ QUEUE_MAX)

-- a loss, in ppm (parts in a million)
abbrev pub is_loss : ℕ → Bool
is_loss ppm = nat_le ppm LOSS_PPM_MAX

abbrev pub IsLoss : ℕ → Type 0
IsLoss ppm = ppm ≤ LOSS_PPM_MAX

-- the values of a link: bandwidth in bit/s, latency in us, queue limit in packets, loss in ppm
pub record AreInRange (bps latency_us packets ppm : ℕ) : Type 0 where
  pub bandwidth : IsBandwidth bps
  pub latency : IsLatency latency_us
  pub queue_limit : IsQueueLimit packets
  pub loss : IsLoss ppm

-- a tick length, in ns
abbrev pub IsTickLength : ℕ → Type 0
IsTickLength tick_ns = (TICK_NS_MIN ≤ tick_ns) × (tick_ns ≤ TICK_NS_MAX)

-- Ethernet, IP or IPv4
abbrev pub IsLinkType : ℕ → Type 0
IsLinkType n = (n ≡ LINK_TYPE_ETHERNET) ⊎ (n ≡ LINK_TYPE_RAW) ⊎ (n ≡ LINK_TYPE_IPV4)
