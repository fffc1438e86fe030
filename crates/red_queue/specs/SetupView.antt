-- What contracts see of pipes in a row and their packets, and the conditions on them.
use Rattle.std.specs.Prelude.{ℕ, ◌-◌, ◌*◌, ◌<◌, ◌≤◌, List, length, All, slice_get, sum_by}
use Rattle.std.specs.Option.{option_map_or}
use Rattle.mn_base.specs.Ranges.{IsTickLength}
use Rattle.mn_base.specs.declared.limits.TheConstants.{CHAIN_PIPES_MAX, PACKETS_MAX, PACKET_BYTES_MAX, TIME_NS_END, ROUTE_DELAY_NS_END}
use Rattle.red_queue.specs.declared.params.RedParams.{RedParams}
use Rattle.red_queue.specs.declared.setup.RedPacket.{RedPacket}
use Rattle.red_queue.specs.Ranges.{IsRedParams}
use Rattle.red_queue.specs.QueueView.{red_stay}

pub record RedSetupView : Type 0 where
  pub tick_ns : ℕ
  pub seed : ℕ
  pub pipes : List RedParams
  pub packets : List RedPacket

-- the length of a packet in bytes
abbrev pub red_len_of : RedSetupView → ℕ → ℕ
red_len_of R number = option_map_or (λ p. p.len) (slice_get R.packets number) 0

-- the longest that all pipes together may keep a packet, in ns
abbrev pub red_way : RedSetupView → ℕ
red_way R = sum_by (red_stay R.tick_ns) R.pipes

pub record IsRedSetup (R : RedSetupView) : Type 0 where
  pub tick : IsTickLength R.tick_ns
  pub pipes_least : 1 ≤ length R.pipes
  pub pipes_most : length R.pipes ≤ CHAIN_PIPES_MAX
  pub ranges : All IsRedParams R.pipes
  pub packets_most : length R.packets ≤ PACKETS_MAX
  pub lens_most : All (λ p. p.len ≤ PACKET_BYTES_MAX) R.packets
  pub entries_fit : All (λ p. p.entry_tick * R.tick_ns < TIME_NS_END - ROUTE_DELAY_NS_END) R.packets
  pub delays_fit : red_way R < ROUTE_DELAY_NS_END
