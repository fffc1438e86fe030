-- The conditions of a setup.
use Rattle.std.specs.Prelude.{◌≡◌, ◌≢◌, ◌⊎◌, ℕ, ◌+◌, ◌-◌, ◌*◌, ◌<◌, ◌≤◌, List, length, All, AllPairs, sum_by}
use Rattle.mn_base.specs.Units.{transmission}
use Rattle.mn_base.specs.Ranges.{IsTickLength, IsLinkType}
use Rattle.mn_base.specs.declared.limits.TheConstants.{CORES_MAX, PIPES_MAX, ROUTE_PIPES_MAX, PACKETS_MAX, PACKET_BYTES_MAX, TIME_NS_END, ROUTE_DELAY_NS_END, OUTPUT_NS_END}
use Rattle.mn_base.specs.declared.params.PipeParams.{PipeParams}
use Rattle.pipe.specs.Params.{greatest}
use Rattle.journal.specs.declared.setup.PipeChange.{PipeChange}
use Rattle.journal.specs.SetupView.{SetupView, first_params, changes_of}

-- the greatest value of a pipe's parameters, over its first ones and all its changes
abbrev pub greatest_of : (PipeParams → ℕ) → SetupView → ℕ → ℕ
greatest_of value S pipe = greatest value (first_params S pipe) (changes_of S pipe)

-- how long the longest packet transmits, in ns
abbrev pub longest_transmission : PipeParams → ℕ
longest_transmission p = transmission p.bps PACKET_BYTES_MAX

-- the longest that one pipe may keep a packet, in ns: its latency, two ticks of rounding, and a full queue of the longest packets
abbrev pub longest_stay : SetupView → ℕ → ℕ
longest_stay S pipe =
    (greatest_of (λ p. p.latency_ticks) S pipe + 2) * S.tick_ns
    + greatest_of (λ p. p.queue) S pipe * greatest_of longest_transmission S pipe

-- the longest that a route may keep a packet, in ns
abbrev pub longest_way : SetupView → List ℕ → ℕ
longest_way S route = sum_by (longest_stay S) route

-- changes go by tick, then by pipe
abbrev pub IsChangeBefore : PipeChange → PipeChange → Type 0
IsChangeBefore c d = (c.tick < d.tick) ⊎ ((c.tick ≡ d.tick) × (c.pipe < d.pipe))

pub record IsSetup (S : SetupView) : Type 0 where
  pub tick : IsTickLength S.tick_ns
  pub link_type : IsLinkType S.link_type
  pub cores_least : 1 ≤ S.cores
  pub cores_most : S.cores ≤ CORES_MAX
  pub pipes_most : length S.pipes ≤ PIPES_MAX
  pub one_owner : length S.owners ≡ length S.pipes
  pub owners : All (λ core. core < S.cores) S.owners
  pub routes_most : All (λ route. length route ≤ ROUTE_PIPES_MAX) S.routes
  pub routes_named : All (λ route. All (λ pipe. pipe < length S.pipes) route) S.routes
  pub routes_distinct : All (λ route. AllPairs (λ a b. a ≢ b) route) S.routes
  pub numbers_rise : AllPairs (λ p q. p.number < q.number) S.packets
  pub numbers_most : All (λ p. p.number < PACKETS_MAX) S.packets
  pub lens_most : All (λ p. p.len ≤ PACKET_BYTES_MAX) S.packets
  pub packet_routes : All (λ p. p.route < length S.routes) S.packets
  pub packet_cores : All (λ p. p.core < S.cores) S.packets
  pub changes_rise : AllPairs IsChangeBefore S.changes
  pub changes_named : All (λ c. c.pipe < length S.pipes) S.changes
  pub entries_fit : All (λ p. p.entry_tick * S.tick_ns < TIME_NS_END - ROUTE_DELAY_NS_END) S.packets
  pub times_fit : All (λ p. S.base_ns + p.entry_tick * S.tick_ns < OUTPUT_NS_END) S.packets
  pub delays_fit : All (λ route. longest_way S route < ROUTE_DELAY_NS_END) S.routes
