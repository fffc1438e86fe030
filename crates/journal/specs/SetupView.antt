-- What contracts see of a setup, the record of its lists, and what a visit reads of it.
use Rattle.std.specs.Prelude.{ℕ, ◌==◌, List, [], Option, filter, map, find, slice_get, slice_index_or, unwrap_or}
use Rattle.std.specs.Option.{option_map_or}
use Rattle.std.proofs.Common.{lit≤}
use Rattle.mn_base.specs.declared.params.PipeParams.{PipeParams}
use Rattle.pipe.specs.Params.{last_params}
use Rattle.journal.specs.declared.setup.PacketPlan.{PacketPlan}
use Rattle.journal.specs.declared.setup.PipeChange.{PipeChange}
use Rattle.journal.specs.declared.setup.LossBy.{LossBy}

pub record SetupView : Type 0 where
  pub tick_ns : ℕ
  pub seed : ℕ
  pub base_ns : ℕ
  pub link_type : ℕ
  pub cores : ℕ
  pub pipes : List PipeParams
  pub owners : List ℕ
  pub routes : List (List ℕ)
  pub packets : List PacketPlan
  pub changes : List PipeChange
  pub loss : LossBy

-- the packet of a number, if the setup has it
abbrev pub packet_of : SetupView → ℕ → Option PacketPlan
packet_of S number = find (λ p. p.number == number) S.packets

-- the pipes on its way, in order; none for a packet that the setup doesn't have
abbrev pub route_of : SetupView → ℕ → List ℕ
route_of S number = option_map_or (λ p. slice_index_or S.routes p.route []) (packet_of S number) []

-- its length in bytes
abbrev pub len_of : SetupView → ℕ → ℕ
len_of S number = option_map_or (λ p. p.len) (packet_of S number) 0

-- what stands for the parameters of a pipe that isn't there
abbrev pub no_params : PipeParams
no_params = record {
  bps = 1000;
  latency_us = 0;
  latency_ticks = 1;
  queue = 1;
  keep = 0;
  bandwidth = (lit≤ tt, lit≤ tt);
  latency = lit≤ tt;
  delays = (lit≤ tt, lit≤ tt);
  places = (lit≤ tt, lit≤ tt);
  keeps = lit≤ tt;
}

-- the parameters of a pipe before any change
abbrev pub first_params : SetupView → ℕ → PipeParams
first_params S pipe = unwrap_or (slice_get S.pipes pipe) no_params

-- the changes of a pipe, each with its tick, in order
abbrev pub changes_of : SetupView → ℕ → List (ℕ × PipeParams)
changes_of S pipe = map (λ c. (c.tick, c.params)) (filter (λ c. c.pipe == pipe) S.changes)

-- the parameters of a pipe at a tick: those of its last change by that tick, or the first where there is none
abbrev pub params_of : SetupView → ℕ → ℕ → PipeParams
params_of S pipe tick = last_params tick (first_params S pipe) (changes_of S pipe)
