-- The parameters of a pipe by what they are made from.
use Rattle.std.specs.Prelude.{◌≡◌, ℕ}
use Rattle.mn_base.specs.declared.params.PipeParams.{PipeParams}
use Rattle.mn_base.specs.Units.{latency_in_ticks}

-- the parameters of a pipe of this bandwidth in bit/s, latency in us, queue limit in packets and keep, in ticks of `tick_ns` ns
pub record IsParamsOf (tick_ns bandwidth us packets kept : ℕ) (params : PipeParams) : Type 0 where
  pub bps : params.bps ≡ bandwidth
  pub latency_us : params.latency_us ≡ us
  pub latency_ticks : params.latency_ticks ≡ latency_in_ticks us tick_ns
  pub queue : params.queue ≡ packets
  pub keep : params.keep ≡ kept
