-- What an edge without a fault has.
use Rattle.std.proofs.Common.{◌≡◌, ◌<◌, ◌+◌, ℕ, Bool, true, false, not, ◌&&◌, List, length, get_or, refl, Option, Some, None, is_some, if◌then◌else◌}
use Rattle.mn_base.specs.Ranges.{AreInRange, is_bandwidth, is_latency, is_queue_limit, is_loss}
use Rattle.mn_base.proofs.RangeTests.{bandwidth_within, latency_within, queue_limit_within, loss_within}
use Rattle.topo.specs.declared.parts.EdgeSpec.{EdgeSpec}
use Rattle.topo.specs.Faults.{first_fault, edge_fault}
use Rattle.topo.proofs.Firsts.{first_fault-None}

-- its ends are nodes, and its values are in their ranges
pub record IsFaultless (find : ℕ → Option ℕ) (edge : EdgeSpec) : Type 0 where
  pub source : is_some (find edge.source) ≡ true
  pub target : is_some (find edge.target) ≡ true
  pub values : AreInRange edge.bps edge.latency_us edge.queue edge.ppm

passed : {F : Type 0} (b : Bool) (f : F) (rest : Option F) → (if not b then Some f else rest) ≡ None → (b ≡ true) × (rest ≡ None)
passed true f rest e = (refl, e)
passed false f rest e = cc

both : (a b : Bool) → (a && b) ≡ true → (a ≡ true) × (b ≡ true)
both true b e = (refl, e)
both false b e = cc

pub faultless : (find : ℕ → Option ℕ) (e : ℕ) (edge : EdgeSpec) → edge_fault find e edge ≡ None → IsFaultless find edge
faultless find e edge none =
    let ends = passed (is_some (find edge.source) && is_some (find edge.target)) _ _ none in
    let bps = passed (is_bandwidth edge.bps) _ _ ends.1 in
    let latency = passed (is_latency edge.latency_us) _ _ bps.1 in
    let queue = passed (is_queue_limit edge.queue) _ _ latency.1 in
    let ppm = passed (is_loss edge.ppm) _ _ queue.1 in
    record {
      source = (both (is_some (find edge.source)) _ ends.0).0;
      target = (both (is_some (find edge.source)) _ ends.0).1;
      values = record {
        bandwidth = bandwidth_within edge.bps bps.0;
        latency = latency_within edge.latency_us latency.0;
        queue_limit = queue_limit_within edge.queue queue.0;
        loss = loss_within edge.ppm ppm.0;
      };
    }

pub faultless_at : (find : ℕ → Option ℕ) (edges : List EdgeSpec) (i : ℕ) (d : EdgeSpec) → first_fault (edge_fault find) 0 edges ≡ None
    → i < length edges → IsFaultless find (get_or edges i d)
faultless_at find edges i d none here = faultless find (0 + i) (get_or edges i d) (first_fault-None (edge_fault find) 0 edges i d none here)
