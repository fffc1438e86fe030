use Rattle.std.proofs.Common.{◌≡◌, ◌≤◌, take, map, min, All}
use Rattle.std.specs.List.{fold}
use Rattle.pcap_io.proofs.trace.Trace.time_base.Given as goal

-- the least of the first time and of those up to here
abbrev pub invariant-others : goal.invariant-others
invariant-others l = record {
  value : l.least ≡ fold min l.initial.least (map (λ p. p.time_ns) (take l.packet-index l.others));
  first : l.least ≤ l.initial.least;
  others : All (λ p. l.least ≤ p.time_ns) (take l.packet-index l.others);
}
