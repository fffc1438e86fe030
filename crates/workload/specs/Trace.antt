-- The trace of a workload: packets between hosts, each some time after the one before. `x` is the state at which the draws of
-- a packet, or of packets, start; each packet has four draws.
use Rattle.std.specs.Prelude.{ℕ, ◌+◌, ◌*◌, List, [], ◌∷◌, ◌++◌, map, sum_by}
use Rattle.std.specs.List.{range_with_len}
use Rattle.std.specs.Int.{w16, to_be_bytes}
use Rattle.mn_base.specs.declared.limits.TheConstants.{LINK_TYPE_RAW}
use Rattle.mn_base.specs.Draws.{state_at, draw_at}
use Rattle.pcap_io.specs.declared.packet.Packet.{Packet}
use Rattle.pcap_io.specs.Capture.{Capture}
use Rattle.workload.specs.declared.shape.TheConstants.{HOSTS, GML_DRAWS}

-- the length of a packet: 60 to 1,500 bytes
abbrev pub length_at : ℕ → ℕ
length_at x = 60 + draw_at x 2 1441

-- the time from a packet to the next, in ns
abbrev pub gap_at : ℕ → ℕ
gap_at x = draw_at x 3 200000

-- the address of host j
abbrev pub host_address : ℕ → List ℕ
host_address j = 10 ∷ 0 ∷ 0 ∷ (j + 1) ∷ []

-- An IPv4 header (RFC 791) and nothing after it: version 4 and five words, the length, lifetime 64, protocol 17 (UDP), the two
-- hosts' addresses, and 0 elsewhere.
abbrev pub ip_header : ℕ → ℕ → ℕ → List ℕ
ip_header len source destination =
    0x45 ∷ 0 ∷ to_be_bytes w16 len ++ 0 ∷ 0 ∷ 0 ∷ 0 ∷ 0x40 ∷ 0x11 ∷ 0 ∷ 0 ∷ host_address source ++ host_address destination

-- a packet of this length at a time in ns, of which the header alone is captured
abbrev pub packet_between : ℕ → ℕ → ℕ → ℕ → Packet
packet_between time_ns len source destination = record { time_ns = time_ns; original = len; bytes = ip_header len source destination }

-- the packet of four draws, at a time in ns: draw 0 is its source, draw 1 its destination
abbrev pub drawn_packet : ℕ → ℕ → Packet
drawn_packet x time_ns = packet_between time_ns (length_at x) (draw_at x 0 HOSTS) (draw_at x 1 HOSTS)

-- the time of packet p, in ns: the gaps of the packets before it
unfoldable pub time_of : ℕ → ℕ → ℕ
time_of x p = sum_by (λ q. gap_at (state_at x (4 * q))) (range_with_len 0 p)

abbrev pub packet_by_draws : ℕ → ℕ → Packet
packet_by_draws x p = drawn_packet (state_at x (4 * p)) (time_of x p)

-- the packets below n
unfoldable pub packets_by_draws : ℕ → ℕ → List Packet
packets_by_draws x n = map (packet_by_draws x) (range_with_len 0 n)

-- the trace of a number, whose draws start where those of the GML text end
abbrev pub workload_trace : ℕ → ℕ → Capture
workload_trace number packets = record { link_type = LINK_TYPE_RAW; packets = packets_by_draws (state_at number GML_DRAWS) packets }
