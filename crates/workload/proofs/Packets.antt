-- Packets that are drawn one by one: their records, their times, and the limits of a trace.
use Rattle.std.proofs.Common.{◌≡◌, ℕ, zero, suc, ◌+◌, ◌*◌, ◌/◌, ◌^◌, ◌<◌, ◌≤◌, List, [], ◌∷◌, ◌++◌, length, map, All, inl, inr, ap, sym, ◌∙◌, refl, arith, length-append}
use Rattle.std.specs.List.{flat_map, range_with_len, sum_by}
use Rattle.std.proofs.lemmas.List.{flat_map_more, length-map}
use Rattle.std.proofs.lemmas.List.Elements.{All-cons}
use Rattle.std.proofs.lemmas.List.Sums.{sum_by-append}
use Rattle.std.proofs.lemmas.List.FromFn.{map-range_with_len_more, length-range_with_len}
use Rattle.mn_base.specs.declared.limits.TheConstants.{LINK_TYPE_RAW, WORKLOAD_PACKETS_MAX, RECORD_SECONDS_MAX}
use Rattle.pcap_io.specs.Capture.{IsPacket, IsTrace}
use Rattle.pcap_io.specs.Writing.{header_text, record_header_text, record_text, pcap_text}
use Rattle.workload.specs.declared.shape.TheConstants.{HOSTS}
use Rattle.mn_base.specs.Draws.{state_at, draw_at}
use Rattle.workload.specs.Trace.{length_at, gap_at, ip_header, packet_between, drawn_packet, time_of, packet_by_draws, packets_by_draws}
use Rattle.workload.proofs.Lines.{range-more}

-- ---- one packet

-- the packet of what the draws gave is the drawn packet
pub the_packet : (x time source destination more : ℕ) → source ≡ draw_at x 0 HOSTS → destination ≡ draw_at x 1 HOSTS
    → more ≡ draw_at x 2 1441
    → packet_between time (60 + more) source destination ≡ drawn_packet x time
the_packet x time source destination more from to len =
    ap (λ s. packet_between time (60 + more) s destination) from
    ∙ ap (λ d. packet_between time (60 + more) (draw_at x 0 HOSTS) d) to
    ∙ ap (λ l. packet_between time (60 + l) (draw_at x 0 HOSTS) (draw_at x 1 HOSTS)) len

-- four words and the two addresses
length-ip_header : (len source destination : ℕ) → length (ip_header len source destination) ≡ 20
length-ip_header len source destination = refl

-- a record's header and an IPv4 header
length-record_text : (x time : ℕ) → length (record_text (drawn_packet x time)) ≡ 36
unfolding record_header_text
length-record_text x time = refl

-- ---- times

-- the first packet comes at time 0
pub time_of-zero : (x : ℕ) → 0 ≡ time_of x 0
unfolding time_of
time_of-zero x = refl

-- a packet comes its predecessor's gap later
time_of-more : (x p : ℕ) → time_of x (p + 1) ≡ time_of x p + gap_at (state_at x (4 * p))
unfolding time_of
time_of-more x p =
    let g : ℕ → ℕ = λ q. gap_at (state_at x (4 * q)) in
    let last : sum_by g (p ∷ []) ≡ g p = omega arith in
    ap (λ ns. sum_by g ns) (range-more p) ∙ sum_by-append g (range_with_len 0 p) (p ∷ [])
    ∙ ap (λ n. sum_by g (range_with_len 0 p) + n) last

-- a draw is below its choices
gap-lt : (x : ℕ) → gap_at x < 200000
gap-lt x = omega arith

-- so p gaps are at most that many times the longest
time_of-le : (x p : ℕ) → time_of x p ≤ 200000 * p
time_of-le x zero = let none = time_of-zero x in omega arith
time_of-le x (suc p) =
    let less = time_of-le x p in
    let gap = gap-lt (state_at x (4 * p)) in
    let more : time_of x (suc p) ≡ time_of x p + gap_at (state_at x (4 * p)) = (let same : suc p ≡ p + 1 = omega arith in ap
    (λ n. time_of x n) same ∙ time_of-more x p) in
    omega arith

-- ---- lists of packets

-- one packet more stands at the end
packets_by_draws-more : (x n : ℕ) → packets_by_draws x (n + 1) ≡ packets_by_draws x n ++ packet_by_draws x n ∷ []
unfolding packets_by_draws
packets_by_draws-more x n = map-range_with_len_more (packet_by_draws x) 0 n n (omega arith)

-- as many packets as were asked for
pub length-packets_by_draws : (x n : ℕ) → length (packets_by_draws x n) ≡ n
unfolding packets_by_draws
length-packets_by_draws x n = length-map (range_with_len 0 n) (packet_by_draws x) ∙ length-range_with_len 0 n

-- without packets there is no record
pub no_packets : (x : ℕ) → [] ≡ flat_map record_text (packets_by_draws x 0)
unfolding packets_by_draws
no_packets x = refl

-- before packet p: the text so far is `before` and the records of the packets below p, and time and state are those of packet p
pub record ArePacketsBelow (x s p time : ℕ) (before text : List ℕ) : Type 0 where
  pub text_is : text ≡ before ++ flat_map record_text (packets_by_draws x p)
  pub time_is : time ≡ time_of x p
  pub state_is : s ≡ state_at x (4 * p)
  pub early : time ≤ 200000 * p

-- the record of packet p goes after them
pub next_record : {x s p time : ℕ} {before now now' : List ℕ} → ArePacketsBelow x s p time before now
    → now' ≡ now ++ record_text (drawn_packet s time)
    → now' ≡ before ++ flat_map record_text (packets_by_draws x (p + 1))
next_record {x} {s} {p} {time} {before} {now} below is =
    is ∙ ap (λ t. now ++ record_text (drawn_packet t time)) below.state_is
    ∙ ap (λ t. now ++ record_text (drawn_packet (state_at x (4 * p)) t)) below.time_is
    ∙ ap (λ l. l ++ record_text (packet_by_draws x p)) below.text_is
    ∙ flat_map_more record_text before (packets_by_draws x p) (packet_by_draws x p)
    ∙ ap (λ ps. before ++ flat_map record_text ps) (sym (packets_by_draws-more x p))

-- the time of the next packet
pub next_time : {x s p time gap : ℕ} {before now : List ℕ} → ArePacketsBelow x s p time before now → gap ≡ gap_at s
    → time + gap ≡ time_of x (p + 1)
next_time {x} {s} {p} {time} {gap} below is =
    ap (λ t. t + gap) below.time_is ∙ ap (λ g. time_of x p + g) (is ∙ ap gap_at below.state_is) ∙ sym (time_of-more x p)

-- ---- limits

-- a packet has at most 1,500 bytes
len-lt : (x : ℕ) → length_at x < 1501
len-lt x = omega arith

-- a drawn packet is one that a trace may have
is_packet : (x p : ℕ) → p ≤ WORKLOAD_PACKETS_MAX → IsPacket (packet_by_draws x p)
is_packet x p few =
    let early = time_of-le x p in
    let len = len-lt (state_at x (4 * p)) in
    record {
      time = omega arith;
      original = omega arith;
      captured = omega (
        arith,
        length-ip_header (length_at (state_at x (4 * p))) (draw_at (state_at x (4 * p)) 0 HOSTS) (draw_at
            (state_at x (4 * p)) 1 HOSTS),
      );
    }

-- what holds of each of the numbers from a on holds of the list made of them
All-numbers : {X : Type 0} (P : X → Type 0) (f : ℕ → X) (a n : ℕ) → ((i : ℕ) → i < a + n → P (f i)) → All P (map f (range_with_len a n))
All-numbers P f a zero each = λ i d within. absurd (omega arith)
All-numbers P f a (suc n) each =
    All-cons P (f a) (map f (range_with_len (a + 1) n)) (each a (omega arith)) (All-numbers P f (a + 1) n (λ j low. each j (omega arith)))

-- and so are all of them
pub are_packets : (x n : ℕ) → n ≤ WORKLOAD_PACKETS_MAX → All IsPacket (packets_by_draws x n)
unfolding packets_by_draws
are_packets x n few = All-numbers IsPacket (packet_by_draws x) 0 n (λ i low. is_packet x i (omega arith))

-- so they make a trace
pub is_trace : (x n : ℕ) → n ≤ WORKLOAD_PACKETS_MAX → IsTrace (record { link_type = LINK_TYPE_RAW; packets = packets_by_draws x n })
is_trace x n few = record {
  link_type = inr (inl refl);
  count = omega (arith, length-packets_by_draws x n);
  packets = are_packets x n few;
}

-- and each comes early enough for a record
early_packet : (x p : ℕ) → p ≤ WORKLOAD_PACKETS_MAX → time_of x p / 10 ^ 9 ≤ RECORD_SECONDS_MAX
early_packet x p few = let early = time_of-le x p in omega arith

-- all of them do
pub have_early_seconds : (x n : ℕ) → n ≤ WORKLOAD_PACKETS_MAX
    → All (λ packet. packet.time_ns / 10 ^ 9 ≤ RECORD_SECONDS_MAX) (packets_by_draws x n)
unfolding packets_by_draws
have_early_seconds x n few =
    All-numbers (λ packet. packet.time_ns / 10 ^ 9 ≤ RECORD_SECONDS_MAX) (packet_by_draws x) 0 n (λ i low. early_packet x i (omega arith))

-- n records of 36 bytes each
length-records : (x a n : ℕ) → length (flat_map record_text (map (packet_by_draws x) (range_with_len a n))) ≡ 36 * n
length-records x a zero = refl
length-records x a (suc n) =
    let one = length-record_text (state_at x (4 * a)) (time_of x a) in
    let rest = length-records x (a + 1) n in
    length-append (record_text (packet_by_draws x a)) (flat_map record_text (map (packet_by_draws x) (range_with_len (a + 1) n))) ∙ omega arith

-- the file's header
length-header_text : length (header_text LINK_TYPE_RAW) ≡ 24
unfolding header_text
length-header_text = refl

-- the header and the records
pub length-trace : (x n : ℕ) → length (pcap_text (record { link_type = LINK_TYPE_RAW; packets = packets_by_draws x n })) ≡ 24 + 36 * n
unfolding packets_by_draws
length-trace x n =
    let head = length-header_text in
    let rest = length-records x 0 n in
    length-append (header_text LINK_TYPE_RAW) (flat_map record_text (map (packet_by_draws x) (range_with_len 0 n))) ∙ omega arith
