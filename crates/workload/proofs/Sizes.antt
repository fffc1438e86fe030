-- How long the lines of the GML text can be.
use Rattle.std.proofs.Common.{ℕ, zero, suc, ◌+◌, ◌*◌, ◌%◌, ◌^◌, ◌<◌, ◌≤◌, List, length, arith, length-append}
use Rattle.std.specs.List.{flat_map, range_with_len}
use Rattle.std.specs.Fmt.{decimal}
use Rattle.std.proofs.lemmas.Fmt.{length-decimal-le}
use Rattle.mn_base.specs.declared.limits.TheConstants.{TOPOLOGY_BYTES_MAX}
use Rattle.workload.specs.declared.shape.TheConstants.{ROUTERS, HOSTS, CHORDS, BANDWIDTH_STEP, RING_DRAWS, CHORD_DRAWS}
use Rattle.mn_base.specs.Draws.{state_at, draw_at}
use Rattle.workload.specs.Gml.{router_line, host_line, trunk_line, access_line, router_lines, host_lines, ring_lines, chord_lines, access_lines, workload_gml}

-- a number below 2^32 has at most ten digits
short : (n : ℕ) → n < 2 ^ 32 → length (decimal n) ≤ 10
short n low = length-decimal-le 10 n (omega arith) (omega arith) (omega arith)

-- n lines of at most 200 bytes each have at most 200 n bytes
few : (f : ℕ → List ℕ) (a n : ℕ) → ((i : ℕ) → i < a + n → length (f i) ≤ 200) → length (flat_map f (range_with_len a n)) ≤ 200 * n
few f a zero each = omega arith
few f a (suc n) each =
    let here = each a (omega arith) in
    let rest = few f (a + 1) n (λ i low. each i (omega arith)) in
    let both = length-append (f a) (flat_map f (range_with_len (a + 1) n)) in
    omega arith

-- a line has a fixed text and at most five numbers
length-router_line : (i : ℕ) → i < 100 → length (router_line i) ≤ 200
length-router_line i low =
    let number = short i (omega arith) in
    simp length-append (omega arith)

length-host_line : (j : ℕ) → j < 100 → length (host_line j) ≤ 200
length-host_line j low =
    let id = short (ROUTERS + j) (omega arith) in
    let last = short (j + 1) (omega arith) in
    simp length-append (omega arith)

length-trunk_line : (x source target : ℕ) → source < 100 → target < 100 → length (trunk_line x source target) ≤ 200
length-trunk_line x source target from to =
    let s = short source (omega arith) in
    let t = short target (omega arith) in
    let b = short (BANDWIDTH_STEP * (1 + draw_at x 0 10)) (omega arith) in
    let l = short (1000 + draw_at x 1 20000) (omega arith) in
    let p = short (draw_at x 2 1000) (omega arith) in
    simp length-append (omega arith)

length-access_line : (x j : ℕ) → j < 100 → length (access_line x j) ≤ 200
length-access_line x j low =
    let s = short (ROUTERS + j) (omega arith) in
    let t = short (j % ROUTERS) (omega arith) in
    let b = short BANDWIDTH_STEP (omega arith) in
    let l = short (500 + draw_at x 0 1000) (omega arith) in
    simp length-append (omega arith)

-- and each kind of lines, as many as there are of it
length-router_lines : (n : ℕ) → n ≤ 64 → length (router_lines n) ≤ 200 * n
unfolding router_lines
length-router_lines n most = few router_line 0 n (λ i low. length-router_line i (omega arith))

length-host_lines : (n : ℕ) → n ≤ 64 → length (host_lines n) ≤ 200 * n
unfolding host_lines
length-host_lines n most = few host_line 0 n (λ i low. length-host_line i (omega arith))

length-ring_lines : (x n : ℕ) → n ≤ 64 → length (ring_lines x n) ≤ 200 * n
unfolding ring_lines
length-ring_lines x n most =
    few (λ i. trunk_line (state_at x (3 * i)) i ((i + 1) % ROUTERS)) 0 n
    (λ i low. length-trunk_line (state_at x (3 * i)) i ((i + 1) % ROUTERS) (omega arith) (omega arith))

length-chord_lines : (x n : ℕ) → n ≤ 64 → length (chord_lines x n) ≤ 200 * n
unfolding chord_lines
length-chord_lines x n most =
    few (λ i. trunk_line (state_at x (3 * i)) i (i + CHORDS)) 0 n
    (λ i low. length-trunk_line (state_at x (3 * i)) i (i + CHORDS) (omega arith) (omega arith))

length-access_lines : (x n : ℕ) → n ≤ 64 → length (access_lines x n) ≤ 200 * n
unfolding access_lines
length-access_lines x n most = few (λ j. access_line (state_at x j) j) 0 n (λ i low. length-access_line (state_at x i) i (omega arith))

-- 170 lines: far fewer bytes than a topology may have
pub gml_fits : (number : ℕ) → length (workload_gml number) ≤ TOPOLOGY_BYTES_MAX
unfolding workload_gml
gml_fits number =
    let routers = length-router_lines ROUTERS (omega arith) in
    let hosts = length-host_lines HOSTS (omega arith) in
    let ring = length-ring_lines number ROUTERS (omega arith) in
    let chords = length-chord_lines (state_at number RING_DRAWS) CHORDS (omega arith) in
    let access = length-access_lines (state_at number (RING_DRAWS + CHORD_DRAWS)) HOSTS (omega arith) in
    simp length-append (omega arith)
