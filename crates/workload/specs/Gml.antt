-- The GML text of a workload: a ring of 16 routers with eight chords across it, and 64 hosts, each on one router. `x` is the state
-- at which the draws of a line, or of lines, start.
use Rattle.std.specs.Prelude.{ℕ, ◌+◌, ◌*◌, ◌%◌, List, ◌++◌, codes}
use Rattle.std.specs.List.{flat_map, range_with_len}
use Rattle.std.specs.Fmt.{decimal}
use Rattle.mn_base.specs.Draws.{state_at, draw_at}
use Rattle.workload.specs.declared.shape.TheConstants.{ROUTERS, HOSTS, CHORDS, BANDWIDTH_STEP, RING_DRAWS, CHORD_DRAWS}

-- router i
abbrev pub router_line : ℕ → List ℕ
router_line i = codes "  node [ id " ++ decimal i ++ codes " ]\n"

-- host j, which has the address 10.0.0.(j + 1)
abbrev pub host_line : ℕ → List ℕ
host_line j = codes "  node [ id " ++ decimal (ROUTERS + j) ++ codes " address \"10.0.0." ++ decimal (j + 1) ++ codes "\" ]\n"

-- an edge between two routers: draw 0 is its bandwidth in steps of 10 Mbit/s, draw 1 its latency above 1 ms in us, draw 2 its loss in ppm
abbrev pub trunk_line : ℕ → ℕ → ℕ → List ℕ
trunk_line x source target =
    codes "  edge [ source " ++ decimal source ++ codes " target " ++ decimal target
    ++ codes " bandwidth " ++ decimal (BANDWIDTH_STEP * (1 + draw_at x 0 10))
    ++ codes " latency " ++ decimal (1000 + draw_at x 1 20000)
    ++ codes " loss " ++ decimal (draw_at x 2 1000) ++ codes " ]\n"

-- the edge between host j and its router: draw 0 is its latency above 500 us, in us
abbrev pub access_line : ℕ → ℕ → List ℕ
access_line x j =
    codes "  edge [ source " ++ decimal (ROUTERS + j) ++ codes " target " ++ decimal (j % ROUTERS)
    ++ codes " bandwidth " ++ decimal BANDWIDTH_STEP ++ codes " latency " ++ decimal (500 + draw_at x 0 1000) ++ codes " ]\n"

-- the lines of the routers below n, and of the hosts below n
unfoldable pub router_lines : ℕ → List ℕ
router_lines n = flat_map router_line (range_with_len 0 n)

unfoldable pub host_lines : ℕ → List ℕ
host_lines n = flat_map host_line (range_with_len 0 n)

-- edges from the routers below n, each to the next router of the ring; each line has three draws
unfoldable pub ring_lines : ℕ → ℕ → List ℕ
ring_lines x n = flat_map (λ i. trunk_line (state_at x (3 * i)) i ((i + 1) % ROUTERS)) (range_with_len 0 n)

-- edges from the routers below n, each to the router across the ring; each line has three draws
unfoldable pub chord_lines : ℕ → ℕ → List ℕ
chord_lines x n = flat_map (λ i. trunk_line (state_at x (3 * i)) i (i + CHORDS)) (range_with_len 0 n)

-- edges from the hosts below n; each line has one draw
unfoldable pub access_lines : ℕ → ℕ → List ℕ
access_lines x n = flat_map (λ j. access_line (state_at x j) j) (range_with_len 0 n)

-- the whole text of a number, whose draws start at that number: those of the ring, those of the chords, and one for each host
unfoldable pub workload_gml : ℕ → List ℕ
workload_gml number =
    codes "graph [\n"
    ++ router_lines ROUTERS
    ++ host_lines HOSTS
    ++ ring_lines number ROUTERS
    ++ chord_lines (state_at number RING_DRAWS) CHORDS
    ++ access_lines (state_at number (RING_DRAWS + CHORD_DRAWS)) HOSTS
    ++ codes "]\n"
