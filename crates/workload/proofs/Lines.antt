-- Lines that are written one by one.
use Rattle.std.proofs.Common.{◌≡◌, ℕ, zero, suc, ◌+◌, ◌*◌, ◌%◌, List, [], ◌∷◌, ◌++◌, ap, sym, ◌∙◌, refl, arith, add-zero}
use Rattle.std.specs.List.{flat_map, range_with_len}
use Rattle.std.proofs.lemmas.List.{flat_map_more}
use Rattle.workload.specs.declared.shape.TheConstants.{ROUTERS, CHORDS}
use Rattle.mn_base.specs.Draws.{state_at}
use Rattle.workload.specs.Gml.{router_line, host_line, trunk_line, access_line, router_lines, host_lines, ring_lines, chord_lines, access_lines}

-- nothing after a list
append-nil : {X : Type 0} (xs : List X) → xs ++ [] ≡ xs
append-nil [] = refl
append-nil (x ∷ xs) = ap (λ l. x ∷ l) (append-nil xs)

-- the last of the numbers from a on stands at the end
range-suc : (a n : ℕ) → range_with_len a (suc n) ≡ range_with_len a n ++ (a + n) ∷ []
range-suc a zero = ap (λ k. k ∷ []) (sym (add-zero a))
range-suc a (suc n) = ap (λ ks. a ∷ ks) (range-suc (a + 1) n ∙ ap (λ k. range_with_len (a + 1) n ++ k ∷ []) (omega arith))

-- the numbers below n + 1
pub range-more : (n : ℕ) → range_with_len 0 (n + 1) ≡ range_with_len 0 n ++ n ∷ []
range-more n =
    let more : n + 1 ≡ suc n = omega arith in
    let last : 0 + n ≡ n = omega arith in
    ap (λ m. range_with_len 0 m) more ∙ range-suc 0 n ∙ ap (λ k. range_with_len 0 n ++ k ∷ []) last

-- line i goes after the lines below i, so they are the lines below i + 1
next_line : (f : ℕ → List ℕ) (i : ℕ) (before now now' : List ℕ) → now ≡ before ++ flat_map f (range_with_len 0 i) → now' ≡ now ++ f i
    → now' ≡ before ++ flat_map f (range_with_len 0 (i + 1))
next_line f i before now now' so_far is =
    is ∙ ap (λ l. l ++ f i) so_far ∙ flat_map_more f before (range_with_len 0 i) i
    ∙ ap (λ ns. before ++ flat_map f ns) (sym (range-more i))

-- before the first router there is no line
pub no_routers : (before : List ℕ) → before ≡ before ++ router_lines 0
unfolding router_lines
no_routers before = sym (append-nil before)

-- a router's line goes after those before it
pub next_router : (i : ℕ) (before now now' : List ℕ) → now ≡ before ++ router_lines i → now' ≡ now ++ router_line i
    → now' ≡ before ++ router_lines (i + 1)
unfolding router_lines
next_router i before now now' so_far is = next_line router_line i before now now' so_far is

-- before the first host there is no line
pub no_hosts : (before : List ℕ) → before ≡ before ++ host_lines 0
unfolding host_lines
no_hosts before = sym (append-nil before)

-- a host's line goes after those before it
pub next_host : (i : ℕ) (before now now' : List ℕ) → now ≡ before ++ host_lines i → now' ≡ now ++ host_line i
    → now' ≡ before ++ host_lines (i + 1)
unfolding host_lines
next_host i before now now' so_far is = next_line host_line i before now now' so_far is

-- before the first link of the ring there is no line
pub no_ring : (x : ℕ) (before : List ℕ) → before ≡ before ++ ring_lines x 0
unfolding ring_lines
no_ring x before = sym (append-nil before)

-- the link to the next router goes after those before it
pub next_of_ring : (x s i : ℕ) (before now now' : List ℕ) → s ≡ state_at x (3 * i) → now ≡ before ++ ring_lines x i
    → now' ≡ now ++ trunk_line s i ((i + 1) % ROUTERS) → now' ≡ before ++ ring_lines x (i + 1)
unfolding ring_lines
next_of_ring x s i before now now' at so_far is =
    next_line (λ j. trunk_line (state_at x (3 * j)) j ((j + 1) % ROUTERS)) i before now now' so_far
    (is ∙ ap (λ t. now ++ trunk_line t i ((i + 1) % ROUTERS)) at)

-- before the first chord there is no line
pub no_chords : (x : ℕ) (before : List ℕ) → before ≡ before ++ chord_lines x 0
unfolding chord_lines
no_chords x before = sym (append-nil before)

-- a chord goes after those before it
pub next_chord : (x s i : ℕ) (before now now' : List ℕ) → s ≡ state_at x (3 * i) → now ≡ before ++ chord_lines x i
    → now' ≡ now ++ trunk_line s i (i + CHORDS) → now' ≡ before ++ chord_lines x (i + 1)
unfolding chord_lines
next_chord x s i before now now' at so_far is =
    next_line (λ j. trunk_line (state_at x (3 * j)) j (j + CHORDS)) i before now now' so_far
    (is ∙ ap (λ t. now ++ trunk_line t i (i + CHORDS)) at)

-- before the first host is linked there is no line
pub no_access : (x : ℕ) (before : List ℕ) → before ≡ before ++ access_lines x 0
unfolding access_lines
no_access x before = sym (append-nil before)

-- a host's link goes after those before it
pub next_access : (x s i : ℕ) (before now now' : List ℕ) → s ≡ state_at x i → now ≡ before ++ access_lines x i
    → now' ≡ now ++ access_line s i → now' ≡ before ++ access_lines x (i + 1)
unfolding access_lines
next_access x s i before now now' at so_far is =
    next_line (λ j. access_line (state_at x j) j) i before now now' so_far (is ∙ ap (λ t. now ++ access_line t i) at)
