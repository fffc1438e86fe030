-- Every link is kept where every node is outer.
use Rattle.std.proofs.Common.{◌≡◌, ℕ, true, false, List, [], ◌∷◌, length, filter, refl, sym, ◌∙◌, ap}
use Rattle.std.specs.List.{range_with_len}
use Rattle.topo.specs.TopologyView.{TopologyView}
use Rattle.frontier.proofs.Numbers.{filter-none}
use Rattle.walk_out.specs.WalkOut.{hop_parts}

filter-all : (ns : List ℕ) → filter (λ e. true) ns ≡ ns
filter-all [] = refl
filter-all (n ∷ ns) = ap (λ l. n ∷ l) (filter-all ns)

pub hop_parts-is : (t : TopologyView) (n : ℕ) (kept border middle : List ℕ) → n ≡ length t.links → kept ≡ range_with_len 0 n → border ≡ []
    → middle ≡ []
    → record { kept = kept; border = border; middle = middle } ≡ hop_parts t
hop_parts-is t n kept border middle size is none nothing =
    let all : kept ≡ filter (λ e. true) (range_with_len 0 (length t.links)) = is ∙ ap (range_with_len 0) size
    ∙ sym (filter-all (range_with_len 0 (length t.links))) in
    let rest : middle ≡ filter (λ e. false) (range_with_len 0 (length t.links)) = nothing
    ∙ sym (filter-none (λ e. false) (range_with_len 0 (length t.links)) (λ e. refl)) in
    ap (λ (x : List ℕ). record { kept = x; border = border; middle = middle }) all
    ∙ ap (λ (x : List ℕ). record { kept = filter (λ e. true) (range_with_len 0 (length t.links)); border = x; middle = middle }) none
    ∙ ap (λ (x : List ℕ). record { kept = filter (λ e. true) (range_with_len 0 (length t.links)); border = []; middle = x }) rest
