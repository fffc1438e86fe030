-- Kept and other links, as the code finds them one by one.
use Rattle.std.proofs.Common.{◌≡◌, ℕ, Bool, not, List, length, filter, ◌∙◌, ap}
use Rattle.std.specs.List.{range_with_len}
use Rattle.topo.specs.declared.parts.Link.{Link}
use Rattle.walk_out.specs.Parts.{link_at, is_outer_link, parts_around}

pub parts_around-is : {links lent : List Link} (outer : ℕ → Bool) {n : ℕ} {kept : List ℕ} (border : List ℕ) {middle : List ℕ}
    → lent ≡ links → n ≡ length lent
    → kept ≡ filter (λ e. is_outer_link outer (link_at lent e)) (range_with_len 0 n)
    → middle ≡ filter (λ e. not (is_outer_link outer (link_at lent e))) (range_with_len 0 n)
    → record { kept = kept; border = border; middle = middle } ≡ parts_around links outer border
parts_around-is {links} {lent} outer {n} {kept} border {middle} same size kept_is middle_is =
    ap (λ (x : List ℕ). record { kept = x; border = border; middle = middle }) (kept_is
    ∙ ap (λ k. filter (λ e. is_outer_link outer (link_at lent e)) (range_with_len 0 k)) size)
    ∙ ap (λ (x : List ℕ).
    record { kept = filter (λ e. is_outer_link outer (link_at lent e)) (range_with_len 0 (length lent)); border = border; middle = x })
    (middle_is ∙ ap (λ k. filter (λ e. not (is_outer_link outer (link_at lent e))) (range_with_len 0 k)) size)
    ∙ ap (λ ls. parts_around ls outer border) same
