-- As many packets left or were dropped as there are.
use Rattle.std.proofs.Common.{◌≡◌, ℕ, ◌+◌, List, [], ◌∷◌, length, filter_map, refl, ap, arith}
use Rattle.std.specs.List.{zip, cons_option}
use Rattle.std.proofs.lemmas.List.Sorted.{length_permutation}
use Rattle.journal.specs.declared.setup.PacketPlan.{PacketPlan}
use Rattle.journal.specs.declared.fate.Fate.{Fate}
use Rattle.journal.specs.declared.fate.Fate.TheVariants.{Left, Dropped}
use Rattle.journal.specs.Fates.{fate_after}
use Rattle.settle.specs.IsOutcome.{leaving_of, drop_of, leavings, drop_lines}
use Rattle.settle.specs.Laws.{PacketsAreCounted}

module _ (fate : PacketPlan → Fate) where
  -- those that left and those that were dropped, where each packet has its bytes
  abbrev left : List PacketPlan → List (List ℕ) → ℕ
  left ps bytes = length (filter_map (λ p. leaving_of p.0.number p.1 (fate p.0)) (zip ps bytes))

  abbrev dropped : List PacketPlan → ℕ
  dropped ps = length (filter_map (λ p. drop_of p.number (fate p)) ps)

  left-dropped : (ps : List PacketPlan) (bytes : List (List ℕ)) → length bytes ≡ length ps → left ps bytes + dropped ps ≡ length ps
  left-dropped [] bytes e = refl
  left-dropped (p ∷ ps) [] e = absurd (omega (arith, e))
  left-dropped (p ∷ ps) (b ∷ bytes) e = go (fate p) (left-dropped ps bytes (omega (arith, e)))
    where
      go : (f : Fate) → left ps bytes + dropped ps ≡ length ps
          → length (cons_option (leaving_of p.number b f) (filter_map (λ p. leaving_of p.0.number p.1 (fate p.0)) (zip ps bytes)))
          + length (cons_option (drop_of p.number f) (filter_map (λ p. drop_of p.number (fate p)) ps))
          ≡ length (p ∷ ps)
      go (Left tick) rest = omega (arith, rest)
      go (Dropped pipe tick cause) rest = omega (arith, rest)

pub packets_are_counted : PacketsAreCounted
packets_are_counted S visits bytes o is =
    let sum = left-dropped (fate_after visits) S.packets bytes is.each_has_bytes in
    let l : length o.leaving ≡ length (leavings S visits bytes) = length_permutation (leavings S visits bytes) o.leaving is.leaving in
    let d : length o.dropped ≡ length (drop_lines S visits) = ap length is.dropped in
    omega (arith, sum, l, d)
