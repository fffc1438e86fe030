-- In a list that doesn't fall, what isn't above a moment stands at the front.
use Rattle.std.proofs.Common.{◌≡◌, ℕ, suc, ◌+◌, ◌-◌, ◌<◌, ◌≤◌, Bool, true, false, cond, nat_le, List, [], ◌∷◌, length, refl, ap, arith}
use Rattle.std.specs.List.{prefix_len}
use Rattle.std.specs.List.Sorted.{IsNonDecreasing}
use Rattle.std.proofs.lemmas.Bool.{le-ltb, leb-true, leb-false}
use Rattle.std.proofs.lemmas.List.Sums.{prefix_len-le-length}
use Rattle.pipe.specs.Finishes.{above}
use Rattle.pipe.proofs.Above.{above-rising}

pub above_rising : (now : ℕ) (times : List ℕ) → IsNonDecreasing times
    → length times - prefix_len (λ time. nat_le time now) times ≡ length (above now times)
above_rising now [] rising = refl
above_rising now (x ∷ times) rising =
    go (nat_le x now) refl (above_rising now times (λ i j d order within. rising (suc i) (suc j) d (omega arith) (omega arith)))
  where
    go : (b : Bool) → nat_le x now ≡ b
        → length times - prefix_len (λ time. nat_le time now) times ≡ length (above now times)
        → length (x ∷ times) - cond b (1 + prefix_len (λ time. nat_le time now) times) 0 ≡ length (above now (x ∷ times))
    go true is rest =
        let past : x ≤ now = leb-true x now is in
        let few = prefix_len-le-length (λ time. nat_le time now) times in
        let same : length (above now (x ∷ times)) ≡ length (above now times) =
        ap (λ (b : Bool). length (cond b (x ∷ above now times) (above now times))) (le-ltb now x past) in
        omega (arith, rest, few, same)
    go false is rest =
        let late : now < x = leb-false x now is in
        let same : length (x ∷ times) ≡ length (above now (x ∷ times)) =
        ap length (above-rising now x (x ∷ times) rising refl late) in
        omega (arith, same)
