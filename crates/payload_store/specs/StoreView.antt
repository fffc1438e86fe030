-- What contracts see of a store: the bytes of the packets that are held, and the packets that were released, in order.
use Rattle.std.specs.Prelude.{◌≡◌, ◌≢◌, ℕ, ◌+◌, ◌≤◌, List, length, None, AllPairs, refl}
use Rattle.std.specs.Ordering.{nat_cmp}
use Rattle.std.specs.Coded.{Coded, code_by, coded×, coded_ℕ, coded_list}
use Rattle.std.specs.FinMap as map
use Rattle.mn_base.specs.Among.{Among}

pub record StoreView : Type 0 where
  pub held : map.FinMap nat_cmp (List ℕ)
  pub released : List ℕ

-- a view is stored as the pair of its fields
abbrev pub store_code : Coded StoreView
store_code =
    code_by (map.FinMap nat_cmp (List ℕ) × List ℕ) (coded× (map.code coded_ℕ (coded_list coded_ℕ)) (coded_list coded_ℕ))
    (λ s. (s.held, s.released)) (λ p. record { held = p.0; released = p.1 }) (λ _. refl)

-- no packet was released twice, and none that was released is held
pub record ReleasesOnce (s : StoreView) : Type 0 where
  pub differ : AllPairs (λ a b. a ≢ b) s.released
  pub not_held : (packet : ℕ) → Among packet s.released → map.get s.held packet ≡ None

-- what the fields of a store keep: each packet is released once, and there is room to release all that are held
pub record IsStore (entries : List (ℕ × List ℕ)) (released : List ℕ) (length_released capacity : ℕ) : Type 0 where
  pub once : ReleasesOnce (record { held = map.from_entries entries; released = released })
  pub room : length_released + length entries ≤ capacity
