-- What contracts see of an end of a lane.
use Rattle.std.specs.Prelude.{ℕ}
use Rattle.atomic_table.specs.Seated.{TableId}

-- which lane it is (both ends of a lane show the same), the lane's name, the number of the next item,
-- how often this end found another word than it wanted, and the word that it found last
pub record EndView (N : Type 0) : Type 0 where
  pub lane : TableId
  pub name : N
  pub next : ℕ
  pub misses : ℕ
  pub found : ℕ
