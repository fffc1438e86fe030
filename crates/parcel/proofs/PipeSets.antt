-- Sets of pipes by their marks.
use Rattle.std.proofs.Common.{◌≡◌, ℕ, zero, suc, false, true, slice_index_or, replicate}

pub none_marked : (n pipe : ℕ) → slice_index_or (replicate n false) pipe false ≡ true → ⊥
none_marked zero pipe is = cc
none_marked (suc n) zero is = cc
none_marked (suc n) (suc pipe) is = none_marked n pipe is
