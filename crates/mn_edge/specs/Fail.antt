-- The calls that are to fail.
use Rattle.std.specs.Prelude.{ℕ, List, Contains}
use Rattle.mn_edge.specs.declared.fail.Fail.{Fail}
use Rattle.mn_edge.specs.declared.fail.Op.{Op}
use Rattle.mn_edge.specs.declared.role.Role.{Role}

-- the list names the k-th call of that kind on that role
unfoldable pub IsNamed : List Fail → Role → Op → ℕ → Type 0
IsNamed fails role op k = Contains fails (record { role = role; op = op; k = k })
