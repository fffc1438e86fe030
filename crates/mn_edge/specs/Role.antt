-- The order of the roles.
use Rattle.std.specs.Prelude.{ℕ, Bool, nat_lt}
use Rattle.mn_edge.specs.declared.role.Role.{Role}
use Rattle.mn_edge.specs.declared.role.Role.TheVariants.{Topology, Trace, Directory, Journal, Out, Report, Screen}

-- the index of a role in the order in which a command uses them
abbrev pub index_of_role : Role → ℕ
index_of_role Topology = 0
index_of_role Trace = 1
index_of_role Directory = 2
index_of_role Journal = 3
index_of_role Out = 4
index_of_role Report = 5
index_of_role Screen = 6

-- a role that is read; all others are written
abbrev pub is_input : Role → Bool
is_input role = nat_lt (index_of_role role) (index_of_role Out)
