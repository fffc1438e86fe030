-- Different roles have different indices.
use Rattle.std.proofs.Common.{◌≡◌, ◌≢◌, ◌∙◌, ℕ, List, [], ◌∷◌, get_or, set, refl, sym, ap}
use Rattle.std.proofs.lemmas.List.{get_or-set_other}
use Rattle.mn_edge.specs.declared.role.Role.{Role}
use Rattle.mn_edge.specs.declared.role.Role.TheVariants.{Topology, Trace, Directory, Journal, Out, Report, Screen}
use Rattle.mn_edge.specs.Role.{index_of_role}

-- the role of an index
role_at : ℕ → Role
role_at i = get_or (Topology ∷ Trace ∷ Directory ∷ Journal ∷ Out ∷ Report ∷ Screen ∷ []) i Screen

role_at_its_index : (role : Role) → role_at (index_of_role role) ≡ role
unfolding role_at
role_at_its_index Topology = refl
role_at_its_index Trace = refl
role_at_its_index Directory = refl
role_at_its_index Journal = refl
role_at_its_index Out = refl
role_at_its_index Report = refl
role_at_its_index Screen = refl

-- what is put at the index of one role leaves what stands at that of another
pub elsewhere : {A : Type 0} (all : List A) (role other : Role) (i : ℕ) (new none : A) → i ≡ index_of_role role → other ≢ role
    → get_or (set all i new) (index_of_role other) none ≡ get_or all (index_of_role other) none
elsewhere all role other i new none is differ =
    get_or-set_other all i (index_of_role other) new none
    (λ same. differ (sym (role_at_its_index other) ∙ ap role_at (same ∙ is) ∙ role_at_its_index role))
