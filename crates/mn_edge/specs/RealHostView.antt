-- The real host: what it tells of its roles, and what stands behind them.
use Rattle.std.specs.Prelude.{◌≡◌, ◌≢◌, ℕ, List, Option, None, Some, slice_index_or}
use Rattle.mn_edge.specs.declared.role.Role.{Role}
use Rattle.mn_edge.specs.declared.role.Role.TheVariants.{Screen}
use Rattle.mn_edge.specs.Part.{Part}
use Rattle.mn_edge.specs.RealRoleView.{RealRoleView, unused_role, silent}
use Rattle.mn_edge.specs.Role.{index_of_role}

-- what is told of each role, the open file of each role, both in the order of the roles, and the stream of Screen
pub record RealHostView (F S : Type 0) : Type 0 where
  pub roles : List RealRoleView
  pub files : List (Option F)
  pub screen : S

-- the part of a role
abbrev pub silent_part : {F S : Type 0} → RealHostView F S → Role → Part
silent_part host role = silent (slice_index_or host.roles (index_of_role role) unused_role)

-- the open file of a role, if any
abbrev pub file_of : {F S : Type 0} → RealHostView F S → Role → Option F
file_of host role = slice_index_or host.files (index_of_role role) None

-- the bytes of an open file, where the file tells them
abbrev pub file_bytes : {F : Type 0} → (F → Option (List ℕ)) → Option F → Option (List ℕ)
file_bytes told None = None
file_bytes told (Some file) = told file

-- the bytes that the file of a role will give, where it tells them
abbrev pub bytes_ahead : {F S : Type 0} → (F → Option (List ℕ)) → RealHostView F S → Role → Option (List ℕ)
bytes_ahead told host role = file_bytes told (file_of host role)

-- the bytes that the file of a role, or the stream of Screen, has taken, where it tells them
abbrev pub bytes_taken : {F S : Type 0} → (F → Option (List ℕ)) → (S → Option (List ℕ)) → RealHostView F S → Role → Option (List ℕ)
bytes_taken told_by_file told_by_screen host Screen = told_by_screen host.screen
bytes_taken told_by_file told_by_screen host role = file_bytes told_by_file (file_of host role)

-- the files of all other roles, and the stream of Screen unless it is the role, are as they were
pub record TouchesFile {F S : Type 0} (role : Role) (old new : RealHostView F S) : Type 0 where
  pub others : (other : Role) → other ≢ role → file_of new other ≡ file_of old other
  pub screen : role ≢ Screen → new.screen ≡ old.screen
